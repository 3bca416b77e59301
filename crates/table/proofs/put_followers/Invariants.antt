-- `table::put_followers` meets its contract.
use Rattle.table.specs.Cells.{line_in}
use Rattle.table.specs.HandDown.{Rooted}
use Rattle.table.specs.CellLaws.{Following}
use Rattle.table.proofs.put_followers.Given as goal

abbrev pub invariant-loop-i : goal.invariant-loop-i
invariant-loop-i l = Rooted (line_in l.initial.table) l.count × Following l.initial.table l.count l.i l.table
