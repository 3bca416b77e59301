-- `table::put_lines` meets its contract.
use Rattle.table.specs.CellLaws.{Filled}
use Rattle.table.proofs.put_lines.Given as goal

abbrev pub invariant-loop-i : goal.invariant-loop-i
invariant-loop-i l = Filled l.fn.p l.table l.i
