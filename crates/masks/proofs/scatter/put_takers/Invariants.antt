-- `masks::scatter::put_takers` meets its contract.
use Rattle.table.specs.Cells.{line_in}
use Rattle.masks.specs.Leaves.{letter_cells}
use Rattle.masks.specs.Scatter.{Scattered, line_takes}
use Rattle.masks.proofs.scatter.put_takers.Given as goal

abbrev pub invariant-loop-i : goal.invariant-loop-i
invariant-loop-i l = Scattered (line_takes (line_in l.table)) letter_cells l.i l.takers
