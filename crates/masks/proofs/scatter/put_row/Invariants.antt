-- `masks::scatter::put_row` meets its contract.
use Rattle.bits.specs.Bits.{test_bit}
use Rattle.masks.specs.Scatter.{Marking}
use Rattle.masks.proofs.scatter.put_row.Given as goal

abbrev pub invariant-loop-x : goal.invariant-loop-x
invariant-loop-x l = Marking (test_bit l.row) l.i l.initial.cells (test_bit l.x-iterator.0) l.cells
