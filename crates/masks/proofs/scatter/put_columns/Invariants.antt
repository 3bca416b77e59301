-- `masks::scatter::put_columns` meets its contract.
use Rattle.bits.specs.Bits.{test_bit}
use Rattle.masks.specs.Masks.{row}
use Rattle.masks.specs.Scatter.{Scattered}
use Rattle.masks.proofs.scatter.put_columns.Given as goal

abbrev pub invariant-loop-i : goal.invariant-loop-i
invariant-loop-i l = Scattered (λ k. test_bit (row l.firsts l.follows l.flag k)) 64 l.i l.cells
