-- `steps::step` meets its contract.
use Rattle.steps.specs.Steps.{open_next}
use Rattle.table.specs.Cells.{follower_in}
use Rattle.steps.specs.Stepping.{Stepping}
use Rattle.steps.proofs.step.Given as goal

abbrev pub invariant-loop-i : goal.invariant-loop-i
invariant-loop-i l = Stepping l.zero l.one l.takers (λ x. open_next l.next l.last (follower_in l.table x)) l.i-iterator.0 l.a l.b
