-- `reach::matched` meets its contract.
use Rattle.std.proofs.Common.{◌*◌, ◌^◌}
use Rattle.bits.specs.Joining.{Joining}
use Rattle.reach.specs.Reaching.{met}
use Rattle.reach.proofs.matched.Given as goal

abbrev pub invariant-loop-i : goal.invariant-loop-i
invariant-loop-i l = Joining 64 l.takers (met l.one l.nodes) (λ y. 1 * 2 ^ y) l.i-iterator.0 l.leaves
