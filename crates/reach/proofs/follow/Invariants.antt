-- `reach::follow` meets its contract.
use Rattle.bits.specs.Joining.{Joining}
use Rattle.table.specs.Cells.{follower_in}
use Rattle.reach.specs.FrontWords.{state_word}
use Rattle.reach.specs.Reaching.{each}
use Rattle.reach.proofs.follow.Given as goal

abbrev pub invariant-loop-i : goal.invariant-loop-i
invariant-loop-i l = Joining 64 l.leaves each (λ y. state_word (follower_in l.table y)) l.i-iterator.0 l.nodes
