-- `reach::follow` meets its contract.
use Rattle.std.proofs.Common.{ap, ◌∙◌}
use Rattle.bits.specs.Joining.{joining_start}
use Rattle.reach.specs.FrontWords.{state_word}
use Rattle.reach.specs.Reaching.{joined_next, following_end}
use Rattle.reach.proofs.follow.Goals as goal

pub loop-i-init : goal.loop-i-init
loop-i-init c = rw c.into_iter-i-iterator.ensures.into_iter_gives (joining_start 64 _ _ _)

pub loop-i-preserved : goal.loop-i-preserved
loop-i-preserved c = joined_next _ _ _ _ _ _ _ _ c.loop-i.invariant c.in-Some.ensures.steps (c.state_bit-nodes.ensures ∙ ap state_word c.follower_at.ensures)

pub returns : goal.returns
returns c = following_end _ _ _ _ c.loop-i.invariant c.in-None.ensures.steps
