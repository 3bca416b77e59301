-- `reach::matched` meets its contract.
use Rattle.std.proofs.Common.{◌*◌, ◌%◌, ◌^◌, ap, ◌∙◌}
use Rattle.bits.specs.Joining.{joining_start}
use Rattle.reach.specs.Reaching.{joined_next, met-bit, matched_end}
use Rattle.reach.proofs.matched.Goals as goal

pub loop-i-init : goal.loop-i-init
loop-i-init c = rw c.into_iter-i-iterator.ensures.into_iter_gives (joining_start 64 _ _ _)

pub loop-i-preserved : goal.loop-i-preserved
loop-i-preserved c = joined_next _ _ _ _ _ _ _ _ c.loop-i.invariant c.in-Some.ensures.steps
    (ap (λ b. (b * 2 ^ c.in-Some.i) % 2 ^ 64) c.from.ensures ∙ met-bit _ _ c.in-Some.ensures.steps.small)

pub returns : goal.returns
returns c = matched_end _ _ _ _ _ c.loop-i.invariant c.in-None.ensures.steps
