-- `steps::step` meets its contract.
use Rattle.std.proofs.Common.{ap, ◌∙◌}
use Rattle.bits.specs.Bits.{bit}
use Rattle.steps.specs.Steps.{open_next}
use Rattle.steps.specs.Stepping.{stepping_start, stepping_next, stepping_end}
use Rattle.steps.proofs.step.Goals as goal

pub loop-i-init : goal.loop-i-init
loop-i-init c = rw c.into_iter-i-iterator.ensures.into_iter_gives (stepping_start _ _ _ _)

pub loop-i-preserved : goal.loop-i-preserved
loop-i-preserved c = stepping_next _ _ _ _ _ _ _ _ _ _ _ _ c.loop-i.invariant c.in-Some.ensures.steps
    (c.open_bit-e.ensures.0 ∙ ap (λ f. bit (open_next c.args.next c.args.last f)) c.follower_at.ensures)
    c.times-a.ensures c.times-b.ensures

pub returns : goal.returns
returns c = stepping_end _ _ _ _ _ _ _ c.loop-i.invariant c.in-None.ensures.steps
