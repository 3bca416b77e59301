-- `reach::resume_over` meets its contract.
use Rattle.std.proofs.Common.{◌≡◌, length, sym, ap, ◌∙◌, arith}
use Rattle.std.specs.Iterator.Adapters.{rev_source, enumerate_source, enumerate_count}
use Rattle.std.specs.List.{push}
use Rattle.std.specs.Slice.Iter.{iter_rest}
use Rattle.reach.specs.Reaching.{resuming_start, resuming_here, resuming_later, resuming_end}
use Rattle.reach.proofs.resume_over.Goals as goal

pub loop-i-init : goal.loop-i-init
loop-i-init c =
    let s = ap rev_source c.into_iter-i-iterator.ensures.into_iter_gives ∙ c.rev-i-items.ensures.source in
    let r = ap (λ i. iter_rest (enumerate_source i)) s ∙ ap iter_rest c.enumerate.ensures.source ∙ c.iter.ensures.rest in
    (ap enumerate_count s ∙ c.enumerate.ensures.count, rw r (resuming_start _ _ _ _ _ _))

pub loop-i-preserved-then-next-ne0 : goal.loop-i-preserved-then-next-ne0
loop-i-preserved-then-next-ne0 c =
    let t = c.in-Some.ensures.steps in
    let i : c.in-Some.i ≡ length (iter_rest (enumerate_source (rev_source c.next.new.self))) = omega (arith, t.1.1, c.loop-i.invariant.0) in (
      t.0 ∙ c.loop-i.invariant.0,
      rw i (resuming_here _ _ _ _ _ _ _ _ _ _ _ _ _ c.loop-i.invariant.1 (t.1.0 ∙ ap (push _) (sym c.from.ensures))
          c.step-next.ensures c.if-next-ne0.true),
    )

pub loop-i-preserved : goal.loop-i-preserved
loop-i-preserved c =
    let t = c.in-Some.ensures.steps in (
      t.0 ∙ c.loop-i.invariant.0,
      resuming_later _ _ _ _ _ _ _ _ _ _ _ _ _ c.loop-i.invariant.1 (t.1.0 ∙ ap (push _) (sym c.from.ensures))
          c.step-next.ensures c.if-next-ne0.false,
    )

pub returns : goal.returns
returns c = resuming_end _ _ _ _ _ _ _ _ _ _ c.loop-i.invariant.1 c.in-None.ensures.steps.1.0
