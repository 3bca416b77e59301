-- `reach::reach_over` meets its contract.
use Rattle.std.proofs.Common.{◌≡◌, ◌∙◌, arith, true, length}
use Rattle.masks.specs.Scatter.{shifted}
use Rattle.reach.specs.Reaching.{reading-start, reading_end, reading-stops, reading_on}
use Rattle.reach.proofs.reach_over.Goals as goal

pub loop-i-init : goal.loop-i-init
loop-i-init c = reading-start _ _ _ _ _ _ (shifted _ true (omega arith))

pub returns-then-leaves-eq0 : goal.returns-then-leaves-eq0
returns-then-leaves-eq0 c = reading-stops _ _ _ _ _ _ _ c.loop-i.invariant c.loop-i-test.true _ _ c.from.ensures c.matched-leaves.ensures c.if-leaves-eq0.true

pub loop-i-preserved : goal.loop-i-preserved
loop-i-preserved c = reading_on _ _ _ _ _ _ _ c.loop-i.invariant c.loop-i-test.true _ _ c.from.ensures c.matched-leaves.ensures
    c.if-leaves-eq0.false _ c.follow-nodes.ensures

pub returns : goal.returns
returns c =
    let e : length c.args.tape.now ≡ c.loop-i.i = omega arith in
    e ∙ reading_end _ _ _ _ _ _ _ c.loop-i.invariant c.loop-i-test.false
