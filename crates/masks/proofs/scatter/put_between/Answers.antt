-- `masks::scatter::put_between` meets its contract.
use Rattle.std.proofs.Common.{true, refl, arith}
use Rattle.masks.specs.Scatter.{shifted, range-next, range_end}
use Rattle.masks.proofs.scatter.put_between.Goals as goal

pub loop-c-preserved : goal.loop-c-preserved
loop-c-preserved c = range-next c.args.low c.args.high _ _ _ (shifted _ true c.requires.0) _ _ _ (omega (arith, c.requires.1, c.requires.2))
    (omega (arith, c.loop-c-test.true, c.from-c-end.ensures)) refl c.loop-c.invariant

pub returns-2 : goal.returns-2
returns-2 c = range_end c.args.low c.args.high _ _ _ (shifted _ true c.requires.0) _ _ (omega (arith, c.loop-c-test.true, c.from-c-end.ensures))
    (range-next c.args.low c.args.high _ _ _ (shifted _ true c.requires.0) _ _ _ (omega (arith, c.requires.1, c.requires.2))
    (omega (arith, c.loop-c-test.true, c.from-c-end.ensures)) refl c.loop-c.invariant)
