-- `masks::firsts::put_firsts` meets its contract.
use Rattle.std.proofs.Common.{arith}
use Rattle.masks.specs.Firsts.{firsts_next}
use Rattle.masks.proofs.firsts.put_firsts.Goals as goal

pub loop-i-preserved : goal.loop-i-preserved
loop-i-preserved c = firsts_next _ _ (c.requires.1.lower _ (omega (arith, c.requires.0, c.loop-i-test.true))) _ c.loop-i.invariant _
    (omega (arith, c.requires.0, c.loop-i-test.true)) c.line_first.ensures
