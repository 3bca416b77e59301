-- `masks::scatter::put_columns` meets its contract.
use Rattle.std.proofs.Common.{arith}
use Rattle.masks.specs.Masks.{row}
use Rattle.masks.specs.Scatter.{columns-end}
use Rattle.masks.proofs.scatter.put_columns.Goals as goal

pub returns : goal.returns
returns c = columns-end (row c.args.firsts.now c.args.follows.now c.args.flag) _ _ _ c.requires.0
    (omega (arith, c.loop-i.auto.i-end, c.loop-i-test.false)) c.loop-i.invariant
