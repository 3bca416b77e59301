-- `masks::scatter::put_takers` meets its contract.
use Rattle.std.proofs.Common.{arith}
use Rattle.table.specs.Cells.{line_in}
use Rattle.masks.specs.Scatter.{takers-end}
use Rattle.masks.proofs.scatter.put_takers.Goals as goal

pub returns : goal.returns
returns c = takers-end (line_in c.args.table.now) _ _ _ (omega (arith, c.loop-i.auto.i-end, c.loop-i-test.false)) c.loop-i.invariant
