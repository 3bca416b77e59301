-- `masks::scatter::put_row` meets its contract.
use Rattle.std.proofs.Common.{true, refl}
use Rattle.masks.specs.Scatter.{shifted, row_next}
use Rattle.masks.proofs.scatter.put_row.Goals as goal

pub loop-x-preserved : goal.loop-x-preserved
loop-x-preserved c = row_next _ _ _ _ (shifted _ true c.requires.0) _ _ _ _ _ c.requires.1 c.loop-x.invariant c.in-Some.ensures.steps refl
