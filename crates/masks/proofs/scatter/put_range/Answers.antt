-- `masks::scatter::put_range` meets its contract.
use Rattle.std.proofs.Common.{refl}
use Rattle.masks.specs.Scatter.{range-marked}
use Rattle.masks.proofs.scatter.put_range.Goals as goal

pub returns : goal.returns
returns c = range-marked c.args.low c.args.high _ _ _ _ _ _ _ c.requires.2 c.requires.3 c.min-cold.ensures
    c.max-hot.ensures c.put_between.ensures c.put_between-2.ensures refl
