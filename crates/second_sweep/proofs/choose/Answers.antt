-- `second_sweep::choose` meets its contract.
use mathlib.Core.Bool.{true, false}
use Rattle.second_sweep.specs.SweepLaws.{chose}
use Rattle.second_sweep.proofs.choose.Goals as goal

pub returns-then-left : goal.returns-then-left
returns-then-left c = let args = c.args in
    chose _ _ true args.p args.q args.at args.code.now _ c.is_open-left.ensures c.if-left.true c.put_bit.ensures

pub returns-else-left : goal.returns-else-left
returns-else-left c = let args = c.args in
    chose _ _ false args.p args.q args.at args.code.now _ c.is_open-left.ensures c.if-left.false c.put_bit.ensures
