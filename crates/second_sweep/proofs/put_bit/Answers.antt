-- `second_sweep::put_bit` meets its contract.
use mathlib.Core.List.{[], ◌∷◌}
use native.Mathlib.Omega.{arith}
use mathlib.Core.Path.{◌∙◌}
use Rattle.second_sweep.specs.SweepLaws.{put_fits, put-not}
use Rattle.second_sweep.proofs.put_bit.Goals as goal

pub returns-then-at-code : goal.returns-then-at-code
returns-then-at-code c = let args = c.args in
    record { written = c.set_bit.ensures ∙ put_fits args.code.now args.at (args.value ∷ []) (omega arith) }

pub returns-else-at-code : goal.returns-else-at-code
returns-else-at-code c = let args = c.args in
    record { written = put-not args.code.now args.at (args.value ∷ []) (omega arith) }
