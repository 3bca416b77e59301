-- `second_sweep::put_letter` meets its contract.
use Rattle.bits.specs.Numbers.{length-bits_of}
use Rattle.bits.specs.Bits.{bits_of}
use native.Mathlib.Omega.{arith}
use mathlib.Core.Path.{◌∙◌}
use Rattle.second_sweep.specs.SweepLaws.{put_fits, put-not}
use Rattle.second_sweep.proofs.put_letter.Goals as goal

pub returns-then-at-code : goal.returns-then-at-code
returns-then-at-code c = let args = c.args in
    let bits = bits_of 8 args.value in
    c.set_byte.ensures ∙ put_fits args.code.now args.at bits (omega (arith, length-bits_of 8 args.value))

pub returns-else-at-code : goal.returns-else-at-code
returns-else-at-code c = let args = c.args in
    put-not args.code.now args.at (bits_of 8 args.value) (omega (arith, length-bits_of 8 args.value))
