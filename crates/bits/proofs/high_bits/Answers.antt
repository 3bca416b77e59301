-- `bits::high_bits` meets its contract: the two shifts lose nothing in a word of 32 bits. Assumes nothing.
use native.Mathlib.Omega.{arith}
use mathlib.Core.Path.{ap, ◌∙◌}
use Rattle.binary.specs.Bits.{high_bits}
use Rattle.binary.specs.Writing.{high_shift}
use Rattle.bits.proofs.high_bits.Goals as goal

pub returns : goal.returns
returns c = high_shift 8 32 c.args.r c.from.result (omega arith) (omega arith) ∙ ap (high_bits 8 c.args.r) c.from.ensures
