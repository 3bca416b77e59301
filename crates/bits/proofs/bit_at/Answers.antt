-- `bits::bit_at` meets its contract: a shift and a remainder are `bit_at`, word for word. Assumes nothing.
use mathlib.Core.Path.{refl}
use Rattle.binary.specs.Bits.{bit_at}
use Rattle.bits.proofs.bit_at.Goals as goal

pub returns : goal.returns
unfolding bit_at
returns c = refl
