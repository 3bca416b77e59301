-- Packing and unpacking take each other back.
use Rattle.std.specs.Prelude.{◌≡◌, ℕ, ◌+◌, ◌*◌, ◌<◌}
use Rattle.std.proofs.Common.{ap₂}
use Rattle.refusals.specs.Refusals.{answer}
use Rattle.bits.specs.Fields.{splits_back, joins_back}
use Rattle.packing.specs.Packing.{unpacked}

-- unpacking takes back what was packed
pub unpack : (n v : ℕ) → v < 4294967296 → unpacked (n * 4294967296 + v) ≡ answer n v
unpack n v h = let (a, b) = splits_back 32 n v h in ap₂ (λ x y. answer x y) a b

-- an answer is nothing but its two parts: number << 32 | value
pub repack : (r : ℕ) → r ≡ (unpacked r).number * 4294967296 + (unpacked r).value
repack r = joins_back 32 r
