-- The promise of listing fixes answer and buffer: two outcomes that it allows on one input are the same.
use Rattle.std.specs.Prelude.{◌≡◌, Option, List, ℕ, ◌≤◌, length}
use Rattle.std.proofs.Common.{sym, ◌∙◌, arith}
use Rattle.std.proofs.Math.Decide.{dec_le}
use Rattle.listing.specs.Listing.{room, Lists}

pub lists_one : (text file out a b : List ℕ) (r s : Option ℕ) → Lists text file out a r → Lists text file out b s → (r ≡ s) × (a ≡ b)
lists_one text file out a b r s f g = go (dec_le room (length out))
  where
    go : Dec (room ≤ length out) → (r ≡ s) × (a ≡ b)
    go (yes l) = ((f.fits l).0 ∙ sym (g.fits l).0, (f.fits l).1 ∙ sym (g.fits l).1)
    go (no l) = ((f.short (omega arith)).0 ∙ sym (g.short (omega arith)).0, (f.short (omega arith)).1 ∙ sym (g.short (omega arith)).1)
