-- What single tests of the second sweep come to: whether a star is passed, which flag stands behind a part, whether the end is open, and what a range
-- needs to be read and written. No answer needs these laws, since the code says && and || where they do; they say what these do in each case.
use Rattle.std.specs.Prelude.{◌≡◌, Bool, true, false, ◌&&◌, ◌||◌, not, List, ℕ, ◌+◌, ◌≤◌, ◌<◌, length, get_or}
use Rattle.std.proofs.Common.{sym, ap, ◌∙◌, arith}
use Rattle.std.proofs.Math.Bool.{or-true, or-false}
use Rattle.syntax.specs.declared.Leaf.TheVariants.{Range}
use Rattle.bits.specs.Numbers.{length-bits_of}
use Rattle.semantics.specs.Code.{code_limit}
use Rattle.second_sweep.specs.Sweeping.{LeafReady}
use Rattle.second_sweep.specs.SweepLaws.{taken_letter}

-- ── whether a star is passed ──
module _ (above b : Bool) where
  pub passes_taken : b ≡ true → true ≡ (not above || b)
  passes_taken h = rw h (sym (or-true (not above)))

  pub passes_else : b ≡ false → {r : Bool} → r ≡ above → not r ≡ (not above || b)
  passes_else h e = rw h (ap not e ∙ sym (or-false (not above)))

-- the flag behind a part, where it was not set before
pub flag_else : (b x : Bool) → b ≡ false → {r : Bool} → r ≡ x → r ≡ (b || x)
flag_else b x h e = rw h e

pub not-ended : (b x : Bool) → b ≡ false → false ≡ (b && x)
not-ended b x h = rw h

pub ended : (b x : Bool) → b ≡ true → x ≡ (b && x)
ended b x h = rw h

-- ── what a leaf needs to be read and written ──
module _ (tape : List ℕ) (i at : ℕ) (xs : List ℕ) where
  pub range_few : (low high : ℕ) → LeafReady (Range low high) tape i at → (i < length tape) × (at + 8 ≤ code_limit)
  range_few low high r =
      let k = taken_letter tape i at xs r.it in
      (k.inside, omega (arith, r.it.few, ap length k.bits_are, length-bits_of 8 (get_or tape i 0)))
