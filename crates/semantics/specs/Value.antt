-- WHAT MUST BE BELIEVED, 1: parse trees and what they spell.
-- 01 says "reading" and "spelling" where 001 says value and flat; the names here are 001's. An "empty round" of 01 is an empty iteration.
use Rattle.std.specs.Prelude.{◌≡◌, ◌&&◌, Bool, false, true, ◌⊎◌, ◌++◌, ◌∷◌, List, [], ℕ}
use Rattle.std.proofs.Common.{inl, inr}
use Rattle.syntax.specs.Letter.{in_range}
use Rattle.syntax.specs.Tree.{Tree, nothing, letter, range, seq, alt, star}

-- 01: "A reading is a value of 001, section 2: `E` reads no letter, `L` its letter, `R` a letter of the range, `S` a pair, `A` a marked
-- side, `K` a list of rounds." So is a value of 02's `Z`: "Add kind `Z`, one part, which writes 0 to stop and 1 before a round."
-- The value of a letter is the letter, so that there is nothing to choose: one value.
abbrev pub Value : Tree → Type 0
Value (nothing m) = Unit {0}
Value (letter m c) = Unit {0}
Value (range m low high) = (c : ℕ) × (in_range low high c ≡ true)
Value (seq m t u) = Value t × Value u
Value (alt m t u) = Value t ⊎ Value u
Value (star m again t) = List (Value t)

abbrev pub nonempty : List ℕ → Bool
nonempty [] = false
nonempty (c ∷ w) = true

-- a list of rounds, over what is known of one round
module _ {A : Type 0} where
  abbrev pub flat_rounds : (A → List ℕ) → List A → List ℕ
  flat_rounds f [] = []
  flat_rounds f (v ∷ vs) = f v ++ flat_rounds f vs

  -- 01: "An empty round is a round of `K` that spells nothing." 02: "In 01, `Z` follows every rule for `K` on followers, flags, empty rounds,
  -- visits and the count a."
  abbrev pub nonproblematic_rounds : (A → List ℕ) → (A → Bool) → List A → Bool
  nonproblematic_rounds f s [] = true
  nonproblematic_rounds f s (v ∷ vs) = (nonempty (f v) && s v) && nonproblematic_rounds f s vs

-- 01: "Spelling joins the letters." 001, section 2: flat(v).
abbrev pub flat : (t : Tree) → Value t → List ℕ
flat (nothing m) v = []
flat (letter m c) v = c ∷ []
flat (range m low high) v = v.0 ∷ []
flat (seq m t u) v = flat t v.0 ++ flat u v.1
flat (alt m t u) (inl v) = flat t v
flat (alt m t u) (inr v) = flat u v
flat (star m again t) vs = flat_rounds (flat t) vs

-- 001, definition 2: a value is problematic if it holds a list [..; v; ..] with flat(v) = []. This is true of the others, those without an empty iteration.
abbrev pub nonproblematic : (t : Tree) → Value t → Bool
nonproblematic (nothing m) v = true
nonproblematic (letter m c) v = true
nonproblematic (range m low high) v = true
nonproblematic (seq m t u) v = nonproblematic t v.0 && nonproblematic u v.1
nonproblematic (alt m t u) (inl v) = nonproblematic t v
nonproblematic (alt m t u) (inr v) = nonproblematic u v
nonproblematic (star m again t) vs = nonproblematic_rounds (flat t) (nonproblematic t) vs
