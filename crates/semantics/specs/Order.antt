-- WHAT MUST BE BELIEVED, 2: the order on values, and the greedy value of a tape: 02's preferred reading. For `K` alone both are 001's.
-- 02: "the definition of the preferred reading is given for the two together"; "it takes the place of 001's greedy reading, and the order in
-- which it is greatest takes the place of 001's greedy order; both are 001's own where a pattern has no `Z`" (Paper001Laws). The names are 001's.
use Rattle.std.specs.Prelude.{◌≡◌, Bool, not, true, ◌⊎◌, ◌∷◌, List, [], ℕ, T}
use Rattle.std.proofs.Common.{inl, inr}
use Rattle.syntax.specs.Tree.{Tree, nothing, letter, range, seq, alt, star}
use Rattle.semantics.specs.Value.{Value, flat, nonproblematic}

-- 001, section 4: [] < σ if σ is not []; of two lists that go on, the first difference decides.
-- So for `K`, where the bit 0 (false) means another round. For `Z` that bit is 1, and it is the other way round: to stop is greater.
-- 001, section 6, of that star: "the empty sequence is the largest value instead of being the smallest one".
abbrev pub less_rounds : {A : Type 0} → (again : Bool) → (A → A → Type 0) → List A → List A → Type 0
less_rounds again l [] [] = ⊥
less_rounds again l [] (x ∷ xs) = T (not again)
less_rounds again l (v ∷ vs) [] = T again
less_rounds again l (v ∷ vs) (x ∷ xs) = l v x ⊎ ((v ≡ x) × less_rounds again l vs xs)

-- 01: "The greedy order of 001 prefers the left side, another round to stopping, and within pairs and lists the first difference."
-- `less t v x` is 001's v < x where t has no `Z`; `Z` prefers stopping to another round, and all else is the same.
-- It is put to use on values of one tape, where two values of a range at one place have the same letter.
abbrev pub less : (t : Tree) → Value t → Value t → Type 0
less (nothing m) v x = ⊥
less (letter m c) v x = ⊥
less (range m low high) v x = ⊥
less (seq m t u) v x = less t v.0 x.0 ⊎ ((v.0 ≡ x.0) × less u v.1 x.1)
less (alt m t u) (inl v) (inl x) = less t v x
less (alt m t u) (inl v) (inr x) = ⊥
less (alt m t u) (inr v) (inl x) = Unit {0}
less (alt m t u) (inr v) (inr x) = less u v x
less (star m again t) vs xs = less_rounds again (less t) vs xs

-- 01: "The greedy reading is the greatest among those of the tape without empty rounds." 001, definition 4: m_t(w) is v. With `Z`: 02's
-- preferred reading, of which 02 says "The settled code is still the earliest without an empty round" (OrderLaws: greater is earlier).
pub record Greedy (t : Tree) (tape : List ℕ) (v : Value t) : Type 0 where
  pub spells : flat t v ≡ tape
  -- solid (03's word): without an empty iteration
  pub solid : nonproblematic t v ≡ true
  pub greatest : (x : Value t) → flat t x ≡ tape → nonproblematic t x ≡ true → (x ≡ v) ⊎ less t x v
