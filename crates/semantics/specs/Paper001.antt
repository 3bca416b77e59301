-- WHAT MUST BE BELIEVED, 2 again: the order and the greedy value as 001 has them, for its one star. They do not look at the bit of a round.
-- 02 of the preferred reading and its order: "both are 001's own where a pattern has no `Z`". Paper001Laws proves it.
use Rattle.std.specs.Prelude.{◌≡◌, ◌&&◌, Bool, not, true, ◌⊎◌, ◌∷◌, List, [], ℕ}
use Rattle.std.proofs.Common.{inl, inr}
use Rattle.syntax.specs.Tree.{Tree, nothing, letter, range, seq, alt, star}
use Rattle.semantics.specs.Value.{Value, flat, nonproblematic}

-- 001, section 4: "[] < σ' := σ' ≠ []", "v :: σ < v' :: σ' := (v < v') ∨ (v = v' ∧ σ < σ')". Nothing is said of σ < [], so it is false.
abbrev pub list_less : {A : Type 0} → (A → A → Type 0) → List A → List A → Type 0
list_less l [] [] = ⊥
list_less l [] (x ∷ xs) = Unit {0}
list_less l (v ∷ vs) [] = ⊥
list_less l (v ∷ vs) (x ∷ xs) = l v x ⊎ ((v ≡ x) × list_less l vs xs)

-- 001, section 4: "c < c := false", "(v1, v2) < (v1', v2') := (v1 < v1') ∨ (v1 = v1' ∧ v2 < v2')",
-- "(e : v) < (e' : v') := (e > e') ∨ (e = e' ∧ v < v')", "ε < ε := false". The sides e are 1 (`inl`) and 2 (`inr`).
-- 001 has no ranges; two letters of a range are not compared, as in `less`.
abbrev pub value_less : (t : Tree) → Value t → Value t → Type 0
value_less (nothing m) v x = ⊥
value_less (letter m c) v x = ⊥
value_less (range m low high) v x = ⊥
value_less (seq m t u) v x = value_less t v.0 x.0 ⊎ ((v.0 ≡ x.0) × value_less u v.1 x.1)
value_less (alt m t u) (inl v) (inl x) = value_less t v x
value_less (alt m t u) (inl v) (inr x) = ⊥
value_less (alt m t u) (inr v) (inl x) = Unit {0}
value_less (alt m t u) (inr v) (inr x) = value_less u v x
value_less (star m again t) vs xs = list_less (value_less t) vs xs

-- 001, definition 4: m_t(w) is v, the greatest of the non-problematic values of t with flat(v) = w
pub record GreedyValue (t : Tree) (tape : List ℕ) (v : Value t) : Type 0 where
  pub spells : flat t v ≡ tape
  pub solid : nonproblematic t v ≡ true
  pub greatest : (x : Value t) → flat t x ≡ tape → nonproblematic t x ≡ true → (x ≡ v) ⊎ value_less t x v

-- the pattern has no `Z`: no star of the tree has bit 1 for another round
abbrev pub no_lazy : Tree → Bool
no_lazy (nothing m) = true
no_lazy (letter m c) = true
no_lazy (range m low high) = true
no_lazy (seq m t u) = no_lazy t && no_lazy u
no_lazy (alt m t u) = no_lazy t && no_lazy u
no_lazy (star m again t) = not again && no_lazy t
