-- HOW IT IS COMPUTED, 3: a value with every empty iteration left out.
use Rattle.std.specs.Prelude.{Bool, false, true, ◌∷◌, List, [], ℕ}
use Rattle.std.proofs.Common.{inl, inr}
use Rattle.syntax.specs.Tree.{Tree, nothing, letter, range, seq, alt, star}
use Rattle.semantics.specs.Value.{Value, nonempty, flat}

abbrev pub keep : {A : Type 0} → Bool → A → List A → List A
keep true v vs = v ∷ vs
keep false v vs = vs

abbrev pub strip_rounds : {A : Type 0} → (A → List ℕ) → (A → A) → List A → List A
strip_rounds f g [] = []
strip_rounds f g (v ∷ vs) = keep (nonempty (f v)) (g v) (strip_rounds f g vs)

abbrev pub strip : (t : Tree) → Value t → Value t
strip (nothing m) v = v
strip (letter m c) v = v
strip (range m low high) v = v
strip (seq m t u) v = (strip t v.0, strip u v.1)
strip (alt m t u) (inl v) = inl (strip t v)
strip (alt m t u) (inr v) = inr (strip u v)
strip (star m again t) vs = strip_rounds (flat t) (strip t) vs
