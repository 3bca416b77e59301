-- LAWS of 001's own order: where a pattern has no `Z`, the order of values is 001's and the preferred value is 001's greedy value.
use Rattle.std.specs.Prelude.{◌≡◌, refl, false, true, ◌↔◌, ◌⊎◌, ◌∷◌, List, [], ℕ}
use Rattle.std.proofs.Common.{subst, inl, inr}
use Rattle.std.proofs.Math.Path.{subst⁻¹}
use Rattle.std.proofs.lemmas.Bool.{false≢true}
use Rattle.syntax.specs.Tree.{Label, Tree, nothing, letter, range, seq, alt, star}
use Rattle.semantics.specs.Value.{Value}
use Rattle.semantics.specs.Order.{less_rounds, less, Greedy}
use Rattle.semantics.specs.Paper001.{list_less, value_less, GreedyValue, no_lazy}
use Rattle.semantics.proofs.Basics.{and_fst, and_snd}

rounds_same : {A : Type 0} (l k : A → A → Type 0) → ((v x : A) → l v x ≡ k v x) → (vs xs : List A)
    → less_rounds false l vs xs ≡ list_less k vs xs
rounds_same l k h [] [] = refl
rounds_same l k h [] (x ∷ xs) = refl
rounds_same l k h (v ∷ vs) [] = refl
rounds_same l k h (v ∷ vs) (x ∷ xs) = λ i. h v x i ⊎ ((v ≡ x) × rounds_same l k h vs xs i)

-- 02: the order "in which it is greatest takes the place of 001's greedy order; both are 001's own where a pattern has no `Z`"
pub less_same : (t : Tree) → no_lazy t ≡ true → (v x : Value t) → less t v x ≡ value_less t v x
less_same (nothing m) h v x = refl
less_same (letter m c) h v x = refl
less_same (range m low high) h v x = refl
less_same (seq m t u) h v x =
    λ i. less_same t (and_fst (no_lazy t) (no_lazy u) h) v.0 x.0 i
    ⊎ ((v.0 ≡ x.0) × less_same u (and_snd (no_lazy t) (no_lazy u) h) v.1 x.1 i)
less_same (alt m t u) h (inl v) (inl x) = less_same t (and_fst (no_lazy t) (no_lazy u) h) v x
less_same (alt m t u) h (inl v) (inr x) = refl
less_same (alt m t u) h (inr v) (inl x) = refl
less_same (alt m t u) h (inr v) (inr x) = less_same u (and_snd (no_lazy t) (no_lazy u) h) v x
less_same (star m false t) h vs xs = rounds_same (less t) (value_less t) (less_same t h) vs xs
less_same (star m true t) h vs xs = absurd (false≢true h)

-- 02: the preferred reading "takes the place of 001's greedy reading"
pub greedy_same : (t : Tree) → no_lazy t ≡ true → (tape : List ℕ) (v : Value t) → Greedy t tape v ↔ GreedyValue t tape v
greedy_same t h tape v = (
  λ g. record {
    spells = g.spells;
    solid = g.solid;
    greatest = λ x e s. subst (λ P. (x ≡ v) ⊎ P) (less_same t h x v) (g.greatest x e s);
  },
  λ g. record {
    spells = g.spells;
    solid = g.solid;
    greatest = λ x e s. subst⁻¹ (λ P. (x ≡ v) ⊎ P) (less_same t h x v) (g.greatest x e s);
  },
)

-- 001, section 6, of the star with "ungreedy-semantics": "for this constructor, the empty sequence is the largest value instead of being the
-- smallest one, in the disambiguation ordering". So for `Z`, and for `K` it is the smallest.
pub stop_largest : (m : Label) (t : Tree) (vs : List (Value t)) → (vs ≡ []) ⊎ less (star m true t) vs []
stop_largest m t [] = inl refl
stop_largest m t (v ∷ vs) = inr tt

pub stop_smallest : (m : Label) (t : Tree) (vs : List (Value t)) → (vs ≡ []) ⊎ less (star m false t) [] vs
stop_smallest m t [] = inl refl
stop_smallest m t (v ∷ vs) = inr tt

-- so at every star of kind `Z` the order is not 001's: between a round and the stop the two say the opposite
pub lazy_differs : (m : Label) (t : Tree) (v : Value t) → less (star m true t) (v ∷ []) [] × value_less (star m true t) [] (v ∷ [])
lazy_differs m t v = (tt, tt)
