-- LAWS of the order of values: for one tape, the greater value has the earlier code, and the other way round.
use Rattle.std.proofs.Common.{◌∙◌, ap, sym, inl, inr}
use Rattle.std.specs.Prelude.{◌≡◌, refl, Bool, false, not, true, ◌↔◌, ◌⊎◌, ℕ, T}
use Rattle.std.proofs.Math.Bool.{Bool-set}
use mathlib.Core.HLevel.{Σ_prop_path}
use mathlib.Core.List.{◌++◌, ◌∷◌, List, [], append_assoc, head-eq_of_cons-eq}
use Rattle.syntax.specs.Letter.{in_range}
use Rattle.syntax.specs.Tree.{Tree, nothing, letter, range, seq, alt, star}
use Rattle.semantics.specs.Value.{Value, flat_rounds, flat}
use Rattle.semantics.specs.Order.{less_rounds, less}
use Rattle.semantics.specs.Code.{code_rounds, code, before}
use Rattle.semantics.proofs.Basics.{same_rest}
use Rattle.semantics.proofs.BeforeLaws.{before-append, before_prefix, before_same, before_irrefl, before_asym, before_trans, stop_before, round-before}

regroup : (a b c d : List ℕ) (r z : List ℕ) → (a ++ b) ++ r ≡ (c ++ d) ++ z → a ++ (b ++ r) ≡ c ++ (d ++ z)
regroup a b c d r z e = sym (append_assoc a b r) ∙ e ∙ append_assoc c d z

abbrev Sound : {A : Type 0} → (A → List ℕ) → (A → List Bool) → (A → A → Type 0) → Type 0
Sound {A} f c l = (v x : A) (r z : List ℕ) → f v ++ r ≡ f x ++ z → l x v → before (c v) (c x) ≡ true

-- the step that a pair and a list of rounds share
pair_sound : {A B : Type 0} (f : A → List ℕ) (g : B → List ℕ) (c : A → List Bool) (d : B → List Bool) (l : A → A → Type 0) (m : B → B → Type 0)
    → Sound f c l → (v x : A) (u y : B) → ((r z : List ℕ) → g u ++ r ≡ g y ++ z → m y u → before (d u) (d y) ≡ true)
    → (r z : List ℕ) → (f v ++ g u) ++ r ≡ (f x ++ g y) ++ z → (l x v ⊎ ((x ≡ v) × m y u)) → before (c v ++ d u) (c x ++ d y) ≡ true
pair_sound f g c d l m one v x u y two r z e (inl h) =
    before-append (c v) (c x) (d u) (d y) (one v x (g u ++ r) (g y ++ z) (regroup (f v) (g u) (f x) (g y) r z e) h)
pair_sound f g c d l m one v x u y two r z e (inr h) =
    rw h.0 (before_prefix (c v) (d u) (d y) ∙ two r z
    (same_rest f v x (f v ++ (g u ++ r)) (g u ++ r) (g y ++ z) refl (regroup (f v) (g u) (f x) (g y) r z e) (sym h.0)) h.1)

less_rounds_sound : {A : Type 0} (again : Bool) (f : A → List ℕ) (c : A → List Bool) (l : A → A → Type 0) → Sound f c l
    → Sound (flat_rounds f) (code_rounds again c) (less_rounds again l)
less_rounds_sound again f c l one [] [] r z e h = absurd h
less_rounds_sound again f c l one [] (x ∷ xs) r z e h = stop_before again [] (c x ++ code_rounds again c xs) (λ e. rw e at h)
less_rounds_sound again f c l one (v ∷ vs) [] r z e h = round-before again (c v ++ code_rounds again c vs) [] (λ e. rw e at h)
less_rounds_sound again f c l one (v ∷ vs) (x ∷ xs) r z e h =
    before_same again (c v ++ code_rounds again c vs) (c x ++ code_rounds again c xs)
    ∙ pair_sound f (flat_rounds f) c (code_rounds again c) l (less_rounds again l) one v x vs xs (less_rounds_sound again f c l one vs xs) r z e h

pub less-before : (t : Tree) → Sound (flat t) (code t) (less t)
less-before (nothing m) v x r z e h = absurd h
less-before (letter m c) v x r z e h = absurd h
less-before (range m low high) v x r z e h = absurd h
less-before (seq m t u) v x r z e h =
    pair_sound (flat t) (flat u) (code t) (code u) (less t) (less u) (less-before t) v.0 x.0 v.1 x.1 (less-before u v.1 x.1) r z e h
less-before (alt m t u) (inl v) (inl x) r z e h = less-before t v x r z e h
less-before (alt m t u) (inl v) (inr x) r z e h = refl
less-before (alt m t u) (inr v) (inl x) r z e h = absurd h
less-before (alt m t u) (inr v) (inr x) r z e h = less-before u v x r z e h
less-before (star m again t) vs xs r z e h = less_rounds_sound again (flat t) (code t) (less t) (less-before t) vs xs r z e h

-- of two values along one word, one is the other or is less
pub data Compared (P Q R : Type 0) : Type 0 where
  same : P → Compared P Q R
  above : Q → Compared P Q R
  beneath : R → Compared P Q R

abbrev pub Total : {A : Type 0} → (A → List ℕ) → (A → A → Type 0) → Type 0
Total {A} f l = (v x : A) (r z : List ℕ) → f v ++ r ≡ f x ++ z → Compared (v ≡ x) (l x v) (l v x)

pair_compared : {A B : Type 0} (l : A → A → Type 0) (m : B → B → Type 0) (v x : A) (u y : B) → Compared (v ≡ x) (l x v) (l v x)
    → (v ≡ x → Compared (u ≡ y) (m y u) (m u y))
    → Compared ((v ≡ x) × (u ≡ y)) (l x v ⊎ ((x ≡ v) × m y u)) (l v x ⊎ ((v ≡ x) × m u y))
pair_compared l m v x u y (above h) two = above (inl h)
pair_compared l m v x u y (beneath h) two = beneath (inl h)
pair_compared l m v x u y (same e) two = go (two e)
  where
    go : Compared (u ≡ y) (m y u) (m u y) → Compared ((v ≡ x) × (u ≡ y)) (l x v ⊎ ((x ≡ v) × m y u)) (l v x ⊎ ((v ≡ x) × m u y))
    go (same f) = same (e, f)
    go (above h) = above (inr (sym e, h))
    go (beneath h) = beneath (inr (e, h))

pub compared_map : {P P' Q R : Type 0} → (P → P') → Compared P Q R → Compared P' Q R
compared_map f (same p) = same (f p)
compared_map f (above h) = above h
compared_map f (beneath h) = beneath h

pair-total : {A B : Type 0} (f : A → List ℕ) (g : B → List ℕ) (l : A → A → Type 0) (m : B → B → Type 0) → Total f l
    → (v x : A) (u y : B) → ((r z : List ℕ) → g u ++ r ≡ g y ++ z → Compared (u ≡ y) (m y u) (m u y))
    → (r z : List ℕ) → (f v ++ g u) ++ r ≡ (f x ++ g y) ++ z → Compared ((v ≡ x) × (u ≡ y)) (l x v ⊎ ((x ≡ v) × m y u)) (l v x ⊎ ((v ≡ x) × m u y))
pair-total f g l m one v x u y two r z e =
    pair_compared l m v x u y (one v x (g u ++ r) (g y ++ z) (regroup (f v) (g u) (f x) (g y) r z e))
    (λ p. two r z (same_rest f v x (f v ++ (g u ++ r)) (g u ++ r) (g y ++ z) refl (regroup (f v) (g u) (f x) (g y) r z e) p))

ends : {P : Type 0} (again : Bool) → Compared P (T again) (T (not again))
ends true = above tt
ends false = beneath tt

starts : {P : Type 0} (again : Bool) → Compared P (T (not again)) (T again)
starts true = beneath tt
starts false = above tt

less_rounds-total : {A : Type 0} (again : Bool) (f : A → List ℕ) (l : A → A → Type 0) → Total f l → Total (flat_rounds f) (less_rounds again l)
less_rounds-total again f l one [] [] r z e = same refl
less_rounds-total again f l one [] (x ∷ xs) r z e = ends again
less_rounds-total again f l one (v ∷ vs) [] r z e = starts again
less_rounds-total again f l one (v ∷ vs) (x ∷ xs) r z e =
    compared_map (λ p. λ i. p.0 i ∷ p.1 i) (pair-total f (flat_rounds f) l (less_rounds again l) one v x vs xs (less_rounds-total again f l one vs xs) r z e)

pub less-total : (t : Tree) → Total (flat t) (less t)
less-total (nothing m) v x r z e = same refl
less-total (letter m c) v x r z e = same refl
less-total (range m low high) v x r z e = same (Σ_prop_path (λ y. Bool-set (in_range low high y) true) (head-eq_of_cons-eq e))
less-total (seq m t u) v x r z e =
    compared_map (λ p. λ i. (p.0 i, p.1 i))
    (pair-total (flat t) (flat u) (less t) (less u) (less-total t) v.0 x.0 v.1 x.1 (less-total u v.1 x.1) r z e)
less-total (alt m t u) (inl v) (inl x) r z e = compared_map (λ p. ap inl p) (less-total t v x r z e)
less-total (alt m t u) (inl v) (inr x) r z e = above tt
less-total (alt m t u) (inr v) (inl x) r z e = beneath tt
less-total (alt m t u) (inr v) (inr x) r z e = compared_map (λ p. ap inr p) (less-total u v x r z e)
less-total (star m again t) vs xs r z e = less_rounds-total again (flat t) (less t) (less-total t) vs xs r z e

-- for values along one word, whatever follows them: the greater value has the earlier code, and the other way round
pub less_iff_before-along : (t : Tree) (v x : Value t) (r z : List ℕ) → flat t v ++ r ≡ flat t x ++ z → less t x v ↔ (before (code t v) (code t x) ≡ true)
less_iff_before-along t v x r z e = (less-before t v x r z e, λ h. go h (less-total t v x r z e))
  where
    go : before (code t v) (code t x) ≡ true → Compared (v ≡ x) (less t x v) (less t v x) → less t x v
    go h (same p) = absurd (before_irrefl (code t x) (rw p at h))
    go h (above l) = l
    go h (beneath l) = absurd (before_asym (code t v) (code t x) h (less-before t x v z r (sym e) l))

-- 01: "For two codes of one tape, the greater reading has the earlier code."
pub less_iff_before : (t : Tree) (v x : Value t) → flat t v ≡ flat t x → less t x v ↔ (before (code t v) (code t x) ≡ true)
less_iff_before t v x e = less_iff_before-along t v x [] [] (ap (λ s. s ++ []) e)

-- on the values of one tape the order is a strict total one: `less-total`, and these two
pub less_asym : (t : Tree) (v x : Value t) → flat t v ≡ flat t x → less t v x → less t x v → ⊥
less_asym t v x e l m = before_asym (code t v) (code t x) ((less_iff_before t v x e).0 m) ((less_iff_before t x v (sym e)).0 l)

pub less_trans : (t : Tree) (v x y : Value t) → flat t v ≡ flat t x → flat t x ≡ flat t y → less t v x → less t x y → less t v y
less_trans t v x y e f l m =
    (less_iff_before t y v (sym (e ∙ f))).1
    (before_trans (code t y) (code t x) (code t v) ((less_iff_before t y x (sym f)).0 m) ((less_iff_before t x v (sym e)).0 l))
