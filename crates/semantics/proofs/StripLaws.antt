-- LAWS of leaving out: without its empty iterations a value spells the same, has none, and has a shorter code if it had one.
use Rattle.std.proofs.Common.{◌∙◌, ap, ap₂, true≢false, inl, inr, ⊎_elim, le_refl, arith, length-append}
use Rattle.std.specs.Prelude.{◌≡◌, refl, ◌&&◌, Bool, false, true, ◌⊎◌, ◌++◌, ◌∷◌, List, [], ◌<◌, ◌≤◌, ℕ, length}
use Rattle.syntax.specs.Tree.{Tree, nothing, letter, range, seq, alt, star}
use Rattle.semantics.specs.Value.{Value, nonempty, flat_rounds, nonproblematic_rounds, flat, nonproblematic}
use Rattle.semantics.specs.Code.{code_rounds, code}
use Rattle.semantics.specs.Strip.{keep, strip_rounds, strip}
use Rattle.semantics.proofs.Basics.{and_fst, and_snd, and_intro}
use Rattle.semantics.proofs.CompleteLaws.{full_round}

empty : (s : List ℕ) → nonempty s ≡ false → s ≡ []
empty [] e = refl
empty (x ∷ s) e = absurd (true≢false e)

module _ {A : Type 0} (f : A → List ℕ) (g : A → A) (keeps : (v : A) → f (g v) ≡ f v) where
  keep-flat : (v : A) (xs vs : List A) → flat_rounds f xs ≡ flat_rounds f vs → (b : Bool) → nonempty (f v) ≡ b
      → flat_rounds f (keep b (g v) xs) ≡ f v ++ flat_rounds f vs
  keep-flat v xs vs h true e = ap₂ (λ a b. a ++ b) (keeps v) h
  keep-flat v xs vs h false e = rw (empty (f v) e) h

  strip_rounds-flat : (vs : List A) → flat_rounds f (strip_rounds f g vs) ≡ flat_rounds f vs
  strip_rounds-flat [] = refl
  strip_rounds-flat (v ∷ vs) = keep-flat v (strip_rounds f g vs) vs (strip_rounds-flat vs) (nonempty (f v)) refl

  module _ (s : A → Bool) (solid : (v : A) → s (g v) ≡ true) where
    keep-nonproblematic : (v : A) (xs : List A) → nonproblematic_rounds f s xs ≡ true → (b : Bool) → nonempty (f v) ≡ b
        → nonproblematic_rounds f s (keep b (g v) xs) ≡ true
    keep-nonproblematic v xs h true e = and_intro (and_intro (ap nonempty (keeps v) ∙ e) (solid v)) h
    keep-nonproblematic v xs h false e = h

    strip_rounds-nonproblematic : (vs : List A) → nonproblematic_rounds f s (strip_rounds f g vs) ≡ true
    strip_rounds-nonproblematic [] = refl
    strip_rounds-nonproblematic (v ∷ vs) = keep-nonproblematic v (strip_rounds f g vs) (strip_rounds-nonproblematic vs) (nonempty (f v)) refl

  module _ (again : Bool) (c : A → List Bool) (short : (v : A) → length (c (g v)) ≤ length (c v)) where
    keep_short : (v : A) (xs vs : List A) → length (code_rounds again c xs) ≤ length (code_rounds again c vs) → (b : Bool)
        → length (code_rounds again c (keep b (g v) xs)) ≤ length (code_rounds again c (v ∷ vs))
    keep_short v xs vs h true = simp length-append (omega (arith, short v))
    keep_short v xs vs h false = simp length-append (omega arith)

    strip_rounds_short : (vs : List A) → length (code_rounds again c (strip_rounds f g vs)) ≤ length (code_rounds again c vs)
    strip_rounds_short [] = le_refl _
    strip_rounds_short (v ∷ vs) = keep_short v (strip_rounds f g vs) vs (strip_rounds_short vs) (nonempty (f v))

pub strip-flat : (t : Tree) (v : Value t) → flat t (strip t v) ≡ flat t v
strip-flat (nothing m) v = refl
strip-flat (letter m c) v = refl
strip-flat (range m low high) v = refl
strip-flat (seq m t u) v = ap₂ (λ a b. a ++ b) (strip-flat t v.0) (strip-flat u v.1)
strip-flat (alt m t u) (inl v) = strip-flat t v
strip-flat (alt m t u) (inr v) = strip-flat u v
strip-flat (star m again t) vs = strip_rounds-flat (flat t) (strip t) (strip-flat t) vs

pub strip-nonproblematic : (t : Tree) (v : Value t) → nonproblematic t (strip t v) ≡ true
strip-nonproblematic (nothing m) v = refl
strip-nonproblematic (letter m c) v = refl
strip-nonproblematic (range m low high) v = refl
strip-nonproblematic (seq m t u) v = and_intro (strip-nonproblematic t v.0) (strip-nonproblematic u v.1)
strip-nonproblematic (alt m t u) (inl v) = strip-nonproblematic t v
strip-nonproblematic (alt m t u) (inr v) = strip-nonproblematic u v
strip-nonproblematic (star m again t) vs = strip_rounds-nonproblematic (flat t) (strip t) (strip-flat t) (nonproblematic t) (strip-nonproblematic t) vs

pub strip_short : (t : Tree) (v : Value t) → length (code t (strip t v)) ≤ length (code t v)
strip_short (nothing m) v = le_refl _
strip_short (letter m c) v = le_refl _
strip_short (range m low high) v = le_refl _
strip_short (seq m t u) v = simp length-append (omega (arith, strip_short t v.0, strip_short u v.1))
strip_short (alt m t u) (inl v) = omega (arith, strip_short t v)
strip_short (alt m t u) (inr v) = omega (arith, strip_short u v)
strip_short (star m again t) vs = strip_rounds_short (flat t) (strip t) (strip-flat t) again (code t) (strip_short t) vs

-- what holds an empty iteration gets shorter
module _ {A : Type 0} (again : Bool) (f : A → List ℕ) (g : A → A) (s : A → Bool) (c : A → List Bool) (keeps : (v : A) → f (g v) ≡ f v)
    (short : (v : A) → length (c (g v)) ≤ length (c v))
    (shorter : (v : A) → s v ≡ false → length (c (g v)) < length (c v)) where
  keep_shorter : (v : A) (vs : List A)
      → (nonproblematic_rounds f s vs ≡ false → length (code_rounds again c (strip_rounds f g vs)) < length (code_rounds again c vs))
      → (b a d : Bool) → s v ≡ a → nonproblematic_rounds f s vs ≡ d → ((b && a) && d) ≡ false
      → length (code_rounds again c (keep b (g v) (strip_rounds f g vs))) < length (code_rounds again c (v ∷ vs))
  keep_shorter v vs ih true true true p q h = absurd (true≢false h)
  keep_shorter v vs ih true true false p q h = simp length-append (omega (arith, short v, ih q))
  keep_shorter v vs ih true false d p q h = simp length-append (omega (arith, shorter v p, strip_rounds_short f g keeps again c short vs))
  keep_shorter v vs ih false a d p q h = simp length-append (omega (arith, strip_rounds_short f g keeps again c short vs))

  strip_rounds_shorter : (vs : List A) → nonproblematic_rounds f s vs ≡ false
      → length (code_rounds again c (strip_rounds f g vs)) < length (code_rounds again c vs)
  strip_rounds_shorter [] h = absurd (true≢false h)
  strip_rounds_shorter (v ∷ vs) h = keep_shorter v vs (strip_rounds_shorter vs) (nonempty (f v)) (s v) (nonproblematic_rounds f s vs) refl refl h

and_false : (a b : Bool) → (a && b) ≡ false → (a ≡ false) ⊎ (b ≡ false)
and_false true b h = inr h
and_false false b h = inl refl

pub strip_shorter : (t : Tree) (v : Value t) → nonproblematic t v ≡ false → length (code t (strip t v)) < length (code t v)
strip_shorter (nothing m) v h = absurd (true≢false h)
strip_shorter (letter m c) v h = absurd (true≢false h)
strip_shorter (range m low high) v h = absurd (true≢false h)
strip_shorter (seq m t u) v h = simp length-append (⊎_elim
    (λ p. omega (arith, strip_shorter t v.0 p, strip_short u v.1))
    (λ p. omega (arith, strip_short t v.0, strip_shorter u v.1 p)) (and_false (nonproblematic t v.0) (nonproblematic u v.1) h))
strip_shorter (alt m t u) (inl v) h = omega (arith, strip_shorter t v h)
strip_shorter (alt m t u) (inr v) h = omega (arith, strip_shorter u v h)
strip_shorter (star m again t) vs h = strip_rounds_shorter again (flat t) (strip t) (nonproblematic t) (code t) (strip-flat t) (strip_short t)
    (strip_shorter t) vs h

-- a value without an empty iteration stays as it is
strip_rounds_self : {A : Type 0} (f : A → List ℕ) (g : A → A) (s : A → Bool) → ((v : A) → s v ≡ true → g v ≡ v) → (vs : List A)
    → nonproblematic_rounds f s vs ≡ true → strip_rounds f g vs ≡ vs
strip_rounds_self f g s one [] h = refl
strip_rounds_self f g s one (v ∷ vs) h =
    let o = full_round f s v vs h in
    ap (λ b. keep b (g v) (strip_rounds f g vs)) o.full ∙ ap₂ (λ x xs. x ∷ xs) (one v o.solid) (strip_rounds_self f g s one vs o.others)

pub strip_self : (t : Tree) (v : Value t) → nonproblematic t v ≡ true → strip t v ≡ v
strip_self (nothing m) v h = refl
strip_self (letter m c) v h = refl
strip_self (range m low high) v h = refl
strip_self (seq m t u) v h =
    ap₂ (λ x y. (x, y)) (strip_self t v.0 (and_fst (nonproblematic t v.0) (nonproblematic u v.1) h))
    (strip_self u v.1 (and_snd (nonproblematic t v.0) (nonproblematic u v.1) h))
strip_self (alt m t u) (inl v) h = ap inl (strip_self t v h)
strip_self (alt m t u) (inr v) h = ap inr (strip_self u v h)
strip_self (star m again t) vs h = strip_rounds_self (flat t) (strip t) (nonproblematic t) (strip_self t) vs h
