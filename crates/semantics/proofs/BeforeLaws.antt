-- LAWS of the order of codes, on lists of bits: the first bit that differs decides.
use Rattle.std.proofs.Common.{◌∙◌, inl, inr}
use Rattle.std.specs.Prelude.{◌≡◌, refl, Bool, false, not, true, ◌⊎◌, ◌++◌, ◌∷◌, List, []}
use Rattle.std.proofs.lemmas.Bool.{false≢true}
use Rattle.semantics.specs.Greatest.{Top}
use Rattle.semantics.specs.Code.{before}

pub before-append : (xs ys us vs : List Bool) → before xs ys ≡ true → before (xs ++ us) (ys ++ vs) ≡ true
before-append [] ys us vs h = absurd (false≢true h)
before-append (x ∷ xs) [] us vs h = absurd (false≢true h)
before-append (false ∷ xs) (false ∷ ys) us vs h = before-append xs ys us vs h
before-append (false ∷ xs) (true ∷ ys) us vs h = refl
before-append (true ∷ xs) (false ∷ ys) us vs h = absurd (false≢true h)
before-append (true ∷ xs) (true ∷ ys) us vs h = before-append xs ys us vs h

pub before_prefix : (p xs ys : List Bool) → before (p ++ xs) (p ++ ys) ≡ before xs ys
before_prefix [] xs ys = refl
before_prefix (false ∷ p) xs ys = before_prefix p xs ys
before_prefix (true ∷ p) xs ys = before_prefix p xs ys

pub before_same : (b : Bool) (xs ys : List Bool) → before (b ∷ xs) (b ∷ ys) ≡ before xs ys
before_same false xs ys = refl
before_same true xs ys = refl

-- one after the other: the first decides, and where it is the same the second
pub two_top : {A B : Type 0} (c : A → List Bool) (d : B → List Bool) (v x : A) (u y : B) → Top c v x → (v ≡ x → Top d u y)
    → ((v ≡ x) × (u ≡ y)) ⊎ (before (c v ++ d u) (c x ++ d y) ≡ true)
two_top {A} {B} c d v x u y (inr l) k = inr (before-append (c v) (c x) (d u) (d y) l)
two_top {A} {B} c d v x u y (inl e) k = go (k e)
  where
    go : Top d u y → ((v ≡ x) × (u ≡ y)) ⊎ (before (c v ++ d u) (c x ++ d y) ≡ true)
    go (inl f) = inl (e, f)
    go (inr l) = inr (rw (← e) (before_prefix (c v) (d u) (d y) ∙ l))

pub before_irrefl : (xs : List Bool) → before xs xs ≡ true → ⊥
before_irrefl [] h = false≢true h
before_irrefl (false ∷ xs) h = before_irrefl xs h
before_irrefl (true ∷ xs) h = before_irrefl xs h

pub before_asym : (xs ys : List Bool) → before xs ys ≡ true → before ys xs ≡ true → ⊥
before_asym [] ys h k = false≢true h
before_asym (x ∷ xs) [] h k = false≢true h
before_asym (false ∷ xs) (false ∷ ys) h k = before_asym xs ys h k
before_asym (false ∷ xs) (true ∷ ys) h k = false≢true k
before_asym (true ∷ xs) (false ∷ ys) h k = false≢true h
before_asym (true ∷ xs) (true ∷ ys) h k = before_asym xs ys h k

pub before_trans : (xs ys zs : List Bool) → before xs ys ≡ true → before ys zs ≡ true → before xs zs ≡ true
before_trans [] ys zs h k = absurd (false≢true h)
before_trans (x ∷ xs) [] zs h k = absurd (false≢true h)
before_trans (false ∷ xs) (false ∷ ys) [] h k = absurd (false≢true k)
before_trans (false ∷ xs) (true ∷ ys) [] h k = absurd (false≢true k)
before_trans (true ∷ xs) (true ∷ ys) [] h k = absurd (false≢true k)
before_trans (false ∷ xs) (false ∷ ys) (false ∷ zs) h k = before_trans xs ys zs h k
before_trans (false ∷ xs) (false ∷ ys) (true ∷ zs) h k = refl
before_trans (false ∷ xs) (true ∷ ys) (false ∷ zs) h k = absurd (false≢true k)
before_trans (false ∷ xs) (true ∷ ys) (true ∷ zs) h k = refl
before_trans (true ∷ xs) (false ∷ ys) zs h k = absurd (false≢true h)
before_trans (true ∷ xs) (true ∷ ys) (false ∷ zs) h k = absurd (false≢true k)
before_trans (true ∷ xs) (true ∷ ys) (true ∷ zs) h k = before_trans xs ys zs h k

-- where 1 means another round, the stop comes first; where 0 does, the round
pub stop_before : (again : Bool) (xs ys : List Bool) → (again ≡ false → ⊥) → before (not again ∷ xs) (again ∷ ys) ≡ true
stop_before true xs ys h = refl
stop_before false xs ys h = absurd (h refl)

pub round-before : (again : Bool) (xs ys : List Bool) → (again ≡ true → ⊥) → before (again ∷ xs) (not again ∷ ys) ≡ true
round-before true xs ys h = absurd (h refl)
round-before false xs ys h = refl
