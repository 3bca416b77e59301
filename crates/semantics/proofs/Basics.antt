-- Small facts on Bool, tests of numbers and lists, for the laws.
use Rattle.std.proofs.Common.{◌∙◌, ap, sym, true≢false, inl, inr, append_assoc, arith, eqb→eq, leb→le, le→leb}
use Rattle.std.specs.Prelude.{◌≡◌, refl, ◌||◌, Bool, false, not, true, ◌≢◌, ◌⊎◌, ◌++◌, ◌∷◌, List, [], ◌<◌, ◌≤◌, ℕ, T, eqb, leb, length}
use Rattle.std.proofs.lemmas.Bool.{false≢true}
use Rattle.std.proofs.Math.Bool.{or_assoc}
use Rattle.std.proofs.lemmas.List.{append_cancel_left}
use Rattle.std.proofs.Math.Dec.{eqb_refl, nleb→lt}
pub use Rattle.syntax.specs.Bools.{and_fst, and_snd, and_intro}
use Rattle.semantics.specs.Value.{nonempty}

pub or_left : {a : Bool} (b : Bool) → a ≡ true → (a || b) ≡ true
or_left b p = rw p

pub or_right : (a : Bool) {b : Bool} → b ≡ true → (a || b) ≡ true
or_right true q = refl
or_right false q = q

pub or_cases : (a b : Bool) → (a || b) ≡ true → (a ≡ true) ⊎ ((a ≡ false) × (b ≡ true))
or_cases true b e = inl refl
or_cases false b e = inr (refl, e)

pub not-both : {a : Bool} → a ≡ true → a ≡ false → ⊥
not-both p q = true≢false (sym p ∙ q)

pub from_T : (b : Bool) → T b → b ≡ true
from_T true t = refl
from_T false t = absurd t

pub to_T : {b : Bool} → b ≡ true → T b
to_T e = rw e tt

pub eqb_self : (n : ℕ) → eqb n n ≡ true
eqb_self n = from_T (eqb n n) (eqb_refl n)

pub eqb_eq : (m n : ℕ) → eqb m n ≡ true → m ≡ n
eqb_eq m n e = eqb→eq m n (to_T e)

pub eqb_no : (m n : ℕ) → eqb m n ≡ false → m ≢ n
eqb_no m n e q = true≢false (sym (eqb_self n) ∙ ap (λ x. eqb x n) (sym q) ∙ e)

pub nonempty_pos : (s : List ℕ) → nonempty s ≡ true → 1 ≤ length s
nonempty_pos [] e = absurd (false≢true e)
nonempty_pos (x ∷ s) e = omega arith

pub nonempty-append : (s x : List ℕ) → nonempty (s ++ x) ≡ (nonempty s || nonempty x)
nonempty-append [] x = refl
nonempty-append (a ∷ s) x = refl

pub leb_le : (m n : ℕ) → leb m n ≡ true → m ≤ n
leb_le m n e = leb→le m n (to_T e)

pub le_leb : (m n : ℕ) → m ≤ n → leb m n ≡ true
le_leb m n h = from_T (leb m n) (le→leb m n h)

pub nleb_lt : (m n : ℕ) → leb m n ≡ false → n < m
nleb_lt m n e = nleb→lt m n (rw e tt)

pub lt_nleb : (m n : ℕ) → n < m → leb m n ≡ false
lt_nleb m n h = go (leb m n) refl
  where
    go : (b : Bool) → leb m n ≡ b → b ≡ false
    go true e = absurd (omega (arith, leb_le m n e))
    go false e = refl

pub not_self : (b : Bool) → b ≡ not b → ⊥
not_self true e = true≢false e
not_self false e = false≢true e

-- what is split once and its rest again (over variables: where `r` is a projection, `rw` would take every proof that names it along)
pub glue : {A : Type 0} {l r : List A} (p q s : List A) → l ≡ p ++ r → r ≡ q ++ s → l ≡ (p ++ q) ++ s
glue p q s e f = rw (append_assoc, e, f)

-- the flag behind two pieces, one after the other
pub flag_join : (b : Bool) (x y : List ℕ) → (b || nonempty (x ++ y)) ≡ ((b || nonempty x) || nonempty y)
flag_join b x y = rw nonempty-append (sym (or_assoc b (nonempty x) (nonempty y)))

-- what is left behind one value
pub same_rest : {A : Type 0} (f : A → List ℕ) (v x : A) (w r z : List ℕ) → w ≡ f v ++ r → w ≡ f x ++ z → v ≡ x → r ≡ z
same_rest f v x w r z p q e = append_cancel_left (f v) r z (sym p ∙ q ∙ ap (λ y. f y ++ z) (sym e))
