-- Laws of the entries in front of two arrays.
use Rattle.std.specs.Prelude.{◌≡◌, refl, Bool, true, false, List, [], ◌∷◌, ◌++◌, ℕ, zero, suc, ◌+◌, ◌≤◌, ◌<◌, eqb, length, take, get_or, set}
use Rattle.std.proofs.Common.{ap, arith, length-append, length-set, get_or-set_same, get_or-set_other, eqb-true}
use Rattle.std.proofs.lemmas.Bool.{eqb-false}
use Rattle.syntax.specs.Table.{account_limit}
use Rattle.semantics.specs.Owned.{letters}
use Rattle.semantics.specs.Every.{All}
use Rattle.entries.specs.Entries.{Entries, accounts_in}
use Rattle.entries.specs.WholeLaws.{length-accounts}
use Rattle.entries.specs.Gather.{pairs, Owned}

pub pairs-entries : (es : Entries) (xs ys : List ℕ) → pairs (length es) (letters es ++ xs) (accounts_in es ++ ys) ≡ es
pairs-entries [] xs ys = refl
pairs-entries (e ∷ es) xs ys = ap (λ fs. (e.0, e.1) ∷ fs) (pairs-entries es xs ys)

pub pairs-length : (n : ℕ) (xs ys : List ℕ) → length (pairs n xs ys) ≤ n
pairs-length zero xs ys = omega arith
pairs-length (suc n) [] ys = omega arith
pairs-length (suc n) (x ∷ xs) [] = omega arith
pairs-length (suc n) (x ∷ xs) (y ∷ ys) = omega (arith, pairs-length n xs ys)

pub pairs_next : (n : ℕ) (xs ys : List ℕ) → n < length xs → n < length ys → pairs (suc n) xs ys ≡ pairs n xs ys ++ ((get_or xs n 0, get_or ys n 0) ∷ [])
pairs_next n [] ys h k = absurd (omega arith)
pairs_next n (x ∷ xs) [] h k = absurd (omega arith)
pairs_next zero (x ∷ xs) (y ∷ ys) h k = refl
pairs_next (suc n) (x ∷ xs) (y ∷ ys) h k = ap (λ fs. (x, y) ∷ fs) (pairs_next n xs ys (omega arith) (omega arith))

entries-own : (es : Entries) (ys : List ℕ) → All (λ e. e.1 < account_limit + 1) es → (i : ℕ) → i < length es → get_or (accounts_in es ++ ys) i 0 ≤ account_limit
entries-own [] ys h i k = absurd (omega arith)
entries-own (e ∷ es) ys h zero k = omega (arith, h.0)
entries-own (e ∷ es) ys h (suc i) k = entries-own es ys h.1 i (omega arith)

pub entries_owned : (es : Entries) (ys : List ℕ) → All (λ e. e.1 < account_limit + 1) es → (n : ℕ) → n ≡ length es → Owned (accounts_in es ++ ys) n
entries_owned es ys h n e =
    record { wide = omega (arith, length-append (accounts_in es) ys, length-accounts es); own = λ i k. entries-own es ys h i (omega arith) }

pub pairs-letters : (n : ℕ) (xs ys : List ℕ) → n ≤ length xs → n ≤ length ys → letters (pairs n xs ys) ≡ take n xs
pairs-letters zero xs ys h k = refl
pairs-letters (suc n) [] ys h k = absurd (omega arith)
pairs-letters (suc n) (x ∷ xs) [] h k = absurd (omega arith)
pairs-letters (suc n) (x ∷ xs) (y ∷ ys) h k = ap (λ w. x ∷ w) (pairs-letters n xs ys (omega arith) (omega arith))

-- ── an entry put behind the first n ──
pub pairs-put : (n : ℕ) (xs ys : List ℕ) (x y : ℕ) → n < length xs → n < length ys → pairs (suc n) (set xs n x) (set ys n y) ≡ pairs n xs ys ++ ((x, y) ∷ [])
pairs-put n [] ys x y h k = absurd (omega arith)
pairs-put n (c ∷ xs) [] x y h k = absurd (omega arith)
pairs-put zero (c ∷ xs) (a ∷ ys) x y h k = refl
pairs-put (suc n) (c ∷ xs) (a ∷ ys) x y h k = ap (λ fs. (c, a) ∷ fs) (pairs-put n xs ys x y (omega arith) (omega arith))

pub owned_put : (ys : List ℕ) (n k y : ℕ) → Owned ys n → y ≤ account_limit → Owned (set ys k y) n
owned_put ys n k y o h = record { wide = omega (arith, o.wide, length-set ys k y); own = λ i l. go i l (eqb i k) refl }
  where
    go : (i : ℕ) → i < n → (b : Bool) → eqb i k ≡ b → get_or (set ys k y) i 0 ≤ account_limit
    go i l true e =
        let f = eqb-true i k e in
        omega (arith, ap (λ j. get_or (set ys k y) j 0) f, get_or-set_same ys k y 0 (omega (arith, f, l, o.wide)))
    go i l false e = omega (arith, get_or-set_other ys k i y 0 (eqb-false i k e), o.own i l)
