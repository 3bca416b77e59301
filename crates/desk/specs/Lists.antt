-- Lists of numbers: parts, sums, and what holds of every one.
use Rattle.std.specs.Prelude.{◌≡◌, refl, Bool, true, false, ◌&&◌, cond, List, [], ◌∷◌, ◌++◌, ℕ, suc, ◌+◌, ◌-◌, ◌≤◌, ◌<◌, length, take, drop}
use Rattle.std.proofs.Common.{sym, ap, ◌∙◌, append_assoc, arith, length-append, take-add, drop_at, length-take-le}
use Rattle.std.proofs.Math.Seq.{take-append-add}
use Rattle.std.proofs.lemmas.List.Edits.{sets, sets-eq}
use Rattle.syntax.specs.Bools.{and_intro, and_fst, and_snd}
use Rattle.syntax.specs.Letter.{is_letter, first_bad}
use Rattle.desk.specs.Desks.{every, sum}

-- ── every ──
pub every_append : (f : ℕ → Bool) (xs ys : List ℕ) → every f xs ≡ true → every f ys ≡ true → every f (xs ++ ys) ≡ true
every_append f [] ys h k = k
every_append f (x ∷ xs) ys h k = and_intro (and_fst (f x) (every f xs) h) (every_append f xs ys (and_snd (f x) (every f xs) h) k)

-- a page without a bad letter is letters
pub no_bad : (xs : List ℕ) → length xs ≤ first_bad xs → every is_letter xs ≡ true
unfolding first_bad
no_bad [] h = refl
no_bad (x ∷ xs) h = go (is_letter x) refl h (no_bad xs)
  where
    go : (b : Bool) → is_letter x ≡ b → suc (length xs) ≤ cond b (suc (first_bad xs)) 0 → (length xs ≤ first_bad xs → every is_letter xs ≡ true)
        → (is_letter x && every is_letter xs) ≡ true
    go true e h ih = and_intro e (ih (omega arith))
    go false e h ih = absurd (omega arith)

pub some-bad : (xs : List ℕ) → first_bad xs < length xs → every is_letter xs ≡ false
unfolding first_bad
some-bad [] h = absurd (omega arith)
some-bad (x ∷ xs) h = go (is_letter x) refl h (some-bad xs)
  where
    go : (b : Bool) → is_letter x ≡ b → cond b (suc (first_bad xs)) 0 < suc (length xs) → (first_bad xs < length xs → every is_letter xs ≡ false)
        → (is_letter x && every is_letter xs) ≡ false
    go true e h ih = ap (λ b. b && every is_letter xs) e ∙ ih (omega arith)
    go false e h ih = ap (λ b. b && every is_letter xs) e

-- ── sum ──
pub sum-append : (xs ys : List ℕ) → sum (xs ++ ys) ≡ sum xs + sum ys
sum-append [] ys = omega arith
sum-append (x ∷ xs) ys = omega (arith, sum-append xs ys)

-- ── parts ──
pub drop-take : (n m : ℕ) (l : List ℕ) → n + m ≤ length l → drop n (take (n + m) l) ≡ take m (drop n l)
drop-take n m l h = ap (drop n) (take-add n m l) ∙ drop_at (take n l) (take m (drop n l)) n (length-take-le n l (omega arith))

-- what is stored in front of the end m of a part stands before what the part had
pub sets-part : (vs l : List ℕ) (i m : ℕ) → i + length vs ≤ m → m ≤ length l
    → drop i (take m (sets l i vs)) ≡ vs ++ drop (i + length vs) (take m l)
sets-part vs l i m h k =
    let r = m - (i + length vs) in
    let front = take i l ++ vs in
    let size : length front ≡ i + length vs =
    length-append (take i l) vs ∙ ap (λ n. n + length vs) (length-take-le i l (omega arith)) in
    let e : m ≡ i + length vs + r = omega arith in
    let seam : m ≡ length front + r = omega (arith, size) in
    let back = drop (i + length vs) l in
    ap (λ xs. drop i (take m xs)) (sets-eq vs l i (omega arith))
    ∙ ap (λ n. drop i (take n (front ++ back))) seam
    ∙ ap (drop i) (take-append-add front back r)
    ∙ ap (drop i) (append_assoc (take i l) vs (take r back))
    ∙ drop_at (take i l) (vs ++ take r back) i (length-take-le i l (omega arith))
    ∙ ap (λ xs. vs ++ xs) (sym (ap (λ n. drop (i + length vs) (take n l)) e ∙ drop-take (i + length vs) r l (omega arith)))
