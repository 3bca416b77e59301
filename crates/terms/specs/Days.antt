-- The dates along a tape, letter by letter, and the two loops over them.
use Rattle.std.specs.Prelude.{◌≡◌, refl, Bool, true, false, ◌&&◌, cond, List, [], ◌∷◌, ◌++◌, ℕ, zero, suc, ◌+◌, ◌-◌, ◌≤◌, ◌<◌, eqb, length, take, get_or}
use Rattle.std.proofs.Common.{sym, ap, ◌∙◌, arith, take-suc}
use Rattle.std.proofs.Math.Bool.{and-true, and-false}
use Rattle.calendar.specs.declared.Date.{Date}
use Rattle.calendar.specs.Dates.{is_date, next_date}
use Rattle.calendar.specs.DateLaws.{next_stays}
use Rattle.entries.specs.Gather.{pairs}
use Rattle.terms.specs.declared.Term.{Term}
use Rattle.terms.specs.declared.days.Day.{Day}
use Rattle.terms.specs.Terms.{day_end, after_letter, dated, in_term, all_dates, dates_good}

-- the date behind letters: the date of the first of them, stepped at each that ends a day
abbrev pub date_behind : Date → (letters : List ℕ) → Date
date_behind d [] = d
date_behind d (c ∷ w) = date_behind (after_letter c d) w

-- a date, and whether it lies in the term
abbrev pub day_of : Term → Date → Day
day_of term d = record { date = d; inside = in_term term d }

pub behind-append : (v w : List ℕ) (d : Date) → date_behind d (v ++ w) ≡ date_behind (date_behind d v) w
behind-append [] w d = refl
behind-append (c ∷ v) w d = behind-append v w (after_letter c d)

pub behind_next : (w : List ℕ) (i : ℕ) (d : Date) → i < length w
    → date_behind d (take (i + 1) w) ≡ after_letter (get_or w i 0) (date_behind d (take i w))
behind_next w i d h =
    let e : i + 1 ≡ suc i = omega arith in
    ap (λ j. date_behind d (take j w)) e ∙ ap (date_behind d) (take-suc w i 0 h) ∙ behind-append (take i w) (get_or w i 0 ∷ []) d

-- ── all letters have a date if the last one has: what is no date stays as it is ──
behind_date : (c : ℕ) (d : Date) → is_date (after_letter c d) ≡ true → is_date d ≡ true
unfolding after_letter
behind_date c d h = go (eqb c day_end) (is_date d) refl h
  where
    go : (b t : Bool) → is_date d ≡ t → is_date (cond b (next_date d) d) ≡ true → is_date d ≡ true
    go b true e k = e
    go true false e k = sym (ap is_date (next_stays d e)) ∙ k
    go false false e k = k

early-date : (w : List ℕ) (d : Date) → is_date (date_behind d w) ≡ true → is_date d ≡ true
early-date [] d h = h
early-date (c ∷ w) d h = behind_date c d (early-date w (after_letter c d) h)

early-and : (w : List ℕ) (d : Date) → (is_date d && is_date (date_behind d w)) ≡ is_date (date_behind d w)
early-and w d = go (is_date (date_behind d w)) refl
  where
    go : (b : Bool) → is_date (date_behind d w) ≡ b → (is_date d && is_date (date_behind d w)) ≡ is_date (date_behind d w)
    go true e = rw (early-date w d e)
    go false e = rw e (and-false (is_date d))

all_last : (n : ℕ) (xs ys : List ℕ) (d : Date) → n < length xs → n < length ys
    → all_dates (dated d (pairs (suc n) xs ys)) ≡ is_date (date_behind d (take n xs))
all_last n [] ys d h k = absurd (omega arith)
all_last n (x ∷ xs) [] d h k = absurd (omega arith)
all_last zero (x ∷ xs) (y ∷ ys) d h k = and-true (is_date d)
all_last (suc n) (x ∷ xs) (y ∷ ys) d h k =
    ap (λ b. is_date d && b) (all_last n xs ys (after_letter x d) (omega arith) (omega arith)) ∙ early-and (take (suc n) (x ∷ xs)) d

pub good_last : (n : ℕ) (xs ys : List ℕ) (d : Date) → n ≤ length xs → n ≤ length ys
    → dates_good d (pairs n xs ys) ≡ is_date (date_behind d (take (n - 1) xs))
unfolding dates_good
good_last zero xs ys d h k = and-true (is_date d)
good_last (suc n) xs ys d h k =
    let e : n ≡ suc n - 1 = omega arith in
    ap (λ b. is_date d && b) (all_last n xs ys d (omega arith) (omega arith)) ∙ early-and (take n xs) d
    ∙ ap (λ j. is_date (date_behind d (take j xs))) e

pub dates_tested : (start : Date) (n : ℕ) (xs ys : List ℕ) → n ≤ length xs → n ≤ length ys → (d : Date) → d ≡ date_behind start (take (n - 1) xs)
    → (b : Bool) → b ≡ is_date d → dates_good start (pairs n xs ys) ≡ b
dates_tested start n xs ys h k d e b f = good_last n xs ys start h k ∙ ap is_date (sym e) ∙ sym f
