-- The dates along a tape: each letter's date is the start, stepped once for each `D` before it, and dates never fall.
use Rattle.std.specs.Prelude.{◌≡◌, refl, Bool, true, false, not, cond, ◌⊎◌, List, [], ◌∷◌, ◌++◌, map, ℕ, zero, suc, eqb}
use Rattle.std.proofs.Common.{sym, ap, ap₂, ◌∙◌, true≢false, inl, inr}
use Rattle.std.proofs.Math.Bool.{and-false}
use Rattle.calendar.specs.declared.Date.{Date}
use Rattle.calendar.specs.Dates.{is_date, next_date, is_after}
use Rattle.calendar.specs.DateLaws.{after_self, upto_trans, next_upto, last_date, last_of_all}
use Rattle.calendar.specs.DateLaws.{day_past, past_stays, past_no_date, past_after, next_or_past}
use Rattle.semantics.specs.Owned.{letters}
use Rattle.semantics.specs.Every.{All}
use Rattle.entries.specs.Entries.{Entries}
use Rattle.terms.specs.declared.Term.{Term}
use Rattle.terms.specs.Terms.{day_end, after_letter, Dated, dated, in_term}
use Rattle.terms.specs.Days.{date_behind}

abbrev pub entry_list : List Dated → Entries
entry_list xs = map (λ x. x.entry) xs

-- no letter is left out, and none is put in
pub dated-entries : (es : Entries) (d : Date) → entry_list (dated d es) ≡ es
dated-entries [] d = refl
dated-entries (e ∷ es) d = ap (λ fs. e ∷ fs) (dated-entries es (after_letter e.0 d))

-- ── a letter's date is the start, stepped once for each byte 68 strictly before it ──
abbrev pub steps : ℕ → Date → Date
steps zero d = d
steps (suc k) d = steps k (next_date d)

abbrev pub day_ends_in : List ℕ → ℕ
day_ends_in [] = 0
day_ends_in (c ∷ w) = cond (eqb c day_end) (suc (day_ends_in w)) (day_ends_in w)

pub behind-steps : (w : List ℕ) (d : Date) → date_behind d w ≡ steps (day_ends_in w) d
unfolding after_letter
behind-steps [] d = refl
behind-steps (c ∷ w) d = go (eqb c day_end) (behind-steps w (next_date d)) (behind-steps w d)
  where
    go : (b : Bool) → date_behind (next_date d) w ≡ steps (day_ends_in w) (next_date d) → date_behind d w ≡ steps (day_ends_in w) d
        → date_behind (cond b (next_date d) d) w ≡ steps (cond b (suc (day_ends_in w)) (day_ends_in w)) d
    go true e f = e
    go false e f = f

dated-append : (es fs : Entries) (d : Date) → dated d (es ++ fs) ≡ dated d es ++ dated (date_behind d (letters es)) fs
dated-append [] fs d = refl
dated-append (e ∷ es) fs d = ap (λ xs. record { entry = e; date = d } ∷ xs) (dated-append es fs (after_letter e.0 d))

pub letter_date : (es : Entries) (e : ℕ × ℕ) (fs : Entries) (d : Date)
    → dated d (es ++ (e ∷ fs))
    ≡ dated d es ++ (record { entry = e; date = steps (day_ends_in (letters es)) d } ∷ dated (date_behind d (letters (es ++ (e ∷ [])))) fs)
letter_date es e fs d = dated-append es (e ∷ fs) d ∙ ap₂ (λ b c. dated d es ++ (record { entry = e; date = b } ∷ dated c fs))
    (behind-steps (letters es) d) (behind_one es e d)
  where
    behind_one : (gs : Entries) (g : ℕ × ℕ) (c : Date) → after_letter g.0 (date_behind c (letters gs)) ≡ date_behind c (letters (gs ++ (g ∷ [])))
    behind_one [] g c = refl
    behind_one (h ∷ gs) g c = behind_one gs g (after_letter h.0 c)

-- ── dates never fall ──
pub letter_upto : (c : ℕ) (d : Date) → is_after d (after_letter c d) ≡ false
unfolding after_letter
letter_upto c d = go (eqb c day_end)
  where
    go : (b : Bool) → is_after d (cond b (next_date d) d) ≡ false
    go true = next_upto d
    go false = after_self d

-- no letter's date is before that of the letter in front of it
abbrev pub Rises : List Dated → Type 0
Rises [] = Unit {0}
Rises (x ∷ []) = Unit {0}
Rises (x ∷ y ∷ xs) = (is_after x.date y.date ≡ false) × Rises (y ∷ xs)

pub dates_rise : (es : Entries) (d : Date) → Rises (dated d es)
dates_rise [] d = tt
dates_rise (e ∷ []) d = tt
dates_rise (e ∷ f ∷ es) d = (letter_upto e.0 d, dates_rise (f ∷ es) (after_letter e.0 d))

-- none is before the start
pub from_start : (es : Entries) (d s : Date) → is_after s d ≡ false → All (λ x. is_after s x.date ≡ false) (dated d es)
from_start [] d s h = tt
from_start (e ∷ es) d s h = (h, from_start es (after_letter e.0 d) s (upto_trans s d (after_letter e.0 d) h (letter_upto e.0 d)))

behind_upto : (w : List ℕ) (d : Date) → is_after d (date_behind d w) ≡ false
behind_upto [] d = after_self d
behind_upto (c ∷ w) d = upto_trans d (after_letter c d) (date_behind (after_letter c d) w) (letter_upto c d) (behind_upto w (after_letter c d))

-- and none is after the last letter's
pub upto_end : (es : Entries) (e : ℕ × ℕ) (d : Date) → All (λ x. is_after x.date (date_behind d (letters es)) ≡ false) (dated d (es ++ (e ∷ [])))
upto_end [] e d = (after_self d, tt)
upto_end (f ∷ es) e d = (behind_upto (letters (f ∷ es)) d, upto_end es e (after_letter f.0 d))

-- ── 02: "a letter dated past 31 December 2099": with a start that is a date, just these letters have no date ──
abbrev Reached : Date → Type 0
Reached d = (is_date d ≡ true) ⊎ (d ≡ day_past)

reached_letter : (c : ℕ) (d : Date) → Reached d → Reached (after_letter c d)
unfolding after_letter
reached_letter c d r = go (eqb c day_end) r
  where
    go : (b : Bool) → Reached d → Reached (cond b (next_date d) d)
    go true (inl e) = next_or_past d e
    go true (inr e) = inr (ap next_date e ∙ past_stays)
    go false k = k

reached_says : (d : Date) → Reached d → is_date d ≡ not (is_after d last_date)
reached_says d (inl e) = e ∙ sym (ap not (last_of_all d e))
reached_says d (inr e) = ap is_date e ∙ past_no_date ∙ sym (ap (λ x. not (is_after x last_date)) e ∙ ap not past_after)

dates_past : (es : Entries) (d : Date) → Reached d → All (λ x. is_date x.date ≡ not (is_after x.date last_date)) (dated d es)
dates_past [] d r = tt
dates_past (e ∷ es) d r = (reached_says d r, dates_past es (after_letter e.0 d) (reached_letter e.0 d r))

pub dated_past : (es : Entries) (start : Date) → is_date start ≡ true
    → All (λ x. is_date x.date ≡ not (is_after x.date last_date)) (dated start es)
dated_past es start h = dates_past es start (inl h)

-- ── terms before and behind the tape ──
abbrev pub Outside : Term → List Dated → Type 0
Outside term xs = All (λ x. in_term term x.date ≡ false) xs

module _ (term : Term) where
  not-both : {b : Bool} → b ≡ true → b ≡ false → ⊥
  not-both p q = true≢false (sym p ∙ q)

  out_late : (d : Date) → is_after d term.last ≡ true → in_term term d ≡ false
  unfolding in_term
  out_late d h = rw h (and-false (not (is_after term.first d)))

  out_early : (d : Date) → is_after term.first d ≡ true → in_term term d ≡ false
  unfolding in_term
  out_early d h = rw h

  -- a term whose last date is before the start
  pub term_before : (start : Date) → is_after start term.last ≡ true → (es : Entries) → Outside term (dated start es)
  term_before start h es = go (dated start es) (from_start es start start (after_self start))
    where
      late : (d : Date) → is_after start d ≡ false → (b : Bool) → is_after d term.last ≡ b → is_after d term.last ≡ true
      late d e true f = f
      late d e false f = absurd (not-both h (upto_trans start d term.last e f))

      go : (xs : List Dated) → All (λ x. is_after start x.date ≡ false) xs → Outside term xs
      go [] k = tt
      go (x ∷ xs) k = (out_late x.date (late x.date k.0 (is_after x.date term.last) refl), go xs k.1)

  -- a term whose first date is after the last letter's
  pub term_behind : (start : Date) (es : Entries) (e : ℕ × ℕ) → is_after term.first (date_behind start (letters es)) ≡ true
      → Outside term (dated start (es ++ (e ∷ [])))
  term_behind start es e h = go (dated start (es ++ (e ∷ []))) (upto_end es e start)
    where
      early : (d : Date) → is_after d (date_behind start (letters es)) ≡ false → (b : Bool) → is_after term.first d ≡ b → is_after term.first d ≡ true
      early d k true f = f
      early d k false f = absurd (not-both h (upto_trans term.first d (date_behind start (letters es)) f k))

      go : (xs : List Dated) → All (λ x. is_after x.date (date_behind start (letters es)) ≡ false) xs → Outside term xs
      go [] k = tt
      go (x ∷ xs) k = (out_early x.date (early x.date k.0 (is_after term.first x.date) refl), go xs k.1)
