-- What single steps on terms come to: a letter that ends a day or not, whether a date lies in a term, whether two dates are a term, an entry that is
-- kept or not, stepping to the last letter's date, and each refusal. No answer needs these laws, since the check takes the steps itself.
use Rattle.std.specs.Prelude.{◌≡◌, refl, Bool, true, false, not, cond, List, ℕ, ◌+◌, ◌-◌, ◌≤◌, ◌<◌, length, take, get_or, set, Result, Ok, Err, ⊤}
use Rattle.std.proofs.Common.{sym, ap, subst, ◌∙◌, arith}
use borrow.Author.Tests.{eq-eqb, ne_eqb, not-true, not-false}
use Rattle.syntax.specs.declared.Pattern.{Pattern}
use Rattle.refusals.specs.declared.Refusal.{Refusal}
use Rattle.refusals.specs.Checks.{First}
use Rattle.calendar.specs.declared.Date.{Date}
use Rattle.calendar.specs.Dates.{is_date, next_date, is_after}
use Rattle.entries.specs.Entries.{Entries}
use Rattle.entries.specs.CodeOrder.{code_order}
use Rattle.terms.specs.declared.Term.{Term}
use Rattle.terms.specs.declared.TermRefusal.{TermRefusal}
use Rattle.terms.specs.declared.TermRefusal.TheVariants.{Base, TapeUndated, NotATerm}
use Rattle.terms.specs.declared.days.Day.{Day}
use Rattle.terms.specs.Days.{date_behind, day_of, behind_next}
use Rattle.terms.specs.Terms.{day_end, after_letter, in_term, dates_good, is_term, dates_answer, dates_litres, DatesTotals}
use Rattle.terms.specs.Terms.{term_refused, terms_order, term_outcome, TermTotals}
use Rattle.terms.specs.Unique.{term_refused_same, term_number_positive}
use Rattle.terms.specs.TermWays.{refused-answer, refused-litres, first-base}
use Rattle.terms.specs.Selection.{Selecting, select_kept, select_passed}

-- ── the date behind a letter ──
pub same_day : (c : ℕ) (d : Date) → (c ≡ day_end → ⊥) → d ≡ after_letter c d
unfolding after_letter
same_day c d h = rw (ne_eqb c day_end h)

pub day_ends : (c : ℕ) (d : Date) → c ≡ day_end → next_date d ≡ after_letter c d
unfolding after_letter
day_ends c d e = rw (eq-eqb c day_end e)

pub day-made : (t : Term) (d : Date) (b : Bool) → b ≡ in_term t d → record { date = d; inside = b } ≡ day_of t d
day-made t d b e = ap (λ i. record { date = d; inside = i }) e

-- ── whether a date lies in a term ──
module _ (t : Term) (d : Date) (a : Bool) (p : a ≡ is_after t.first d) where
  pub from_first : (b : Bool) → b ≡ is_after d t.last → not a ≡ true → not b ≡ in_term t d
  unfolding in_term
  from_first b q h = let e : is_after t.first d ≡ false = sym p ∙ not-true a h in rw (e, sym q)

  pub before_first : not a ≡ false → not a ≡ in_term t d
  unfolding in_term
  before_first h = let e : is_after t.first d ≡ true = sym p ∙ not-false a h in h ∙ rw e

-- ── whether two dates are a term ──
module _ (t : Term) where
  pub no_first : is_date t.first ≡ false → false ≡ is_term t
  unfolding is_term
  no_first e = rw e

  pub no_last : is_date t.first ≡ true → is_date t.last ≡ false → false ≡ is_term t
  unfolding is_term
  no_last e g = rw (e, g)

  pub term_by_order : is_date t.first ≡ true → is_date t.last ≡ true → (b : Bool) → b ≡ is_after t.first t.last → not b ≡ is_term t
  unfolding is_term
  term_by_order e g b h = rw (e, g, h)

-- ── stepping to the last letter: i letters are passed, and one is left ──
pub record Stepped (letters : List ℕ) (start date : Date) (n i : ℕ) : Type 0 where
  pub low : i ≤ n - 1
  pub is : date ≡ date_behind start (take i letters)

pub stepped_start : (w : List ℕ) (d : Date) (n : ℕ) → Stepped w d d n 0
stepped_start w d n = record { low = omega arith; is = refl }

module _ {w : List ℕ} {start date : Date} {n i : ℕ} (s : Stepped w start date n i) where
  pub stepped_next : i + 1 < n → n ≤ length w → (next : Date) → next ≡ after_letter (get_or w i 0) date → Stepped w start next n (i + 1)
  stepped_next h long next e = record {
    low = omega arith;
    is = e ∙ ap (after_letter (get_or w i 0)) s.is ∙ sym (behind_next w i start (omega arith));
  }

  pub stepped_end : n ≤ i + 1 → date ≡ date_behind start (take (n - 1) w)
  stepped_end h = let e : i ≡ n - 1 = omega (arith, s.low) in s.is ∙ ap (λ j. date_behind start (take j w)) e

-- ── an entry that is kept, or passed over ──
-- entry i is copied to cell `kept` if its day is in the term
pub record Keeps (kept i : ℕ) (inside : Bool) (letters accounts letters_now accounts_now : List ℕ) (r : ℕ) : Type 0 where
  pub letters-put : letters_now ≡ cond inside (set letters kept (get_or letters i 0)) letters
  pub accounts-put : accounts_now ≡ cond inside (set accounts kept (get_or accounts i 0)) accounts
  pub counts : r ≡ cond inside (kept + 1) kept

module _ (kept i : ℕ) (inside : Bool) (xs ys : List ℕ) where
  pub kept_outside : inside ≡ false → Keeps kept i inside xs ys xs ys kept
  kept_outside e = record { letters-put = rw e; accounts-put = rw e; counts = rw e }

  pub kept-inside : inside ≡ true → Keeps kept i inside xs ys (set xs kept (get_or xs i 0)) (set ys kept (get_or ys i 0)) (kept + 1)
  kept-inside e = record { letters-put = rw e; accounts-put = rw e; counts = rw e }

module _ {start : Date} {term : Term} {us vs xs ys : List ℕ} {day : Day} {n kept i : ℕ} (s : Selecting start term us vs xs ys day n kept i) (h : i < n)
    (next : Day) (e : next ≡ day_of term (after_letter (get_or xs i 0) day.date)) where
  turn : (b : Bool) → day.inside ≡ b
      → Selecting start term us vs (cond b (set xs kept (get_or xs i 0)) xs) (cond b (set ys kept (get_or ys i 0)) ys) next n (cond b (kept + 1) kept) (i + 1)
  turn true f = select_kept s h next e f
  turn false f = select_passed s h next e f

  pub select_next : (zs ws : List ℕ) (r : ℕ) → Keeps kept i day.inside xs ys zs ws r → Selecting start term us vs zs ws next n r (i + 1)
  select_next zs ws r k =
      let b = day.inside in
      subst (λ l. Selecting start term us vs l ws next n r (i + 1)) (sym k.letters-put)
      (subst (λ l. Selecting start term us vs (cond b (set xs kept (get_or xs i 0)) xs) l next n r (i + 1)) (sym k.accounts-put)
      (subst (λ m. Selecting start term us vs (cond b (set xs kept (get_or xs i 0)) xs) (cond b (set ys kept (get_or ys i 0)) ys) next n m (i + 1))
      (sym k.counts)
      (turn b refl)))

-- ── refusals ──
-- a refusal: no litres
abbrev pub refused_term : TermRefusal → Result (List ℕ) TermRefusal
refused_term why = Err why

module _ (start : Date) (term : Term) (es : Entries) where
  pub dates_undated : dates_good start es ≡ false → DatesTotals start term es (refused_term TapeUndated)
  unfolding dates_answer dates_litres
  dates_undated e = record { answers = rw e; gives = rw e }

  pub dates-no_term : dates_good start es ≡ true → is_term term ≡ false → DatesTotals start term es (refused_term NotATerm)
  unfolding dates_answer dates_litres
  dates-no_term e f = record { answers = rw (e, f); gives = rw (e, f) }

module _ (p : Pattern) (code : List ℕ) (count : ℕ) (start : Date) (term : Term) where
  -- the first cause that holds is answered, and all totals are 0
  pub terms_refused : (why : TermRefusal) → First why (terms_order p code count start term) → TermTotals p code count start term (refused_term why)
  terms_refused why f = record { answers = sym (refused-answer p code count start term why f); gives = sym (refused-litres p code count start term why f) }

  -- so is one of the code's causes
  pub term_totals-refused : (why : Refusal) → First why (code_order p code count) → TermTotals p code count start term (refused_term (Base why))
  term_totals-refused why f = terms_refused (Base why) (first-base p code count start term f)

-- ── number and value fix what was answered ──
-- what was answered, without the litres
abbrev pub outcome : Result (List ℕ) TermRefusal → Result ⊤ TermRefusal
outcome (Ok sums) = Ok tt
outcome (Err why) = Err why

pub term_outcome_same : (r s : Result (List ℕ) TermRefusal) → term_outcome r ≡ term_outcome s → outcome r ≡ outcome s
term_outcome_same (Ok a) (Ok b) e = refl
term_outcome_same (Ok a) (Err s) e = let z : 0 ≡ (term_refused s).number = ap (λ x. x.number) e in absurd (omega (arith, term_number_positive s))
term_outcome_same (Err r) (Ok b) e = let z : (term_refused r).number ≡ 0 = ap (λ x. x.number) e in absurd (omega (arith, term_number_positive r))
term_outcome_same (Err r) (Err s) e = ap Err (term_refused_same r s e)
