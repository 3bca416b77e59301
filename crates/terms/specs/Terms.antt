-- Totals within a billing term: the date of each letter, the answer and the totals, for every input. Definitions only.
use Rattle.std.specs.Prelude.{◌≡◌, Bool, true, ◌&&◌, not, cond, List, [], ◌∷◌, ◌++◌, ℕ, eqb, Err, Ok, Result}
use Rattle.syntax.specs.declared.Pattern.{Pattern}
use Rattle.syntax.specs.Trees.{root}
use Rattle.refusals.specs.Refusals.{number, value, Answer, answer}
use Rattle.refusals.specs.Checks.{CheckOf, first_of, wrapped}
use Rattle.calendar.specs.declared.Date.{Date}
use Rattle.calendar.specs.Dates.{is_date, next_date, is_after, date_of}
use Rattle.semantics.specs.Accounts.{totals}
use Rattle.entries.specs.Entries.{Entries}
use Rattle.entries.specs.CodeOrder.{code_order}
use Rattle.entries.specs.Gather.{entries_of}
use Rattle.totals.specs.Totals.{no_litres}
use Rattle.terms.specs.declared.Term.{Term}
use Rattle.terms.specs.declared.TermRefusal.{TermRefusal}
use Rattle.terms.specs.declared.TermRefusal.TheVariants.{Base, TapeUndated, NotATerm}

-- ── the date of a letter ──
-- the letter `D`, whatever leaf or account reads it
abbrev pub day_end : ℕ
day_end = 68

-- 02: "`D` on a tape ends a day and belongs to the day it ends": a letter's date, and then the date of what stands behind it
unfoldable pub after_letter : (c : ℕ) → Date → Date
after_letter c d = cond (eqb c day_end) (next_date d) d

-- a letter with its account, and its date
pub record Dated : Type 0 where
  pub entry : ℕ × ℕ
  pub date : Date

-- 02: "Given the date of the first letter [..], each letter takes its day's date."
abbrev pub dated : (start : Date) → Entries → List Dated
dated d [] = []
dated d (e ∷ es) = record { entry = e; date = d } ∷ dated (after_letter e.0 d) es

-- ── the letters of a term ──
-- a term from C: its two dates as numbers
abbrev pub term_of : (first last : ℕ) → Term
term_of first last = record { first = date_of first; last = date_of last }

-- 02: "within a term, first and last date both included"
unfoldable pub in_term : Term → Date → Bool
in_term term d = not (is_after term.first d) && not (is_after d term.last)

abbrev pub within : Term → List Dated → Entries
within term [] = []
within term (x ∷ xs) = cond (in_term term x.date) (x.entry ∷ within term xs) (within term xs)

-- ── causes ──
-- each letter has a date
abbrev pub all_dates : List Dated → Bool
all_dates [] = true
all_dates (x ∷ xs) = is_date x.date && all_dates xs

-- 02 refuses "a start that is no such date or a tape with a letter dated past 31 December 2099": an empty tape has a start all the same
unfoldable pub dates_good : (start : Date) → Entries → Bool
dates_good start es = is_date start && all_dates (dated start es)

-- 02 refuses "a term with a date that is no such date, or with its last before its first"
unfoldable pub is_term : Term → Bool
is_term term = (is_date term.first && is_date term.last) && not (is_after term.first term.last)

-- 02: "with 11, then [..] with 12"
abbrev pub term_number : TermRefusal → ℕ
term_number (Base r) = number r
term_number TapeUndated = 11
term_number NotATerm = 12

-- 01: "A cause added later returns 0 and leaves all as it was."
abbrev pub term_value : TermRefusal → ℕ
term_value (Base r) = value r
term_value TapeUndated = 0
term_value NotATerm = 0

abbrev pub term_refused : TermRefusal → Answer
term_refused r = answer (term_number r) (term_value r)

abbrev pub TermCheck : Type 0
TermCheck = CheckOf TermRefusal

abbrev pub first_term_cause : (order : List TermCheck) → (success : Answer) → Answer
first_term_cause = first_of term_refused

abbrev pub dates_order : (start : Date) → Term → Entries → List TermCheck
dates_order start term es = (not (dates_good start es), TapeUndated) ∷ (not (is_term term), NotATerm) ∷ []

unfoldable pub dates_answer : (start : Date) → Term → Entries → Answer
dates_answer start term es = first_term_cause (dates_order start term es) (answer 0 0)

-- 02: "It refuses, after 2, 8 and 3, [..]"
abbrev pub terms_order : Pattern → (code : List ℕ) → (count : ℕ) → (start : Date) → Term → List TermCheck
terms_order p code count start term =
    wrapped Base (code_order p code count) ++ dates_order start term (entries_of (root p) code count)

unfoldable pub terms_answer : Pattern → (code : List ℕ) → (count : ℕ) → (start : Date) → Term → Answer
terms_answer p code count start term = first_term_cause (terms_order p code count start term) (answer 0 0)

-- ── litres ──
-- 02: "Total litres by account within a term"; refused, all are 0
unfoldable pub terms_litres : Pattern → (code : List ℕ) → (count : ℕ) → (start : Date) → Term → List ℕ
terms_litres p code count start term =
    cond (eqb (terms_answer p code count start term).number 0)
    (totals (within term (dated start (entries_of (root p) code count)))) no_litres

abbrev pub term_outcome : Result (List ℕ) TermRefusal → Answer
term_outcome (Ok sums) = answer 0 0
term_outcome (Err why) = term_refused why

abbrev pub term_litres : Result (List ℕ) TermRefusal → List ℕ
term_litres (Ok sums) = sums
term_litres (Err why) = no_litres

-- THE PROMISE of totalling within a term, for every table, bytes, count and dates
pub record TermTotals (p : Pattern) (code : List ℕ) (count : ℕ) (start : Date) (term : Term) (r : Result (List ℕ) TermRefusal) : Type 0 where
  pub answers : term_outcome r ≡ terms_answer p code count start term
  pub gives : term_litres r ≡ terms_litres p code count start term

-- the same of entries that are gathered: what is left to test and to add
unfoldable pub dates_litres : (start : Date) → Term → Entries → List ℕ
dates_litres start term es = cond (eqb (dates_answer start term es).number 0) (totals (within term (dated start es))) no_litres

pub record DatesTotals (start : Date) (term : Term) (es : Entries) (r : Result (List ℕ) TermRefusal) : Type 0 where
  pub answers : term_outcome r ≡ dates_answer start term es
  pub gives : term_litres r ≡ dates_litres start term es
