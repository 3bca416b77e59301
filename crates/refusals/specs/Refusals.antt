-- Refusals: the number and the value that document 01 gives each cause.
use Rattle.std.specs.Prelude.{ℕ, Result, Ok, Err}
use Rattle.refusals.specs.declared.Refusal.{Refusal}
use Rattle.refusals.specs.declared.Refusal.TheVariants.{LineForm, Tree, TapeTooLong, TapeByte, Unreadable, WordsTooShort, CodeTooShort}
use Rattle.refusals.specs.declared.Refusal.TheVariants.{NotACode, TapeTooShort, NoSuchVisit}

-- the column "Number" of 01's table of causes
abbrev pub number : Refusal → ℕ
number (LineForm l) = 1
number (Tree l) = 2
number TapeTooLong = 3
number (TapeByte i) = 4
number Unreadable = 5
number (WordsTooShort n) = 6
number (CodeTooShort n) = 7
number NotACode = 8
number (TapeTooShort n) = 9
number NoSuchVisit = 10

-- the column "Returned beside it"
abbrev pub value : Refusal → ℕ
value (LineForm l) = l
value (Tree l) = l
value TapeTooLong = 0
value (TapeByte i) = i
value Unreadable = 0
value (WordsTooShort n) = n
value (CodeTooShort n) = n
value NotACode = 0
value (TapeTooShort n) = n
value NoSuchVisit = 0

-- what a service answers in numbers: 0 and a value of its own, or a cause's number and value
pub record Answer : Type 0 where
  pub number : ℕ
  pub value : ℕ

abbrev pub answer : (number value : ℕ) → Answer
answer n v = record { number = n; value = v }

abbrev pub refused : Refusal → Answer
refused r = answer (number r) (value r)

-- what a service that finds a number or a cause answers; `says` is the number and value of each cause
abbrev pub answer_by : {Cause : Type 0} → (says : Cause → Answer) → Result ℕ Cause → Answer
answer_by says (Ok n) = answer 0 n
answer_by says (Err why) = says why
