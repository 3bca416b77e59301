-- Tapes and terms that are computed: the last `D` of 2099, empty tapes, first and last day, and what is a term.
use Rattle.std.specs.Prelude.{◌≡◌, refl, true, false, [], ◌∷◌, map, ℕ}
use Rattle.calendar.specs.Dates.{leap, leap_day, month_length, is_date, next_date, is_after, date_of}
use Rattle.semantics.specs.Accounts.{litres, total}
use Rattle.entries.specs.Entries.{Entries}
use Rattle.terms.specs.Terms.{after_letter, dated, term_of, in_term, within, dates_good, is_term}

-- a digit for account 1, and `D` without an account
abbrev digit : ℕ → ℕ × ℕ
digit c = (c, 1)

abbrev day : ℕ × ℕ
day = (68, 0)

-- a last `D` on 31 December 2099 is good, and a letter behind it is not; a tape without letters has a start all the same
pub last_day : map (dates_good (date_of 20991231)) ((day ∷ []) ∷ (digit 51 ∷ day ∷ []) ∷ (day ∷ digit 51 ∷ []) ∷ (day ∷ day ∷ []) ∷ [])
    ≡ true ∷ true ∷ false ∷ false ∷ []
unfolding leap leap_day month_length is_date next_date after_letter dates_good
last_day = refl

pub no_letters : map (λ n. dates_good (date_of n) []) (20230228 ∷ 20230229 ∷ 20991231 ∷ 21000101 ∷ []) ≡ true ∷ false ∷ true ∷ false ∷ []
unfolding leap leap_day month_length is_date dates_good
no_letters = refl

-- `1D2D4` from 28 February 2024: the litres of account 1 in terms of one day, two days, all days, and before and behind the tape
abbrev tape : Entries
tape = digit 49 ∷ day ∷ digit 50 ∷ day ∷ digit 52 ∷ []

abbrev litres_in : (start first last : ℕ) → ℕ
litres_in s f l = total 1 (within (term_of f l) (dated (date_of s) tape))

pub leap_day_term : litres_in 20240228 20240229 20240229 ∷ litres_in 20240228 20240228 20240229 ∷ litres_in 20240228 20240301 20240301
    ∷ litres_in 20240228 20000101 20991231 ∷ litres_in 20240228 20240101 20240227 ∷ litres_in 20240228 20240302 20240331 ∷ []
    ≡ 2 ∷ 3 ∷ 4 ∷ 7 ∷ 0 ∷ 0 ∷ []
unfolding leap leap_day month_length is_date next_date is_after after_letter in_term litres total
leap_day_term = refl

-- a `D` belongs to the day it ends: of `1D2D4` the first day has two letters
pub first_day : within (term_of 20240228 20240228) (dated (date_of 20240228) tape) ≡ digit 49 ∷ day ∷ []
unfolding leap leap_day month_length is_date next_date is_after after_letter in_term
first_day = refl

-- one day is a term; a date before 2000, a day that there is not, and a last date before the first make none
pub terms_or_none : is_term (term_of 20240229 20240229) ∷ is_term (term_of 19991231 20240229)
    ∷ is_term (term_of 20240101 20230229) ∷ is_term (term_of 20240229 20240228) ∷ []
    ≡ true ∷ false ∷ false ∷ false ∷ []
unfolding leap leap_day month_length is_date is_after is_term
terms_or_none = refl
