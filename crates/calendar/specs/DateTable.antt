-- Dates and steps that are computed: leap years, the ends of months, and the two ends of the calendar.
use Rattle.std.specs.Prelude.{◌≡◌, refl, true, false, List, [], ◌∷◌, map, ℕ}
use Rattle.calendar.specs.declared.Date.{Date}
use Rattle.calendar.specs.Dates.{leap, leap_day, month_length, is_date, next_date, date_of}

pub leap_years : map leap (1900 ∷ 2000 ∷ 2023 ∷ 2024 ∷ 2096 ∷ 2100 ∷ []) ≡ false ∷ true ∷ false ∷ true ∷ true ∷ false ∷ []
unfolding leap
leap_years = refl

-- the numbers are those that callers from C write
abbrev steps : List ℕ → List Date
steps ns = map (λ n. next_date (date_of n)) ns

abbrev dates : List ℕ → List Date
dates ns = map date_of ns

pub february : steps (20230228 ∷ 20240228 ∷ 20240229 ∷ 20000228 ∷ 20000229 ∷ []) ≡ dates (20230301 ∷ 20240229 ∷ 20240301 ∷ 20000229 ∷ 20000301 ∷ [])
unfolding leap leap_day month_length is_date next_date
february = refl

-- the last days of all months, and a 30th that is not the last
pub month_ends : steps (20230131 ∷ 20230228 ∷ 20230331 ∷ 20230430 ∷ 20230531 ∷ 20230630 ∷ 20230731 ∷ 20230831 ∷ 20230930 ∷ 20231031 ∷ 20231130 ∷ 20230830 ∷ [])
    ≡ dates (20230201 ∷ 20230301 ∷ 20230401 ∷ 20230501 ∷ 20230601 ∷ 20230701 ∷ 20230801 ∷ 20230901 ∷ 20231001 ∷ 20231101 ∷ 20231201 ∷ 20230831 ∷ [])
unfolding leap leap_day month_length is_date next_date
month_ends = refl

pub year_ends : steps (20231231 ∷ 20991231 ∷ 21000101 ∷ []) ≡ dates (20240101 ∷ 21000101 ∷ 21000101 ∷ [])
unfolding leap leap_day month_length is_date next_date
year_ends = refl

-- month 0 and 13, day 0, 29 February 2023, 31 April, the days before the first year and behind the last, and 0
pub no_dates : map (λ n. is_date (date_of n)) (20230001 ∷ 20231301 ∷ 20230100 ∷ 20230229 ∷ 20230431 ∷ 19991231 ∷ 21000101 ∷ 0 ∷ [])
    ≡ false ∷ false ∷ false ∷ false ∷ false ∷ false ∷ false ∷ false ∷ []
unfolding leap leap_day month_length is_date
no_dates = refl

pub some-dates : map (λ n. is_date (date_of n)) (20000101 ∷ 20000229 ∷ 20240229 ∷ 20230228 ∷ 20991231 ∷ []) ≡ true ∷ true ∷ true ∷ true ∷ true ∷ []
unfolding leap leap_day month_length is_date
some-dates = refl
