-- Dates of the Gregorian calendar, from 2000 to 2099. Definitions only.
use Rattle.std.specs.Prelude.{Bool, ◌&&◌, cond, List, [], ◌∷◌, ℕ, ◌+◌, ◌-◌, ◌*◌, ◌/◌, ◌%◌, leb, ltb, eqb, get_or}
use Rattle.calendar.specs.declared.Date.{Date}

abbrev pub date : (year month day : ℕ) → Date
date y m d = record { year = y; month = m; day = d }

-- 02: "Gregorian": every fourth year is a leap year, but of the years that end a century only every fourth. So 2000 is one.
unfoldable pub leap : (year : ℕ) → Bool
leap y = cond (eqb (y % 100) 0) (eqb (y % 400) 0) (eqb (y % 4) 0)

-- 02: "month lengths from a table of twelve"; in code `MONTH_LENGTHS`
abbrev pub month_lengths : List ℕ
month_lengths = 31 ∷ 28 ∷ 31 ∷ 30 ∷ 31 ∷ 30 ∷ 31 ∷ 31 ∷ 30 ∷ 31 ∷ 30 ∷ 31 ∷ []

-- 02: "with the leap day added"
unfoldable pub leap_day : (year month : ℕ) → ℕ
leap_day y m = cond (eqb m 2 && leap y) 1 0

-- months are 1 to 12, and any other month has no day
unfoldable pub month_length : (year month : ℕ) → ℕ
month_length y m = cond (leb 1 m && leb m 12) (get_or month_lengths (m - 1) 0 + leap_day y m) 0

-- 02: "such date", one of "years 2000 to 2099": its day is one of the days of its month
unfoldable pub is_date : Date → Bool
is_date d = (leb 2000 d.year && leb d.year 2099) && (leb 1 d.day && leb d.day (month_length d.year d.month))

-- the day after a day that there is
abbrev pub day_after : Date → Date
day_after d =
    cond (ltb d.day (month_length d.year d.month)) (date d.year d.month (d.day + 1))
    (cond (ltb d.month 12) (date d.year (d.month + 1) 1) (date (d.year + 1) 1 1))

-- a step by one day. What is no date stays as it is: the step of 31 December 2099 is 1 January 2100, which is no such date, and stays.
unfoldable pub next_date : Date → Date
next_date d = cond (is_date d) (day_after d) d

-- a is later than b: the first of year, month and day in which they differ is greater
unfoldable pub is_after : (a b : Date) → Bool
is_after a b =
    cond (eqb a.year b.year)
    (cond (eqb a.month b.month) (ltb b.day a.day) (ltb b.month a.month))
    (ltb b.year a.year)

-- a date as one number, as callers from C write it: 20240229 is 29 February 2024
abbrev pub date_number : Date → ℕ
date_number d = d.year * 10000 + d.month * 100 + d.day

abbrev pub date_of : (number : ℕ) → Date
date_of n = date (n / 10000) (n / 100 % 100) (n % 100)
