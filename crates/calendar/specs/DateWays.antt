-- What each way of a function on dates must show, over plain numbers.
use Rattle.std.specs.Prelude.{◌≡◌, true, false, ℕ, ◌+◌, ◌-◌, ◌%◌, ◌≤◌, ◌<◌, leb, ltb, eqb, get_or}
use Rattle.std.proofs.Math.Path.{sym, ap, ap₂}
use Rattle.std.proofs.Common.{◌∙◌}
use borrow.Author.Tests.{le-leb, lt-leb, lt-ltb, le-ltb, eq-eqb, ne_eqb}
use Rattle.calendar.specs.declared.Date.{Date}
use Rattle.calendar.specs.Dates.{date, leap, month_lengths, leap_day, month_length, is_date, next_date, is_after}

-- ── `is_leap` ──
module _ (y : ℕ) where
  pub leap_century : y % 100 ≡ 0 → eqb (y % 400) 0 ≡ leap y
  unfolding leap
  leap_century e = rw (eq-eqb (y % 100) 0 e)

  pub leap_other : (y % 100 ≡ 0 → ⊥) → eqb (y % 4) 0 ≡ leap y
  unfolding leap
  leap_other h = rw (ne_eqb (y % 100) 0 h)

module _ (y m : ℕ) where
  -- ── `leap_day` ──
  pub other_month : (m ≡ 2 → ⊥) → 0 ≡ leap_day y m
  unfolding leap_day
  other_month h = rw (ne_eqb m 2 h)

  pub february_long : m ≡ 2 → leap y ≡ true → 1 ≡ leap_day y m
  unfolding leap_day
  february_long e l = rw (eq-eqb m 2 e, l)

  pub february_short : m ≡ 2 → leap y ≡ false → 0 ≡ leap_day y m
  unfolding leap_day
  february_short e l = rw (eq-eqb m 2 e, l)

  -- ── `month_length` ──
  pub month_zero : m < 1 → 0 ≡ month_length y m
  unfolding month_length
  month_zero h = rw (lt-leb 1 m h)

  pub month_past : 1 ≤ m → 12 < m → 0 ≡ month_length y m
  unfolding month_length
  month_past l h = rw (le-leb 1 m l, lt-leb m 12 h)

  pub month_days : 1 ≤ m → m ≤ 12 → (a b : ℕ) → a ≡ get_or month_lengths (m - 1) 0 → b ≡ leap_day y m → a + b ≡ month_length y m
  unfolding month_length
  month_days l h a b e f = ap₂ (λ i j. i + j) e f ∙ rw (le-leb 1 m l, le-leb m 12 h)

module _ (d : Date) where
  -- ── `is_date` ──
  pub year_early : d.year < 2000 → false ≡ is_date d
  unfolding is_date
  year_early h = rw (lt-leb 2000 d.year h)

  module _ (a : 2000 ≤ d.year) where
    pub year_late : 2099 < d.year → false ≡ is_date d
    unfolding is_date
    year_late h = rw (le-leb 2000 d.year a, lt-leb d.year 2099 h)

    module _ (b : d.year ≤ 2099) where
      pub day-zero : d.day < 1 → false ≡ is_date d
      unfolding is_date
      day-zero h = rw (le-leb 2000 d.year a, le-leb d.year 2099 b, lt-leb 1 d.day h)

      pub day_fits : 1 ≤ d.day → (n : ℕ) → n ≡ month_length d.year d.month → leb d.day n ≡ is_date d
      unfolding is_date
      day_fits h n e = ap (leb d.day) e ∙ rw (le-leb 2000 d.year a, le-leb d.year 2099 b, le-leb 1 d.day h)

  -- ── `next_date` ──
  pub step_none : is_date d ≡ false → d ≡ next_date d
  unfolding next_date
  step_none e = rw e

  module _ (e : is_date d ≡ true) (n : ℕ) (f : n ≡ month_length d.year d.month) where
    pub step-day : d.day < n → date d.year d.month (d.day + 1) ≡ next_date d
    unfolding next_date
    step-day h = rw (e, sym f, lt-ltb d.day n h)

    module _ (h : n ≤ d.day) where
      pub step_month : d.month < 12 → date d.year (d.month + 1) 1 ≡ next_date d
      unfolding next_date
      step_month k = rw (e, sym f, le-ltb d.day n h, lt-ltb d.month 12 k)

      pub step_year : 12 ≤ d.month → date (d.year + 1) 1 1 ≡ next_date d
      unfolding next_date
      step_year k = rw (e, sym f, le-ltb d.day n h, le-ltb d.month 12 k)

-- ── `is_after` ──
module _ (a b : Date) where
  pub years_differ : (a.year ≡ b.year → ⊥) → ltb b.year a.year ≡ is_after a b
  unfolding is_after
  years_differ h = rw (ne_eqb a.year b.year h)

  module _ (e : a.year ≡ b.year) where
    pub months_differ : (a.month ≡ b.month → ⊥) → ltb b.month a.month ≡ is_after a b
    unfolding is_after
    months_differ h = rw (eq-eqb a.year b.year e, ne_eqb a.month b.month h)

    pub days_differ : a.month ≡ b.month → ltb b.day a.day ≡ is_after a b
    unfolding is_after
    days_differ h = rw (eq-eqb a.year b.year e, eq-eqb a.month b.month h)
