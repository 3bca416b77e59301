-- Laws of dates: "after" is an order of all dates, the step of a date is the next one in it, and numbers and dates take each other back.
use Rattle.std.specs.Prelude.{◌≡◌, refl, Bool, true, false, ◌&&◌, cond, ◌⊎◌, List, [], ◌∷◌, ℕ, zero, suc, ◌+◌, ◌-◌, ◌*◌, ◌≤◌, ◌<◌, leb, ltb, eqb, length, get_or}
use Rattle.std.proofs.Common.{sym, ap, ap₂, ◌∙◌, true≢false, inl, inr, arith, leb-true, ltb-true, ltb-false, eqb-true, le-leb, lt-ltb, eq-eqb, ne_eqb}
use Rattle.std.proofs.lemmas.Bool.{false≢true}
use Rattle.calendar.specs.declared.Date.{Date}
use Rattle.calendar.specs.Dates.{date, month_lengths, leap, leap_day, month_length, is_date, next_date, is_after, date_number, date_of}

both : (a b : Bool) → (a && b) ≡ true → (a ≡ true) × (b ≡ true)
both true b e = (refl, e)
both false b e = absurd (false≢true e)

not-both : {b : Bool} → b ≡ true → b ≡ false → ⊥
not-both p q = true≢false (sym p ∙ q)

pub date_same : (a b : Date) → a.year ≡ b.year → a.month ≡ b.month → a.day ≡ b.day → a ≡ b
date_same a b e f g =
    ap (λ y. date y a.month a.day) e ∙ ap (λ m. date b.year m a.day) f ∙ ap (λ d. date b.year b.month d) g

-- ── the lengths of months ──
abbrev Between : (low high : ℕ) → List ℕ → Type 0
Between a b [] = Unit {0}
Between a b (x ∷ xs) = (a ≤ x) × (x ≤ b) × Between a b xs

pub entry-between : (a b : ℕ) (xs : List ℕ) → Between a b xs → (k : ℕ) → k < length xs → (a ≤ get_or xs k 0) × (get_or xs k 0 ≤ b)
entry-between a b [] h k s = absurd (omega arith)
entry-between a b (x ∷ xs) h zero s = (h.0, h.1)
entry-between a b (x ∷ xs) h (suc k) s = entry-between a b xs h.2 k (omega arith)

lengths_between : Between 28 31 month_lengths
lengths_between = omega arith

pub length_small : (k : ℕ) → k < 12 → get_or month_lengths k 0 ≤ 31
length_small k h = (entry-between 28 31 month_lengths lengths_between k h).1

pub leap_day_small : (y m : ℕ) → leap_day y m ≤ 1
unfolding leap_day
leap_day_small y m = go (eqb m 2 && leap y)
  where
    go : (b : Bool) → cond b 1 0 ≤ 1
    go true = omega arith
    go false = omega arith

pub month_between : (y m : ℕ) → 1 ≤ m → m ≤ 12 → (28 ≤ month_length y m) × (month_length y m ≤ 32)
unfolding month_length
month_between y m a b =
    let h = entry-between 28 31 month_lengths lengths_between (m - 1) (omega arith) in
    rw (le-leb 1 m a, le-leb m 12 b) (omega (arith, h.0), omega (arith, h.1, leap_day_small y m))

december : (y : ℕ) → month_length y 12 ≡ 31
unfolding month_length leap_day
december y = refl

-- a month with a day in it is one of the twelve
pub month_known : (y m : ℕ) → 1 ≤ month_length y m → (1 ≤ m) × (m ≤ 12)
unfolding month_length
month_known y m h = go (leb 1 m && leb m 12) refl h
  where
    go : (b : Bool) → (leb 1 m && leb m 12) ≡ b → 1 ≤ cond b (get_or month_lengths (m - 1) 0 + leap_day y m) 0 → (1 ≤ m) × (m ≤ 12)
    go true e k = let (p, q) = both (leb 1 m) (leb m 12) e in (leb-true 1 m p, leb-true m 12 q)
    go false e k = absurd (omega arith)

-- ── what a date is, as facts ──
pub record IsDate (d : Date) : Type 0 where
  pub first_year : 2000 ≤ d.year
  pub last_year : d.year ≤ 2099
  pub first_month : 1 ≤ d.month
  pub last_month : d.month ≤ 12
  pub first_day : 1 ≤ d.day
  pub last_day : d.day ≤ month_length d.year d.month

pub date_facts : (d : Date) → is_date d ≡ true → IsDate d
unfolding is_date
date_facts d e =
    let (years, days) = both (leb 2000 d.year && leb d.year 2099) (leb 1 d.day && leb d.day (month_length d.year d.month)) e in
    let (a, b) = both (leb 2000 d.year) (leb d.year 2099) years in
    let (f, g) = both (leb 1 d.day) (leb d.day (month_length d.year d.month)) days in
    let low = leb-true 1 d.day f in
    let high = leb-true d.day (month_length d.year d.month) g in
    let (m, n) = month_known d.year d.month (omega arith) in
    record {
      first_year = leb-true 2000 d.year a;
      last_year = leb-true d.year 2099 b;
      first_month = m;
      last_month = n;
      first_day = low;
      last_day = high;
    }

pub facts_date : (d : Date) → IsDate d → is_date d ≡ true
unfolding is_date
facts_date d h =
    rw (
      le-leb 2000 d.year h.first_year,
      le-leb d.year 2099 h.last_year,
      le-leb 1 d.day h.first_day,
      le-leb d.day (month_length d.year d.month) h.last_day,
    )

-- ── one date is after another ──
pub data After (a b : Date) : Type 0 where
  by_year : b.year < a.year → After a b
  by_month : a.year ≡ b.year → b.month < a.month → After a b
  by_day : a.year ≡ b.year → a.month ≡ b.month → b.day < a.day → After a b

pub after-says : (a b : Date) → is_after a b ≡ true → After a b
unfolding is_after
after-says a b e = go (eqb a.year b.year) refl (eqb a.month b.month) refl e
  where
    go : (s : Bool) → eqb a.year b.year ≡ s → (t : Bool) → eqb a.month b.month ≡ t
        → cond s (cond t (ltb b.day a.day) (ltb b.month a.month)) (ltb b.year a.year) ≡ true → After a b
    go true p true q h = by_day (eqb-true a.year b.year p) (eqb-true a.month b.month q) (ltb-true b.day a.day h)
    go true p false q h = by_month (eqb-true a.year b.year p) (ltb-true b.month a.month h)
    go false p true q h = by_year (ltb-true b.year a.year h)
    go false p false q h = by_year (ltb-true b.year a.year h)

pub says-after : (a b : Date) → After a b → is_after a b ≡ true
unfolding is_after
says-after a b (by_year h) = rw (ne_eqb a.year b.year (λ e. omega arith), lt-ltb b.year a.year h)
says-after a b (by_month e h) =
    rw (eq-eqb a.year b.year e, ne_eqb a.month b.month (λ f. omega arith), lt-ltb b.month a.month h)
says-after a b (by_day e f h) = rw (eq-eqb a.year b.year e, eq-eqb a.month b.month f, lt-ltb b.day a.day h)

pub not_after : (a b : Date) → (After a b → ⊥) → is_after a b ≡ false
not_after a b h = go (is_after a b) refl
  where
    go : (t : Bool) → is_after a b ≡ t → is_after a b ≡ false
    go true e = absurd (h (after-says a b e))
    go false e = e

-- a is b or a date before it
record Upto (a b : Date) : Type 0 where
  years : a.year ≤ b.year
  months : a.year ≡ b.year → a.month ≤ b.month
  days : a.year ≡ b.year → a.month ≡ b.month → a.day ≤ b.day

upto : (a b : Date) → is_after a b ≡ false → Upto a b
upto a b e =
    let no_after : After a b → ⊥ = λ h. not-both (says-after a b h) e in
    let y : b.year < a.year → ⊥ = λ h. no_after (by_year h) in
    record {
      years = omega arith;
      months = λ f. let m : b.month < a.month → ⊥ = λ h. no_after (by_month f h) in omega arith;
      days = λ f g. let d : b.day < a.day → ⊥ = λ h. no_after (by_day f g h) in omega arith;
    }

upto_both : {a b c : Date} → Upto a b → Upto b c → After a c → ⊥
upto_both u v (by_year h) = omega (arith, u.years, v.years)
upto_both {a} {b} {c} u v (by_month e h) =
    let f : a.year ≡ b.year = omega (arith, u.years, v.years) in
    let g : b.year ≡ c.year = omega (arith, u.years, v.years) in
    omega (arith, u.months f, v.months g)
upto_both {a} {b} {c} u v (by_day e m h) =
    let f : a.year ≡ b.year = omega (arith, u.years, v.years) in
    let g : b.year ≡ c.year = omega (arith, u.years, v.years) in
    let i : a.month ≡ b.month = omega (arith, u.months f, v.months g) in
    let j : b.month ≡ c.month = omega (arith, u.months f, v.months g) in
    omega (arith, u.days f i, v.days g j)

-- ── "after" is an order of all dates, and of three numbers that are no date ──
pub after_self : (d : Date) → is_after d d ≡ false
after_self d = not_after d d go
  where
    go : After d d → ⊥
    go (by_year h) = omega arith
    go (by_month e h) = omega arith
    go (by_day e f h) = omega arith

-- "not after" is transitive
pub upto_trans : (a b c : Date) → is_after a b ≡ false → is_after b c ≡ false → is_after a c ≡ false
upto_trans a b c e f = not_after a c (upto_both (upto a b e) (upto b c f))

pub after-total : (a b : Date) → is_after a b ≡ false → is_after b a ≡ false → a ≡ b
after-total a b e f =
    let u = upto a b e in
    let v = upto b a f in
    let y : a.year ≡ b.year = omega (arith, u.years, v.years) in
    let m : a.month ≡ b.month = omega (arith, u.months y, v.months (sym y)) in
    let d : a.day ≡ b.day = omega (arith, u.days y m, v.days (sym y) (sym m)) in
    date_same a b y m d

pub after_asym : (a b : Date) → is_after a b ≡ true → is_after b a ≡ false
after_asym a b e = go (is_after b a) refl
  where
    both_ways : After a b → After b a → ⊥
    both_ways (by_year h) (by_year k) = omega arith
    both_ways (by_year h) (by_month f k) = omega arith
    both_ways (by_year h) (by_day f g k) = omega arith
    both_ways (by_month f h) (by_year k) = omega arith
    both_ways (by_month f h) (by_month g k) = omega arith
    both_ways (by_month f h) (by_day g i k) = omega arith
    both_ways (by_day f g h) (by_year k) = omega arith
    both_ways (by_day f g h) (by_month i k) = omega arith
    both_ways (by_day f g h) (by_day i j k) = omega arith

    go : (t : Bool) → is_after b a ≡ t → is_after b a ≡ false
    go true f = absurd (both_ways (after-says a b e) (after-says b a f))
    go false f = f

-- a is after b, and c is not: so a is after c
pub after_upto : (a b c : Date) → is_after a b ≡ true → is_after c b ≡ false → is_after a c ≡ true
after_upto a b c e f = go (is_after a c) refl
  where
    go : (t : Bool) → is_after a c ≡ t → is_after a c ≡ true
    go true g = g
    go false g = absurd (not-both e (upto_trans a c b g f))

pub after_trans : (a b c : Date) → is_after a b ≡ true → is_after b c ≡ true → is_after a c ≡ true
after_trans a b c e f = after_upto a b c e (after_asym b c f)

-- ── a step ──
pub data Step (d : Date) : Date → Type 0 where
  in_month : d.day < month_length d.year d.month → Step d (date d.year d.month (d.day + 1))
  month_end : month_length d.year d.month ≤ d.day → d.month < 12 → Step d (date d.year (d.month + 1) 1)
  year_end : month_length d.year d.month ≤ d.day → 12 ≤ d.month → Step d (date (d.year + 1) 1 1)

pub next_step : (d : Date) → is_date d ≡ true → Step d (next_date d)
unfolding next_date
next_step d e = rw e (go (ltb d.day (month_length d.year d.month)) refl (ltb d.month 12) refl)
  where
    go : (s : Bool) → ltb d.day (month_length d.year d.month) ≡ s → (t : Bool) → ltb d.month 12 ≡ t
        → Step d (cond s (date d.year d.month (d.day + 1)) (cond t (date d.year (d.month + 1) 1) (date (d.year + 1) 1 1)))
    go true p true q = in_month (ltb-true d.day (month_length d.year d.month) p)
    go true p false q = in_month (ltb-true d.day (month_length d.year d.month) p)
    go false p true q = month_end (ltb-false d.day (month_length d.year d.month) p) (ltb-true d.month 12 q)
    go false p false q = year_end (ltb-false d.day (month_length d.year d.month) p) (ltb-false d.month 12 q)

step_later : {d e : Date} → Step d e → After e d
step_later (in_month h) = by_day refl refl (omega arith)
step_later (month_end h k) = by_month refl (omega arith)
step_later (year_end h k) = by_year (omega arith)

-- the step of a date is after it
pub next_later : (d : Date) → is_date d ≡ true → is_after (next_date d) d ≡ true
next_later d e = says-after (next_date d) d (step_later (next_step d e))

pub next_stays : (d : Date) → is_date d ≡ false → next_date d ≡ d
unfolding next_date
next_stays d e = rw e

-- no step goes back
pub next_upto : (d : Date) → is_after d (next_date d) ≡ false
next_upto d = go (is_date d) refl
  where
    go : (b : Bool) → is_date d ≡ b → is_after d (next_date d) ≡ false
    go true e = after_asym (next_date d) d (next_later d e)
    go false e = rw (next_stays d e) (after_self d)

-- 02: "31 December 2099"
abbrev pub last_date : Date
last_date = date 2099 12 31

step-date : {d e : Date} → Step d e → IsDate d → (d ≡ last_date → ⊥) → IsDate e
step-date (in_month h) k n = record {
  first_year = k.first_year;
  last_year = k.last_year;
  first_month = k.first_month;
  last_month = k.last_month;
  first_day = omega arith;
  last_day = omega arith;
}
step-date {d} (month_end h m) k n = record {
  first_year = k.first_year;
  last_year = k.last_year;
  first_month = omega arith;
  last_month = omega arith;
  first_day = omega arith;
  last_day = omega (arith, (month_between d.year (d.month + 1) (omega arith) (omega arith)).0);
}
step-date {d} (year_end h m) k n =
    let twelve : d.month ≡ 12 = omega (arith, k.last_month) in
    let days : month_length d.year d.month ≡ 31 = ap (month_length d.year) twelve ∙ december d.year in
    let other : d.year ≡ 2099 → ⊥ = λ e. n (date_same d last_date e twelve (omega (arith, k.last_day))) in
    record {
      first_year = omega (arith, k.first_year);
      last_year = omega (arith, k.last_year);
      first_month = omega arith;
      last_month = omega arith;
      first_day = omega arith;
      last_day = omega (arith, (month_between (d.year + 1) 1 (omega arith) (omega arith)).0);
    }

-- the step of any date but the last is a date
pub next_is_date : (d : Date) → is_date d ≡ true → (d ≡ last_date → ⊥) → is_date (next_date d) ≡ true
next_is_date d e n = facts_date (next_date d) (step-date (next_step d e) (date_facts d e) n)

-- ── every date lies from the first to the last ──
abbrev pub first_date : Date
first_date = date 2000 1 1

pub first_of_all : (d : Date) → is_date d ≡ true → is_after first_date d ≡ false
first_of_all d e = not_after first_date d (go (date_facts d e))
  where
    go : IsDate d → After first_date d → ⊥
    go k (by_year h) = omega (arith, k.first_year)
    go k (by_month f h) = omega (arith, k.first_month)
    go k (by_day f g h) = omega (arith, k.first_day)

pub last_of_all : (d : Date) → is_date d ≡ true → is_after d last_date ≡ false
last_of_all d e = not_after d last_date (go (date_facts d e))
  where
    go : IsDate d → After d last_date → ⊥
    go k (by_year h) = omega (arith, k.last_year)
    go k (by_month f h) = omega (arith, k.last_month)
    go k (by_day f g h) =
        let days : month_length d.year d.month ≡ 31 = ap (month_length d.year) g ∙ december d.year in
        omega (arith, k.last_day)

-- ── where steps end ──
-- the day behind the last date
abbrev pub day_past : Date
day_past = date 2100 1 1

next_last : next_date last_date ≡ day_past
unfolding leap leap_day month_length is_date next_date
next_last = refl

pub past_stays : next_date day_past ≡ day_past
unfolding leap leap_day month_length is_date next_date
past_stays = refl

pub past_no_date : is_date day_past ≡ false
unfolding leap leap_day month_length is_date
past_no_date = refl

pub past_after : is_after day_past last_date ≡ true
unfolding is_after
past_after = refl

-- the step of a date is a date, or the day behind the last
pub next_or_past : (d : Date) → is_date d ≡ true → (is_date (next_date d) ≡ true) ⊎ (next_date d ≡ day_past)
next_or_past d e = go (is_after last_date d) refl
  where
    go : (b : Bool) → is_after last_date d ≡ b → (is_date (next_date d) ≡ true) ⊎ (next_date d ≡ day_past)
    go true h = inl (next_is_date d e (λ q. not-both h (ap (is_after last_date) q ∙ after_self last_date)))
    go false h = inr (ap next_date (after-total d last_date (last_of_all d e) h) ∙ next_last)

-- ── none lies between a date and its step ──
-- a number for each date, in the dates' order; numbers between them are left out
abbrev place : Date → ℕ
place d = d.year * 1024 + d.month * 64 + d.day

after-place : {a b : Date} → After a b → b.month < 16 → b.day < 64 → place b < place a
after-place (by_year h) m d = omega arith
after-place (by_month e h) m d = omega arith
after-place (by_day e f h) m d = omega arith

pub day_few : (d : Date) → IsDate d → d.day ≤ 32
day_few d h = omega (arith, h.last_day, (month_between d.year d.month h.first_month h.last_month).1)

no_date-between : {d s e : Date} → Step d s → IsDate d → IsDate e → place d < place e → place e < place s → ⊥
no_date-between (in_month h) k l a b = omega arith
no_date-between {d} {s} {e} (month_end h m) k l a b =
    let few = day_few e l in
    let at : e.year * 16 + e.month ≡ d.year * 16 + d.month = omega (arith, l.first_day, k.first_day, day_few d k) in
    let y : e.year ≡ d.year = omega (arith, at, l.first_month, l.last_month, k.first_month, k.last_month) in
    let n : e.month ≡ d.month = omega (arith, at, y) in
    let days : month_length e.year e.month ≡ month_length d.year d.month = ap₂ month_length y n in
    omega (arith, l.last_day)
no_date-between {d} {s} {e} (year_end h m) k l a b =
    let few = day_few e l in
    let y : e.year ≡ d.year = omega (arith, l.first_day, l.first_month, l.last_month) in
    let n : e.month ≡ d.month = omega (arith, l.last_month, k.last_month, few, y, k.first_day, day_few d k) in
    let days : month_length e.year e.month ≡ month_length d.year d.month = ap₂ month_length y n in
    omega (arith, l.last_day)

step_few : {d s : Date} → Step d s → IsDate d → (s.month < 16) × (s.day < 64)
step_few {d} (in_month h) k = (omega (arith, k.last_month), omega (arith, day_few d k))
step_few (month_end h m) k = (omega arith, omega arith)
step_few (year_end h m) k = (omega arith, omega arith)

-- a date after d is d's step or after it
pub none_between : (d e : Date) → is_date d ≡ true → is_date e ≡ true → is_after e d ≡ true → is_after (next_date d) e ≡ false
none_between d e p q h =
    let k = date_facts d p in
    let l = date_facts e q in
    let late = after-place (after-says e d h) (omega (arith, k.last_month)) (omega (arith, day_few d k)) in
    not_after (next_date d) e
    (λ f. no_date-between (next_step d p) k l late (after-place f (omega (arith, l.last_month)) (omega (arith, day_few e l))))

-- THE LAW OF STEPS: the step of any date but the last is a later date, and none lies between
pub record Next (d e : Date) : Type 0 where
  pub there : is_date e ≡ true
  pub later : is_after e d ≡ true
  pub adjacent : (x : Date) → is_date x ≡ true → is_after x d ≡ true → is_after e x ≡ false

pub next_law : (d : Date) → is_date d ≡ true → (d ≡ last_date → ⊥) → Next d (next_date d)
next_law d e n = record { there = next_is_date d e n; later = next_later d e; adjacent = λ x h k. none_between d x e h k }

-- ── dates as numbers ──
pub number-date : (d : Date) → is_date d ≡ true → date_of (date_number d) ≡ d
number-date d e =
    let k = date_facts d e in
    let few = day_few d k in
    date_same (date_of (date_number d)) d (omega (arith, k.last_month)) (omega (arith, k.last_month)) (omega arith)

-- every number is one date, or none
pub date_number_of : (n : ℕ) → date_number (date_of n) ≡ n
date_number_of n = omega arith
