-- Laws of totals within terms: a term outside the tape, terms that part the tape's days, the digits of a term, and the term of all days.
use Rattle.std.specs.Prelude.{◌≡◌, refl, Bool, true, false, ℕ, ◌+◌, ◌*◌, ◌<◌, eqb, length, get_or, Ok, Result}
use Rattle.std.proofs.Math.Path.{sym, ap}
use Rattle.std.proofs.Common.{subst, ◌∙◌, arith}
use Rattle.std.proofs.Math.Bool.{cond}
use Rattle.std.specs.Result.{IsOk}
use mathlib.Core.List.{List, [], ◌∷◌, ◌++◌}
use Rattle.syntax.specs.declared.Pattern.{Pattern}
use Rattle.syntax.specs.Bools.{and_fst, and_snd}
use Rattle.syntax.specs.Table.{account_limit}
use Rattle.syntax.specs.Trees.{root}
use Rattle.refusals.specs.declared.Refusal.{Refusal}
use Rattle.refusals.specs.Checks.{Clear}
use Rattle.calendar.specs.declared.Date.{Date}
use Rattle.calendar.specs.Dates.{is_date, is_after}
use Rattle.calendar.specs.DateLaws.{first_date, last_date, first_of_all, last_of_all}
use Rattle.semantics.specs.Accounts.{litres, total, totals, digits}
use Rattle.semantics.specs.Owned.{letters}
use Rattle.semantics.proofs.AccountLaws.{totals_add, getD_totals}
use Rattle.semantics.specs.Every.{All}
use Rattle.entries.specs.Entries.{Entries}
use Rattle.entries.specs.CodeOrder.{code_order, clear_sound}
use Rattle.entries.specs.Gather.{entries_of}
use Rattle.entries.specs.EntryAccounts.{root-accounts, entries_few}
use Rattle.totals.specs.Totals.{totals_answer, totals_litres, totalled_litres, no_litres, Totals}
use Rattle.totals.specs.TotalsLaws.{totals-added, no_entries, many_or_none, sum_list, sum-totals}
use Rattle.totals.specs.Unique.{totals_one}
use Rattle.terms.specs.declared.Term.{Term}
use Rattle.terms.specs.declared.TermRefusal.{TermRefusal}
use Rattle.terms.specs.Terms.{Dated, dated, in_term, within, all_dates, dates_good, terms_answer, terms_litres, term_litres, TermTotals}
use Rattle.terms.specs.Orders.{terms_none, terms_added}
use Rattle.terms.specs.Days.{date_behind}
use Rattle.terms.specs.Along.{entry_list, dated-entries, Outside, term_before, term_behind}

-- ── the letters of a term ──
outside_none : (t : Term) (xs : List Dated) → Outside t xs → within t xs ≡ []
outside_none t [] k = refl
outside_none t (x ∷ xs) k = rw k.0 (outside_none t xs k.1)

pub within_all : (P : ℕ × ℕ → Type 0) (t : Term) (xs : List Dated) → All P (entry_list xs) → All P (within t xs)
within_all P t [] h = tt
within_all P t (x ∷ xs) h = go (in_term t x.date) (within_all P t xs h.1)
  where
    go : (b : Bool) → All P (within t xs) → All P (cond b (x.entry ∷ within t xs) (within t xs))
    go true k = (h.0, k)
    go false k = k

-- the term of all days
abbrev pub every_date : Term
every_date = record { first = first_date; last = last_date }

all_in : (d : Date) → is_date d ≡ true → in_term every_date d ≡ true
unfolding in_term
all_in d e = rw (first_of_all d e, last_of_all d e)

within-every : (xs : List Dated) → all_dates xs ≡ true → within every_date xs ≡ entry_list xs
within-every [] e = refl
within-every (x ∷ xs) e =
    rw (all_in x.date (and_fst (is_date x.date) (all_dates xs) e))
    (ap (λ es. x.entry ∷ es) (within-every xs (and_snd (is_date x.date) (all_dates xs) e)))

-- ── terms that part the tape's days ──
-- in how many of the terms a date lies
abbrev pub terms_with : List Term → Date → ℕ
terms_with [] d = 0
terms_with (t ∷ ts) d = cond (in_term t d) 1 0 + terms_with ts d

-- 02: "terms that part the tape's days": each letter's date lies in exactly one of them
abbrev pub PartDays : List Term → List Dated → Type 0
PartDays ts xs = All (λ x. terms_with ts x.date ≡ 1) xs

-- the litres of an account in each of the terms, added up
abbrev pub total_over : (account : ℕ) → List Term → List Dated → ℕ
total_over a [] xs = 0
total_over a (t ∷ ts) xs = total a (within t xs) + total_over a ts xs

-- the litres of one letter, if it goes to the account
abbrev litres_to : (account : ℕ) → ℕ × ℕ → ℕ
litres_to a e = cond (eqb e.1 a) (litres e.0) 0

-- a letter counts once for each term that its date lies in
over_one : (a : ℕ) (ts : List Term) (x : Dated) (xs : List Dated)
    → total_over a ts (x ∷ xs) ≡ terms_with ts x.date * litres_to a x.entry + total_over a ts xs
unfolding total
over_one a [] x xs = omega arith
over_one a (t ∷ ts) x xs = go (in_term t x.date) (over_one a ts x xs)
  where
    go : (b : Bool) → total_over a ts (x ∷ xs) ≡ terms_with ts x.date * litres_to a x.entry + total_over a ts xs
        → total a (cond b (x.entry ∷ within t xs) (within t xs)) + total_over a ts (x ∷ xs)
        ≡ (cond b 1 0 + terms_with ts x.date) * litres_to a x.entry + (total a (within t xs) + total_over a ts xs)
    go true e = omega arith
    go false e = omega arith

over_none : (a : ℕ) (ts : List Term) → total_over a ts [] ≡ 0
unfolding total
over_none a [] = refl
over_none a (t ∷ ts) = omega (arith, over_none a ts)

pub terms_add_up : (a : ℕ) (ts : List Term) (xs : List Dated) → PartDays ts xs → total_over a ts xs ≡ total a (entry_list xs)
unfolding total
terms_add_up a ts [] h = over_none a ts
terms_add_up a ts (x ∷ xs) h =
    over_one a ts x xs ∙ ap (λ k. k * litres_to a x.entry + total_over a ts xs) h.0
    ∙ (let e = terms_add_up a ts xs h.1 in omega arith)

-- the litres of an account in each of some totals, added up
abbrev pub sum_account : (account : ℕ) → List (Result (List ℕ) TermRefusal) → ℕ
sum_account a [] = 0
sum_account a (r ∷ rs) = get_or (term_litres r) a 0 + sum_account a rs

-- ── accounts ──
total_at : (es : Entries) (a : ℕ) → a < account_limit + 1 → get_or (totals es) a 0 ≡ total a es
unfolding totals
total_at es a h = getD_totals (account_limit + 1) a es h

-- over known accounts the totals add up to the digits
sum-digits : (es : Entries) → All (λ e. e.1 < account_limit + 1) es → sum_list (totals es) ≡ digits (letters es)
unfolding totals
sum-digits es h = sum-totals (account_limit + 1) es ∙ totals_add (account_limit + 1) es h

clear_litres : (p : Pattern) (code : List ℕ) (count : ℕ) → Clear (code_order p code count) → (t : Result (List ℕ) Refusal) → Totals p code count t
    → totalled_litres t ≡ totals (entries_of (root p) code count)
clear_litres p code count c t g =
    let es = entries_of (root p) code count in
    ap totalled_litres (totals_one p code count t (Ok (totals es)) g (totals-added p code count c (totals es) refl))

-- 02, Job 7: "There are 201 totals", refused or not
pub term_litres_many : (p : Pattern) (code : List ℕ) (count : ℕ) (start : Date) (term : Term)
    → length (terms_litres p code count start term) ≡ account_limit + 1
unfolding terms_litres
term_litres_many p code count start term =
    many_or_none (eqb (terms_answer p code count start term).number 0) (within term (dated start (entries_of (root p) code count)))

zeros : (b : Bool) → cond b (totals []) no_litres ≡ no_litres
zeros true = no_entries
zeros false = refl

no_terms : (es : Entries) (d : Date) → PartDays [] (dated d es) → es ≡ []
no_terms [] d h = refl
no_terms (e ∷ es) d h = absurd (omega (arith, h.0))

module _ (p : Pattern) (code : List ℕ) (count : ℕ) (start : Date) where
  -- the tape's letters with their accounts and dates
  abbrev pub tape_dated : List Dated
  tape_dated = dated start (entries_of (root p) code count)

  module _ (term : Term) (r : Result (List ℕ) TermRefusal) (h : TermTotals p code count start term r) where
    -- where nothing is refused
    added-sums : IsOk r → term_litres r ≡ totals (within term tape_dated)
    added-sums e = ap term_litres (terms_added p code count start term r h (terms_none p code count start term r h e))

    -- 02: "A term outside the tape totals 0."
    pub term_outside : Outside term tape_dated → term_litres r ≡ no_litres
    unfolding terms_litres
    term_outside k =
        h.gives
        ∙ ap (λ es. cond (eqb (terms_answer p code count start term).number 0) (totals es) no_litres) (outside_none term tape_dated k)
        ∙ zeros (eqb (terms_answer p code count start term).number 0)

    pub before-tape : is_after start term.last ≡ true → term_litres r ≡ no_litres
    before-tape e = term_outside (term_before term start e (entries_of (root p) code count))

    pub behind-tape : (es : Entries) (e : ℕ × ℕ) → entries_of (root p) code count ≡ es ++ (e ∷ [])
        → is_after term.first (date_behind start (letters es)) ≡ true → term_litres r ≡ no_litres
    behind-tape es e q a = term_outside (subst (λ fs. Outside term (dated start fs)) (sym q) (term_behind term start es e a))

    -- a term's totals add up to the digits of its letters
    pub term_digits : IsOk r → sum_list (term_litres r) ≡ digits (letters (within term tape_dated))
    term_digits e =
        let es = entries_of (root p) code count in
        let clear = (terms_none p code count start term r h e).clear in
        let known = root-accounts p (clear_sound p code count clear).good in
        ap sum_list (added-sums e)
        ∙ sum-digits (within term (dated start es))
        (within_all (λ x. x.1 < account_limit + 1) term (dated start es)
        (subst (All (λ x. x.1 < account_limit + 1)) (sym (dated-entries es start))
        (entries_few (account_limit + 1) (root p) known (omega arith) code count)))

  -- the term of all days has the totals of the whole tape
  pub term_of_all : (r : Result (List ℕ) TermRefusal) → TermTotals p code count start every_date r → IsOk r
      → (t : Result (List ℕ) Refusal) → Totals p code count t → term_litres r ≡ totalled_litres t
  unfolding dates_good
  term_of_all r h e t g =
      let k = terms_none p code count start every_date r h e in
      let es = entries_of (root p) code count in
      added-sums every_date r h e
      ∙ ap totals (within-every (dated start es) (and_snd (is_date start) (all_dates (dated start es)) k.dates) ∙ dated-entries es start)
      ∙ sym (clear_litres p code count k.clear t g)

  -- ── 02: "Totals over terms that part the tape's days add up to those of the whole tape." ──
  -- each of the terms is totalled, and none is refused
  abbrev pub EachAdded : List Term → List (Result (List ℕ) TermRefusal) → Type 0
  EachAdded [] [] = Unit {0}
  EachAdded [] (r ∷ rs) = ⊥
  EachAdded (t ∷ ts) [] = ⊥
  EachAdded (t ∷ ts) (r ∷ rs) = (TermTotals p code count start t r) × IsOk r × EachAdded ts rs

  each_over : (a : ℕ) → a < account_limit + 1 → (ts : List Term) (rs : List (Result (List ℕ) TermRefusal)) → EachAdded ts rs
      → sum_account a rs ≡ total_over a ts tape_dated
  each_over a h [] [] k = refl
  each_over a h [] (r ∷ rs) k = absurd k
  each_over a h (t ∷ ts) [] k = absurd k
  each_over a h (t ∷ ts) (r ∷ rs) k =
      let one = ap (λ s. get_or s a 0) (added-sums t r k.0 k.1)
      ∙ total_at (within t tape_dated) a h in
      let more = each_over a h ts rs k.2 in
      omega arith

  -- the whole tape is totalled too, or has no letter
  whole-litres : (ts : List Term) (rs : List (Result (List ℕ) TermRefusal)) → EachAdded ts rs → PartDays ts tape_dated → (t : Result (List ℕ) Refusal) → Totals p code count t
      → totalled_litres t ≡ totals (entries_of (root p) code count)
  unfolding totals_litres
  whole-litres [] [] k d t g =
      let none = no_terms (entries_of (root p) code count) start d in
      g.gives ∙ ap (λ es. cond (eqb (totals_answer p code count).number 0) (totals es) no_litres) none
      ∙ zeros (eqb (totals_answer p code count).number 0) ∙ sym no_entries ∙ ap totals (sym none)
  whole-litres [] (r ∷ rs) k d t g = absurd k
  whole-litres (f ∷ ts) [] k d t g = absurd k
  whole-litres (f ∷ ts) (r ∷ rs) k d t g =
      clear_litres p code count (terms_none p code count start f r k.0 k.1).clear t g

  pub terms_part : (ts : List Term) (rs : List (Result (List ℕ) TermRefusal)) → EachAdded ts rs → PartDays ts tape_dated
      → (t : Result (List ℕ) Refusal) → Totals p code count t → (a : ℕ) → a < account_limit + 1 → sum_account a rs ≡ get_or (totalled_litres t) a 0
  terms_part ts rs k d t g a h =
      let es = entries_of (root p) code count in
      each_over a h ts rs k ∙ terms_add_up a ts (dated start es) d ∙ ap (total a) (dated-entries es start)
      ∙ sym (ap (λ s. get_or s a 0) (whole-litres ts rs k d t g) ∙ total_at es a h)
