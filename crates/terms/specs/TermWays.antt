-- What each way of a function on terms must show.
use Rattle.std.specs.Prelude.{◌≡◌, List, ℕ, Ok, Result}
use Rattle.std.proofs.Math.Path.{sym, ap}
use Rattle.std.proofs.Common.{◌∙◌, arith}
use Rattle.std.proofs.Math.Bool.{true, cond}
use Rattle.std.proofs.Math.Dec.{eqb}
use borrow.Author.Tests.{eq-eqb, ne_eqb}
use Rattle.syntax.specs.declared.Pattern.{Pattern}
use Rattle.syntax.specs.Trees.{root}
use Rattle.refusals.specs.declared.Refusal.{Refusal}
use Rattle.refusals.specs.Refusals.{answer}
use Rattle.refusals.specs.Checks.{wrapped, First, Clear}
use Rattle.refusals.specs.CheckLaws.{first_more, first_said, more_said, first_wrapped, clear_wrapped}
use Rattle.calendar.specs.declared.Date.{Date}
use Rattle.calendar.specs.Dates.{next_date}
use Rattle.semantics.specs.Accounts.{totals}
use Rattle.entries.specs.Entries.{Entries}
use Rattle.entries.specs.CodeOrder.{code_order}
use Rattle.entries.specs.Gather.{entries_of}
use Rattle.totals.specs.Totals.{no_litres}
use Rattle.terms.specs.declared.TermRefusal.{TermRefusal}
use Rattle.terms.specs.declared.Term.{Term}
use Rattle.terms.specs.declared.TermRefusal.TheVariants.{Base}
use Rattle.terms.specs.declared.days.Day.{Day}
use Rattle.terms.specs.Days.{day_of}
use Rattle.terms.specs.Terms.{day_end, after_letter, dated, within, dates_good, is_term, dates_answer, dates_litres, DatesTotals}
use Rattle.terms.specs.Terms.{term_number, term_refused, dates_order, terms_order, terms_answer, terms_litres, TermTotals}
use Rattle.terms.specs.Unique.{term_number_positive}

-- ── the day along `select_term` ──
module _ (t : Term) (day : Day) (c : ℕ) where
  pub day_stays : day ≡ day_of t day.date → (c ≡ day_end → ⊥) → day ≡ day_of t (after_letter c day.date)
  unfolding after_letter
  day_stays e h = rw (ne_eqb c day_end h) e

  pub day-steps : c ≡ day_end → (d : Date) → d ≡ next_date day.date → (r : Day) → r ≡ day_of t d → r ≡ day_of t (after_letter c day.date)
  unfolding after_letter
  day-steps e d h r g = rw (eq-eqb c day_end e) (g ∙ ap (day_of t) h)

-- ── `total_dates` ──
module _ (start : Date) (term : Term) (es : Entries) where
  pub dates-added : dates_good start es ≡ true → is_term term ≡ true → (s : List ℕ) → s ≡ totals (within term (dated start es))
      → DatesTotals start term es (Ok s)
  unfolding dates_answer dates_litres
  dates-added e f s h = record { answers = rw (e, f); gives = h ∙ rw (e, f) }

-- ── `term_totals` ──
module _ (p : Pattern) (code : List ℕ) (count : ℕ) (start : Date) (term : Term) where
  abbrev entries : Entries
  entries = entries_of (root p) code count

  -- the first cause that holds is answered, and all totals are 0
  module _ (why : TermRefusal) (f : First why (terms_order p code count start term)) where
    pub refused-answer : terms_answer p code count start term ≡ term_refused why
    unfolding terms_answer
    refused-answer = first_said term_refused f (answer 0 0)

    pub refused-litres : terms_litres p code count start term ≡ no_litres
    unfolding terms_litres
    refused-litres =
        let z = ne_eqb (term_number why) 0 (λ q. omega (arith, q, term_number_positive why)) in
        ap (λ b. cond b (totals (within term (dated start entries))) no_litres) (ap (λ a. eqb a.number 0) refused-answer ∙ z)

  -- so is one of the code's causes
  pub first-base : {why : Refusal} → First why (code_order p code count) → First (Base why) (terms_order p code count start term)
  first-base f = first_more (dates_order start term entries) (first_wrapped Base f)

  -- where none of these holds, the dates decide
  pub term_totals-dated : Clear (code_order p code count) → (es : Entries) → es ≡ entries_of (root p) code count → (r : Result (List ℕ) TermRefusal)
      → DatesTotals start term es r → TermTotals p code count start term r
  unfolding terms_answer terms_litres dates_answer dates_litres
  term_totals-dated c es e r t =
      let a = more_said term_refused (wrapped Base (code_order p code count)) (dates_order start term entries) (answer 0 0)
      (clear_wrapped Base (code_order p code count) c) in
      record {
        answers = t.answers ∙ ap (dates_answer start term) e ∙ sym a;
        gives = t.gives ∙ ap (λ fs. cond (eqb (dates_answer start term fs).number 0) (totals (within term (dated start fs))) no_litres) e
            ∙ sym (ap (λ x. cond (eqb x.number 0) (totals (within term (dated start entries))) no_litres) a);
      }
