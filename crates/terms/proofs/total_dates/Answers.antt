-- `terms::total_dates` meets its contract.
use Rattle.std.proofs.Common.{◌≡◌, true, false, Err, sym, ap, ◌∙◌}
use Rattle.calendar.specs.declared.Date.{Date}
use Rattle.semantics.specs.Accounts.{totals}
use Rattle.entries.specs.Entries.{Entries}
use Rattle.terms.specs.declared.Term.{Term}
use Rattle.terms.specs.declared.TermRefusal.TheVariants.{TapeUndated, NotATerm}
use Rattle.terms.specs.Terms.{dates_good, is_term, dates_answer, dates_litres, DatesTotals}
use Rattle.terms.specs.Days.{dates_tested}
use Rattle.terms.specs.TermWays.{dates-added}
use Rattle.terms.proofs.total_dates.Goals as goal

-- the two causes: here, since they rest on what `term_litres` says of a refusal
module _ (start : Date) (term : Term) (es : Entries) where
  undated : dates_good start es ≡ false → DatesTotals start term es (Err TapeUndated)
  unfolding dates_answer dates_litres
  undated e = record { answers = rw e; gives = rw e }

  no_term : dates_good start es ≡ true → is_term term ≡ false → DatesTotals start term es (Err NotATerm)
  unfolding dates_answer dates_litres
  no_term e f = record { answers = rw (e, f); gives = rw (e, f) }

pub returns-then-not-is_date : goal.returns-then-not-is_date
returns-then-not-is_date c =
    let tested = dates_tested _ _ _ c.args.accounts.now c.requires.0 c.requires.2.wide _ c.last_date.ensures _ c.is_date.ensures in
    undated _ _ _ (tested ∙ c.if-not-is_date.true)

pub returns-then-not-is_term : goal.returns-then-not-is_term
returns-then-not-is_term c =
    let tested = dates_tested _ _ _ c.args.accounts.now c.requires.0 c.requires.2.wide _ c.last_date.ensures _ c.is_date.ensures in
    no_term _ _ _ (tested ∙ c.if-not-is_date.false) (sym c.is_term.ensures ∙ c.if-not-is_term.true)

pub returns : goal.returns
returns c =
    let tested = dates_tested _ _ _ c.args.accounts.now c.requires.0 c.requires.2.wide _ c.last_date.ensures _ c.is_date.ensures in
    dates-added _ _ _ (tested ∙ c.if-not-is_date.false) (sym c.is_term.ensures ∙ c.if-not-is_term.false) _
    (c.add_up.ensures ∙ ap totals c.select_term-kept.ensures.is)
