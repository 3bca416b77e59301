-- `terms::term_totals` meets its contract.
use Rattle.std.proofs.Common.{◌≡◌, Err, sym, rules}
use Rattle.terms.specs.declared.TermRefusal.TheVariants.{Base}
use Rattle.terms.specs.TermWays.{refused-answer, refused-litres, first-base, term_totals-dated}
use Rattle.terms.proofs.term_totals.Goals as goal

pub returns-in_err-n : goal.returns-in_err-n
returns-in_err-n c =
    let why = Base c.in_err-n.field-0.0 in
    let e : c.from_residual.result ≡ Err why = search rules in
    let first = first-base _ _ _ _ _ (c.gather.ensures.refuses _ c.in_err-n.was) in
    rw e (record { answers = sym (refused-answer _ _ _ _ _ why first); gives = sym (refused-litres _ _ _ _ _ why first) })

pub total_dates-requires : goal.total_dates-requires
total_dates-requires c = (c.gather.ensures.holds _ c.in_ok-n.was).ready

pub returns : goal.returns
returns c =
    let held = c.gather.ensures.holds _ c.in_ok-n.was in
    term_totals-dated _ _ _ _ _ held.clear _ held.entries _ c.total_dates.ensures
