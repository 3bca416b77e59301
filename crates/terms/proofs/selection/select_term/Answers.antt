-- `terms::selection::select_term` meets its contract.
use Rattle.std.proofs.Common.{◌≡◌, get_or, ◌∙◌}
use Rattle.terms.specs.Terms.{after_letter}
use Rattle.terms.specs.Days.{day_of}
use Rattle.terms.specs.TermWays.{day_stays, day-steps}
use Rattle.terms.specs.Selection.{select_kept, select_passed}
use Rattle.terms.proofs.selection.select_term.Goals as goal
use Rattle.terms.proofs.selection.select_term.Goals.{then-day, else-day, then-c-eq-DAY_END, else-c-eq-DAY_END}

pub loop-i-preserved : goal.loop-i-preserved
loop-i-preserved c =
    let here = c.loop-i.invariant in
    let more = c.loop-i-test.true in
    let next : c.if-c-eq-DAY_END.day ≡ day_of c.args.term (after_letter (get_or c.loop-i.letters c.loop-i.i 0) c.loop-i.day.date) =
    elim c.if-c-eq-DAY_END.branch [
      | then-c-eq-DAY_END w ↦
          w.day-is ∙ day-steps _ c.loop-i.day _ w.if-c-eq-DAY_END.true _ w.next_date.ensures _ w.day_of-day-then-c-eq-DAY_END.ensures
      | else-c-eq-DAY_END w ↦ w.day-is ∙ day_stays _ _ _ here.on w.if-c-eq-DAY_END.false
    ] in
    elim c.if-day.branch [
      | then-day w ↦ rw (w.letters-is, w.accounts-is, w.kept-is) (select_kept here more _ next w.if-day.true)
      | else-day w ↦ rw (w.letters-is, w.accounts-is, w.kept-is) (select_passed here more _ next w.if-day.false)
    ]
