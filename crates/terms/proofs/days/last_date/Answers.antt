-- `terms::days::last_date` meets its contract.
use Rattle.std.proofs.Common.{take, sym, ap, ◌∙◌}
use Rattle.terms.specs.Terms.{after_letter}
use Rattle.terms.specs.Days.{behind_next}
use Rattle.terms.proofs.days.last_date.Goals as goal

pub loop-c-preserved : goal.loop-c-preserved
loop-c-preserved c =
    c.after_letter-date.ensures ∙ ap (after_letter _) c.loop-c.invariant
    ∙ sym (behind_next (take c.saturating_sub.result c.args.letters.now) c.loop-c.c-index c.args.start c.loop-c-test.true)
