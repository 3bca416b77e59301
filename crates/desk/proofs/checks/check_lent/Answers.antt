-- `desk::checks::check_lent` meets its contract.
use Rattle.std.proofs.Common.{sym, ◌∙◌}
use Rattle.desk.specs.Checking.{lent_2, lent_9}
use Rattle.desk.proofs.checks.check_lent.Goals as goal

pub returns-then-not-obeys_rules : goal.returns-then-not-obeys_rules
returns-then-not-obeys_rules c = rw c.into.ensures (lent_2 _ c.args.cells (sym c.obeys_rules.ensures ∙ c.if-not-obeys_rules.true))

pub returns-then-cells-lt-MAX_LETTERS : goal.returns-then-cells-lt-MAX_LETTERS
returns-then-cells-lt-MAX_LETTERS c = rw c.into-then-cells-lt-MAX_LETTERS.ensures
    (lent_9 _ _ (sym c.obeys_rules.ensures ∙ c.if-not-obeys_rules.false) c.if-cells-lt-MAX_LETTERS.true)
