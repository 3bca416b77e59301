-- `desk::checks::check_open` meets its contract.
use Rattle.std.proofs.Common.{sym, ◌∙◌}
use Rattle.desk.specs.Checking.{open_2, open_6}
use Rattle.desk.proofs.checks.check_open.Goals as goal

pub returns-then-not-obeys_rules : goal.returns-then-not-obeys_rules
returns-then-not-obeys_rules c = rw c.into.ensures (open_2 _ c.args.words (sym c.obeys_rules.ensures ∙ c.if-not-obeys_rules.true))

pub returns-then-words-lt2 : goal.returns-then-words-lt2
returns-then-words-lt2 c = rw c.into-then-words-lt2.ensures
    (open_6 _ _ (sym c.obeys_rules.ensures ∙ c.if-not-obeys_rules.false) c.if-words-lt2.true)
