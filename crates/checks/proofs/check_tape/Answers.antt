-- `checks::check_tape` meets its contract.
use mathlib.Core.Path.{sym, ◌∙◌}
use native.Mathlib.Omega.{arith}
use Rattle.checks.specs.TapeLaws.{check_2, check_4, check_taken}
use Rattle.checks.proofs.check_tape.Goals as goal

pub returns-then-not-obeys_rules : goal.returns-then-not-obeys_rules
returns-then-not-obeys_rules c = check_2 _ _ (sym c.obeys_rules.ensures ∙ c.if-not-obeys_rules.true)

pub returns-then-bad-n : goal.returns-then-bad-n
returns-then-bad-n c =
    check_4 _ _ (sym c.obeys_rules.ensures ∙ c.if-not-obeys_rules.false) (omega arith) _ c.first_bad-bad.ensures c.if-bad-n.true

pub returns : goal.returns
returns c = check_taken _ _ (record {
  good = sym c.obeys_rules.ensures ∙ c.if-not-obeys_rules.false;
  few = omega arith;
  letters = omega (arith, c.first_bad-bad.ensures, c.if-bad-n.false);
})
