-- `parser::parse` meets its contract.
use Rattle.std.proofs.Common.{◌≡◌, Err, refl, rules}
use Rattle.refusals.specs.CheckLaws.{first_more}
use Rattle.checks.specs.TapeLaws.{is_taken}
use Rattle.parser.specs.ParseLaws.{parse_refused}
use Rattle.parser.proofs.parse.Goals as goal

pub read-requires : goal.read-requires
read-requires c = is_taken _ _ _ c.in_ok-check_tape.ensures refl

pub returns-in_err-check_tape : goal.returns-in_err-check_tape
returns-in_err-check_tape c =
    let e : c.from_residual.result ≡ Err c.in_err-check_tape.field-0.0 = search rules in
    rw e (parse_refused _ _ _ _ _ (first_more _ (c.in_err-check_tape.ensures.refuses _ refl)))
