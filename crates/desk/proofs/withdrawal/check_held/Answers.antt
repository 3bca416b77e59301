-- `desk::withdrawal::check_held` meets its contract.
use Rattle.std.proofs.Common.{◌≡◌, arith, None, Some}
use Rattle.std.proofs.lemmas.Result.{err_from_is_err_and}
use Rattle.desk.specs.declared.DeskRefusal.TheVariants.{DeskLimits}
use Rattle.desk.specs.Checking.{withdraw_13, withdraw_15, withdraw_clear}
use Rattle.desk.proofs.withdrawal.check_held.Goals as goal

pub returns-in_err-held : goal.returns-in_err-held
returns-in_err-held c =
    let none : c.limits_held.result ≡ None = grind arith in
    let p = err_from_is_err_and c.from_residual.result c.from_residual.ensures.1 in
    let why : c.in_err-held.field-0.0 ≡ DeskLimits = grind arith in
    rw (p.1, p.2, why) (withdraw_13 _ c.args.letters.now _ c.limits_held.ensures none)

pub returns-then-desk-eq0 : goal.returns-then-desk-eq0
returns-then-desk-eq0 c =
    let there : c.limits_held.result ≡ Some c.in_ok-held.held = grind arith in
    withdraw_15 _ c.args.letters.now _ c.limits_held.ensures _ there c.if-desk-eq0.true

pub returns : goal.returns
returns c =
    let there : c.limits_held.result ≡ Some c.in_ok-held.held = grind arith in
    withdraw_clear _ c.args.letters.now _ c.limits_held.ensures _ there c.if-desk-eq0.false
