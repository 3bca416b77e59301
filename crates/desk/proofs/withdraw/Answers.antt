-- `desk::withdraw` meets its contract.
use Rattle.std.proofs.Common.{arith}
use Rattle.std.proofs.lemmas.Result.{err_from_is_err_and}
use Rattle.desk.specs.Pages.{less-held}
use Rattle.desk.proofs.DeskWays.{withdraw_why, withdraw_held, takeable, withdraw_done}
use Rattle.desk.proofs.withdraw.Goals as goal

pub returns-in_err-held : goal.returns-in_err-held
returns-in_err-held c =
    let p = err_from_is_err_and c.from_residual.result c.from_residual.ensures.1 in
    rw (p.1, p.2) (withdraw_why c.args.p c.args.desk.now c.args.letters.now _ c.check_withdraw.ensures _ c.in_err-held.was)

pub take_off-left-requires : goal.take_off-left-requires
take_off-left-requires c =
    let may = takeable c.args.p c.args.desk.now c.args.letters.now _ c.check_withdraw.ensures _ c.in_ok-held.was in
    (may.0, may.1, may.2)

pub overflow_cast-result : goal.overflow_cast-result
overflow_cast-result c =
    let may = takeable c.args.p c.args.desk.now c.args.letters.now _ c.check_withdraw.ensures _ c.in_ok-held.was in
    record { fits = omega (arith, may.2, may.3, less-held c.args.desk.now may.0, c.take_off-left.ensures.1) }

pub returns : goal.returns
returns c = withdraw_done c.args.p c.args.desk.now c.args.letters.now
    (withdraw_held c.args.p c.args.desk.now c.args.letters.now _ c.check_withdraw.ensures _ c.in_ok-held.was).0
    _ _ c.take_off-left.ensures.0 c.take_off-left.ensures.1
