-- `desk::checks::check_put` meets its contract.
use Rattle.std.proofs.Common.{length}
use Rattle.std.proofs.lemmas.Result.{err_from_is_err_and}
use Rattle.refusals.specs.CheckLaws.{first_more}
use Rattle.desk.specs.Desks.{held, lent_order, page_order}
use Rattle.desk.specs.Checking.{not_taken, when_taken, lent_cells, checks_behind}
use Rattle.desk.proofs.checks.check_put.Goals as goal

pub returns-in_err-check_lent : goal.returns-in_err-check_lent
returns-in_err-check_lent c =
    let p = err_from_is_err_and c.from_residual.result c.from_residual.ensures.1 in
    rw (p.1, p.2) (first_more {cs = lent_order c.args.p (length c.args.letters.now)} _ (not_taken (lent_order c.args.p (length c.args.letters.now)) _ c.check_lent.ensures _ c.in_err-check_lent.was))

pub returns : goal.returns
returns c = checks_behind (lent_order c.args.p (length c.args.letters.now)) (page_order c.args.desk.now c.args.page.now c.args.letters.now c.args.words) (held c.args.desk.now) _
    (when_taken (lent_order c.args.p (length c.args.letters.now)) _ c.check_lent.ensures c.in_ok-check_lent.was) c.check_page.ensures
