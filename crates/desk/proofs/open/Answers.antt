-- `desk::open` meets its contract.
use Rattle.std.proofs.Common.{refl, length}
use Rattle.std.proofs.lemmas.Result.{err_from_is_err_and}
use Rattle.syntax.specs.TreeLaws.{obeys_iff}
use Rattle.desk.specs.Desks.{open_order}
use Rattle.desk.specs.Checking.{not_taken, when_taken, open_told}
use Rattle.desk.proofs.DeskWays.{open_refused, open_clear}
use Rattle.desk.proofs.open.Goals as goal

pub returns-in_err-check_open : goal.returns-in_err-check_open
returns-in_err-check_open c =
    let p = err_from_is_err_and c.from_residual.result c.from_residual.ensures.1 in
    rw (p.1, p.2) (open_refused c.args.p c.args.desk.now c.args.words.now _ (not_taken _ _ c.check_open.ensures _ c.in_err-check_open.was))

pub table_of-table-requires : goal.table_of-table-requires
table_of-table-requires c =
    let clear = when_taken (open_order c.args.p (length c.args.words.now)) _ c.check_open.ensures c.in_ok-check_open.was in
    (obeys_iff _).0 (open_told c.args.p (length c.args.words.now) clear).0

pub put_end-requires : goal.put_end-requires
put_end-requires c =
    let clear = when_taken (open_order c.args.p (length c.args.words.now)) _ c.check_open.ensures c.in_ok-check_open.was in
    let told = open_told c.args.p (length c.args.words.now) clear in
    ((obeys_iff _).0 told.0, c.table_of-table.ensures, told.1)

pub returns : goal.returns
returns c =
    let clear = when_taken (open_order c.args.p (length c.args.words.now)) _ c.check_open.ensures c.in_ok-check_open.was in
    open_clear c.args.p c.args.desk.now c.args.words.now clear _ c.put_end.ensures
