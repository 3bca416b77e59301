-- `desk::put` meets its contract.
use Rattle.std.proofs.Common.{◌≡◌, arith, length}
use Rattle.std.proofs.lemmas.Result.{err_from_is_err_and}
use Rattle.refusals.specs.Checks.{Clear}
use Rattle.desk.specs.Desks.{held, put_order}
use Rattle.desk.specs.Checking.{put-room, put-page_upto}
use Rattle.desk.proofs.DeskWays.{put_why, put-held, put-rules, behind_upto, put_growable, put-made}
use Rattle.desk.proofs.put.Goals as goal
use Rattle.desk.proofs.put.Goals.{In_ok-held}

pub returns-in_err-held : goal.returns-in_err-held
returns-in_err-held c =
    let p = err_from_is_err_and c.from_residual.result c.from_residual.ensures.1 in
    rw (p.1, p.2) (put_why c.args.p c.args.desk.now c.args.page.now c.args.letters.now c.args.words.now _ c.check_put.ensures _ c.in_err-held.was)

-- behind the checks: no cause holds, and the letters held are counted
clear_at : (c : In_ok-held) → Clear (put_order c.args.desk.now c.args.p c.args.page.now c.args.letters.now (length c.args.words.now))
    × (c.in_ok-held.held ≡ held c.args.desk.now)
clear_at c = put-held c.args.p c.args.desk.now c.args.page.now c.args.letters.now c.args.words.now _ c.check_put.ensures _ c.in_ok-held.was

pub table_of-table-requires : goal.table_of-table-requires
table_of-table-requires c =
    put-rules c.args.p c.args.desk.now c.args.page.now c.args.letters.now c.args.words.now (clear_at (goal.at.table_of-table-requires c).In_ok-held).0

pub grow-requires : goal.grow-requires
grow-requires c =
    let t = clear_at (goal.at.grow-requires c).In_ok-held in
    (put_growable c.args.p c.args.desk.now c.args.page.now c.args.letters.now c.args.words.now t.0 _ t.1, c.table_of-table.ensures)

pub overflow_sub-total : goal.overflow_sub-total
overflow_sub-total c =
    let t = clear_at (goal.at.overflow_sub-total c).In_ok-held in
    omega (arith, behind_upto c.args.p c.args.desk.now c.args.page.now c.args.letters.now c.args.words.now t.0 _ t.1)

pub put_on-requires : goal.put_on-requires
put_on-requires c =
    let t = clear_at (goal.at.put_on-requires c).In_ok-held in (
      put-room c.args.desk.now c.args.p c.args.page.now c.args.letters.now _ t.0,
      put-page_upto c.args.desk.now c.args.p c.args.page.now c.args.letters.now _ t.0,
    )

pub overflow_cast-result : goal.overflow_cast-result
overflow_cast-result c =
    let t = clear_at (goal.at.overflow_cast-result c).In_ok-held in
    record { fits = omega (arith, behind_upto c.args.p c.args.desk.now c.args.page.now c.args.letters.now c.args.words.now t.0 _ t.1) }

pub returns : goal.returns
returns c =
    let t = clear_at (goal.at.returns c).In_ok-held in
    put-made c.args.p c.args.desk.now c.args.page.now c.args.letters.now c.args.words.now t.0 _ t.1 _ _ _ c.put_on.ensures
    c.put_bytes.ensures.leaves c.grow.ensures
