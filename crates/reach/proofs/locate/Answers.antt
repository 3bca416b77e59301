-- `reach::locate` meets its contract.
use Rattle.std.proofs.Common.{refl}
use Rattle.std.proofs.lemmas.Result.{err_from_is_err_and}
use Rattle.syntax.specs.TreeLaws.{obeys_iff}
use Rattle.checks.specs.TapeLaws.{is_taken}
use Rattle.reach.specs.LocateLaws.{locatable, locate_refused, locate_told}
use Rattle.reach.proofs.locate.Goals as goal

pub returns-in_err-check_tape : goal.returns-in_err-check_tape
returns-in_err-check_tape c =
    let p = err_from_is_err_and c.from_residual.result c.from_residual.ensures.1 in
    rw (p.1, p.2) (locate_refused _ _ _ (c.in_err-check_tape.ensures.refuses _ refl))

pub table_of-table-requires : goal.table_of-table-requires
table_of-table-requires c = (obeys_iff _).0 (is_taken _ _ _ c.in_ok-check_tape.ensures refl).good

pub positions_of-requires : goal.positions_of-requires
positions_of-requires c = (locatable _ _ (is_taken _ _ _ c.in_ok-check_tape.ensures refl), c.table_of-table.ensures)

pub returns : goal.returns
returns c = locate_told _ _ (is_taken _ _ _ c.in_ok-check_tape.ensures refl) _ c.positions_of.ensures
