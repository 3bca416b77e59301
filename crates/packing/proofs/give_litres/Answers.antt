-- `packing::give_litres` meets its contract.
use Rattle.std.proofs.Common.{sym, subst, length}
use Rattle.totals.specs.Totals.{no_litres}
use Rattle.packing.specs.Cells.{Gives}
use Rattle.packing.specs.CellsLaws.{gives_all, none_beyond}
use Rattle.packing.proofs.give_litres.Goals as goal

pub returns-in-Ok : goal.returns-in-Ok
returns-in-Ok g c = rw c.in-Ok.is
    (subst (λ a. Gives a c.in-Ok.litres c.args.cells.now c.give_totals.new.cells c.give_totals.result) c.packed.ensures c.give_totals.ensures)

pub returns-in-Err : goal.returns-in-Err
returns-in-Err g c = rw c.in-Err.is
    (gives_all _ no_litres c.args.cells.now _ _ (sym (none_beyond (length c.args.cells.now))) c.no_totals.ensures c.of_cause.ensures)
