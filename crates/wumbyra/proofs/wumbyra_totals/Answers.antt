-- `wumbyra::wumbyra_totals` meets its contract.
use Rattle.wumbyra.specs.PackedLaws.{totals-packed}
use Rattle.wumbyra.proofs.wumbyra_totals.Goals as goal

pub returns : goal.returns
returns c = totals-packed _ _ c.pattern_of.ensures _ _ _ c.totals.ensures _ _ _ c.give_litres.ensures
