-- `wumbyra::wumbyra_locate` meets its contract.
use Rattle.wumbyra.specs.PackedLaws.{locate_packed}
use Rattle.wumbyra.proofs.wumbyra_locate.Goals as goal

pub returns : goal.returns
returns c = locate_packed _ _ c.pattern_of.ensures _ _ c.locate.ensures _ c.of_located.ensures
