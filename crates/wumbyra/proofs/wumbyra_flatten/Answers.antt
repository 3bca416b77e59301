-- `wumbyra::wumbyra_flatten` meets its contract.
use Rattle.wumbyra.specs.PackedLaws.{flatten_packed}
use Rattle.wumbyra.proofs.wumbyra_flatten.Goals as goal

pub returns : goal.returns
returns c = flatten_packed _ _ c.pattern_of.ensures _ _ _ _ _ c.flatten.ensures _ c.of_answer.ensures
