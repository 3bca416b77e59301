-- `wumbyra::wumbyra_parse` meets its contract.
use Rattle.wumbyra.specs.PackedLaws.{parse_packed}
use Rattle.wumbyra.proofs.wumbyra_parse.Goals as goal

pub returns : goal.returns
returns c = parse_packed _ _ c.pattern_of.ensures _ _ _ _ _ _ c.parse.ensures _ c.of_answer.ensures
