-- `wumbyra::wumbyra_canonicalize` meets its contract.
use Rattle.wumbyra.specs.PackedLaws.{canonicalize-packed}
use Rattle.wumbyra.proofs.wumbyra_canonicalize.Goals as goal

pub returns : goal.returns
returns c = canonicalize-packed _ _ c.pattern_of.ensures _ _ _ _ _ _ _ _ _ c.canonicalize-settled.ensures _ c.of_answer.ensures
