-- `masks::follows::hand_on` meets its contract.
use Rattle.masks.specs.Follows.{handed}
use Rattle.masks.proofs.follows.hand_on.Goals as goal

pub returns : goal.returns
returns c = handed _ _ _ c.requires.0 c.requires.1 c.requires.2 c.second_part.ensures c.first_part.ensures c.to_first.ensures
