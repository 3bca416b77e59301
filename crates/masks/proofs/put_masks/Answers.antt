-- `masks::put_masks` meets its contract.
use Rattle.masks.specs.Making.{masks-made}
use Rattle.masks.proofs.put_masks.Goals as goal

pub returns : goal.returns
returns c = masks-made _ _ c.requires.0 _ _ _ _ _ c.put_firsts.ensures c.put_follows.ensures
    c.put_columns.ensures c.put_columns-2.ensures c.ends_of.ensures
