use mathlib.Core.Path.{refl}
use Rattle.masks.specs.Making.{none_marked, holds_maskable}
use Rattle.first_sweep.specs.Growing.{end-words}
use Rattle.first_sweep.proofs.put_end.Goals as goal

pub put_masks-end-requires : goal.put_masks-end-requires
put_masks-end-requires c = (holds_maskable _ c.requires.0 _ c.requires.1, record { zeros = none_marked 64; ones = none_marked 64 })

pub returns : goal.returns
returns c = end-words _ c.requires.0 _ _ _ _ _ _ _ _ c.requires.1 c.put_masks-end.ensures c.requires.2 c.put_words.ensures refl refl
