-- `first_sweep::grow` meets its contract: the masks are made as in `fill`.
use mathlib.Core.Path.{refl}
use Rattle.masks.specs.Leaves.{letter_cells}
use Rattle.masks.specs.Making.{none_marked, holds_maskable, masks-of-pattern}
use Rattle.first_sweep.specs.Growing.{grown-words}
use Rattle.first_sweep.proofs.grow.Goals as goal

pub put_masks-next-requires : goal.put_masks-next-requires
put_masks-next-requires c = (holds_maskable _ c.requires.0.rules _ c.requires.1, record { zeros = none_marked 64; ones = none_marked 64 })

pub put_takers-requires : goal.put_takers-requires
put_takers-requires c = let table = holds_maskable _ c.requires.0.rules _ c.requires.1 in
    (table.whole.few, table.good, none_marked letter_cells)

pub returns : goal.returns
returns c = grown-words _ _ _ _ _ _ _ _ _ _ _ _ _ _ c.requires.0 c.requires.1
    (masks-of-pattern _ c.requires.0.rules _ c.requires.1 _ _ _ _ c.put_masks-next.ensures c.put_takers.ensures)
    c.sweep.ensures refl refl refl
