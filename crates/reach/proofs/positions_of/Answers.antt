-- `reach::positions_of` meets its contract.
use native.Mathlib.Omega.{arith}
use Rattle.masks.specs.Leaves.{letter_cells}
use Rattle.masks.specs.Making.{none_marked, holds_maskable, masks-of-pattern}
use Rattle.reach.specs.Reaching.{told, reach_fits, resume_fits}
use Rattle.reach.proofs.positions_of.Goals as goal

pub put_masks-end-requires : goal.put_masks-end-requires
put_masks-end-requires c = (holds_maskable _ c.requires.0.rules _ c.requires.1, record { zeros = none_marked 64; ones = none_marked 64 })

pub put_takers-requires : goal.put_takers-requires
put_takers-requires c = let table = holds_maskable _ c.requires.0.rules _ c.requires.1 in
    (table.whole.few, table.good, none_marked letter_cells)

pub overflow_cast-result : goal.overflow_cast-result
overflow_cast-result c = omega (
  arith,
  reach_fits c.requires.0 c.requires.1
      (masks-of-pattern _ c.requires.0.rules _ c.requires.1 _ _ _ _ c.put_masks-end.ensures c.put_takers.ensures) _ c.reach_over-reach.ensures,
)

pub overflow_cast-result-2 : goal.overflow_cast-result-2
overflow_cast-result-2 c = omega (
  arith,
  resume_fits c.requires.0 c.requires.1
      (masks-of-pattern _ c.requires.0.rules _ c.requires.1 _ _ _ _ c.put_masks-end.ensures c.put_takers.ensures) _ c.resume_over-resume.ensures,
)

pub returns : goal.returns
returns c = told c.requires.0 c.requires.1
    (masks-of-pattern _ c.requires.0.rules _ c.requires.1 _ _ _ _ c.put_masks-end.ensures c.put_takers.ensures) _ _
    c.reach_over-reach.ensures c.resume_over-resume.ensures
