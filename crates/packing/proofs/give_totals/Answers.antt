-- `packing::give_totals` meets its contract.
use mathlib.Core.Path.{refl, sym, ◌∙◌}
use Rattle.packing.specs.CellsLaws.{gives_none, gives_all}
use Rattle.packing.proofs.give_totals.Goals as goal

pub returns-then-litres_beyond : goal.returns-then-litres_beyond
returns-then-litres_beyond c = gives_none _ _ _ _ _ (sym c.if-litres_beyond.true ∙ c.litres_beyond.ensures) c.no_totals.ensures c.packed.ensures

pub returns-else-litres_beyond : goal.returns-else-litres_beyond
returns-else-litres_beyond c = gives_all _ _ _ _ _ (sym c.if-litres_beyond.false ∙ c.litres_beyond.ensures) c.put_totals.ensures refl
