-- `packing::no_totals` meets its contract.
use Rattle.packing.specs.Laying.{laid_zeros}
use Rattle.packing.proofs.no_totals.Goals as goal

pub returns : goal.returns
returns c = laid_zeros c.args.cells.now _ _ c.min-n.ensures (c.fill.ensures.after (λ y e. e))
