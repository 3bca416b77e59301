-- `packing::put_totals` meets its contract.
use Rattle.packing.specs.Laying.{laid}
use Rattle.packing.proofs.put_totals.Goals as goal

pub returns : goal.returns
returns c = laid c.args.totals.now c.args.cells.now _ _ c.min-n.ensures c.copy_from_slice.ensures.after
