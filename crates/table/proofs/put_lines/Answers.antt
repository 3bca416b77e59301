-- `table::put_lines` meets its contract.
use Rattle.table.specs.CellLaws.{filled-start}
use Rattle.table.proofs.put_lines.Goals as goal

pub loop-i-init : goal.loop-i-init
loop-i-init c = rw c.requires.1 (filled-start _)
