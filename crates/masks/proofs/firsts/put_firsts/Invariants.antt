-- `masks::firsts::put_firsts` meets its contract.
use Rattle.table.specs.Cells.{line_in}
use Rattle.masks.specs.Firsts.{Firsts}
use Rattle.masks.proofs.firsts.put_firsts.Given as goal

abbrev pub invariant-loop-i : goal.invariant-loop-i
invariant-loop-i l = Firsts (line_in l.table) l.i l.firsts
