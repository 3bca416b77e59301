-- `masks::follows::put_follows` meets its contract.
use Rattle.table.specs.Cells.{line_in}
use Rattle.table.specs.HandDown.{Rooted}
use Rattle.masks.specs.Firsts.{Firsts}
use Rattle.masks.specs.Follows.{Down}
use Rattle.masks.proofs.follows.put_follows.Given as goal

abbrev pub invariant-loop-i : goal.invariant-loop-i
invariant-loop-i l = Rooted (line_in l.table) l.count × Firsts (line_in l.table) l.count l.firsts × Down (line_in l.table) l.count l.i l.follows
