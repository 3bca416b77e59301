-- `masks::scatter::put_between` meets its contract.
use Rattle.masks.specs.Scatter.{Marking, between}
use Rattle.masks.proofs.scatter.put_between.Given as goal

abbrev pub invariant-loop-c : goal.invariant-loop-c
invariant-loop-c l = Marking (between l.low l.high) l.i l.initial.cells (between l.c l.high) l.cells
