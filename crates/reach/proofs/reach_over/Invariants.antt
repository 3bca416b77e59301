-- `reach::reach_over` meets its contract.
use Rattle.reach.specs.Reaching.{Reading}
use Rattle.reach.proofs.reach_over.Given as goal

abbrev pub invariant-loop-i : goal.invariant-loop-i
invariant-loop-i l = Reading l.one l.table l.takers l.count l.tape l.i l.nodes
