-- `syntax::naming::unnamed_of` meets its contract.
use Rattle.std.proofs.Common.{◌-◌, ◌≤◌}
use Rattle.syntax.specs.Lowest.{Searched}
use Rattle.syntax.specs.Naming.{not_flagged}
use Rattle.syntax.proofs.naming.unnamed_of.Given as goal

abbrev pub invariant-loop-l : goal.invariant-loop-l
invariant-loop-l l = (l.l ≤ l.count) × Searched (not_flagged l.named) (l.count - 1) l.l

abbrev pub decreases-loop-l : goal.decreases-loop-l
decreases-loop-l l = l.count - l.l
