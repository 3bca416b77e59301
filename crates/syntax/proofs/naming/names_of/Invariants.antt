-- `syntax::naming::names_of` meets its contract.
use Rattle.std.proofs.Common.{◌-◌}
use Rattle.syntax.specs.Naming.{NamedSoFar}
use Rattle.syntax.proofs.naming.names_of.Given as goal

abbrev pub invariant-loop-i : goal.invariant-loop-i
invariant-loop-i l = NamedSoFar l.p l.named l.i

abbrev pub decreases-loop-i : goal.decreases-loop-i
decreases-loop-i l = l.p.count - l.i
