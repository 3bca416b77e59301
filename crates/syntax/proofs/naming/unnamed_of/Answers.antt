-- `syntax::naming::unnamed_of` meets its contract.
use Rattle.std.proofs.Common.{arith, sym, ap, not}
use Rattle.syntax.specs.Lowest.{searched_end, searched_on}
use Rattle.syntax.proofs.naming.unnamed_of.Goals as goal

pub loop-l-preserved : goal.loop-l-preserved
loop-l-preserved c = (omega arith, searched_on _ _ _ c.loop-l.invariant.1 (omega arith) (ap not c.if-not-named-l.false))

pub returns-then-count-l : goal.returns-then-count-l
returns-then-count-l c = sym (searched_end _ _ _ c.loop-l.invariant.1 (omega arith))
