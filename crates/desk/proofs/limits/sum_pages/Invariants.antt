-- `desk::limits::sum_pages` meets its contract.
use Rattle.desk.specs.Limits.{PagesSummed}
use Rattle.desk.proofs.limits.sum_pages.Given as goal

abbrev pub invariant-loop-n : goal.invariant-loop-n
invariant-loop-n l = PagesSummed l.pages l.n-index l.held
