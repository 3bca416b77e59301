-- `totals::add_up` meets its contract.
use Rattle.std.proofs.Common.{length}
use Rattle.totals.specs.Sums.{EntriesSummed}
use Rattle.totals.proofs.add_up.Given as goal

abbrev pub invariant-loop-c : goal.invariant-loop-c
invariant-loop-c l = EntriesSummed l.letters l.accounts l.sums l.n (length l.yielded)
