-- `reach::resume_over` meets its contract.
use Rattle.std.proofs.Common.{◌≡◌}
use Rattle.std.specs.Iterator.Adapters.{rev_source, enumerate_source, enumerate_count}
use Rattle.std.specs.Slice.Iter.{iter_rest}
use Rattle.reach.specs.Reaching.{Resuming}
use Rattle.reach.proofs.resume_over.Given as goal

abbrev pub invariant-loop-i : goal.invariant-loop-i
invariant-loop-i l =
    (enumerate_count (rev_source l.i-iterator) ≡ 0)
    × Resuming l.zero l.one l.table l.takers l.end l.tape (iter_rest (enumerate_source (rev_source l.i-iterator))) l.next l.last l.found
