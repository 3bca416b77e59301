-- `second_sweep::sweep`: what is left of a star's rounds gives them all, and the bits that are left and the node's place, as one number, fall.
use Rattle.std.proofs.Common.{length, ◌+◌, ◌*◌, ◌-◌}
use Rattle.semantics.specs.Code.{code_limit}
use Rattle.second_sweep.specs.Sweeping.{Ready}
use Rattle.second_sweep.specs.Ways.{Going}
use Rattle.second_sweep.proofs.+sweep.Given as goal

abbrev pub decreases-sweep : goal.decreases-sweep
decreases-sweep l = (code_limit - l.at) * 64 + l.l

abbrev pub invariant-loop-flag : goal.invariant-loop-flag
invariant-loop-flag l =
    (s : Ready l.table l.words l.tape l.l l.i l.taken l.at) →
    Going s l.initial.code l.code l.here.position l.here.at l.flag

abbrev pub decreases-loop-flag : goal.decreases-loop-flag
decreases-loop-flag l = length l.tape - l.here.position
