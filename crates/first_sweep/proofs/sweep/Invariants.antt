-- `first_sweep::sweep` meets its contract.
use Rattle.steps.specs.Memo.{Remembers, Stands}
use Rattle.first_sweep.specs.Sweep.{stored_step, Sweepable, Sweeping}
use Rattle.first_sweep.proofs.sweep.Given as goal

abbrev pub invariant-loop-i : goal.invariant-loop-i
invariant-loop-i l =
    Sweepable l.letters l.start.count l.initial.words
    × Sweeping (stored_step l.masks.zero.now l.masks.one.now l.masks.table.now l.masks.takers.now) l.start.count l.start.turned l.initial.next l.initial.last l.letters l.initial.words l.i l.next
    l.last l.words
    × Remembers l.masks.zero.now l.masks.one.now l.masks.table.now l.memo
    × Stands l.memo.pairs l.memo.count l.next l.last l.pair
