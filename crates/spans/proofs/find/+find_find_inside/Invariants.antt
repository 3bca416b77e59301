-- `spans::find::find` and `spans::find::find_inside`: a node's own call comes before the one inside it, and that before those of its parts.
use Rattle.std.proofs.Common.{◌+◌, ◌*◌, ◌-◌}
use Rattle.table.specs.Cells.{tree_in}
use Rattle.spans.specs.Seeks.{Turns}
use Rattle.spans.proofs.find.+find_find_inside.Given as goal

abbrev pub decreases-find : goal.decreases-find
decreases-find l = ((l.count - l.at) * 64 + l.l) * 2 + 1

abbrev pub decreases-find_inside : goal.decreases-find_inside
decreases-find_inside l = ((l.count - l.at) * 64 + l.l) * 2

abbrev pub invariant-find_inside-loop-here : goal.invariant-find_inside-loop-here
invariant-find_inside-loop-here l =
    Turns l.code l.count (tree_in l.table l.l) l.at l.i l.node l.k l.here.at l.here.letter l.here.left

abbrev pub decreases-find_inside-loop-here : goal.decreases-find_inside-loop-here
decreases-find_inside-loop-here l = l.count - l.here.at
