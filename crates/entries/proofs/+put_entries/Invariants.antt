-- `entries::put_entries` ends, since the bits left and the node fall as a pair; and what its loop keeps.
use Rattle.std.proofs.Common.{◌+◌, ◌*◌, ◌-◌}
use Rattle.semantics.specs.Code.{code_limit}
use Rattle.table.specs.Cells.{tree_in}
use Rattle.entries.specs.Entering.{Turns}
use Rattle.entries.proofs.+put_entries.Given as goal

abbrev pub decreases-put_entries : goal.decreases-put_entries
decreases-put_entries l = (code_limit - l.at) * 64 + l.l

abbrev pub invariant-loop-here : goal.invariant-loop-here
invariant-loop-here l = Turns l.code (tree_in l.table l.l) l.above l.at l.n l.fn.letters l.fn.accounts l.here l.m l.letters l.accounts

abbrev pub decreases-loop-here : goal.decreases-loop-here
decreases-loop-here l = code_limit - l.here
