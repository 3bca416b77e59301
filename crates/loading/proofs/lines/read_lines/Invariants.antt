-- `loading::lines::read_lines` meets its contract.
use Rattle.std.proofs.Common.{◌-◌, length}
use Rattle.loading.specs.ReadLines.{ReadSoFar}
use Rattle.loading.proofs.lines.read_lines.Given as goal

abbrev pub invariant-loop-at : goal.invariant-loop-at
invariant-loop-at l = ReadSoFar l.text l.p l.at

abbrev pub decreases-loop-at : goal.decreases-loop-at
decreases-loop-at l = length l.text - l.at
