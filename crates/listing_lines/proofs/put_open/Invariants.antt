-- `listing_lines::put_open` meets its contract. The invariant: what is left to put gives what was to be put.
use Rattle.std.proofs.Common.{suc, ◌-◌, length}
use Rattle.text.specs.Putting.{ToPut}
use Rattle.listing_lines.specs.LineBytes.{open_lines}
use Rattle.listing_lines.proofs.put_open.Given as goal

abbrev pub invariant-loop-i : goal.invariant-loop-i
invariant-loop-i l =
    ToPut (length l.initial.out) l.initial.out l.at (open_lines l.words 0 (suc l.letters)) l.out l.end (open_lines l.words l.i (suc l.letters - l.i))
