-- `masks::scatter::ends_of` meets its contract.
use Rattle.std.proofs.Common.{◌≡◌}
use Rattle.bits.specs.Bits.{word_of}
use Rattle.masks.specs.Masks.{comes_to_end}
use Rattle.masks.proofs.scatter.ends_of.Given as goal

abbrev pub invariant-loop-i : goal.invariant-loop-i
invariant-loop-i l = l.word ≡ word_of l.i (comes_to_end l.firsts l.follows)
