-- `vector_text::cells::put_numbers` meets its contract. The invariant: what is left to put gives what was to be put.
use Rattle.std.proofs.Common.{length, drop, map}
use Rattle.text.specs.Putting.{ToPut}
use Rattle.vector_text.specs.Cases.{numbers_text}
use Rattle.vector_text.proofs.cells.put_numbers.Given as goal

abbrev pub invariant-loop-i : goal.invariant-loop-i
invariant-loop-i g l =
    ToPut (length l.initial.out) l.initial.out l.at (numbers_text 0 (map g.C.Cell.value_of l.cells)) l.out l.end
    (numbers_text l.i (drop l.i (map g.C.Cell.value_of l.cells)))
