-- `vector_text::cells::put_numbers` meets its contract. The invariant: what is left to put gives what was to be put.
use Rattle.std.proofs.Common.{refl, sym, ap, ◌∙◌, arith, map, ◌<◌, length}
use Rattle.std.proofs.lemmas.List.{get_or-map, length-map}
use Rattle.text.specs.Putting.{put-start, put_turn}
use Rattle.vector_text.specs.Parts.{numbers_turn}
use Rattle.vector_text.proofs.cells.put_numbers.Goals as goal

pub loop-i-init : goal.loop-i-init
loop-i-init g c = put-start _ _ _ _ _ _ (omega arith) c.min-end.ensures refl

pub loop-i-preserved : goal.loop-i-preserved
loop-i-preserved g c =
    let numbers = map g.C.Cell.value_of c.args.cells.now in
    let within : c.loop-i.i < length numbers = omega (arith, c.loop-i-test.true, length-map c.args.cells.now g.C.Cell.value_of) in
    let number = c.value.ensures ∙ ap g.C.Cell.value_of c.index-cells-i.is ∙ sym (get_or-map g.C.Cell.value_of c.args.cells.now c.loop-i.i c.index-cells-i.result 0 c.loop-i-test.true) in
    let turn = numbers_turn c.loop-i.i numbers c.part_before.result c.value.result within c.part_before.ensures number in
    put_turn _ _ _ _ _ _ _ _ _ _ _ _ c.loop-i.invariant turn c.loop-i.invariant.long c.put_parted-end.ensures
