-- `wumbyra::wumbyra_desk_open` meets its contract.
use Rattle.std.proofs.Common.{refl}
use Rattle.wumbyra.proofs.DeskLaws.{open_packed_other, open_packed}
use Rattle.wumbyra.proofs.wumbyra_desk_open.Goals as goal

pub returns-then-desk-ne-DESK_BYTES : goal.returns-then-desk-ne-DESK_BYTES
returns-then-desk-ne-DESK_BYTES c =
    open_packed_other _ _ c.pattern_of-pattern.ensures _ c.args.words.now _ c.if-desk-ne-DESK_BYTES.true _ c.of_other_length.ensures refl

pub returns : goal.returns
returns c = open_packed _ _ c.pattern_of-pattern.ensures _ _ _ c.if-desk-ne-DESK_BYTES.false _ c.desk_of-held.ensures _ _ _ c.open-answer.ensures
    _ c.put_desk.ensures c.of_answer.ensures
