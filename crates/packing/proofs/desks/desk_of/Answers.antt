-- `packing::desks::desk_of` meets its contract.
use Rattle.packing.specs.DeskBytesLaws.{desk_other, desk_read}
use Rattle.packing.proofs.desks.desk_of.Goals as goal

pub returns-then-bytes-ne-DESK_BYTES : goal.returns-then-bytes-ne-DESK_BYTES
returns-then-bytes-ne-DESK_BYTES c = desk_other c.args.bytes.now c.if-bytes-ne-DESK_BYTES.true

pub returns : goal.returns
returns c = desk_read c.args.bytes.now c.if-bytes-ne-DESK_BYTES.false _ c.copy_from_slice.ensures.after
