-- `packing::desks::put_desk` meets its contract.
use Rattle.packing.specs.DeskBytesLaws.{laid_other, laid-right}
use Rattle.packing.proofs.desks.put_desk.Goals as goal

pub returns-then-bytes-eq-DESK_BYTES : goal.returns-then-bytes-eq-DESK_BYTES
returns-then-bytes-eq-DESK_BYTES c = laid-right c.args.desk c.args.bytes.now c.if-bytes-eq-DESK_BYTES.true _ c.copy_from_slice.ensures.after

pub returns-else-bytes-eq-DESK_BYTES : goal.returns-else-bytes-eq-DESK_BYTES
returns-else-bytes-eq-DESK_BYTES c = laid_other c.args.desk c.args.bytes.now c.if-bytes-eq-DESK_BYTES.false
