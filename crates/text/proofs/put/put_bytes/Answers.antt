-- `text::put::put_bytes` meets its contract. The invariant: what is left to put gives what was to be put.
use Rattle.std.proofs.Common.{refl, arith}
use Rattle.text.specs.Putting.{put-start, put_turn, drop_next}
use Rattle.text.proofs.put.put_bytes.Goals as goal

pub loop-byte-init : goal.loop-byte-init
loop-byte-init c = put-start _ _ _ _ _ _ (omega arith) c.min-end.ensures refl

pub loop-byte-preserved : goal.loop-byte-preserved
loop-byte-preserved c =
    let turn = drop_next c.loop-byte.byte-index c.args.bytes.now c.loop-byte-test.true in
    put_turn _ _ _ _ _ _ _ _ _ _ _ _ c.loop-byte.invariant turn c.loop-byte.invariant.long c.put_byte-end.ensures
