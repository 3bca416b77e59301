-- `vector_text::hex::decode` meets its contract. The invariant: what is left to decode gives what was to be put.
use Rattle.std.proofs.Common.{inl, inr, sym, ◌∙◌, arith}
use Rattle.text.specs.Putting.{put_turn, put_done, put_in}
use Rattle.vector_text.specs.Hexadecimal.{decode_stop, decode_next}
use Rattle.vector_text.proofs.hex.decode.Goals as goal

pub loop-n-preserved : goal.loop-n-preserved
loop-n-preserved c =
    let next = decode_next c.loop-n.n _ c.args.digits.now (sym c.in-Some.is ∙ c.byte_at.ensures) in
    put_turn _ _ _ _ _ _ _ _ _ _ _ _ c.loop-n.invariant next c.loop-n.invariant.long (put_in _ _ _ _ (omega (arith, c.loop-n.invariant.long)))

pub returns-in_default-clause-puts : goal.returns-in_default-clause-puts
returns-in_default-clause-puts c =
    put_done _ _ _ _ _ _ _ c.loop-n.invariant (inl (decode_stop c.loop-n.n c.args.digits.now (sym c.in_default.is ∙ c.byte_at.ensures)))

pub returns-clause-puts : goal.returns-clause-puts
returns-clause-puts c =
    let long = c.loop-n.invariant.long in
    let put = put_done _ _ _ _ _ _ _ c.loop-n.invariant (inr (omega (arith, long), omega (arith, long))) in
    record { leaves = put.leaves; ends = omega (arith, put.ends, long, c.loop-n.auto.n-end) }
