-- `vector_text::lines::hold` meets its contract: one law for the line that is complete and for the one that goes on.
use Rattle.std.proofs.Common.{arith}
use Rattle.vector_text.specs.Held.{Holding, hold_line, hold_rest}
use Rattle.vector_text.proofs.lines.hold.Goals as goal

pub returns-then-held-left : goal.returns-then-held-left
returns-then-held-left c = hold_line _ _ c.args.input _ _ _ _ _
    (record {
      lies = c.part-left.ensures;
      stops = c.before-held.ensures;
      keeps = c.kept-kept.ensures;
      leaves = c.put_bytes.ensures.leaves;
      counts = omega arith;
    })
    c.if-held-left.true

pub returns-else-held-left : goal.returns-else-held-left
returns-else-held-left c = hold_rest _ _ c.args.input _ _ _ _ _
    (record {
      lies = c.part-left.ensures;
      stops = c.before-held.ensures;
      keeps = c.kept-kept.ensures;
      leaves = c.put_bytes.ensures.leaves;
      counts = omega arith;
    })
    c.if-held-left.false
