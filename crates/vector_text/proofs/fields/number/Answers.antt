-- `vector_text::fields::number` meets its contract. The invariant: what is left to read gives the number of all.
use Rattle.vector_text.specs.Folds.{reads-start, reads_turn}
use Rattle.vector_text.proofs.fields.number.Goals as goal

pub loop-digit-init : goal.loop-digit-init
loop-digit-init c = reads-start c.args.digits.now

pub loop-digit-preserved : goal.loop-digit-preserved
loop-digit-preserved c =
    reads_turn c.args.digits.now c.loop-digit.n c.loop-digit.digit-index _ c.loop-digit.invariant c.loop-digit-test.true c.append-n.ensures
