-- `vector_codes::span_cases::put_piece` meets its contract: four puts are one of the joined bytes.
use Rattle.std.proofs.Common.{ap₂}
use Rattle.text.specs.Putting.{puts_as, puts_then}
use Rattle.vector_codes.specs.Answers.{piece_text}
use Rattle.vector_codes.proofs.span_cases.put_piece.Goals as goal

pub returns : goal.returns
returns c =
    puts_as _ _ _ _ _ _ (ap₂ (λ start size. piece_text start size c.args.piece.now) c.from.ensures c.from-2.ensures)
    (puts_then _ _ _ _ _ _ _ _
    (puts_then _ _ _ _ _ _ _ _ (puts_then _ _ _ _ _ _ _ _ c.put_parted-a.ensures c.put_parted-b.ensures) c.put_parted-c.ensures)
    c.put_shown.ensures)
