-- `vector_codes::code_cases::put_settled` meets its contract: two puts are one of the joined bytes, and the last digest goes on from the tape's.
use Rattle.std.proofs.Common.{ap}
use Rattle.text.specs.Putting.{puts_as, puts_then}
use Rattle.vector_text.specs.Cases.{left_text}
use Rattle.vector_codes.proofs.code_cases.put_settled.Goals as goal

pub returns : goal.returns
returns c =
    let goes_on =
    ap (λ d. left_text d c.args.words.now c.args.lent.words c.args.code.now c.args.lent.bytes)
    c.digest_of-past.ensures in
    puts_then _ _ _ _ _ _ _ _ c.put_digest-end.ensures (puts_as _ _ _ _ _ _ goes_on c.put_left.ensures)
