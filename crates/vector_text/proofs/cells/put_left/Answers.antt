-- `vector_text::cells::put_left` meets its contract: three puts are one of the joined bytes, and the last digest goes on from
-- the words' one.
use Rattle.std.proofs.Common.{ap, ◌∙◌, length}
use Rattle.text.specs.Putting.{puts_as, puts_then}
use Rattle.text.specs.Text.{field}
use Rattle.vector_text.specs.Cases.{part, bytes_digest}
use Rattle.vector_text.proofs.cells.put_left.Goals as goal

pub returns : goal.returns
returns c =
    let code = c.args.code.now in
    let past = c.digest_of.ensures ∙ ap (λ d. bytes_digest d (part c.args.bytes (length code) code)) c.digest_of-past.ensures in
    puts_then _ _ _ _ _ _ _ _ (puts_then _ _ _ _ _ _ _ _ c.put_digest-a.ensures c.put_shown-b.ensures)
    (puts_as _ _ _ _ _ _ (ap field past) c.put_parted.ensures)
