-- `vector_text::cells::put_shown` meets its contract: few cells whole, many as a digest.
use Rattle.text.specs.Putting.{puts_as, puts_then}
use Rattle.vector_text.specs.Parts.{shown_whole, shown_digest}
use Rattle.vector_text.proofs.cells.put_shown.Goals as goal

pub returns-then-count-le-SHOWN_BYTES : goal.returns-then-count-le-SHOWN_BYTES
returns-then-count-le-SHOWN_BYTES c =
    puts_as _ _ _ _ _ _ (shown_whole c.args.count c.args.bytes.now _ c.if-count-le-SHOWN_BYTES.true c.part.ensures)
    (puts_then _ _ _ _ _ _ _ _ c.put_byte-end.ensures c.put_hex.ensures)

pub returns-else-count-le-SHOWN_BYTES : goal.returns-else-count-le-SHOWN_BYTES
returns-else-count-le-SHOWN_BYTES c =
    puts_as _ _ _ _ _ _ (shown_digest c.args.count _ c.args.bytes.now c.if-count-le-SHOWN_BYTES.false c.digest_of.ensures)
    (puts_then _ _ _ _ _ _ _ _ c.put_byte-end.ensures c.put_parted.ensures)
