-- `text::lines::put_entry` meets its contract: three puts are one of the joined bytes.
use Rattle.text.specs.Putting.{puts_as, puts_then, entry_is}
use Rattle.text.proofs.lines.put_entry.Goals as goal

pub returns : goal.returns
returns c = let given = c.args in
    puts_as _ _ _ _ _ _ (entry_is given.word.now given.a given.b)
    (puts_then _ _ _ _ _ _ _ _
    (puts_then _ _ _ _ _ _ _ _ c.put_bytes-first.ensures c.put_byte-second.ensures)
    c.put_pair.ensures)
