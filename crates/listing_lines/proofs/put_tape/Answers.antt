-- `listing_lines::put_tape` meets its contract: four puts are one of the joined bytes.
use mathlib.Core.Path.{refl}
use Rattle.text.specs.Putting.{puts_then}
use Rattle.listing_lines.specs.Lines.{tape_done}
use Rattle.listing_lines.proofs.put_tape.Goals as goal

pub returns : goal.returns
returns c =
    let given = c.args in
    tape_done _ _ given.letters given.bits given.code.now _ _ _ _ _ _ c.put_entry-first.ensures refl refl
    (puts_then _ _ _ _ _ _ _ _ c.put_byte-second.ensures
    (puts_then _ _ _ _ _ _ _ _ c.put_hex-end.ensures c.put_byte.ensures))
