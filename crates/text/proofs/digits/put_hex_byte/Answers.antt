-- `text::digits::put_hex_byte` meets its contract: two puts are one of the joined bytes.
use Rattle.text.specs.Putting.{puts_as, puts_then, hex_pair}
use Rattle.text.proofs.digits.put_hex_byte.Goals as goal

pub returns : goal.returns
returns c = puts_as _ _ _ _ _ _ (hex_pair c.args.byte _ _ c.hex_digit.ensures c.hex_digit-2.ensures)
    (puts_then _ _ _ _ _ _ _ _ c.put_byte-end.ensures c.put_byte.ensures)
