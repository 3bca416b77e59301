-- `text::lines::put_parted` meets its contract: two puts are one of the joined bytes.
use Rattle.text.specs.Putting.{puts_then}
use Rattle.text.proofs.lines.put_parted.Goals as goal

pub returns : goal.returns
returns c = puts_then _ _ _ _ _ _ _ _ c.put_byte-end.ensures c.put_decimal.ensures
