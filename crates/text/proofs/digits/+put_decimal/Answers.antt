-- `text::digits::put_decimal` meets its contract: the digits of the tenth, then the last digit.
use Rattle.std.proofs.Common.{refl}
use Rattle.text.specs.Putting.{puts_as, puts_then}
use Rattle.text.specs.Digits.{last_small, last_large}
use Rattle.text.proofs.digits.+put_decimal.Goals as goal

pub returns-then-n-lt10 : goal.returns-then-n-lt10
returns-then-n-lt10 t c = puts_as _ _ _ _ _ _ (last_small c.args.n _ refl c.if-n-lt10.true) c.put_byte.ensures

pub returns : goal.returns
returns t c =
    puts_as _ _ _ _ _ _ (last_large c.args.n _ refl c.if-n-lt10.false)
    (puts_then _ _ _ _ _ _ _ _ c.put_decimal-end.ensures c.put_byte-2.ensures)
