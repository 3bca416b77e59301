-- `text::digits::hex_digit` meets its contract: a digit below 10 and one from 10 on.
use Rattle.std.proofs.Common.{arith}
use Rattle.text.specs.Digits.{hex_low, hex_high}
use Rattle.text.proofs.digits.hex_digit.Goals as goal

pub returns-in-0-to-9 : goal.returns-in-0-to-9
returns-in-0-to-9 c = hex_low c.args.d (omega arith)

pub returns-in_default : goal.returns-in_default
returns-in_default c = hex_high c.args.d (omega arith)
