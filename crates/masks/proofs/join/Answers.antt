-- `masks::join` meets its contract.
use Rattle.std.proofs.Common.{sym}
use Rattle.std.specs.Int.Bits.{or_zero_r}
use Rattle.masks.proofs.join.Goals as goal

pub returns-else-chosen : goal.returns-else-chosen
returns-else-chosen c = rw c.if-chosen.false (sym (or_zero_r c.args.word))
