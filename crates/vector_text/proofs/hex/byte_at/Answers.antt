-- `vector_text::hex::byte_at` meets its contract: behind the last pair there is none.
use Rattle.std.proofs.Common.{sym}
use Rattle.vector_text.specs.Hexadecimal.{pair_none}
use Rattle.vector_text.proofs.hex.byte_at.Goals as goal

pub returns-then-digits-n : goal.returns-then-digits-n
returns-then-digits-n c = sym (pair_none c.args.n c.args.digits.now c.if-digits-n.true)
