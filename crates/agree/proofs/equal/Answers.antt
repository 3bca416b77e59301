-- `agree::equal` meets its contract.
use Rattle.std.specs.Cmp.Lexicographic.{bytes_decides}
use Rattle.agree.specs.AgreeLaws.{equal_bytes}
use Rattle.agree.proofs.equal.Goals as goal

pub returns-then-n-m : goal.returns-then-n-m
returns-then-n-m c = rw c.eq.ensures (equal_bytes _ _ _ _ _ c.if-n-m.true (bytes_decides _ _))
