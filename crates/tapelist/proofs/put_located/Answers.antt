-- `tapelist::put_located` meets its contract: a line of two positions is short.
use Rattle.std.proofs.Common.{ap, length, arith}
use Rattle.text.specs.Lengths.{line-length}
use Rattle.tapelist.specs.Printing.{located_word, located_line}
use Rattle.tapelist.proofs.put_located.Goals as goal

pub returns-in-Ok-clause-located_len_bound : goal.returns-in-Ok-clause-located_len_bound
returns-in-Ok-clause-located_len_bound c =
    let x = c.in-Ok.field-0 in
    omega (arith, ap (λ l. length (located_line l)) c.in-Ok.is, line-length located_word x.reach x.resume (omega arith) (omega arith))
