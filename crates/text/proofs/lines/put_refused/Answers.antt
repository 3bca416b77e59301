-- `text::lines::put_refused` meets its contract: the line of a number and a value.
use Rattle.std.proofs.Common.{refl, ap, ap₂, length, arith}
use Rattle.refusals.specs.Refusals.{answer}
use Rattle.text.specs.Text.{refused_line}
use Rattle.text.specs.Putting.{puts_as, refused_done}
use Rattle.text.specs.Lengths.{refused-length}
use Rattle.text.proofs.lines.put_refused.Goals as goal

pub returns : goal.returns
returns c =
    let told = ap₂ (λ n v. refused_line (answer n v)) c.from.ensures c.from-2.ensures in
    let long = refused-length c.from.result c.from-2.result (omega (arith, c.from.type_inv)) (omega (arith, c.from-2.type_inv)) in
    record {
      puts = puts_as _ _ _ _ _ _ told (refused_done _ _ _ _ _ _ _ c.put_line.ensures refl);
      value_len_bound = omega (arith, long, ap length told);
    }
