-- `text::lines::put_cause` meets its contract: the line of a cause's number and value.
use Rattle.std.proofs.Common.{ap, ap₂, length, arith}
use Rattle.refusals.specs.Refusals.{answer}
use Rattle.text.specs.Text.{refused_line}
use Rattle.text.specs.Putting.{puts_as}
use Rattle.text.proofs.lines.put_cause.Goals as goal

pub returns : goal.returns
returns g c =
    let told = ap₂ (λ n v. refused_line (answer n v)) c.number.ensures c.value.ensures in
    record {
      puts = puts_as _ _ _ _ _ _ told c.put_refused.ensures.puts;
      value_len_bound = omega (arith, c.put_refused.ensures.value_len_bound, ap length told);
    }
