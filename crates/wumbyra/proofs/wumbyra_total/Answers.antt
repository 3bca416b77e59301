-- `wumbyra::wumbyra_total` meets its contract.
use Rattle.std.proofs.Common.{sym, ap, ap₂, ◌∙◌, ◌+◌, Ok, Err}
use Rattle.syntax.specs.Table.{account_limit}
use Rattle.refusals.specs.Refusals.{answer}
use Rattle.wumbyra.specs.PackedLaws.{total-packed, zeros}
use Rattle.wumbyra.proofs.wumbyra_total.Goals as goal

pub returns-in-Ok : goal.returns-in-Ok
returns-in-Ok c = total-packed _ _ c.pattern_of.ensures _ _ _ (Ok c.in-Ok.litres) c.in-Ok.ensures _ (c.packed.ensures ∙ ap (answer 0) c.litres_of.ensures)

pub returns-in-Err : goal.returns-in-Err
returns-in-Err c = total-packed _ _ c.pattern_of.ensures _ _ _ (Err c.in-Err.why) c.in-Err.ensures _
    (c.packed-in-Err.ensures ∙ ap₂ (λ n v. answer n v) c.number.ensures (sym (zeros (account_limit + 1) c.args.account)))
