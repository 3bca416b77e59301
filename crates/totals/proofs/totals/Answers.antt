-- `totals::totals` meets its contract.
use Rattle.std.proofs.Common.{◌≡◌, Err, List, ℕ, sym, ap, ◌∙◌, rules}
use Rattle.syntax.specs.declared.Pattern.{Pattern}
use Rattle.refusals.specs.declared.Refusal.{Refusal}
use Rattle.refusals.specs.Checks.{First}
use Rattle.semantics.specs.Accounts.{totals}
use Rattle.entries.specs.CodeOrder.{code_order}
use Rattle.totals.specs.Totals.{Totals}
use Rattle.totals.specs.TotalsLaws.{refused-answer, refused-litres, totals-added}
use Rattle.totals.proofs.totals.Goals as goal

-- the first cause that holds is answered, and all totals are 0: here, since it rests on what `totalled_litres` says of a refusal
totals-refused : (p : Pattern) (code : List ℕ) (count : ℕ) (why : Refusal) → First why (code_order p code count) → Totals p code count (Err why)
totals-refused p code count why f = record { answers = sym (refused-answer p code count why f); gives = sym (refused-litres p code count why f) }

pub returns-in_err-n : goal.returns-in_err-n
returns-in_err-n c =
    let why : c.from_residual.result ≡ Err c.in_err-n.field-0.0 = search rules in
    rw why (totals-refused _ _ _ _ (c.gather.ensures.refuses _ c.in_err-n.was))

pub add_up-requires : goal.add_up-requires
add_up-requires c = (c.gather.ensures.holds _ c.in_ok-n.was).ready

pub returns : goal.returns
returns c =
    let held = c.gather.ensures.holds _ c.in_ok-n.was in
    totals-added _ _ _ held.clear _ (c.add_up.ensures ∙ ap totals held.entries)
