-- Totalling a code: the first cause that holds is answered, whatever later causes hold, and all totals are 0.
use Rattle.std.specs.Prelude.{◌≡◌, List, ℕ, Err, Result}
use Rattle.std.proofs.Math.Path.{refl, ap}
use Rattle.std.proofs.Common.{sym, ◌∙◌}
use Rattle.syntax.specs.declared.Pattern.{Pattern}
use Rattle.refusals.specs.declared.Refusal.{Refusal}
use Rattle.refusals.specs.Refusals.{answer}
use Rattle.refusals.specs.Checks.{First}
use Rattle.refusals.specs.CheckLaws.{refused_first}
use Rattle.entries.specs.CodeOrder.{code_order}
use Rattle.totals.specs.Totals.{totals_answer, totals_outcome, totalled_litres, no_litres, Totals}
use Rattle.totals.specs.TotalsLaws.{refused-answer, refused-litres}
use Rattle.totals.specs.Unique.{outcome_refused}

module _ (p : Pattern) (code : List ℕ) (count : ℕ) where
  module _ (r : Result (List ℕ) Refusal) (h : Totals p code count r) where
    abbrev NoLitres : Refusal → Type 0
    NoLitres why = (r ≡ Err why) × (totalled_litres r ≡ no_litres)

    -- which cause is the first: `first_2`, `first_8` and `first_3` of entries
    pub totals_only : (why : Refusal) → First why (code_order p code count) → NoLitres why
    totals_only why f = (outcome_refused r why (h.answers ∙ refused-answer p code count why f), h.gives ∙ refused-litres p code count why f)

    -- "and never otherwise"
    pub totals_first : (why : Refusal) → r ≡ Err why → First why (code_order p code count)
    unfolding totals_answer
    totals_first why e = refused_first (code_order p code count) (answer 0 0) refl why (sym h.answers ∙ ap totals_outcome e)
