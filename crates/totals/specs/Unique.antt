-- The promise of totalling fixes everything: two outcomes that it allows on one input are the same.
use Rattle.std.specs.Prelude.{◌≡◌, List, ℕ, Err, Ok, Result}
use Rattle.std.proofs.Common.{sym, ap, ◌∙◌, arith}
use Rattle.syntax.specs.declared.Pattern.{Pattern}
use Rattle.refusals.specs.declared.Refusal.{Refusal}
use Rattle.refusals.specs.Refusals.{refused}
use Rattle.refusals.specs.RefusalLaws.{refused_same, number_positive}
use Rattle.totals.specs.Totals.{totals_outcome, totalled_litres, Totals}

-- number and value fix the cause
pub outcome_refused : (r : Result (List ℕ) Refusal) (why : Refusal) → totals_outcome r ≡ refused why → r ≡ Err why
outcome_refused (Ok xs) s e = let z : 0 ≡ (refused s).number = ap (λ a. a.number) e in absurd (omega (arith, number_positive s))
outcome_refused (Err r) s e = ap Err (refused_same r s e)

-- and with the litres the whole answer
pub totalled_same : (r s : Result (List ℕ) Refusal) → totals_outcome r ≡ totals_outcome s → totalled_litres r ≡ totalled_litres s → r ≡ s
totalled_same (Ok xs) (Ok ys) e l = ap Ok l
totalled_same r (Err s) e l = outcome_refused r s e
totalled_same (Err r) (Ok ys) e l = sym (outcome_refused (Ok ys) r (sym e))

module _ (p : Pattern) (code : List ℕ) (count : ℕ) where
  pub totals_one : (r s : Result (List ℕ) Refusal) → Totals p code count r → Totals p code count s → r ≡ s
  totals_one r s f g = totalled_same r s (f.answers ∙ sym g.answers) (f.gives ∙ sym g.gives)
