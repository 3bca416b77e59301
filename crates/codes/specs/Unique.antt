-- The promise of spelling fixes everything: two outcomes that it allows on one input are the same.
use Rattle.std.specs.Prelude.{◌≡◌, List, ℕ, Result}
use Rattle.std.proofs.Common.{sym, ◌∙◌}
use Rattle.refusals.specs.declared.Refusal.{Refusal}
use Rattle.syntax.specs.declared.Pattern.{Pattern}
use Rattle.refusals.specs.Refusals.{refused}
use Rattle.refusals.specs.RefusalLaws.{answer_same, refused_same, number_positive}
use Rattle.codes.specs.Flatten.{flattened_answer, Flattens}

-- number and value fix the answer
pub flattened_same : (r s : Result ℕ Refusal) → flattened_answer r ≡ flattened_answer s → r ≡ s
flattened_same = answer_same refused refused_same number_positive

module _ (p : Pattern) (code : List ℕ) (count : ℕ) where
  pub flattens_one : (tape tape_now tape_too : List ℕ) (r s : Result ℕ Refusal) → Flattens p code count tape tape_now r
      → Flattens p code count tape tape_too s → (r ≡ s) × (tape_now ≡ tape_too)
  flattens_one tape tape_now tape_too r s f g = (flattened_same r s (f.answers ∙ sym g.answers), f.leaves ∙ sym g.leaves)
