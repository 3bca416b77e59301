-- The promise of loading fixes what is answered: two results that it allows for one text are the same.
use Rattle.std.specs.Prelude.{◌≡◌, List, ℕ, Result, Ok, Err}
use Rattle.std.proofs.Common.{sym, ap, ◌∙◌, arith}
use Rattle.refusals.specs.declared.Refusal.{Refusal}
use Rattle.refusals.specs.Refusals.{refused}
use Rattle.refusals.specs.RefusalLaws.{refused_same, number_positive}
use Rattle.syntax.specs.declared.Pattern.{Pattern}
use Rattle.loading.specs.Load.{loaded_answer, pattern_or_none, Loads}

loaded_same : (r s : Result Pattern Refusal) → loaded_answer r ≡ loaded_answer s → pattern_or_none r ≡ pattern_or_none s → r ≡ s
loaded_same (Ok p) (Ok q) e f = ap Ok f
loaded_same (Ok p) (Err s) e f = let z : 0 ≡ (refused s).number = ap (λ a. a.number) e in absurd (omega (arith, number_positive s))
loaded_same (Err r) (Ok q) e f = let z : (refused r).number ≡ 0 = ap (λ a. a.number) e in absurd (omega (arith, number_positive r))
loaded_same (Err r) (Err s) e f = ap Err (refused_same r s e)

pub loads_one : (text : List ℕ) (r s : Result Pattern Refusal) → Loads text r → Loads text s → r ≡ s
loads_one text r s f g = loaded_same r s (f.answers ∙ sym g.answers) (f.gives ∙ sym g.gives)
