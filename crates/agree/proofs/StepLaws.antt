-- What a call of settling answers: a refusal has a number from 1 on, a success has not. And what the three comparisons come to.
-- No answer needs these laws, since `?` passes refusals on and the comparisons are joined by `&&`.
use Rattle.std.specs.Prelude.{◌≡◌, refl, Bool, true, false, ◌&&◌, ℕ, ◌≤◌, Result, Ok, Err}
use Rattle.std.proofs.Common.{sym, subst, arith}
use Rattle.refusals.specs.declared.Refusal.{Refusal}
use Rattle.refusals.specs.RefusalLaws.{number_positive}
use Rattle.canonical.specs.Canonicalize.{canonicalized_answer}

-- why a call of settling refused: what a run passes on
abbrev pub Unsettled : Result ℕ Refusal → Refusal → Type 0
Unsettled a why = a ≡ Err why

pub refusal_canonicalized : (a : Result ℕ Refusal) (why : Refusal) → Unsettled a why → 1 ≤ (canonicalized_answer a).number
refusal_canonicalized a why e = subst (λ b. 1 ≤ (canonicalized_answer b).number) (sym e) (number_positive why)

pub settled_no_refusal : (a : Result ℕ Refusal) (n : ℕ) → a ≡ Ok n → 1 ≤ (canonicalized_answer a).number → ⊥
settled_no_refusal a n e h = let z : 1 ≤ 0 = subst (λ b. 1 ≤ (canonicalized_answer b).number) e h in omega arith

-- what the three comparisons come to: each code came back as it was, and the two are equal
abbrev pub concluded : (first second both : Bool) → Result Bool Refusal
concluded true true true = Ok true
concluded true true false = Ok false
concluded true false both = Ok false
concluded false second both = Ok false

-- which is all of them
pub concluded_all : (first second both : Bool) → concluded first second both ≡ Ok (first && second && both)
concluded_all true true true = refl
concluded_all true true false = refl
concluded_all true false both = refl
concluded_all false second both = refl
