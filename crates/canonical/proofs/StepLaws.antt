-- What the two stages of settling answer: a refusal has a number from 1 on, a success has not, and settling passes on what reading answered.
-- No answer needs these laws, since `?` and the one definition of an answer by its causes take the steps.
use Rattle.std.specs.Prelude.{◌≡◌, ℕ, ◌≤◌, Result, Ok, Err}
use Rattle.std.proofs.Common.{sym, ap, subst, arith}
use Rattle.refusals.specs.declared.Refusal.{Refusal}
use Rattle.refusals.specs.RefusalLaws.{number_positive}
use Rattle.codes.specs.Flatten.{flattened_answer}
use Rattle.parser.specs.Parse.{parsed_answer}
use Rattle.canonical.specs.Canonicalize.{canonicalized_answer}

-- why a stage refused: what settling passes on
abbrev pub Unspelled : Result ℕ Refusal → Refusal → Type 0
Unspelled a why = a ≡ Err why

abbrev pub Unread : Result ℕ Refusal → Refusal → Type 0
Unread a why = a ≡ Err why

-- ── an answer that is a refusal, and one that is not ──
pub refusal_flattened : (a : Result ℕ Refusal) (why : Refusal) → Unspelled a why → 1 ≤ (flattened_answer a).number
refusal_flattened a why e = subst (λ b. 1 ≤ (flattened_answer b).number) (sym e) (number_positive why)

pub refusal_parsed : (a : Result ℕ Refusal) (why : Refusal) → Unread a why → 1 ≤ (parsed_answer a).number
refusal_parsed a why e = subst (λ b. 1 ≤ (parsed_answer b).number) (sym e) (number_positive why)

pub letters_no_refusal : (a : Result ℕ Refusal) (n : ℕ) → a ≡ Ok n → 1 ≤ (flattened_answer a).number → ⊥
letters_no_refusal a n e h = let z : 1 ≤ 0 = subst (λ b. 1 ≤ (flattened_answer b).number) e h in omega arith

pub bits_no_refusal : (a : Result ℕ Refusal) (n : ℕ) → a ≡ Ok n → 1 ≤ (parsed_answer a).number → ⊥
bits_no_refusal a n e h = let z : 1 ≤ 0 = subst (λ b. 1 ≤ (parsed_answer b).number) e h in omega arith

-- ── settling answers what reading answered ──
pub read_bits : (r : Result ℕ Refusal) (n : ℕ) → r ≡ Ok n → canonicalized_answer (Ok n) ≡ parsed_answer r
read_bits r n e = sym (ap parsed_answer e)

pub read-refused : (r : Result ℕ Refusal) (why : Refusal) → Unread r why → canonicalized_answer (Err why) ≡ parsed_answer r
read-refused r why e = sym (ap parsed_answer e)
