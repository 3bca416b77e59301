-- Settling a code: the answer and the buffers, for every input. Definitions only.
use Rattle.std.specs.Prelude.{◌≡◌, List, [], ◌∷◌, ◌++◌, ℕ, ◌+◌, ◌*◌, ◌≤◌, ltb, length, Result}
use Rattle.syntax.specs.declared.Pattern.{Pattern}
use Rattle.refusals.specs.declared.Refusal.{Refusal}
use Rattle.refusals.specs.declared.Refusal.TheVariants.{WordsTooShort}
use Rattle.refusals.specs.Refusals.{Answer, answer, answer_by, refused}
use Rattle.refusals.specs.Checks.{Check, first_cause}
use Rattle.syntax.specs.Trees.{root}
use Rattle.bits.specs.Bits.{in_front}
use Rattle.steps.specs.StateSets.{words as state_sets}
use Rattle.walks.specs.Whole.{letters_of}
use Rattle.codes.specs.Flatten.{flatten_order, flatten_tape}
use Rattle.parser.specs.Parse.{ReadsGreedily}

abbrev pub canonicalized_answer : Result ℕ Refusal → Answer
canonicalized_answer = answer_by refused

-- what reading has left to refuse before the sweeps: what a code spells is letters, and at most 3,600 where spelling does not refuse it
abbrev pub word_check : Pattern → (code : List ℕ) → (count words : ℕ) → List Check
word_check p code count n =
    (ltb n (2 * (length (letters_of (root p) code count) + 1)), WordsTooShort (2 * (length (letters_of (root p) code count) + 1))) ∷ []

-- 01: "Settling a code spells it and reads the result: 2, 8, 3, 9, 6, 5, 7." Spelling's causes, then 6; 5 and 7 are the second sweep's.
abbrev pub settle_order : Pattern → (code : List ℕ) → (count size words : ℕ) → List Check
settle_order p code count size n = flatten_order p code count size ++ word_check p code count n

-- number 0 where none of them holds
unfoldable pub settle_early : Pattern → (code : List ℕ) → (count size words : ℕ) → Answer
settle_early p code count size n = first_cause (settle_order p code count size n) (answer 0 0)

-- THE PROMISE of settling, for every table, code as handed in, and lent buffers
pub record Canonicalizes (p : Pattern) (code : List ℕ) (count : ℕ) (tape tape_now words words_now canonical canonical_now : List ℕ)
    (r : Result ℕ Refusal) : Type 0 where
  -- the tape is as spelling leaves it, whatever is answered. 01, of 6: "settling has filled the tape"
  pub spells : tape_now ≡ flatten_tape p code count tape
  -- a cause before the sweeps leaves words and code as they were
  pub refuses : 1 ≤ (settle_early p code count (length tape) (length words)).number
      → (canonicalized_answer r ≡ settle_early p code count (length tape) (length words)) × (words_now ≡ words) × (canonical_now ≡ canonical)
  -- else the state sets of the letters are filled in, whatever is answered
  pub fills : (settle_early p code count (length tape) (length words)).number ≡ 0
      → words_now ≡ in_front (state_sets p (letters_of (root p) code count)) words
  pub reads : (settle_early p code count (length tape) (length words)).number ≡ 0
      → ReadsGreedily (root p) (letters_of (root p) code count) canonical canonical_now (canonicalized_answer r)
