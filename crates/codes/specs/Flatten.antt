-- Spelling a code: the answer and the tape, for every input. Definitions only.
use Rattle.std.specs.Prelude.{◌≡◌, cond, List, [], ◌∷◌, ◌++◌, ℕ, eqb, ltb, length, Result}
use Rattle.refusals.specs.declared.Refusal.{Refusal}
use Rattle.syntax.specs.declared.Pattern.{Pattern}
use Rattle.refusals.specs.declared.Refusal.TheVariants.{TapeTooShort}
use Rattle.syntax.specs.Trees.{root}
use Rattle.refusals.specs.Refusals.{Answer, answer, answer_by, refused}
use Rattle.refusals.specs.Checks.{Check, first_cause}
use Rattle.bits.specs.Bits.{in_front}
use Rattle.walks.specs.Whole.{letters_of}
use Rattle.entries.specs.CodeOrder.{code_order}

-- 01, of 9: "tape buffer shorter than the spelling", with the "letters needed"
abbrev pub room_check : Pattern → (code : List ℕ) → (count size : ℕ) → List Check
room_check p code count size =
    (ltb size (length (letters_of (root p) code count)), TapeTooShort (length (letters_of (root p) code count))) ∷ []

-- 01: "Spelling a code: 2, 8, 3, 9. Gives the letters."
abbrev pub flatten_order : Pattern → (code : List ℕ) → (count : ℕ) → (size : ℕ) → List Check
flatten_order p code count size = code_order p code count ++ room_check p code count size

unfoldable pub flatten_answer : Pattern → (code : List ℕ) → (count : ℕ) → (size : ℕ) → Answer
flatten_answer p code count size = first_cause (flatten_order p code count size) (answer 0 (length (letters_of (root p) code count)))

-- the letters in front of the buffer, or all "Left as it was"; "Buffer cells past the written ones never change."
unfoldable pub flatten_tape : Pattern → (code : List ℕ) → (count : ℕ) → (tape : List ℕ) → List ℕ
flatten_tape p code count tape = cond (eqb (flatten_answer p code count (length tape)).number 0) (in_front (letters_of (root p) code count) tape) tape

abbrev pub flattened_answer : Result ℕ Refusal → Answer
flattened_answer = answer_by refused

-- THE PROMISE of spelling, for every table, bytes, count and buffer
pub record Flattens (p : Pattern) (code : List ℕ) (count : ℕ) (tape tape_now : List ℕ) (r : Result ℕ Refusal) : Type 0 where
  pub answers : flattened_answer r ≡ flatten_answer p code count (length tape)
  pub leaves : tape_now ≡ flatten_tape p code count tape
