-- Reading a tape: the answer and the buffers, for every input. Definitions only.
use Rattle.std.specs.Prelude.{◌≡◌, Bool, List, [], ◌∷◌, ◌++◌, ℕ, ◌+◌, ◌*◌, ◌≤◌, ◌<◌, ltb, length, Result}
use Rattle.refusals.specs.declared.Refusal.{Refusal}
use Rattle.syntax.specs.declared.Pattern.{Pattern}
use Rattle.refusals.specs.declared.Refusal.TheVariants.{Unreadable, WordsTooShort, CodeTooShort}
use Rattle.refusals.specs.Refusals.{Answer, answer, answer_by, refused}
use Rattle.refusals.specs.Checks.{Check, first_cause}
use Rattle.checks.specs.TapeOrder.{tape_order}
use Rattle.syntax.specs.Tree.{Tree}
use Rattle.syntax.specs.Trees.{root}
use Rattle.bits.specs.Bits.{cell_count, pack, in_front}
use Rattle.semantics.specs.Value.{Value, flat}
use Rattle.semantics.specs.Code.{Canonical}
use Rattle.steps.specs.StateSets.{words as state_sets}

abbrev pub parsed_answer : Result ℕ Refusal → Answer
parsed_answer = answer_by refused

-- 01: "Reading a tape: 2, 3, 4, 6, 5, 7." The causes before the first sweep, in this order; 5 and 7 are the second sweep's.
abbrev pub early_order : Pattern → (tape : List ℕ) → (words : ℕ) → List Check
early_order p tape n = tape_order p tape ++ ((ltb n (2 * (length tape + 1)), WordsTooShort (2 * (length tape + 1))) ∷ [])

-- number 0 where none of them holds
unfoldable pub early : Pattern → (tape : List ℕ) → (words : ℕ) → Answer
early p tape n = first_cause (early_order p tape n) (answer 0 0)

-- 5 where no value of the pattern, with or without an empty round, spells the tape
pub record TellsUnreadable (t : Tree) (tape code code_now : List ℕ) (a : Answer) : Type 0 where
  pub unreadable : ((v : Value t) → flat t v ≡ tape → ⊥) → (a ≡ refused Unreadable) × (code_now ≡ code)

-- where one does: the code of the greedy value (001, definition 4), or 7 with "bytes needed" and the code as it was
pub record WritesGreedily (t : Tree) (tape code code_now : List ℕ) (a : Answer) : Type 0 where
  pub fits : (bits : List Bool) → Canonical t tape bits → cell_count 8 (length bits) ≤ length code →
      (a ≡ answer 0 (length bits)) × (code_now ≡ in_front (pack 8 bits) code)
  pub short : (bits : List Bool) → Canonical t tape bits → length code < cell_count 8 (length bits) →
      (a ≡ refused (CodeTooShort (cell_count 8 (length bits)))) × (code_now ≡ code)

-- what the second sweep gives
abbrev pub ReadsGreedily : Tree → (tape code code_now : List ℕ) → Answer → Type 0
ReadsGreedily t tape code code_now a = TellsUnreadable t tape code code_now a × WritesGreedily t tape code code_now a

-- THE PROMISE of reading a tape, for every pattern value, tape and lent buffers
pub record Parses (p : Pattern) (tape words words_now code code_now : List ℕ) (r : Result ℕ Refusal) : Type 0 where
  -- a cause before the sweeps leaves everything as it was
  pub refuses : 1 ≤ (early p tape (length words)).number →
      (parsed_answer r ≡ early p tape (length words)) × (words_now ≡ words) × (code_now ≡ code)
  -- else the state sets are filled in, whatever is answered
  pub fills : (early p tape (length words)).number ≡ 0 → words_now ≡ in_front (state_sets p tape) words
  pub reads : (early p tape (length words)).number ≡ 0 → ReadsGreedily (root p) tape code code_now (parsed_answer r)
