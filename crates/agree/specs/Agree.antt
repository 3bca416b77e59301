-- The third demand on one run: what the function that runs it promises. Definitions only.
use Rattle.std.specs.Prelude.{◌≡◌, Bool, true, false, ◌↔◌, List, ℕ, ◌+◌, ◌*◌, ◌≤◌, ◌<◌, length, take, Err, Ok, Result}
use Rattle.syntax.specs.declared.Pattern.{Pattern}
use Rattle.refusals.specs.declared.Refusal.{Refusal}
use Rattle.refusals.specs.declared.Refusal.TheVariants.{CodeTooShort}
use Rattle.syntax.specs.Letter.{letter_limit}
use Rattle.syntax.specs.Table.{obeys}
use Rattle.syntax.specs.Trees.{root}
use Rattle.bits.specs.Bits.{cell_count, pack, in_front}
use Rattle.semantics.specs.Code.{Canonical}
use Rattle.steps.specs.StateSets.{words as state_sets}
use Rattle.canonical.specs.Canonicalize.{Canonicalizes}
use Rattle.canonical.specs.Demand.{tape_of, Code, spells, Run, Equal, Demand}

-- ── two settled codes, each settled again ──

-- bytes and a bit count that settling gave, and a tape and words that suffice for what they spell
pub record IsSettled (p : Pattern) (code : List ℕ) (count tape words : ℕ) : Type 0 where
  pub good : obeys p ≡ true
  pub letters : List ℕ
  pub few : length letters ≤ letter_limit
  pub bits : List Bool
  pub earliest : Canonical (root p) letters bits
  pub bytes_are : code ≡ pack 8 bits
  pub count_is : count ≡ length bits
  pub tape-room : length letters ≤ tape
  pub word_room : 2 * (length letters + 1) ≤ words

-- 01: "Codes are equal if their bit counts and all their bytes are."
pub record Compares (one : List ℕ) (n : ℕ) (two : List ℕ) (m : ℕ) (r : Result Bool Refusal) : Type 0 where
  pub same : (r ≡ Ok true) ↔ Equal one two n m
  pub different : (r ≡ Ok false) ↔ (Equal one two n m → ⊥)

-- the buffers that are worked in: tape, mark words, and the one for a code that is settled again
pub record Worked : Type 0 where
  pub tape : List ℕ
  pub words : List ℕ
  pub again : List ℕ

abbrev pub worked : (tape words again : List ℕ) → Worked
worked tape words again = record { tape = tape; words = words; again = again }

-- a settled code is spelled and read: tape and words are filled, whatever is answered, and the code is written where it fits
abbrev pub filled : Pattern → (code : List ℕ) → (count : ℕ) → Worked → Worked
filled p code count lent =
    worked (in_front (tape_of p code count) lent.tape) (in_front (state_sets p (tape_of p code count)) lent.words) lent.again

abbrev pub written : Pattern → (code : List ℕ) → (count : ℕ) → Worked → Worked
written p code count lent = worked (filled p code count lent).tape (filled p code count lent).words (in_front code lent.again)

-- each comes back as itself, the first before the second; a buffer that is too short for it is 7, with the bytes needed. Then the two are
-- compared.
pub record SettlesAgain (p : Pattern) (one : List ℕ) (n : ℕ) (two : List ℕ) (m : ℕ) (lent left : Worked) (r : Result Bool Refusal) : Type 0 where
  pub first_short : length lent.again < length one → (r ≡ Err (CodeTooShort (length one))) × (left ≡ filled p one n lent)
  pub second_short : length one ≤ length lent.again → length lent.again < length two
      → (r ≡ Err (CodeTooShort (length two))) × (left ≡ filled p two m (written p one n lent))
  pub compares : length one ≤ length lent.again → length two ≤ length lent.again
      → Compares one n two m r × (left ≡ written p two m (written p one n lent))

abbrev pub ComesBack : Pattern → (one : List ℕ) → (n : ℕ) → (two : List ℕ) → (m : ℕ) → (lent left : Worked) → Result Bool Refusal → Type 0
ComesBack p one n two m lent left r =
    IsSettled p one n (length lent.tape) (length lent.words) → IsSettled p two m (length lent.tape) (length lent.words)
    → SettlesAgain p one n two m lent left r

-- ── the run ──

-- a call of settling: what it answered, and what it left in the lent tape and words
pub record Call (p : Pattern) (code : List ℕ) (count : ℕ) (tape words out out_now : List ℕ) : Type 0 where
  pub result : Result ℕ Refusal
  pub tape_now : List ℕ
  pub words_now : List ℕ
  pub kept : Canonicalizes p code count tape tape_now words words_now out out_now result

-- 01: "The settled code is the bit count returned with the bytes written for it, not the cells past them."
abbrev pub front : (buffer : List ℕ) → (count : ℕ) → List ℕ
front buffer n = take (cell_count 8 n) buffer

-- the answer and the buffers worked in, by what the two calls answered: of refusals the first is passed on
pub record Verdict (first second : Result ℕ Refusal) (p : Pattern) (a_now b_now : List ℕ) (lent left : Worked) (r : Result Bool Refusal) : Type 0 where
  pub first_refused : (why : Refusal) → first ≡ Err why → (r ≡ Err why) × (left ≡ lent)
  pub second_refused : (k : ℕ) → (why : Refusal) → first ≡ Ok k → second ≡ Err why → (r ≡ Err why) × (left ≡ lent)
  pub both : (k l : ℕ) → first ≡ Ok k → second ≡ Ok l → SettlesAgain p (front a_now k) k (front b_now l) l lent left r

-- 01: "buffers suffice with at least n tape cells, 2 × (n + 1) mark words, and as many code bytes as the code of the greedy reading of those
-- letters fills"
pub record Suffice (p : Pattern) (letters : List ℕ) (tape words out : ℕ) : Type 0 where
  pub tape-room : length letters ≤ tape
  pub word_room : 2 * (length letters + 1) ≤ words
  pub code-room : (bits : List Bool) → Canonical (root p) letters bits → cell_count 8 (length bits) ≤ out

-- the demand on a run: a-now and b-now are what the two calls of settling left, and the answer says whether the codes spell the same tape
pub record OnRun (p : Pattern) (c d : Code p) (a_now b_now : List ℕ) (r : Result Bool Refusal) : Type 0 where
  pub x : Run p c
  pub y : Run p d
  pub x_left : x.out_now ≡ a_now
  pub y_left : y.out_now ≡ b_now
  pub demand : Demand p c d x y
  pub same : (r ≡ Ok true) ↔ (spells c ≡ spells d)
  pub different : (r ≡ Ok false) ↔ (spells c ≡ spells d → ⊥)

-- where both are codes of the pattern, in lent buffers that suffice for each and for each again
abbrev pub Demands : Pattern → (one : List ℕ) → (n : ℕ) → (two : List ℕ) → (m : ℕ) → (tape words a b again : ℕ) → (a_now b_now : List ℕ) → Result Bool Refusal → Type 0
Demands p one n two m tape words a b again a_now b_now r =
    obeys p ≡ true → (c d : Code p) → c.bytes ≡ one → c.count ≡ n → d.bytes ≡ two → d.count ≡ m
    → Suffice p (spells c) tape words a → Suffice p (spells d) tape words b → Suffice p (spells c) tape words again → Suffice p (spells d) tape words again
    → OnRun p c d a_now b_now r

-- THE PROMISE of running the demand: two calls of settling, one after the other, then the answer and all buffers for every input, and the
-- demand on this run
pub record Agrees (p : Pattern) (one : List ℕ) (n : ℕ) (two : List ℕ) (m : ℕ) (lent left : Worked) (a a_now b b_now : List ℕ) (r : Result Bool Refusal) : Type 0 where
  pub first : Call p one n lent.tape lent.words a a_now
  pub second : Call p two m first.tape_now first.words_now b b_now
  pub answers : Verdict first.result second.result p a_now b_now (worked second.tape_now second.words_now lent.again) left r
  pub demands : Demands p one n two m (length lent.tape) (length lent.words) (length a) (length b) (length lent.again) a_now b_now r
