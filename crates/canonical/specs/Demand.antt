-- THE THIRD DEMAND, as one type. It speaks of the program through the contract of `canonicalize` only, and of spelling through the
-- definitions that the contract of `flatten` cites.
use Rattle.std.specs.Prelude.{◌≡◌, Bool, true, ◌↔◌, List, ℕ, ◌+◌, ◌*◌, ◌≤◌, length, take, Result}
use Rattle.refusals.specs.declared.Refusal.{Refusal}
use Rattle.syntax.specs.declared.Pattern.{Pattern}
use Rattle.syntax.specs.Letter.{letter_limit}
use Rattle.refusals.specs.Refusals.{answer}
use Rattle.syntax.specs.Table.{obeys}
use Rattle.syntax.specs.Trees.{root}
use Rattle.bits.specs.Bits.{Small, cell_count, held}
use Rattle.semantics.specs.Code.{Spells, NoEmptyRound, Canonical, before}
use Rattle.walks.specs.Whole.{whole_code, letters_of}
use Rattle.canonical.specs.Canonicalize.{canonicalized_answer, Canonicalizes}

-- a code of the pattern as handed in: bytes and a bit count
pub record IsCode (p : Pattern) (bytes : List ℕ) (count : ℕ) : Type 0 where
  pub small : Small 8 bytes
  pub whole : whole_code (root p) bytes count ≡ true

-- the tape that it spells
abbrev pub tape_of : Pattern → (bytes : List ℕ) → (count : ℕ) → List ℕ
tape_of p bytes count = letters_of (root p) bytes count

-- a code that spells "at most 3,600 letters"
pub record Code (p : Pattern) : Type 0 where
  pub bytes : List ℕ
  pub count : ℕ
  pub is : IsCode p bytes count
  pub few : length (tape_of p bytes count) ≤ letter_limit

abbrev pub spells : {p : Pattern} → Code p → List ℕ
spells {p} c = tape_of p c.bytes c.count

-- a call of settling in any lent buffers that suffice, and what its contract allows it to answer and to leave. 01: "buffers suffice with at
-- least n tape cells, 2 × (n + 1) mark words, and as many code bytes as the code of the greedy reading of those letters fills"
pub record Run (p : Pattern) (c : Code p) : Type 0 where
  pub tape : List ℕ
  pub tape_now : List ℕ
  pub words : List ℕ
  pub words_now : List ℕ
  pub out : List ℕ
  pub out_now : List ℕ
  pub result : Result ℕ Refusal
  pub kept : Canonicalizes p c.bytes c.count tape tape_now words words_now out out_now result
  pub tape-room : length (spells c) ≤ length tape
  pub word_room : 2 * (length (spells c) + 1) ≤ length words
  pub code-room : (bits : List Bool) → Canonical (root p) (spells c) bits → cell_count 8 (length bits) ≤ length out

-- it is settled. 01: "The settled code is the bit count returned with the bytes written for it, not the cells past them."
pub record Settled {p : Pattern} {c : Code p} (x : Run p c) : Type 0 where
  pub count : ℕ
  pub answers : canonicalized_answer x.result ≡ answer 0 count

abbrev pub bytes_of : {p : Pattern} {c : Code p} (x : Run p c) → Settled x → List ℕ
bytes_of x s = take (cell_count 8 s.count) x.out_now

-- "equal, in bit count and in every byte"
abbrev pub Equal : (bytes other : List ℕ) → (count count' : ℕ) → Type 0
Equal xs ys n m = (n ≡ m) × (xs ≡ ys)

-- a code of the pattern that spells the tape, without an empty round, before every other such code. That it spells the tape is said of the
-- value whose code it is (01: a code "spells what the reading spells"), not of what is decoded.
pub record Earliest (p : Pattern) (tape bytes : List ℕ) (count : ℕ) : Type 0 where
  pub is : IsCode p bytes count
  pub spells_it : Spells (root p) (held 8 bytes count) tape
  pub solid : NoEmptyRound (root p) (held 8 bytes count)
  pub first :
      (xs : List ℕ) (n : ℕ) → IsCode p xs n → Spells (root p) (held 8 xs n) tape → NoEmptyRound (root p) (held 8 xs n) → (Equal xs bytes n count → ⊥)
      → before (held 8 bytes count) (held 8 xs n) ≡ true

-- one code and its run: settled, to the earliest code, and settled again it is itself
pub record SettlesWell (p : Pattern) (c : Code p) (x : Run p c) : Type 0 where
  pub settled : Settled x
  pub earliest : Earliest p (spells c) (bytes_of x settled) settled.count
  pub again :
      (d : Code p) → d.bytes ≡ bytes_of x settled → d.count ≡ settled.count → (y : Run p d)
      → (s : Settled y) × Equal (bytes_of y s) (bytes_of x settled) s.count settled.count

-- two codes and their runs: the settled codes are equal exactly when the codes handed in spell the same tape, letter for letter
pub record Demand (p : Pattern) (a b : Code p) (x : Run p a) (y : Run p b) : Type 0 where
  pub one : SettlesWell p a x
  pub two : SettlesWell p b y
  pub equal :
      Equal (bytes_of x one.settled) (bytes_of y two.settled) one.settled.count two.settled.count ↔ (spells a ≡ spells b)

unfoldable pub ThirdDemand : Type 0
ThirdDemand = (p : Pattern) → obeys p ≡ true → (a b : Code p) (x : Run p a) (y : Run p b) → Demand p a b x y
