-- THE THIRD DEMAND for pattern texts and the call from C, as one type. It speaks of the program through the promise of `wumbyra_canonicalize`
-- only. 01: "It is one claim about a pattern, two of its codes and all lent buffers". Definitions only.
use Rattle.std.specs.Prelude.{◌≡◌, Bool, ◌↔◌, List, ℕ, ◌+◌, ◌*◌, ◌≤◌, length, take}
use Rattle.syntax.specs.Trees.{root}
use Rattle.loading.specs.Load.{load_answer, load_table}
use Rattle.bits.specs.Bits.{cell_count}
use Rattle.semantics.specs.Code.{Canonical}
use Rattle.canonical.specs.Demand.{Code, spells, Equal, Earliest}
use Rattle.packing.specs.Packing.{unpacked}
use Rattle.wumbyra.specs.Packed.{CanonicalizesText}

-- a code of the pattern that the text writes, of at most 3,600 letters: bytes and a bit count
abbrev pub CodeOf : (text : List ℕ) → Type 0
CodeOf text = Code (load_table text)

-- a call in any lent buffers that suffice, and what its promise allows it to answer and to leave. 01: "buffers suffice with at least n tape
-- cells, 2 × (n + 1) mark words, and as many code bytes as the code of the greedy reading of those letters fills"
pub record Call (text : List ℕ) (c : CodeOf text) : Type 0 where
  pub tape : List ℕ
  pub tape_now : List ℕ
  pub words : List ℕ
  pub words_now : List ℕ
  pub out : List ℕ
  pub out_now : List ℕ
  pub result : ℕ
  pub kept : CanonicalizesText text c.bytes c.count tape tape_now words words_now out out_now result
  pub tape-room : length (spells c) ≤ length tape
  pub word_room : 2 * (length (spells c) + 1) ≤ length words
  pub code-room : (bits : List Bool) → Canonical (root (load_table text)) (spells c) bits → cell_count 8 (length bits) ≤ length out

-- 01: "The settled code is the bit count returned with the bytes written for it, not the cells past them."
abbrev pub count_of : {text : List ℕ} {c : CodeOf text} → Call text c → ℕ
count_of x = (unpacked x.result).value

abbrev pub bytes_of : {text : List ℕ} {c : CodeOf text} → Call text c → List ℕ
bytes_of x = take (cell_count 8 (count_of x)) x.out_now

-- one code and a call on it: it is settled, to the earliest code of its tape without an empty round, and settled again it is itself
pub record SettlesWell (text : List ℕ) (c : CodeOf text) (x : Call text c) : Type 0 where
  pub settled : (unpacked x.result).number ≡ 0
  pub earliest : Earliest (load_table text) (spells c) (bytes_of x) (count_of x)
  pub again :
      (d : CodeOf text) → d.bytes ≡ bytes_of x → d.count ≡ count_of x → (y : Call text d)
      → (y.result ≡ x.result) × Equal (bytes_of y) (bytes_of x) (count_of y) (count_of x)

-- two codes and a call on each: answers and bytes are equal exactly when the codes handed in spell the same tape, letter for letter
pub record Demand (text : List ℕ) (a b : CodeOf text) (x : Call text a) (y : Call text b) : Type 0 where
  pub one : SettlesWell text a x
  pub two : SettlesWell text b y
  pub equal : Equal (bytes_of x) (bytes_of y) (count_of x) (count_of y) ↔ (spells a ≡ spells b)
  pub answers : (x.result ≡ y.result) ↔ (count_of x ≡ count_of y)

-- of every text that loads (any other is refused with 2, whatever the code: wumbyra's Unloaded)
unfoldable pub ThirdDemand : Type 0
ThirdDemand = (text : List ℕ) → (load_answer text).number ≡ 0 → (a b : CodeOf text) (x : Call text a) (y : Call text b) → Demand text a b x y
