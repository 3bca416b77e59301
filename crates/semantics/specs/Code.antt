-- WHAT MUST BE BELIEVED, 3: codes, as lists of bits (false is 0, true is 1). The bits of a letter, and bits in bytes, are the crate `bits`.
use Rattle.std.specs.Prelude.{◌≡◌, Bool, false, not, true, ◌++◌, ◌∷◌, List, [], ◌*◌, ◌+◌, ◌≤◌, suc, ℕ, length}
use Rattle.std.proofs.Common.{inl, inr}
use Rattle.syntax.specs.Tree.{Tree, nothing, letter, range, seq, alt, star}
use Rattle.bits.specs.Bits.{bits_of, byte_limit}
use Rattle.semantics.specs.Value.{Value, flat, nonproblematic}
use Rattle.semantics.specs.Order.{Greedy}

-- 01: "`K` writes 0 and a round, again and again, then 1." 02: `Z` "writes 0 to stop and 1 before a round". The bit before a round is `again`.
abbrev pub code_rounds : {A : Type 0} → (again : Bool) → (A → List Bool) → List A → List Bool
code_rounds again c [] = not again ∷ []
code_rounds again c (v ∷ vs) = again ∷ (c v ++ code_rounds again c vs)

-- 01: "Code bits: `A` writes 0 for left, 1 for right, then that side. [..] `R` writes its letter in 8 bits, highest first. `S` writes its
-- parts in order. `E` and `L` write none."
abbrev pub code : (t : Tree) → Value t → List Bool
code (nothing m) v = []
code (letter m c) v = []
code (range m low high) v = bits_of 8 v.0
code (seq m t u) v = code t v.0 ++ code u v.1
code (alt m t u) (inl v) = false ∷ code t v
code (alt m t u) (inr v) = true ∷ code u v
code (star m again t) vs = code_rounds again (code t) vs

-- 01: "at most 65,536 bytes", in bits
abbrev pub code_limit : ℕ
code_limit = byte_limit * 8

-- 01: "Within that limit, a code of a pattern is all the bits that one of its readings writes, and no more."
pub record IsCode (t : Tree) (bits : List Bool) : Type 0 where
  pub value : Value t
  pub written : code t value ≡ bits
  pub within : length bits ≤ code_limit

-- 01: "It fixes that reading, spells what the reading spells, and has an empty round if the reading holds one."
pub record Spells (t : Tree) (bits : List Bool) (tape : List ℕ) : Type 0 where
  pub whole : IsCode t bits
  pub same : flat t whole.value ≡ tape

pub record NoEmptyRound (t : Tree) (bits : List Bool) : Type 0 where
  pub whole : IsCode t bits
  pub solid : nonproblematic t whole.value ≡ true

-- 01: "some bit inside both differs; the one with 0 at the first such bit comes before the other."
abbrev pub before : List Bool → List Bool → Bool
before [] ys = false
before (x ∷ xs) [] = false
before (false ∷ xs) (false ∷ ys) = before xs ys
before (false ∷ xs) (true ∷ ys) = true
before (true ∷ xs) (false ∷ ys) = false
before (true ∷ xs) (true ∷ ys) = before xs ys

-- the code of the greedy (02: preferred) value of a tape: what reading the tape gives, and what a code of the tape settles to (01: settled; here: canonical)
pub record Canonical (t : Tree) (tape : List ℕ) (bits : List Bool) : Type 0 where
  pub value : Value t
  pub greedy : Greedy t tape value
  pub written : code t value ≡ bits

-- 01: "With a the number of `A` and `K` nodes"; 02: `Z` follows every rule for `K` on "the count a"
abbrev pub choices : Tree → ℕ
choices (nothing m) = 0
choices (letter m c) = 0
choices (range m low high) = 0
choices (seq m t u) = choices t + choices u
choices (alt m t u) = suc (choices t + choices u)
choices (star m again t) = suc (choices t)
