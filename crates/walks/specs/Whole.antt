-- What a whole code is, as it is handed in, and what it spells. Definitions only.
use Rattle.std.specs.Prelude.{Bool, ◌&&◌, List, ℕ}
use Rattle.syntax.specs.Tree.{Tree}
use Rattle.bits.specs.Bits.{held, handed_good}
use Rattle.semantics.specs.Decode.{is_code, spelled}

-- 01, cause 8: "not a whole code of the pattern, by bits, range, count or padding". What is handed in is good bytes, and its bits are a code.
unfoldable pub whole_code : (t : Tree) → (code : List ℕ) → (count : ℕ) → Bool
whole_code t code count = handed_good code count && is_code t (held 8 code count)

-- 01: what a code "spells"
unfoldable pub letters_of : (t : Tree) → (code : List ℕ) → (count : ℕ) → List ℕ
letters_of t code count = spelled t (held 8 code count)
