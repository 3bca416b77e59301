-- Whether a code spells a tape, for every input. Definitions only.
use Rattle.std.specs.Prelude.{Bool, ◌&&◌, List, ℕ, eqb}
use Rattle.std.specs.Cmp.Lexicographic.{pointwise}
use Rattle.syntax.specs.Tree.{Tree}
use Rattle.walks.specs.Whole.{whole_code, letters_of}

-- the same letters, as many
abbrev pub same : (xs ys : List ℕ) → Bool
same = pointwise eqb

-- 01, of showing a piece: "Here 8 also covers a code of another tape."
unfoldable pub code_of_tape : (t : Tree) → (tape code : List ℕ) → (count : ℕ) → Bool
code_of_tape t tape code count = whole_code t code count && same (letters_of t code count) tape
