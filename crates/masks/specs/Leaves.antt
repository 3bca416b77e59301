-- What a mask speaks of: the letters that a leaf takes, and cells of stored masks.
use Rattle.std.specs.Prelude.{◌≡◌, Bool, true, false, List, ℕ, ◌<◌, eqb, get_or}
use Rattle.std.proofs.Common.{arith}
use Rattle.syntax.specs.Letter.{is_letter, in_range}
use Rattle.syntax.specs.LetterLaws.{letter_below}
use Rattle.syntax.specs.Tree.{Tree, nothing, letter, range, seq, alt, star}
use Rattle.masks.specs.Nodes.{node_word}

-- whether a leaf takes a letter
abbrev pub takes : Tree → ℕ → Bool
takes (nothing m) c = false
takes (letter m a) c = eqb a c
takes (range m low high) c = in_range low high c
takes (seq m t u) c = false
takes (alt m t u) c = false
takes (star m again t) c = false

-- the leaves of a tree of n nodes that take a letter
unfoldable pub takers : Tree → (n : ℕ) → (letter : ℕ) → ℕ
takers root n c = node_word root n (λ t s. takes t c)

-- the number of cells that hold takers, a letter a cell; in code `LETTER_CELLS`
abbrev pub letter_cells : ℕ
letter_cells = 256

-- every letter has its cell
pub letter_cell : (c : ℕ) → is_letter c ≡ true → c < letter_cells
letter_cell c h = omega (arith, letter_below c h)

-- a cell of an array of numbers, 0 past its end
abbrev pub entry : List ℕ → ℕ → ℕ
entry xs x = get_or xs x 0
