-- Rows for cuts: a visit of `Z` without letters, nested rounds, a range, letters, and sides. Each visit by node and number, where its piece
-- starts and how long it is, its first bit and how many there are.
use Rattle.std.specs.Prelude.{◌≡◌, refl, Bool, false, true, ◌∷◌, List, [], ℕ}
use Rattle.std.proofs.Math.Option.{some}
use Rattle.syntax.specs.declared.Pattern.{Pattern}
use Rattle.syntax.specs.Letter.{is_letter, in_range}
use Rattle.syntax.specs.Table.{table}
use Rattle.syntax.specs.Trees.{root, tree_of}
use Rattle.syntax.specs.Subpattern.{sub_pattern}
use Rattle.syntax.proofs.SubpatternCases.{mixed, fourth}
use Rattle.bits.specs.Bits.{bits_of}
use Rattle.semantics.specs.Cuts.{Cut, cut, code_cut, piece, bits_cut}
use Rattle.semantics.specs.Decode.{value_of}
use Rattle.semantics.specs.Sweeps.{greedy}

-- visit k of node l: start and size, first bit and bit count
abbrev at : (l start size from bits : ℕ) → Cut
at l i n j c = record { visit = record { index = l; start = i; size = n }; from = j; bits = c }

-- the cut of a settled code, its letters and bits, and these bits are the settled code of these letters under the node's pattern
abbrev pub CutOut : Pattern → (tape : List ℕ) → (code : List Bool) → (node number : ℕ) → Cut → (letters : List ℕ) → (bits : List Bool) → Type 0
CutOut p tape code l k x w bs =
    (code_cut (root p) code l k ≡ some x) × (piece tape x ≡ w) × (bits_cut code x ≡ bs) × (greedy (root (sub_pattern p l)) w ≡ bs)

-- tape `7x`: a round of 7 in which `Z` stops, then a round of x. Bits: 0, then 0 00110111 1 and 0, then 0, then 1 and 10, then 1
abbrev tape : List ℕ
tape = 55 ∷ 120 ∷ []

abbrev pub seven : List Bool
seven = false ∷ false ∷ true ∷ true ∷ false ∷ true ∷ true ∷ true ∷ []

abbrev digits : List Bool
digits = false ∷ false ∷ false ∷ true ∷ true ∷ false ∷ true ∷ true ∷ true ∷ true ∷ []

abbrev pub settled : List Bool
settled =
    false ∷ false ∷ false ∷ false ∷ true ∷ true ∷ false ∷ true ∷ true ∷ true ∷ true ∷ false ∷ false ∷ true ∷ true ∷ false ∷ true ∷ []

settled-mixed : greedy (root mixed) tape ≡ settled
unfolding table greedy root tree_of bits_of in_range is_letter
settled-mixed = refl

abbrev Mixed : (node number : ℕ) → Cut → (letters : List ℕ) → (bits : List Bool) → Type 0
Mixed l k x w bs = CutOut mixed tape settled l k x w bs

-- of `Z`: without letters the bit 0, with a round 1 and 0
lazy-empty : Mixed 3 0 (at 3 1 0 11 1) [] (false ∷ [])
unfolding table code_cut cut value_of greedy root tree_of sub_pattern bits_of in_range is_letter
lazy-empty = (refl, refl, refl, refl)

lazy-round : Mixed 3 1 (at 3 1 1 14 2) (120 ∷ []) (true ∷ false ∷ [])
unfolding table code_cut cut value_of greedy root tree_of sub_pattern bits_of in_range is_letter
lazy-round = (refl, refl, refl, refl)

-- of a `K` in a round: all its rounds and the closing bit; without letters the closing bit alone
digits-round : Mixed 2 0 (at 2 0 1 1 10) (55 ∷ []) digits
unfolding table code_cut cut value_of greedy root tree_of sub_pattern bits_of in_range is_letter
digits-round = (refl, refl, refl, refl)

digits-empty : Mixed 2 1 (at 2 1 0 13 1) [] (true ∷ [])
unfolding table code_cut cut value_of greedy root tree_of sub_pattern bits_of in_range is_letter
digits-empty = (refl, refl, refl, refl)

-- of a range its 8 bits, of a letter none
range_bits : Mixed 1 0 (at 1 0 1 2 8) (55 ∷ []) seven
unfolding table code_cut cut value_of greedy root tree_of sub_pattern bits_of in_range is_letter
range_bits = (refl, refl, refl, refl)

letter_bits : Mixed 0 0 (at 0 1 1 15 0) (120 ∷ []) []
unfolding table code_cut cut value_of greedy root tree_of sub_pattern bits_of in_range is_letter
letter_bits = (refl, refl, refl, refl)

-- the second round, and the whole
second_round : Mixed 4 1 (at 4 1 1 13 3) (120 ∷ []) (true ∷ true ∷ false ∷ [])
unfolding table code_cut cut value_of greedy root tree_of sub_pattern bits_of in_range is_letter
second_round = (refl, refl, refl, refl)

whole : Mixed 5 0 (at 5 0 2 0 17) tape settled
unfolding table code_cut cut value_of greedy root tree_of sub_pattern bits_of in_range is_letter
whole = (refl, refl, refl, refl)

-- "C7 P4, abb: `10`": an alternative's own bit is not its side's
first_side : CutOut fourth (97 ∷ 98 ∷ 98 ∷ []) (true ∷ false ∷ []) 4 0 (at 4 0 2 0 1) (97 ∷ 98 ∷ []) (true ∷ [])
unfolding table code_cut cut value_of greedy root tree_of sub_pattern in_range is_letter
first_side = (refl, refl, refl, refl)

side_itself : CutOut fourth (97 ∷ 98 ∷ 98 ∷ []) (true ∷ false ∷ []) 3 0 (at 3 0 2 1 0) (97 ∷ 98 ∷ []) []
unfolding table code_cut cut value_of greedy root tree_of sub_pattern in_range is_letter
side_itself = (refl, refl, refl, refl)
