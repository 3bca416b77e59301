-- Rows for the text of a table: lines of each sort, with places counted afresh.
use Rattle.std.specs.Prelude.{◌≡◌, refl, [], ◌∷◌}
use Rattle.syntax.specs.declared.Node.TheVariants.{Sequence}
use Rattle.syntax.specs.Table.{table}
use Rattle.syntax.specs.Trees.{tree_of}
use Rattle.syntax.specs.Subpattern.{sub_lines}
use Rattle.syntax.proofs.SubpatternCases.{line, letter_line, mixed, fourth}
use Rattle.text.specs.Text.{digits, decimal}
use Rattle.theorems.specs.PatternText.{text_of}

-- the `Z` of `mixed`: `0 L - x`, `1 Z - 0`
lazy_text : text_of (sub_lines mixed 3) ≡ 48 ∷ 9 ∷ 76 ∷ 9 ∷ 45 ∷ 9 ∷ 120 ∷ 10 ∷ 49 ∷ 9 ∷ 90 ∷ 9 ∷ 45 ∷ 9 ∷ 48 ∷ 10 ∷ []
unfolding text_of decimal digits table tree_of
lazy_text = refl

-- its range, of account 3: `0 R 3 0 9`
range_text : text_of (sub_lines mixed 1) ≡ 48 ∷ 9 ∷ 82 ∷ 9 ∷ 51 ∷ 9 ∷ 48 ∷ 9 ∷ 57 ∷ 10 ∷ []
unfolding text_of decimal digits table tree_of
range_text = refl

-- P4's second side, (b|e): `0 L - b`, `1 E -`, `2 A - 0 1`
side_text : text_of (sub_lines fourth 7)
    ≡ 48 ∷ 9 ∷ 76 ∷ 9 ∷ 45 ∷ 9 ∷ 98 ∷ 10 ∷ 49 ∷ 9 ∷ 69 ∷ 9 ∷ 45 ∷ 10 ∷ 50 ∷ 9 ∷ 65 ∷ 9 ∷ 45 ∷ 9 ∷ 48 ∷ 9 ∷ 49 ∷ 10 ∷ []
unfolding text_of decimal digits table tree_of
side_text = refl

-- its first side's second part, (ab), with an account of three digits on the sequence: `0 L - a`, `1 L - b`, `2 S 200 0 1`
account_text : text_of (letter_line 97 ∷ letter_line 98 ∷ line 200 (Sequence 0 1) ∷ [])
    ≡ 48 ∷ 9 ∷ 76 ∷ 9 ∷ 45 ∷ 9 ∷ 97 ∷ 10 ∷ 49 ∷ 9 ∷ 76 ∷ 9 ∷ 45 ∷ 9 ∷ 98 ∷ 10 ∷ 50 ∷ 9 ∷ 83 ∷ 9 ∷ 50 ∷ 48 ∷ 48 ∷ 9 ∷ 48 ∷ 9 ∷ 49 ∷ 10 ∷ []
unfolding text_of decimal digits
account_text = refl
