-- Rows for the pattern of a node: its lines keep their order, places are counted afresh, accounts go along, and nothing stands past the count.
use Rattle.std.specs.Prelude.{◌≡◌, refl, false, true, [], ◌∷◌, ℕ}
use Rattle.syntax.specs.declared.Leaf.TheVariants.{Nothing, Letter, Range}
use Rattle.syntax.specs.declared.Line.{Line}
use Rattle.syntax.specs.declared.Node.{Node}
use Rattle.syntax.specs.declared.Node.TheVariants.{Leaf as LeafNode, Sequence, Alternative, Star}
use Rattle.syntax.specs.declared.Pattern.{Pattern}
use Rattle.syntax.specs.Letter.{is_letter}
use Rattle.syntax.specs.Table.{table, obeys, line_good, wrongly_names, unnamed, tree_fault}
use Rattle.syntax.specs.Trees.{tree_of}
use Rattle.syntax.specs.Subpattern.{sub_pattern}

abbrev pub line : (account : ℕ) → Node → Line
line a k = record { account = a; node = k }

abbrev pub letter_line : ℕ → Line
letter_line c = line 0 (LeafNode (Letter c))

-- `K` over (`K` over 0 to 9, then `Z` over x): 0 `L` x, 1 `R` 0 9 of account 3, 2 `K` 1, 3 `Z` 0, 4 `S` 2 3, 5 `K` 4 of account 9
abbrev pub mixed : Pattern
mixed =
    table (letter_line 120 ∷ line 3 (LeafNode (Range 48 57)) ∷ line 0 (Star false 1) ∷ line 0 (Star true 0) ∷ line 0 (Sequence 2 3)
    ∷ line 9 (Star false 4) ∷ [])

pub obeys-mixed : obeys mixed ≡ true
unfolding table obeys line_good wrongly_names unnamed tree_fault is_letter
obeys-mixed = refl

sub_range : sub_pattern mixed 1 ≡ table (line 3 (LeafNode (Range 48 57)) ∷ [])
unfolding table sub_pattern tree_of
sub_range = refl

sub_digits : sub_pattern mixed 2 ≡ table (line 3 (LeafNode (Range 48 57)) ∷ line 0 (Star false 0) ∷ [])
unfolding table sub_pattern tree_of
sub_digits = refl

sub_lazy : sub_pattern mixed 3 ≡ table (letter_line 120 ∷ line 0 (Star true 0) ∷ [])
unfolding table sub_pattern tree_of
sub_lazy = refl

-- the root's is the pattern itself
sub_whole : sub_pattern mixed 5 ≡ mixed
unfolding table sub_pattern tree_of
sub_whole = refl

-- "P4: (a|ab)(b|e)", and its second side
abbrev pub fourth : Pattern
fourth =
    table (letter_line 97 ∷ letter_line 97 ∷ letter_line 98 ∷ line 0 (Sequence 1 2) ∷ line 0 (Alternative 0 3) ∷ letter_line 98 ∷ line 0 (LeafNode Nothing)
    ∷ line 0 (Alternative 5 6) ∷ line 0 (Sequence 4 7) ∷ [])

sub_side : sub_pattern fourth 7 ≡ table (letter_line 98 ∷ line 0 (LeafNode Nothing) ∷ line 0 (Alternative 0 1) ∷ [])
unfolding table sub_pattern tree_of
sub_side = refl
