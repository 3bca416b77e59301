-- The pattern made of a node and all below it, places counted afresh (02, Job 10). Definitions only.
use Rattle.std.specs.Prelude.{Bool, ◌||◌, cond, List, [], ◌∷◌, ◌++◌, ℕ, zero, suc, eqb}
use Rattle.syntax.specs.declared.Node.{Node}
use Rattle.syntax.specs.declared.Node.TheVariants.{Leaf as LeafNode, Sequence, Alternative, Star}
use Rattle.syntax.specs.declared.Line.{Line}
use Rattle.syntax.specs.declared.Pattern.{Pattern}
use Rattle.syntax.specs.Tree.{Label, Tree, nothing, letter, range, seq, alt, star}
use Rattle.syntax.specs.Table.{table, line_at}
use Rattle.syntax.specs.Trees.{tree_of}

-- whether a node of index i stands in a tree
abbrev pub stands : Tree → ℕ → Bool
stands (nothing m) i = eqb m.index i
stands (letter m c) i = eqb m.index i
stands (range m low high) i = eqb m.index i
stands (seq m t u) i = eqb m.index i || (stands t i || stands u i)
stands (alt m t u) i = eqb m.index i || (stands t i || stands u i)
stands (star m again t) i = eqb m.index i || stands t i

-- the lines that are kept: node l and all below it
abbrev pub kept : Pattern → (l i : ℕ) → Bool
kept p l i = stands (tree_of (line_at p) l) i

-- how many of the lines in front of line i are kept: its place counted afresh
abbrev pub rank : (ℕ → Bool) → ℕ → ℕ
rank f zero = 0
rank f (suc i) = cond (f i) (suc (rank f i)) (rank f i)

-- a node whose parts have new places, and a line: its account goes along
abbrev pub renumbered : (ℕ → ℕ) → Node → Node
renumbered g (LeafNode x) = LeafNode x
renumbered g (Sequence a b) = Sequence (g a) (g b)
renumbered g (Alternative a b) = Alternative (g a) (g b)
renumbered g (Star again a) = Star again (g a)

abbrev pub afresh : (ℕ → ℕ) → Line → Line
afresh g x = record { account = x.account; node = renumbered g x.node }

-- those of the first n lines of which f holds
abbrev pub chosen : (ℕ → Bool) → (ℕ → Line) → ℕ → List Line
chosen f line zero = []
chosen f line (suc n) = chosen f line n ++ cond (f n) (line n ∷ []) []

-- lines keep their order, so node l is the last of them
abbrev pub sub_lines : Pattern → (l : ℕ) → List Line
sub_lines p l = chosen (kept p l) (λ i. afresh (rank (kept p l)) (line_at p i)) (suc l)

-- 02: "the pattern made of that node and all below it, places counted afresh"
unfoldable pub sub_pattern : Pattern → (l : ℕ) → Pattern
sub_pattern p l = table (sub_lines p l)

-- the label of a node by its new place
abbrev pub new_label : (ℕ → ℕ) → Label → Label
new_label g m = record { index = g m.index; account = m.account }
