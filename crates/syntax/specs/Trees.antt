-- The labelled tree of a table. Each part stands below its line, so the trees are planted from the first line on.
use Rattle.std.specs.Prelude.{List, [], ◌∷◌, ◌++◌, ℕ, zero, suc, ◌-◌, get_or}
use Rattle.syntax.specs.declared.Leaf.TheVariants.{Nothing, Letter, Range}
use Rattle.syntax.specs.declared.Node.{Node}
use Rattle.syntax.specs.declared.Node.TheVariants.{Leaf as LeafNode, Sequence, Alternative, Star}
use Rattle.syntax.specs.declared.Line.{Line}
use Rattle.syntax.specs.declared.Pattern.{Pattern}
use Rattle.syntax.specs.Tree.{Label, Tree, nothing, letter, range, seq, alt, star}
use Rattle.syntax.specs.Table.{line_at}

-- the node of a line over the trees of its parts
abbrev pub made : Label → (ℕ → Tree) → Node → Tree
made m t (LeafNode Nothing) = nothing m
made m t (LeafNode (Letter c)) = letter m c
made m t (LeafNode (Range a b)) = range m a b
made m t (Sequence p q) = seq m (t p) (t q)
made m t (Alternative p q) = alt m (t p) (t q)
made m t (Star again p) = star m again (t p)

abbrev pub unplanted : Tree
unplanted = nothing (record { index = 0; account = 0 })

abbrev pub plant : (lines : ℕ → Line) → List Tree → ℕ → Tree
plant f ts l = made (record { index = l; account = (f l).account }) (λ q. get_or ts q unplanted) (f l).node

-- the trees of the first n lines
abbrev pub trees : (lines : ℕ → Line) → ℕ → List Tree
trees f zero = []
trees f (suc n) = trees f n ++ (plant f (trees f n) n ∷ [])

-- the tree of line l; lines are handed over as a function, so that it does not matter how a table is stored
unfoldable pub tree_of : (lines : ℕ → Line) → ℕ → Tree
tree_of f l = plant f (trees f l) l

-- 01: "The last line is the root."
unfoldable pub root : Pattern → Tree
root p = tree_of (line_at p) (p.count - 1)
