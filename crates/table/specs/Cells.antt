-- A table packed into cells: what the numbers of a cell mean, and what a walk may take from a packed table. Definitions only.
use Rattle.std.specs.Prelude.{◌≡◌, Bool, true, false, cond, List, ℕ, zero, suc, ◌/◌, ◌%◌, ◌≤◌, ◌<◌, eqb, length, get_or}
use Rattle.syntax.specs.declared.Leaf.{Leaf}
use Rattle.syntax.specs.declared.Leaf.TheVariants.{Nothing, Letter, Range}
use Rattle.syntax.specs.declared.Node.{Node}
use Rattle.syntax.specs.declared.Node.TheVariants.{Leaf as LeafNode, Sequence, Alternative, Star}
use Rattle.syntax.specs.declared.Line.{Line}
use Rattle.syntax.specs.declared.Pattern.{Pattern}
use Rattle.syntax.specs.Table.{blank, line_at, node_good, account_limit}
use Rattle.syntax.specs.Tree.{Tree, index}
use Rattle.syntax.specs.Trees.{tree_of, root}
use Rattle.syntax.specs.TreeLaws.{Below}
use Rattle.semantics.specs.Automaton.{Location, State, end, at, follower}
use Rattle.semantics.specs.Passing.{loops}
use Rattle.table.specs.declared.Numbers.{Numbers}

-- the numbers of a node
abbrev pub row : (kind first second : ℕ) → Numbers
row k a b = record { kind = k; first = a; second = b }

abbrev pub leaf_row : Leaf → Numbers
leaf_row Nothing = row 0 0 0
leaf_row (Letter c) = row 1 c 0
leaf_row (Range a b) = row 2 a b

-- a star's kind, by the bit that means another round
abbrev pub star_kind : (again : Bool) → ℕ
star_kind again = cond again 6 5

abbrev pub row_of : Node → Numbers
row_of (LeafNode x) = leaf_row x
row_of (Sequence p q) = row 3 p q
row_of (Alternative p q) = row 4 p q
row_of (Star again p) = row (star_kind again) p 0

-- and the node of such numbers
abbrev pub node_from : (kind first second : ℕ) → Node
node_from zero a b = LeafNode Nothing
node_from (suc zero) a b = LeafNode (Letter a)
node_from (suc (suc zero)) a b = LeafNode (Range a b)
node_from (suc (suc (suc zero))) a b = Sequence a b
node_from (suc (suc (suc (suc zero)))) a b = Alternative a b
node_from (suc (suc (suc (suc (suc zero))))) a b = Star false a
node_from (suc (suc (suc (suc (suc (suc k)))))) a b = Star true a

-- a cell is one number, its parts from the lowest: kind, first, second, account, each a field of 8 bits; what 1 in each of them is worth
abbrev pub field : ℕ
field = 256

abbrev pub first_place : ℕ
first_place = 256

abbrev pub second_place : ℕ
second_place = 65536

abbrev pub account_place : ℕ
account_place = 16777216

unfoldable pub cell_node : (cell : ℕ) → Node
cell_node c = node_from (c % field) (c / first_place % field) (c / second_place % field)

unfoldable pub cell_account : (cell : ℕ) → ℕ
cell_account c = c / account_place % field

abbrev pub node_in : (table : List ℕ) → (l : ℕ) → Node
node_in table l = cell_node (get_or table l 0)

abbrev pub account_in : (table : List ℕ) → (l : ℕ) → ℕ
account_in table l = cell_account (get_or table l 0)

abbrev pub cell_line : (cell : ℕ) → Line
cell_line c = record { account = cell_account c; node = cell_node c }

abbrev pub line_in : (table : List ℕ) → (l : ℕ) → Line
line_in table l = cell_line (get_or table l 0)

-- the tree of a line, as the pattern's own: what walks over a packed table are walks of
unfoldable pub tree_in : (table : List ℕ) → (l : ℕ) → Tree
tree_in table l = tree_of (line_in table) l

-- ── followers: above those 32 bits, the follower in 8 bits and a bit that is 1 where it is a star above ──
abbrev pub half : ℕ
half = 4294967296

-- 1 more in the mark of a star above
abbrev pub above_place : ℕ
above_place = 256

unfoldable pub cell_follower : (cell : ℕ) → ℕ
cell_follower c = c / half

abbrev pub cell_follower_in : (table : List ℕ) → (l : ℕ) → ℕ
cell_follower_in table l = cell_follower (get_or table l 0)

-- 01's follower of a line by its number: a node's index, and 64 for the end
abbrev pub follower_in : (table : List ℕ) → (l : ℕ) → ℕ
follower_in table l = cell_follower_in table l % field

-- whether the follower is a star above
abbrev pub loops_in : (table : List ℕ) → (l : ℕ) → Bool
loops_in table l = eqb (cell_follower_in table l / above_place % 2) 1

-- a state's number
abbrev pub state_index : {root : Tree} → State root → ℕ
state_index end = 64
state_index (at t s) = index t

-- the node with index l
pub record NodeAt (root : Tree) (l : ℕ) : Type 0 where
  pub tree : Tree
  pub place : Location root tree
  pub is : index tree ≡ l

-- the follower of node l has the number f, and b says whether it is a star above
pub record Followed (root : Tree) (l f : ℕ) (b : Bool) : Type 0 where
  pub node : NodeAt root l
  pub is : f ≡ state_index (follower node.place)
  pub above : b ≡ loops node.place

-- a packed table that holds a pattern: below its count the pattern's lines and their followers, and nothing past it
pub record Holds (p : Pattern) (table : List ℕ) : Type 0 where
  pub long : length table ≡ 64
  pub lines : (l : ℕ) → l < p.count → line_in table l ≡ line_at p l
  pub rest : (l : ℕ) → p.count ≤ l → l < 64 → line_in table l ≡ blank
  pub follows : (l : ℕ) → l < p.count → Followed (root p) l (follower_in table l) (loops_in table l)

-- what a walk asks of a table: parts stand below their line, letters are letters, and accounts are accounts
pub record Good (table : List ℕ) : Type 0 where
  pub lower : (l : ℕ) → l < 64 → Below l (node_in table l)
  pub formed : (l : ℕ) → l < 64 → node_good (node_in table l) ≡ true
  pub accounts : (l : ℕ) → l < 64 → account_in table l ≤ account_limit
