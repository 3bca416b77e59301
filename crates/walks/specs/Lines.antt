-- What a walk takes from a line of the table: its parts stand below it, and its tree is made of theirs.
use Rattle.std.specs.Prelude.{◌≡◌, Bool, true, false, cond, List, ℕ, ◌<◌}
use Rattle.std.proofs.Common.{ap, subst, ◌∙◌}
use Rattle.syntax.specs.declared.Leaf.{Leaf}
use Rattle.syntax.specs.declared.Leaf.TheVariants.{Range}
use Rattle.syntax.specs.declared.Node.{Node}
use Rattle.syntax.specs.declared.Node.TheVariants.{Sequence, Alternative, Star}
use Rattle.syntax.specs.Tree.{Label, star}
use Rattle.syntax.specs.Trees.{made}
use Rattle.syntax.specs.TreeLaws.{Below}
use Rattle.table.specs.Cells.{node_in, account_in, tree_in, Good}
use Rattle.table.specs.CellLaws.{line-tree, line_lower}

-- a name for the clauses of the source, where `Range` cannot be imported beside the type
abbrev pub range_node : (low high : ℕ) → Leaf
range_node a b = Range a b

-- ── what a walk may take from a line: its parts stand below it ──
module _ {table : List ℕ} (good : Good table) (l : ℕ) (s : l < 64) (n : Node) (en : n ≡ node_in table l) where
  lower : (k : Node) → n ≡ k → Below l k
  lower k e = subst (Below l) e (line_lower good l s n en)

  pub first_lower : (p q : ℕ) → n ≡ Sequence p q → p < l
  first_lower p q e = (lower (Sequence p q) e).0

  pub second_lower : (p q : ℕ) → n ≡ Sequence p q → q < l
  second_lower p q e = (lower (Sequence p q) e).1

  pub side_lower : (p q : ℕ) → n ≡ Alternative p q → (b : Bool) (r : ℕ) → r ≡ cond b q p → r < l
  side_lower p q e b r er = let h = lower (Alternative p q) e in rw er (pick b h.0 h.1)
    where
      pick : (b : Bool) → p < l → q < l → cond b q p < l
      pick true h k = k
      pick false h k = h

  pub star_lower : (again : Bool) (p : ℕ) → n ≡ Star again p → p < l
  star_lower again p e = lower (Star again p) e

-- ── the tree of a line, by its node ──
module _ {table : List ℕ} (good : Good table) (l : ℕ) (s : l < 64) (n : Node) (en : n ≡ node_in table l) where
  abbrev pub label_at : Label
  label_at = record { index = l; account = account_in table l }

  pub line_as : (k : Node) → n ≡ k → tree_in table l ≡ made label_at (tree_in table) k
  line_as k e = line-tree good l s n en ∙ ap (made label_at (tree_in table)) e

  -- a star's bit for another round is that of the line
  pub star_as : (again : Bool) (p : ℕ) → n ≡ Star again p → tree_in table l ≡ star label_at again (tree_in table p)
  star_as again p e = line_as (Star again p) e
