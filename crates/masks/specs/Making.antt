-- The masks that are made of first, nullable and follow are those of the tree.
use Rattle.std.specs.Prelude.{◌≡◌, true, false, List, ℕ, ◌-◌, replicate}
use Rattle.std.proofs.Common.{sym, ap, subst, ◌∙◌}
use Rattle.std.proofs.lemmas.List.{length-replicate, get_or-replicate}
use Rattle.syntax.specs.declared.Pattern.{Pattern}
use Rattle.syntax.specs.Trees.{tree_of, root}
use Rattle.syntax.specs.TreeLaws.{Rules, obeys_iff}
use Rattle.bits.specs.Bits.{word_of}
use Rattle.table.specs.Cells.{line_in, tree_in, Good, Holds}
use Rattle.table.specs.CellLaws.{holds_tree, holds_good}
use Rattle.table.specs.HandDown.{Rooted, rules_rooted}
use Rattle.masks.specs.Nodes.{Planted}
use Rattle.masks.specs.Planting.{root_planted}
use Rattle.masks.specs.Leaves.{takers, letter_cells, letter_cell}
use Rattle.masks.specs.declared.firsts.First.{First}
use Rattle.masks.specs.declared.follows.Follow.{Follow}
use Rattle.masks.specs.Firsts.{Firsts}
use Rattle.masks.specs.Follows.{Down}
use Rattle.masks.specs.Masks.{Filled, row, comes_to_end, column, column-says, row_ends, line_takers, line_takers_are, LeafMasks, MasksOf}

-- a good table whose lines below the count are a tree, in which each stands once
pub record Maskable (table : List ℕ) (count : ℕ) : Type 0 where
  pub good : Good table
  pub whole : Rooted (line_in table) count
  pub once : Planted (tree_of (line_in table) (count - 1)) count

-- arrays in which nothing is marked
pub record Blank (zs os : List ℕ) : Type 0 where
  pub zeros : Filled 0 (λ x. 0) 64 64 zs
  pub ones : Filled 0 (λ x. 0) 64 64 os

pub none_marked : (n : ℕ) → Filled {A = ℕ} 0 (λ x. 0) n n (replicate n 0)
none_marked n = record { long = length-replicate n 0; cells = λ x h. get_or-replicate n x 0 0 h }

-- the masks that are made of first, nullable and follow
pub masks-made :
    (table : List ℕ) (n : ℕ) → Maskable table n → (xs : List First) (ks : List Follow) (cs ds : List ℕ) (e : ℕ)
    → Firsts (line_in table) n xs → Down (line_in table) n 0 ks
    → Filled 0 (column n (row xs ks false)) 64 n cs → Filled 0 (column n (row xs ks true)) 64 n ds
    → e ≡ word_of n (comes_to_end xs ks)
    → LeafMasks (tree_of (line_in table) (n - 1)) n cs ds e
masks-made table n m xs ks cs ds e u d z o w = record {
  zeros = λ x h. z.cells x h ∙ column-says m.whole m.once xs ks u d false x;
  ones = λ x h. o.cells x h ∙ column-says m.whole m.once xs ks u d true x;
  ends = w ∙ row_ends m.whole m.once xs ks u d;
}

-- a table that holds a pattern is such a table, and its masks are the pattern's
module _ (p : Pattern) (r : Rules p) (table : List ℕ) (h : Holds p table) where
  tree_is : tree_of (line_in table) (p.count - 1) ≡ root p
  unfolding tree_in
  tree_is = holds_tree p table ((obeys_iff p).1 r) h

  pub holds_maskable : Maskable table p.count
  holds_maskable = record {
    good = holds_good p table ((obeys_iff p).1 r) h;
    whole = rules_rooted p r (line_in table) h.lines;
    once = subst (λ t. Planted t p.count) (sym tree_is) (root_planted p r);
  }

  pub masks-of-pattern :
      (zs os ks : List ℕ) (e : ℕ) → LeafMasks (tree_of (line_in table) (p.count - 1)) p.count zs os e
      → Filled 0 (λ c. line_takers (line_in table) c p.count) letter_cells letter_cells ks → MasksOf (root p) p.count zs os ks e
  masks-of-pattern zs os ks e m k = record {
    leaves = subst (λ t. LeafMasks t p.count zs os e) tree_is m;
    letters = λ c h.
        k.cells c (letter_cell c h) ∙ line_takers_are holds_maskable.whole holds_maskable.once c ∙ ap (λ t. takers t p.count c) tree_is;
  }
