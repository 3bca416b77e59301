-- The tree of a tested table has each node once, so that what is said of a node goes by its index; and each line stands in it.
use Rattle.std.specs.Prelude.{◌≡◌, refl, ℕ, zero, suc, ◌+◌, ◌-◌, ◌<◌}
use Rattle.std.proofs.Common.{sym, ap, subst, ◌∙◌, arith}
use Rattle.syntax.specs.declared.Line.{Line}
use Rattle.syntax.specs.declared.Pattern.{Pattern}
use Rattle.syntax.specs.Tree.{Tree, index}
use Rattle.syntax.specs.Trees.{root, tree_of}
use Rattle.syntax.specs.TreeLaws.{Rules, root_once}
use Rattle.semantics.specs.Automaton.{Location, top}
use Rattle.table.specs.HandDown.{Rooted, Stores, AllGiven, Hands, given-start, given-next, given_end}
use Rattle.masks.specs.Nodes.{Predicate, said, said_at, Planted, planted}

-- the tree of a tested table has every index below the count once, and no other
pub root_planted : (p : Pattern) → Rules p → Planted (root p) p.count
root_planted p r = planted (root p) p.count (root_once p r)

-- what is said of a node goes by its index
pub same_node :
    {root : Tree} {n : ℕ} (good : Planted root n) (f : Predicate root) (t u : Tree) (s : Location root t) (q : Location root u) → index t ≡ index u
    → f t s ≡ f u q
same_node {root} good f t u s q e = sym (said_at good.apart f t s) ∙ ap (said f root top) e ∙ said_at good.apart f u q

-- every line below the count stands in the tree: what is handed down from the root, though it be nothing, comes to each
module _ {f : ℕ → Line} {n : ℕ} (whole : Rooted f n) where
  abbrev Anything : (t : Tree) → Location (tree_of f (n - 1)) t → Unit {0} → Type 0
  Anything t s x = Unit {0}

  abbrev nothing : ℕ → Unit {0}
  nothing l = tt

  hands : (i : ℕ) → Hands f n Anything i (λ k x. x)
  hands i = record {
    leaf = λ x v. refl;
    sequence = λ x y h k s v q. (tt, tt);
    alternative = λ x y s v q. (tt, tt);
    round = λ again x h s v q. tt;
  }

  stores : (a : ℕ) → Stores nothing a tt nothing
  stores a = record { here = refl; other = λ l h. refl }

  down : (k i : ℕ) → k + i ≡ n → AllGiven f n Anything i nothing
  down zero i e =
      let all : n ≡ i = omega arith in subst (λ j. AllGiven f n Anything j nothing) all (given-start f n Anything nothing tt)
  down (suc k) i e =
      given-next f n Anything whole i (omega arith) (λ k x. x) (hands i) nothing nothing nothing (down k (suc i) (omega arith)) (stores _) (stores _)

  pub line-place : (l : ℕ) → l < n → Location (tree_of f (n - 1)) (tree_of f l)
  line-place l h = (given_end f n Anything whole nothing (down n 0 (omega arith)) l h).place
