-- FIRST AND NULLABLE, Glushkov's sets, by a loop over the lines from the first on: the leaves that a node comes to by empty steps inside itself, and whether
-- it comes through. Sets of leaves are words: bit y says that leaf y is among them.
use Rattle.std.specs.Prelude.{◌≡◌, refl, Bool, true, false, ◌&&◌, ◌||◌, List, ℕ, ◌+◌, ◌*◌, ◌^◌, ◌<◌, eqb, length, get_or, set}
use Rattle.std.proofs.Common.{sym, ap, ap₂, subst, ◌∙◌, arith, length-set, get_or-set_same, get_or-set_other, pow_pos}
use Rattle.std.proofs.Math.Path.{fun_ext}
use Rattle.std.proofs.Math.Bool.{or-false, or-true, and-true, and-false}
use Rattle.std.proofs.Math.Decide.{dec_lt}
use Rattle.std.specs.Int.Bits.{bit_or}
use Rattle.syntax.specs.declared.Leaf.{Leaf}
use Rattle.syntax.specs.declared.Leaf.TheVariants.{Nothing, Letter, Range}
use Rattle.syntax.specs.declared.Node.{Node}
use Rattle.syntax.specs.declared.Node.TheVariants.{Leaf as LeafNode, Sequence, Alternative, Star}
use Rattle.syntax.specs.declared.Line.{Line}
use Rattle.syntax.specs.Tree.{Label, Tree, seq, alt, star}
use Rattle.syntax.specs.Trees.{made, tree_of}
use Rattle.syntax.specs.TreeLaws.{Below, tree-line}
use Rattle.bits.specs.Bits.{test_bit}
use Rattle.bits.specs.Numbers.{test_small}
use Rattle.bits.specs.Words.{test_or, test_single}
use Rattle.semantics.proofs.Basics.{eqb_self, eqb_eq, eqb_no}
use Rattle.table.specs.HandDown.{first_part, second_part, label_of}
use Rattle.masks.specs.declared.firsts.First.{First}
use Rattle.masks.specs.Closure.{reach, nowhere, reach-or, reach_none}
use Rattle.bits.specs.Unions.{pick, pick-bit}

-- those of a line, from an array
abbrev pub first_at : List First → ℕ → First
first_at fs l = get_or fs l (record { leaves = 0; nullable = false })

abbrev pub leaf_first : (index : ℕ) → Leaf → First
leaf_first i Nothing = record { leaves = 0; nullable = true }
leaf_first i (Letter c) = record { leaves = 1 * 2 ^ i; nullable = false }
leaf_first i (Range a b) = record { leaves = 1 * 2 ^ i; nullable = false }

-- one after the other: the second counts where the first can be empty
abbrev pub in_turn : First → First → First
in_turn a b = record { leaves = bit_or a.leaves (pick a.nullable b.leaves); nullable = a.nullable && b.nullable }

abbrev pub either_of : First → First → First
either_of a b = record { leaves = bit_or a.leaves b.leaves; nullable = a.nullable || b.nullable }

abbrev pub rounds_of : First → First
rounds_of a = record { leaves = a.leaves; nullable = true }

-- those of a line, from those of its parts
abbrev pub first_line : (index : ℕ) → Node → First → First → First
first_line i (LeafNode x) a b = leaf_first i x
first_line i (Sequence p q) a b = in_turn a b
first_line i (Alternative p q) a b = either_of a b
first_line i (Star again p) a b = rounds_of a

-- the first and nullable of a tree
pub record FirstOf (t : Tree) (f : First) : Type 0 where
  pub leaves : (y : ℕ) → test_bit f.leaves y ≡ reach (eqb y) t false
  pub nullable : f.nullable ≡ reach nowhere t true

-- ---- laws
-- what follows counts where the node is nullable
pub nowhere_through : (t : Tree) (v : Bool) → reach nowhere t v ≡ (reach nowhere t true && v)
nowhere_through t true = sym (and-true (reach nowhere t true))
nowhere_through t false = reach_none t ∙ sym (and-false (reach nowhere t true))

pub reach_through : (g : ℕ → Bool) (t : Tree) (v : Bool) → reach g t v ≡ (reach g t false || (reach nowhere t true && v))
reach_through g t v =
    ap (λ h. reach h t v) (fun_ext (λ x. sym (or-false (g x)))) ∙ reach-or g nowhere t false v ∙ ap (λ z. reach g t false || z) (nowhere_through t v)

-- a word joined with another where v says so
joined-bit : (a k y : ℕ) (v : Bool) → test_bit (bit_or a (pick v k)) y ≡ (test_bit a y || (v && test_bit k y))
joined-bit a k y v = test_or a (pick v k) y ∙ ap (λ z. test_bit a y || z) (pick-bit v k y)

eqb_swap : (m n : ℕ) → eqb m n ≡ eqb n m
eqb_swap m n = go (eqb m n) (eqb n m) refl refl
  where
    go : (a b : Bool) → eqb m n ≡ a → eqb n m ≡ b → a ≡ b
    go true b e f = sym (sym f ∙ ap (λ x. eqb n x) (eqb_eq m n e) ∙ eqb_self n)
    go false true e f = absurd (eqb_no m n e (sym (eqb_eq n m f)))
    go false false e f = refl

single-bit : (i y : ℕ) → test_bit (1 * 2 ^ i) y ≡ eqb y i
single-bit i y = test_single i true y ∙ and-true (eqb i y) ∙ eqb_swap i y

pub nothing-bit : (y : ℕ) → test_bit 0 y ≡ false
nothing-bit y = test_small 0 y (pow_pos y)

-- the leaves that are reached through a node: its first and, where it is nullable, what follows
pub follow-bit :
    (g : ℕ → Bool) (t : Tree) (f : First) (k y : ℕ) (v : Bool) → test_bit f.leaves y ≡ reach g t false → f.nullable ≡ reach nowhere t true
    → test_bit k y ≡ v
    → test_bit (bit_or f.leaves (pick f.nullable k)) y ≡ reach g t v
follow-bit g t f k y v a n b = joined-bit f.leaves k y f.nullable ∙ ap₂ (λ x z. x || z) a (ap₂ (λ x z. x && z) n b) ∙ sym (reach_through g t v)

-- one law for each kind of node
leaf_first_of : (m : Label) (f : ℕ → Tree) (x : Leaf) → FirstOf (made m f (LeafNode x)) (leaf_first m.index x)
leaf_first_of m f Nothing = record { leaves = nothing-bit; nullable = refl }
leaf_first_of m f (Letter c) = record { leaves = single-bit m.index; nullable = refl }
leaf_first_of m f (Range a b) = record { leaves = single-bit m.index; nullable = refl }

in_turn_of : (m : Label) (t u : Tree) (a b : First) → FirstOf t a → FirstOf u b → FirstOf (seq m t u) (in_turn a b)
in_turn_of m t u a b f g = record {
  leaves = λ y. follow-bit (eqb y) t a b.leaves y (reach (eqb y) u false) (f.leaves y) f.nullable (g.leaves y);
  nullable = ap₂ (λ x z. x && z) f.nullable g.nullable ∙ sym (nowhere_through t (reach nowhere u true));
}

either-first_of : (m : Label) (t u : Tree) (a b : First) → FirstOf t a → FirstOf u b → FirstOf (alt m t u) (either_of a b)
either-first_of m t u a b f g = record {
  leaves = λ y. test_or a.leaves b.leaves y ∙ ap₂ (λ x z. x || z) (f.leaves y) (g.leaves y);
  nullable = ap₂ (λ x z. x || z) f.nullable g.nullable;
}

rounds-first_of : (m : Label) (again : Bool) (t : Tree) (a : First) → FirstOf t a → FirstOf (star m again t) (rounds_of a)
rounds-first_of m again t a f = record {
  leaves = λ y. f.leaves y ∙ sym (or-false (reach (eqb y) t false));
  nullable = sym (or-true (reach nowhere t false));
}

-- ---- line by line
-- the lines below i, in an array
pub record Firsts (f : ℕ → Line) (i : ℕ) (fs : List First) : Type 0 where
  pub long : length fs ≡ 64
  pub right : (l : ℕ) → l < i → FirstOf (tree_of f l) (first_at fs l)

-- what line i comes to, from the lines below it
abbrev pub first_here : (f : ℕ → Line) → (i : ℕ) → List First → First
first_here f i fs = first_line i (f i).node (first_at fs (first_part i (f i).node)) (first_at fs (second_part i (f i).node))

-- as code finds it
module _ (f : ℕ → Line) (i : ℕ) (below : Below i (f i).node) (fs : List First) (d : Firsts f i fs) where
  first_here_of : FirstOf (tree_of f i) (first_here f i fs)
  first_here_of = subst (λ t. FirstOf t (first_here f i fs)) (sym (tree-line f i below)) (go (f i).node below)
    where
      go : (k : Node) → Below i k → FirstOf (made (label_of f i) (tree_of f) k) (first_line i k (first_at fs (first_part i k)) (first_at fs (second_part i k)))
      go (LeafNode x) b = leaf_first_of (label_of f i) (tree_of f) x
      go (Sequence x y) b = in_turn_of (label_of f i) (tree_of f x) (tree_of f y) (first_at fs x) (first_at fs y) (d.right x b.0) (d.right y b.1)
      go (Alternative x y) b =
          either-first_of (label_of f i) (tree_of f x) (tree_of f y) (first_at fs x) (first_at fs y) (d.right x b.0) (d.right y b.1)
      go (Star again x) b = rounds-first_of (label_of f i) again (tree_of f x) (first_at fs x) (d.right x b)

  pub firsts_next : (v : First) → i < 64 → v ≡ first_here f i fs → Firsts f (i + 1) (set fs i v)
  firsts_next v h e = record {
    long = simp length-set d.long;
    right = λ l k. go l k (dec_lt l i);
  }
    where
      go : (l : ℕ) → l < i + 1 → Dec (l < i) → FirstOf (tree_of f l) (first_at (set fs i v) l)
      go l k (yes y) = subst (FirstOf (tree_of f l)) (sym (get_or-set_other fs i l v _ (λ x. omega arith))) (d.right l y)
      go l k (no y) =
          let q : i ≡ l = omega arith in
          subst (λ x. FirstOf (tree_of f x) (first_at (set fs i v) x)) q
          (subst (FirstOf (tree_of f i)) (sym e ∙ sym (get_or-set_same fs i v _ (omega (arith, d.long)))) first_here_of)
