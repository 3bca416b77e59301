-- The choices of a pattern's tree, which bound its codes, are counted in the table: they are its lines of kind `A`, `K` or `Z`.
use Rattle.std.specs.Prelude.{◌≡◌, refl, Bool, true, false, ℕ, zero, suc, ◌-◌, ◌≤◌, ◌<◌}
use Rattle.std.proofs.Common.{sym, subst, ◌∙◌, arith}
use Rattle.syntax.specs.declared.Leaf.TheVariants.{Nothing, Letter, Range}
use Rattle.syntax.specs.declared.Node.{Node}
use Rattle.syntax.specs.declared.Node.TheVariants.{Leaf as LeafNode, Sequence, Alternative, Star}
use Rattle.syntax.specs.declared.Pattern.{Pattern}
use Rattle.syntax.specs.Table.{obeys, line_at, node_at}
use Rattle.syntax.specs.Tree.{Tree}
use Rattle.syntax.specs.Trees.{made, root, tree_of}
use Rattle.syntax.specs.TreeLaws.{Rules, Below, obeys_iff, weight, sum_to, root-weight, tree-line}
use Rattle.bits.specs.Bits.{bit, count_below}
use Rattle.semantics.specs.Code.{choices}

-- kinds `A`, `K` and `Z`
abbrev pub is_choice : Node → Bool
is_choice (LeafNode x) = false
is_choice (Sequence p q) = false
is_choice (Alternative p q) = true
is_choice (Star again p) = true

module _ (g : ℕ → ℕ) (i a : ℕ) (t : ℕ → Tree) (e : (q : ℕ) → q < i → choices (t q) ≡ weight g (t q)) where
  made-choices : (k : Node) → g i ≡ bit (is_choice k) → Below i k →
      choices (made (record { index = i; account = a }) t k) ≡ weight g (made (record { index = i; account = a }) t k)
  made-choices (LeafNode Nothing) h b = sym h
  made-choices (LeafNode (Letter c)) h b = sym h
  made-choices (LeafNode (Range x y)) h b = sym h
  made-choices (Sequence p q) h b = omega (arith, e p b.0, e q b.1)
  made-choices (Alternative p q) h b = omega (arith, e p b.0, e q b.1)
  made-choices (Star again p) h b = omega (arith, e p b)

module _ (p : Pattern) (r : Rules p) where
  abbrev own : ℕ → ℕ
  own l = bit (is_choice (node_at p l))

  -- for all lines below n, then for line n, whose parts are below it
  tree-choices : (n l : ℕ) → l < n → n ≤ p.count → choices (tree_of (line_at p) l) ≡ weight own (tree_of (line_at p) l)
  tree-choices zero l h k = absurd (omega arith)
  tree-choices (suc n) l h k =
      let b = r.lower l (omega arith) in
      subst (λ t. choices t ≡ weight own t) (sym (tree-line (line_at p) l b))
      (made-choices own l (line_at p l).account (tree_of (line_at p)) (λ q m. tree-choices n q (omega arith) (omega arith)) (node_at p l) refl b)

  root-own : choices (root p) ≡ weight own (root p)
  unfolding root
  root-own = let one = r.one in tree-choices p.count (p.count - 1) (omega arith) (omega arith)

counted : (n : ℕ) (f : ℕ → Bool) → sum_to n (λ l. bit (f l)) ≡ count_below n f
unfolding count_below
counted zero f = refl
counted (suc n) f = omega (arith, counted n f)

-- 01: "With a the number of `A` and `K` nodes". 02: "`Z` follows every rule for `K` on [..] the count a".
pub choices_are : (p : Pattern) → obeys p ≡ true → choices (root p) ≡ count_below p.count (λ l. is_choice (node_at p l))
choices_are p good =
    let r = (obeys_iff p).0 good in
    root-own p r ∙ root-weight p r (own p r) ∙ counted p.count (λ l. is_choice (node_at p l))
