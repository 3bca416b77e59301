-- No node stands inside itself: parts stand below their line, so that no visit inside a line's is one of that line.
use Rattle.std.specs.Prelude.{◌≡◌, refl, false, List, [], ◌∷◌, ◌++◌, ℕ, zero, suc, ◌≤◌, ◌<◌, eqb}
use Rattle.std.proofs.Common.{sym, ap, ap₂, subst, ◌∙◌, inl, inr, arith, ne_eqb}
use Rattle.syntax.specs.declared.Leaf.TheVariants.{Nothing, Letter, Range}
use Rattle.syntax.specs.declared.Node.{Node}
use Rattle.syntax.specs.declared.Node.TheVariants.{Leaf as LeafNode, Sequence, Alternative, Star}
use Rattle.syntax.specs.Tree.{Label, Tree, index}
use Rattle.syntax.specs.Trees.{made}
use Rattle.syntax.specs.TreeLaws.{Below}
use Rattle.semantics.specs.Value.{Value}
use Rattle.semantics.specs.Visits.{visits_at}
use Rattle.table.specs.Cells.{node_in, account_in, tree_in, Good}
use Rattle.table.specs.CellLaws.{line-tree, line_lower, line-index}
use Rattle.spans.specs.Traces.{Trace, rounds_trace, trace, inside, trace-own, at_append}

-- no visit of a value of the tree is one of node k, and none inside its own
abbrev pub NoneOf : ℕ → Tree → Type 0
NoneOf k t = (v : Value t) (i : ℕ) → visits_at k (trace t v i).0 ≡ []

abbrev pub NoneInside : ℕ → Tree → Type 0
NoneInside k t = (v : Value t) (i : ℕ) → visits_at k (inside t v i).0 ≡ []

module _ (k : ℕ) where
  none_own : (t : Tree) → eqb (index t) k ≡ false → NoneInside k t → NoneOf k t
  none_own t e h v i = ap (λ f. visits_at k (f i).0) (trace-own t v) ∙ rw e (h v i)

  none_both : (f g : Trace) (i : ℕ) → visits_at k (f i).0 ≡ [] → visits_at k (g (f i).1).0 ≡ [] → visits_at k ((f i).0 ++ (g (f i).1).0) ≡ []
  none_both f g i e h = at_append k (f i).0 (g (f i).1).0 ∙ ap₂ (λ x y. x ++ y) e h

  none_rounds : {A : Type 0} (g : A → Trace) → ((v : A) (i : ℕ) → visits_at k (g v i).0 ≡ []) → (vs : List A) (i : ℕ)
      → visits_at k (rounds_trace g vs i).0 ≡ []
  none_rounds g h [] i = refl
  none_rounds g h (v ∷ vs) i = none_both (g v) (rounds_trace g vs) i (h v i) (none_rounds g h vs (g v i).1)

  module _ (m : Label) (f : ℕ → Tree) (l : ℕ) (parts : (p : ℕ) → p < l → NoneOf k (f p)) where
    none_made : (n : Node) → Below l n → NoneInside k (made m f n)
    none_made (LeafNode Nothing) h v i = refl
    none_made (LeafNode (Letter c)) h v i = refl
    none_made (LeafNode (Range a b)) h v i = refl
    none_made (Sequence p q) h v i =
        let x = trace (f p) v.0 in
        none_both x (trace (f q) v.1) i (parts p h.0 v.0 i) (parts q h.1 v.1 (x i).1)
    none_made (Alternative p q) h (inl v) i = parts p h.0 v i
    none_made (Alternative p q) h (inr v) i = parts q h.1 v i
    none_made (Star again p) h vs i = none_rounds (trace (f p)) (parts p h) vs i

module _ {table : List ℕ} (good : Good table) where
  below-inside : (k l : ℕ) → l < 64 → ((p : ℕ) → p < l → NoneOf k (tree_in table p)) → NoneInside k (tree_in table l)
  below-inside k l s parts =
      subst (NoneInside k) (sym (line-tree good l s (node_in table l) refl))
      (none_made k (record { index = l; account = account_in table l }) (tree_in table) l parts (node_in table l) (line_lower good l s (node_in table l) refl))

  -- a line below k has no visit of line k
  none_below : (n k : ℕ) → n ≤ k → n ≤ 64 → (l : ℕ) → l < n → NoneOf k (tree_in table l)
  none_below zero k h s l lt = absurd (omega arith)
  none_below (suc n) k h s l lt =
      none_own k (tree_in table l) (ne_eqb (index (tree_in table l)) k (λ e. omega (arith, e, line-index good l (omega arith))))
      (below-inside k l (omega arith) (λ p q. none_below n k (omega arith) (omega arith) p (omega arith)))

  pub apart : (l : ℕ) → l < 64 → NoneInside l (tree_in table l)
  apart l s = below-inside l l s (none_below l l (omega arith) (omega arith))
