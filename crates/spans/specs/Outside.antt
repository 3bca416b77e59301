-- A node outside the table is never visited, whatever the code.
use Rattle.std.specs.Prelude.{◌≡◌, refl, true, List, ℕ, ◌≤◌, eqb}
use Rattle.std.proofs.Common.{ap, ◌∙◌, arith, le-ltb, eq-eqb}
use Rattle.std.proofs.Math.Option.{Option, none, some}
use Rattle.syntax.specs.declared.Pattern.{Pattern}
use Rattle.syntax.specs.Table.{obeys}
use Rattle.syntax.specs.Tree.{Tree, nothing, letter, range, seq, alt, star}
use Rattle.syntax.specs.Trees.{root}
use Rattle.syntax.specs.TreeLaws.{obeys_iff, bit, weight, occurrences, root_once}
use Rattle.bits.specs.Bits.{held}
use Rattle.semantics.specs.Value.{Value}
use Rattle.semantics.specs.Automaton.{Location, top, fst, snd, lft, rgt, rnd}
use Rattle.semantics.specs.Visits.{Visit, label, visit}
use Rattle.semantics.specs.Decode.{value_of}
use Rattle.semantics.proofs.VisitLaws.{visit_shows}
use Rattle.spans.specs.Spans.{visit_by, span_visit}

-- a node weighs no more than the tree it stands in
module _ (g : ℕ → ℕ) where
  own-weight : (t : Tree) → g (label t).index ≤ weight g t
  own-weight (nothing m) = omega arith
  own-weight (letter m c) = omega arith
  own-weight (range m a b) = omega arith
  own-weight (seq m t u) = omega arith
  own-weight (alt m t u) = omega arith
  own-weight (star m again t) = omega arith

  part-weight : {t u : Tree} → Location t u → weight g u ≤ weight g t
  part-weight top = omega arith
  part-weight (fst s) = omega (arith, part-weight s)
  part-weight (snd s) = omega (arith, part-weight s)
  part-weight (lft s) = omega (arith, part-weight s)
  part-weight (rgt s) = omega (arith, part-weight s)
  part-weight (rnd s) = omega (arith, part-weight s)

-- so the index of a node occurs in the tree that the node stands in
pub located_occurs : (t u : Tree) → Location t u → (l : ℕ) → (label u).index ≡ l → 1 ≤ occurrences t l
located_occurs t u s l e =
    let one : bit (eqb (label u).index l) ≡ 1 = ap bit (eq-eqb (label u).index l e) in
    omega (arith, one, own-weight (λ i. bit (eqb i l)) u, part-weight (λ i. bit (eqb i l)) s)

-- 01, cause 10: "node outside the table"
pub outside_none : (p : Pattern) → obeys p ≡ true → (code : List ℕ) (count l k : ℕ) → p.count ≤ l → span_visit p code count l k ≡ none
unfolding span_visit
outside_none p good code count l k h = by (value_of (root p) (held 8 code count))
  where
    never : occurrences (root p) l ≡ 0
    never = root_once p ((obeys_iff p).0 good) l ∙ ap bit (le-ltb l p.count h)

    by : (o : Option (Value (root p))) → visit_by (root p) l k o ≡ none
    by none = refl
    by (some v) = shown (visit (root p) v l k) refl
      where
        shown : (o : Option Visit) → visit (root p) v l k ≡ o → o ≡ none
        shown none e = refl
        shown (some x) e =
            let s = visit_shows (root p) v l k x e in
            absurd (omega (arith, never, located_occurs (root p) s.0.node s.0.location l (s.0.index ∙ s.1)))
