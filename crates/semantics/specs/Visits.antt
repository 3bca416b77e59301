-- WHAT MUST BE BELIEVED, 5: the visits of a node, and the piece (span) of the tape that each covers.
use Rattle.std.specs.Prelude.{cond, ◌++◌, ◌∷◌, List, [], ◌+◌, suc, zero, ℕ, eqb, length}
use Rattle.std.proofs.Common.{inl, inr}
use Rattle.std.proofs.Math.Option.{Option, none, some}
use Rattle.syntax.specs.Tree.{Label, Tree, nothing, letter, range, seq, alt, star}
use Rattle.semantics.specs.Value.{Value, flat}

-- the label of a tree's root; its index is the node's place in the table
abbrev pub label : Tree → Label
label (nothing m) = m
label (letter m c) = m
label (range m low high) = m
label (seq m t u) = m
label (alt m t u) = m
label (star m again t) = m

-- a node entered: its index, where its piece of the tape starts, and that piece's length
pub record Visit : Type 0 where
  pub index : ℕ
  pub start : ℕ
  pub size : ℕ

abbrev pub visit_of : (t : Tree) → Value t → (start : ℕ) → Visit
visit_of t v i = record { index = (label t).index; start = i; size = length (flat t v) }

-- round after round, each from where the one before it ended
abbrev pub along : {A B : Type 0} → (A → List ℕ) → (A → ℕ → List B) → List A → (start : ℕ) → List B
along f g [] i = []
along f g (v ∷ vs) i = g v i ++ along f g vs (i + length (f v))

-- 01: "visits counted from 0 as the code enters them from above; a `K` with all its rounds is one visit". From position i of the tape on.
-- 02: a `Z` too. A visit inside an empty round counts like any other; an empty piece starts where the tape has been read to.
abbrev pub visits : (t : Tree) → Value t → (start : ℕ) → List Visit
visits (nothing m) v i = visit_of (nothing m) v i ∷ []
visits (letter m c) v i = visit_of (letter m c) v i ∷ []
visits (range m low high) v i = visit_of (range m low high) v i ∷ []
visits (seq m t u) v i = visit_of (seq m t u) v i ∷ (visits t v.0 i ++ visits u v.1 (i + length (flat t v.0)))
visits (alt m t u) (inl v) i = visit_of (alt m t u) (inl v) i ∷ visits t v i
visits (alt m t u) (inr v) i = visit_of (alt m t u) (inr v) i ∷ visits u v i
visits (star m again t) vs i = visit_of (star m again t) vs i ∷ along (flat t) (visits t) vs i

-- those of the node at index l
abbrev pub visits_at : (l : ℕ) → List Visit → List Visit
visits_at l [] = []
visits_at l (x ∷ xs) = cond (eqb x.index l) (x ∷ visits_at l xs) (visits_at l xs)

abbrev pub nth : {A : Type 0} → ℕ → List A → Option A
nth k [] = none
nth zero (x ∷ xs) = some x
nth (suc k) (x ∷ xs) = nth k xs

-- 01: "the piece of the tape that visit k of a node covers"; none if the node is "visited at most k times"
unfoldable pub visit : (t : Tree) → Value t → (l k : ℕ) → Option Visit
visit t v l k = nth k (visits_at l (visits t v 0))
