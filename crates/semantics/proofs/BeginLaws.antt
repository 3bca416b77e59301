-- LAWS of what begins a tape: every tree of a table that obeys the rules has a value; from every node, with flag 1, the end can be reached; the reach is
-- one number, and it tells in which way a tape is unreadable.
use Rattle.std.proofs.Common.{◌∙◌, subst, sym, inl, append_assoc, append-nil, arith}
use Rattle.std.specs.Prelude.{◌≡◌, refl, ◌&&◌, false, true, ◌↔◌, ◌++◌, ◌∷◌, List, [], ◌-◌, ◌<◌, suc, zero, ℕ, leb, length, take}
use Rattle.std.proofs.Math.Seq.{take-length}
use Rattle.syntax.specs.declared.Leaf.TheVariants.{Nothing, Letter, Range}
use Rattle.syntax.specs.declared.Node.{Node}
use Rattle.syntax.specs.declared.Node.TheVariants.{Leaf as LeafNode, Sequence, Alternative, Star}
use Rattle.syntax.specs.declared.Pattern.{Pattern}
use Rattle.syntax.specs.Letter.{is_letter, in_range}
use Rattle.syntax.specs.Table.{line_at, node_at, node_good, line_good, account_limit}
use Rattle.syntax.specs.Tree.{Label, Tree, nothing, letter, range, seq, alt, star}
use Rattle.syntax.specs.Trees.{made, tree_of, root}
use Rattle.syntax.specs.TreeLaws.{Below, Rules, tree-line}
use Rattle.semantics.specs.Value.{Value, nonempty, flat, nonproblematic}
use Rattle.semantics.specs.Automaton.{Location, top, fst, snd, lft, rgt, rnd}
use Rattle.semantics.specs.Sweeps.{readable}
use Rattle.semantics.specs.Begins.{Begins, Reach}
use Rattle.semantics.proofs.Basics.{and_fst, and_snd, and_intro, le_leb, not-both}
use Rattle.semantics.proofs.CompleteLaws.{complete}
use Rattle.semantics.proofs.GreedyLaws.{readable_iff}
use Rattle.semantics.specs.Passing.{after}
use Rattle.semantics.specs.Every.{All}
use Rattle.semantics.specs.Every.{Lettered}
use Rattle.semantics.proofs.LetterLaws.{flat-letters}

-- ---- every range has a letter
abbrev pub Stocked : Tree → Type 0
Stocked (nothing m) = Unit {0}
Stocked (letter m c) = Unit {0}
Stocked (range m low high) = (c : ℕ) × (in_range low high c ≡ true)
Stocked (seq m t u) = Stocked t × Stocked u
Stocked (alt m t u) = Stocked t × Stocked u
Stocked (star m again t) = Stocked t

-- so there is a value: the first letter of a range, the left side, no round
pub some-value : (t : Tree) → Stocked t → Value t
some-value (nothing m) h = tt
some-value (letter m c) h = tt
some-value (range m low high) h = h
some-value (seq m t u) h = (some-value t h.0, some-value u h.1)
some-value (alt m t u) h = inl (some-value t h.0)
some-value (star m again t) h = []

pub some_solid : (t : Tree) (h : Stocked t) → nonproblematic t (some-value t h) ≡ true
unfolding some-value
some_solid (nothing m) h = refl
some_solid (letter m c) h = refl
some_solid (range m low high) h = refl
some_solid (seq m t u) h = and_intro (some_solid t h.0) (some_solid u h.1)
some_solid (alt m t u) h = some_solid t h.0
some_solid (star m again t) h = refl

-- a table that obeys the rules has such a tree: a range's first letter lies in it
module _ (p : Pattern) (r : Rules p) where
  range_stocked : (a b : ℕ) → ((is_letter a && is_letter b) && leb a b) ≡ true → in_range a b a ≡ true
  unfolding in_range
  range_stocked a b h =
      let l = and_fst (is_letter a && is_letter b) (leb a b) h in
      and_intro (and_fst (is_letter a) (is_letter b) l) (and_intro (le_leb a a (omega arith)) (and_snd (is_letter a && is_letter b) (leb a b) h))

  made_stocked : (m : Label) (f : ℕ → Tree) (l : ℕ) (k : Node) → node_good k ≡ true → Below l k → ((q : ℕ) → q < l → Stocked (f q)) → Stocked (made m f k)
  made_stocked m f l (LeafNode Nothing) g b h = tt
  made_stocked m f l (LeafNode (Letter c)) g b h = tt
  made_stocked m f l (LeafNode (Range x y)) g b h = (x, range_stocked x y g)
  made_stocked m f l (Sequence x y) g b h = (h x b.0, h y b.1)
  made_stocked m f l (Alternative x y) g b h = (h x b.0, h y b.1)
  made_stocked m f l (Star again x) g b h = h x b

  node_formed : (l : ℕ) → l < p.count → node_good (node_at p l) ≡ true
  unfolding line_good
  node_formed l h = and_snd (leb (line_at p l).account account_limit) (node_good (node_at p l)) (r.formed l h)

  stocked : (n l : ℕ) → l < n → l < p.count → Stocked (tree_of (line_at p) l)
  stocked zero l h k = absurd (omega arith)
  stocked (suc n) l h k =
      rw (tree-line (line_at p) l (r.lower l k))
      (made_stocked (record { index = l; account = (line_at p l).account }) (tree_of (line_at p)) l (node_at p l) (node_formed l k) (r.lower l k)
      (λ q g. stocked n q (omega arith) (omega arith)))

  pub root_stocked : Stocked (root p)
  unfolding root
  root_stocked = let one = r.one in stocked p.count (p.count - 1) (omega arith) (omega arith)

-- ---- after every node, with flag 1, some letters lead to the end
module _ {root : Tree} (h : Stocked root) where
  pub stocked_at : {t : Tree} → Location root t → Stocked t
  stocked_at top = h
  stocked_at (fst s) = (stocked_at s).0
  stocked_at (snd s) = (stocked_at s).1
  stocked_at (lft s) = (stocked_at s).0
  stocked_at (rgt s) = (stocked_at s).1
  stocked_at (rnd s) = stocked_at s

  pub onward : {t : Tree} (s : Location root t) → (rest : List ℕ) × (after s true rest ≡ true)
  onward top = ([], refl)
  onward (fst {u = u} s) =
      let q = onward s in
      let v = some-value u (stocked_at (snd s)) in
      (flat u v ++ q.0, complete u v (after s) true q.0 (some_solid u (stocked_at (snd s))) q.1)
  onward (snd s) = onward s
  onward (lft s) = onward s
  onward (rgt s) = onward s
  onward (rnd {l = l} {again = again} {t = t} s) = let q = onward s in (q.0, complete (star l again t) [] (after s) true q.0 refl q.1)

-- ---- what begins a tape
pub begins_iff : (t : Tree) (w : List ℕ) → Begins t w ↔ ((rest : List ℕ) × (readable t (w ++ rest) ≡ true))
begins_iff t w = (
  λ b. (b.0, (readable_iff t (w ++ b.0)).1 (b.1, b.2)),
  λ b. let q = (readable_iff t (w ++ b.0)).0 b.1 in (b.0, q.0, q.1),
)

pub begins_front : (t : Tree) (u z : List ℕ) → Begins t (u ++ z) → Begins t u
begins_front t u z b = (z ++ b.0, b.1, b.2 ∙ append_assoc u z b.0)

pub begins_none : (t : Tree) → Stocked t → Begins t []
begins_none t h = let v = some-value t h in (flat t v, v, refl)

pub begins_readable : (t : Tree) (w : List ℕ) → readable t w ≡ true → Begins t w
begins_readable t w h = let q = (readable_iff t w).0 h in ([], q.0, q.1 ∙ sym (append-nil w))

-- what begins a tape is letters, if the tree's letter leaves are letters
pub begins_letters : (t : Tree) → Lettered t → (w : List ℕ) → Begins t w → All (λ c. is_letter c ≡ true) w
begins_letters t h w b = front w b.0 (subst (All (λ c. is_letter c ≡ true)) b.2 (flat-letters t h b.1))
  where
    front : (u z : List ℕ) → All (λ c. is_letter c ≡ true) (u ++ z) → All (λ c. is_letter c ≡ true) u
    front [] z a = tt
    front (c ∷ u) z a = (a.0, front u z a.1)

-- ---- the reach
module _ (t : Tree) (w : List ℕ) where
  pub reach_one : (j k : ℕ) → Reach t w j → Reach t w k → j ≡ k
  reach_one j k p q = omega (arith, p.longest k q.within q.begins, q.longest j p.within p.begins)

  all_begins : Begins t w → Begins t (take (length w) w)
  all_begins b = rw (take-length w) b

  -- the letters begin a tape exactly if the reach is their number
  pub reach-whole : (k : ℕ) → Reach t w k → Begins t w → k ≡ length w
  reach-whole k p b = omega (arith, p.within, p.longest (length w) (omega arith) (all_begins b))

  pub reach_all : Reach t w (length w) → Begins t w
  reach_all p = rw (take-length w) at p.begins

  -- a readable tape is read to its end
  pub reach-readable : (k : ℕ) → Reach t w k → readable t w ≡ true → k ≡ length w
  reach-readable k p h = reach-whole k p (begins_readable t w h)

  -- an unreadable tape that is read to its end stops too early: some letters more, at least one, make it readable
  pub stops-early :
      Reach t w (length w) → readable t w ≡ false → (rest : List ℕ) × (v : Value t) × (flat t v ≡ w ++ rest) × (nonempty rest ≡ true)
  stops-early p n = let b = reach_all p in (b.0, b.1, b.2, more b.0 b.1 b.2)
    where
      more : (rest : List ℕ) (v : Value t) → flat t v ≡ w ++ rest → nonempty rest ≡ true
      more [] v e = absurd (not-both ((readable_iff t w).1 (v, e ∙ append-nil w)) n)
      more (c ∷ z) v e = refl

  -- one that is not read to its end breaks there: no tape begins with one letter more
  pub breaks_at : (k : ℕ) → Reach t w k → k < length w → Begins t (take (suc k) w) → ⊥
  breaks_at k p h b = omega (arith, p.longest (suc k) (omega arith) b)
