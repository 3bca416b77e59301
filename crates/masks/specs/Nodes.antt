-- Nodes by their index: a predicate on the nodes of a tree, read at an index, and as a word. For every predicate, so that the state sets,
-- the masks and the leaves that take a letter are instances.
use Rattle.std.specs.Prelude.{◌≡◌, refl, Bool, true, false, ◌&&◌, ◌||◌, ℕ, zero, suc, ◌^◌, ◌≤◌, ◌<◌, eqb, ltb}
use Rattle.std.proofs.Math.Path.{sym, ap}
use Rattle.std.proofs.Common.{◌∙◌, true≢false, ⊎_elim, arith, ltb-true, lt-ltb}
use Rattle.std.proofs.Math.Bool.{or-false}
use Rattle.syntax.specs.Tree.{Tree, nothing, letter, range, seq, alt, star, index}
use Rattle.syntax.specs.Subpattern.{stands}
use Rattle.syntax.specs.TreeLaws.{occurrences}
use Rattle.syntax.specs.TreeLaws as tree_laws
use Rattle.bits.specs.Bits.{test_bit, word_of}
use Rattle.bits.specs.Words.{word_lt, word-bit, word_past, word_unique}
use Rattle.semantics.proofs.Basics.{or_left, or_right, or_cases, not-both, eqb_self, eqb_eq}
use Rattle.semantics.specs.Automaton.{Location, top, fst, snd, lft, rgt, rnd}
use Rattle.table.specs.Cells.{NodeAt}

-- an index that does not stand in a tree
abbrev pub Out : Tree → ℕ → Type 0
Out t l = stands t l ≡ false

-- no index twice
abbrev pub Apart : Tree → Type 0
Apart (nothing m) = Unit {0}
Apart (letter m c) = Unit {0}
Apart (range m a e) = Unit {0}
Apart (seq m t u) = Out t m.index × Out u m.index × ((l : ℕ) → stands t l ≡ true → Out u l) × Apart t × Apart u
Apart (alt m t u) = Out t m.index × Out u m.index × ((l : ℕ) → stands t l ≡ true → Out u l) × Apart t × Apart u
Apart (star m again t) = Out t m.index × Apart t

-- a predicate on the nodes of the tree `root`
abbrev pub Predicate : Tree → Type 0
Predicate root = (t : Tree) → Location root t → Bool

-- what the predicate says of the node with index l in the part at s, no where there is none
module _ {root : Tree} where
  abbrev pub said : Predicate root → (t : Tree) → Location root t → ℕ → Bool
  said f (nothing m) s l = eqb m.index l && f (nothing m) s
  said f (letter m c) s l = eqb m.index l && f (letter m c) s
  said f (range m a e) s l = eqb m.index l && f (range m a e) s
  said f (seq m t u) s l = (eqb m.index l && f (seq m t u) s) || (said f t (fst s) l || said f u (snd s) l)
  said f (alt m t u) s l = (eqb m.index l && f (alt m t u) s) || (said f t (lft s) l || said f u (rgt s) l)
  said f (star m again t) s l = (eqb m.index l && f (star m again t) s) || said f t (rnd s) l

-- the word of a predicate: bit l is what it says of the node with index l, bits from n on are 0
unfoldable pub node_word : (root : Tree) → (n : ℕ) → Predicate root → ℕ
node_word root n f = word_of n (said f root top)

or_no : (a b : Bool) → (a || b) ≡ false → (a ≡ false) × (b ≡ false)
or_no true b h = absurd (true≢false h)
or_no false b h = (refl, h)

-- an index inside is not that of the node above
other : (t : Tree) (m l : ℕ) → Out t m → stands t l ≡ true → eqb m l ≡ false
other t m l o h = go (eqb m l) refl
  where
    go : (a : Bool) → eqb m l ≡ a → a ≡ false
    go true e = absurd (not-both (ap (stands t) (eqb_eq m l e) ∙ h) o)
    go false e = refl

swap : (t u : Tree) → ((l : ℕ) → stands t l ≡ true → Out u l) → (l : ℕ) → stands u l ≡ true → Out t l
swap t u d l h = go (stands t l) refl
  where
    go : (a : Bool) → stands t l ≡ a → a ≡ false
    go true e = absurd (not-both h (d l e))
    go false e = refl

pub stands-own : (t : Tree) → stands t (index t) ≡ true
stands-own (nothing m) = eqb_self m.index
stands-own (letter m c) = eqb_self m.index
stands-own (range m a e) = eqb_self m.index
stands-own (seq m t u) = or_left _ (eqb_self m.index)
stands-own (alt m t u) = or_left _ (eqb_self m.index)
stands-own (star m again t) = or_left _ (eqb_self m.index)

module _ {root : Tree} (f : Predicate root) where
  -- an index outside has bit 0
  pub shut : (t : Tree) (s : Location root t) (l : ℕ) → Out t l → said f t s l ≡ false
  shut (nothing m) s l h = rw h
  shut (letter m c) s l h = rw h
  shut (range m a e) s l h = rw h
  shut (seq m t u) s l h =
      let p = or_no (eqb m.index l) (stands t l || stands u l) h in
      let q = or_no (stands t l) (stands u l) p.1 in
      rw (p.0, shut t (fst s) l q.0, shut u (snd s) l q.1)
  shut (alt m t u) s l h =
      let p = or_no (eqb m.index l) (stands t l || stands u l) h in
      let q = or_no (stands t l) (stands u l) p.1 in
      rw (p.0, shut t (lft s) l q.0, shut u (rgt s) l q.1)
  shut (star m again t) s l h =
      let p = or_no (eqb m.index l) (stands t l) h in
      rw (p.0, shut t (rnd s) l p.1)

  -- the bit of the node itself
  pub own : (t : Tree) (s : Location root t) → Apart t → said f t s (index t) ≡ f t s
  own (nothing m) s a = rw (eqb_self m.index)
  own (letter m c) s a = rw (eqb_self m.index)
  own (range m x e) s a = rw (eqb_self m.index)
  own (seq m t u) s a = rw (eqb_self m.index, shut t (fst s) m.index a.0, shut u (snd s) m.index a.1) (or-false _)
  own (alt m t u) s a = rw (eqb_self m.index, shut t (lft s) m.index a.0, shut u (rgt s) m.index a.1) (or-false _)
  own (star m again t) s a = rw (eqb_self m.index, shut t (rnd s) m.index a.0) (or-false _)

module _ {root : Tree} (whole : Apart root) where
  pub apart_at : {t : Tree} → Location root t → Apart t
  apart_at top = whole
  apart_at (fst s) = (apart_at s).3
  apart_at (snd s) = (apart_at s).4
  apart_at (lft s) = (apart_at s).3
  apart_at (rgt s) = (apart_at s).4
  apart_at (rnd s) = (apart_at s).1

  -- the whole says, at the indices of a part, what the part says
  part : (f : Predicate root) {t : Tree} (s : Location root t) (l : ℕ) → stands t l ≡ true → said f root top l ≡ said f t s l
  part f top l h = refl
  part f (fst {l = m} {t = t} {u = u} s) l h =
      let a = apart_at s in
      part f s l (or_right (eqb m.index l) (or_left (stands u l) h)) ∙ rw (other t m.index l a.0 h, shut f u (snd s) l (a.2 l h)) (or-false _)
  part f (snd {l = m} {t = t} {u = u} s) l h =
      let a = apart_at s in
      part f s l (or_right (eqb m.index l) (or_right (stands t l) h)) ∙ rw (other u m.index l a.1 h, shut f t (fst s) l (swap t u a.2 l h)) refl
  part f (lft {l = m} {t = t} {u = u} s) l h =
      let a = apart_at s in
      part f s l (or_right (eqb m.index l) (or_left (stands u l) h)) ∙ rw (other t m.index l a.0 h, shut f u (rgt s) l (a.2 l h)) (or-false _)
  part f (rgt {l = m} {t = t} {u = u} s) l h =
      let a = apart_at s in
      part f s l (or_right (eqb m.index l) (or_right (stands t l) h)) ∙ rw (other u m.index l a.1 h, shut f t (lft s) l (swap t u a.2 l h)) refl
  part f (rnd {l = m} {t = t} s) l h =
      let a = apart_at s in
      part f s l (or_right (eqb m.index l) h) ∙ rw (other t m.index l a.0 h) refl

  pub said_at : (f : Predicate root) (t : Tree) (s : Location root t) → said f root top (index t) ≡ f t s
  said_at f t s = part f s (index t) (stands-own t) ∙ own f t s (apart_at s)

-- ---- a tree in which every index below n stands once, and no other

pub record Planted (root : Tree) (n : ℕ) : Type 0 where
  pub apart : Apart root
  pub under : (l : ℕ) → stands root l ≡ true → l < n
  pub whole : (l : ℕ) → l < n → stands root l ≡ true

pub find : {root : Tree} (t : Tree) → Location root t → (l : ℕ) → stands t l ≡ true → NodeAt root l
find (nothing m) s l h = record { tree = nothing m; place = s; is = eqb_eq m.index l h }
find (letter m c) s l h = record { tree = letter m c; place = s; is = eqb_eq m.index l h }
find (range m a e) s l h = record { tree = range m a e; place = s; is = eqb_eq m.index l h }
find (seq m t u) s l h =
    ⊎_elim (λ e. record { tree = seq m t u; place = s; is = eqb_eq m.index l e })
    (λ o. ⊎_elim (λ e. find t (fst s) l e) (λ e. find u (snd s) l e.1) (or_cases (stands t l) (stands u l) o.1))
    (or_cases (eqb m.index l) (stands t l || stands u l) h)
find (alt m t u) s l h =
    ⊎_elim (λ e. record { tree = alt m t u; place = s; is = eqb_eq m.index l e })
    (λ o. ⊎_elim (λ e. find t (lft s) l e) (λ e. find u (rgt s) l e.1) (or_cases (stands t l) (stands u l) o.1))
    (or_cases (eqb m.index l) (stands t l || stands u l) h)
find (star m again t) s l h =
    ⊎_elim (λ e. record { tree = star m again t; place = s; is = eqb_eq m.index l e })
    (λ o. find t (rnd s) l o.1)
    (or_cases (eqb m.index l) (stands t l) h)

-- an index above a part stands above what the part holds
inside : {root t : Tree} (s : Location root t) (l : ℕ) → stands t l ≡ true → stands root l ≡ true
inside top l h = h
inside (fst {l = m} {t = t} {u = u} s) l h = inside s l (or_right (eqb m.index l) (or_left (stands u l) h))
inside (snd {l = m} {t = t} {u = u} s) l h = inside s l (or_right (eqb m.index l) (or_right (stands t l) h))
inside (lft {l = m} {t = t} {u = u} s) l h = inside s l (or_right (eqb m.index l) (or_left (stands u l) h))
inside (rgt {l = m} {t = t} {u = u} s) l h = inside s l (or_right (eqb m.index l) (or_right (stands t l) h))
inside (rnd {l = m} {t = t} s) l h = inside s l (or_right (eqb m.index l) h)

module _ {root : Tree} {n : ℕ} (good : Planted root n) where
  pub index_lt : {t : Tree} (s : Location root t) → index t < n
  index_lt {t} s = good.under (index t) (inside s (index t) (stands-own t))

  pub node_at : (l : ℕ) → l < n → NodeAt root l
  node_at l h = find root top l (good.whole l h)

  pub word_small : (f : Predicate root) → node_word root n f < 2 ^ n
  unfolding node_word
  word_small f = word_lt n (said f root top)

  -- bit l is what the predicate says of node l
  pub word-says : (f : Predicate root) (t : Tree) (s : Location root t) → test_bit (node_word root n f) (index t) ≡ f t s
  unfolding node_word
  word-says f t s = word-bit n (said f root top) (index t) (index_lt s) ∙ said_at good.apart f t s

  -- and that makes it this word
  pub word_is : (f : Predicate root) (x : ℕ) → x < 2 ^ n → ((t : Tree) (s : Location root t) → test_bit x (index t) ≡ f t s) → x ≡ node_word root n f
  unfolding node_word
  word_is f x h b = word_unique n x (said f root top) h (λ l k. at l (node_at l k))
    where
      at : (l : ℕ) → NodeAt root l → test_bit x l ≡ said f root top l
      at l q = ap (test_bit x) (sym q.is) ∙ b q.tree q.place ∙ sym (said_at good.apart f q.tree q.place) ∙ ap (said f root top) q.is

pub word_past_last : (root : Tree) (n : ℕ) (f : Predicate root) (l : ℕ) → n ≤ l → test_bit (node_word root n f) l ≡ false
unfolding node_word
word_past_last root n f l h = word_past n (said f root top) l h

-- ---- counts

bit_no : (b : Bool) → tree_laws.bit b ≡ 0 → b ≡ false
bit_no true h = absurd (omega arith)
bit_no false h = refl

bit_le : (b : Bool) → tree_laws.bit b ≤ 1
bit_le true = omega arith
bit_le false = omega arith

bit_yes : (b : Bool) → 1 ≤ tree_laws.bit b → b ≡ true
bit_yes true h = refl
bit_yes false h = absurd (omega arith)

occurs_none : (t : Tree) (l : ℕ) → occurrences t l ≡ 0 → Out t l
occurs_none (nothing m) l h = bit_no (eqb m.index l) h
occurs_none (letter m c) l h = bit_no (eqb m.index l) h
occurs_none (range m a e) l h = bit_no (eqb m.index l) h
occurs_none (seq m t u) l h = rw (bit_no (eqb m.index l) (omega arith), occurs_none t l (omega arith), occurs_none u l (omega arith)) refl
occurs_none (alt m t u) l h = rw (bit_no (eqb m.index l) (omega arith), occurs_none t l (omega arith), occurs_none u l (omega arith)) refl
occurs_none (star m again t) l h = rw (bit_no (eqb m.index l) (omega arith), occurs_none t l (omega arith)) refl

none_occurs : (t : Tree) (l : ℕ) → stands t l ≡ false → occurrences t l ≡ 0
none_occurs (nothing m) l h = ap tree_laws.bit h
none_occurs (letter m c) l h = ap tree_laws.bit h
none_occurs (range m a e) l h = ap tree_laws.bit h
none_occurs (seq m t u) l h =
    let p = or_no (eqb m.index l) (stands t l || stands u l) h in
    let q = or_no (stands t l) (stands u l) p.1 in
    rw (p.0, none_occurs t l q.0, none_occurs u l q.1) refl
none_occurs (alt m t u) l h =
    let p = or_no (eqb m.index l) (stands t l || stands u l) h in
    let q = or_no (stands t l) (stands u l) p.1 in
    rw (p.0, none_occurs t l q.0, none_occurs u l q.1) refl
none_occurs (star m again t) l h =
    let p = or_no (eqb m.index l) (stands t l) h in
    rw (p.0, none_occurs t l p.1) refl

stands_occurs : (t : Tree) (l : ℕ) → stands t l ≡ true → 1 ≤ occurrences t l
stands_occurs t l h = go (occurrences t l) refl
  where
    go : (n : ℕ) → occurrences t l ≡ n → 1 ≤ n
    go zero e = absurd (not-both h (occurs_none t l e))
    go (suc n) e = omega arith

occurs_stands : (t : Tree) (l : ℕ) → 1 ≤ occurrences t l → stands t l ≡ true
occurs_stands t l h = go (stands t l) refl
  where
    go : (b : Bool) → stands t l ≡ b → b ≡ true
    go true e = refl
    go false e = absurd (omega (arith, none_occurs t l e))

own_once : (m : ℕ) → tree_laws.bit (eqb m m) ≡ 1
own_once m = ap tree_laws.bit (eqb_self m)

apart_of : (t : Tree) → ((l : ℕ) → occurrences t l ≤ 1) → Apart t
apart_of (nothing m) h = tt
apart_of (letter m c) h = tt
apart_of (range m a e) h = tt
apart_of (seq m t u) h = (
  occurs_none t m.index (omega (arith, h m.index, own_once m.index)),
  occurs_none u m.index (omega (arith, h m.index, own_once m.index)),
  λ l o. occurs_none u l (omega (arith, h l, stands_occurs t l o)),
  apart_of t (λ l. omega (arith, h l)),
  apart_of u (λ l. omega (arith, h l)),
)
apart_of (alt m t u) h = (
  occurs_none t m.index (omega (arith, h m.index, own_once m.index)),
  occurs_none u m.index (omega (arith, h m.index, own_once m.index)),
  λ l o. occurs_none u l (omega (arith, h l, stands_occurs t l o)),
  apart_of t (λ l. omega (arith, h l)),
  apart_of u (λ l. omega (arith, h l)),
)
apart_of (star m again t) h = (occurs_none t m.index (omega (arith, h m.index, own_once m.index)), apart_of t (λ l. omega (arith, h l)))

pub planted : (t : Tree) (n : ℕ) → ((l : ℕ) → occurrences t l ≡ tree_laws.bit (ltb l n)) → Planted t n
planted t n h = record {
  apart = apart_of t (λ l. omega (arith, h l, bit_le (ltb l n)));
  under = λ l o. ltb-true l n (bit_yes (ltb l n) (omega (arith, h l, stands_occurs t l o)));
  whole = λ l o. occurs_stands t l (omega (arith, h l, ap tree_laws.bit (lt-ltb l n o)));
}
