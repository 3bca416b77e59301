-- HANDING DOWN: from the last line to the first, each line hands something on to its parts. Every line but the last is a part of one above
-- it, so that each has its own when its turn comes. What follows a node is found so: its follower, and the leaves that are come to behind it.
use Rattle.std.specs.Prelude.{◌≡◌, refl, Bool, true, false, ◌||◌, ◌⊎◌, List, [], ◌∷◌, ◌++◌, ℕ, zero, suc, ◌+◌, ◌-◌, ◌≤◌, ◌<◌, eqb}
use Rattle.std.proofs.Common.{sym, ap, subst, ◌∙◌, inl, inr, ⊎_elim, arith, eqb-true}
use Rattle.std.proofs.lemmas.Bool.{false≢true, eqb-false}
use Rattle.std.proofs.Math.Decide.{dec_lt}
use Rattle.syntax.specs.declared.Leaf.{Leaf}
use Rattle.syntax.specs.declared.Node.{Node}
use Rattle.syntax.specs.declared.Node.TheVariants.{Leaf as LeafNode, Sequence, Alternative, Star}
use Rattle.syntax.specs.declared.Line.{Line}
use Rattle.syntax.specs.declared.Pattern.{Pattern}
use Rattle.syntax.specs.Table.{line_at, node_at, parts, member, named_below}
use Rattle.syntax.specs.Tree.{Label, Tree, seq, alt, star, index}
use Rattle.syntax.specs.Trees.{made, tree_of}
use Rattle.syntax.specs.TreeLaws.{Below, Rules, made-index, tree-line, times}
use Rattle.syntax.specs.TreeLaws as tree_laws
use Rattle.semantics.proofs.Basics.{or_cases}
use Rattle.semantics.specs.Automaton.{Location, top, fst, snd, lft, rgt, rnd}

pub equal : (m n : ℕ) → Dec (m ≡ n)
equal m n = go (eqb m n) refl
  where
    go : (b : Bool) → eqb m n ≡ b → Dec (m ≡ n)
    go true e = yes (eqb-true m n e)
    go false e = no (eqb-false m n e)

-- ── the parts of a line: a star has one, and a leaf stands for its own ──
abbrev pub first_part : (index : ℕ) → Node → ℕ
first_part i (LeafNode x) = i
first_part i (Sequence p q) = p
first_part i (Alternative p q) = p
first_part i (Star again p) = p

abbrev pub second_part : (index : ℕ) → Node → ℕ
second_part i (LeafNode x) = i
second_part i (Sequence p q) = q
second_part i (Alternative p q) = q
second_part i (Star again p) = p

-- the parts lie no higher than their line
pub record PartsInside (i : ℕ) (k : Node) : Type 0 where
  pub first : first_part i k ≤ i
  pub second : second_part i k ≤ i

pub parts-inside : (i : ℕ) (k : Node) → Below i k → PartsInside i k
parts-inside i (LeafNode x) b = record { first = omega arith; second = omega arith }
parts-inside i (Sequence p q) b = record { first = omega (arith, b.0); second = omega (arith, b.1) }
parts-inside i (Alternative p q) b = record { first = omega (arith, b.0); second = omega (arith, b.1) }
parts-inside i (Star again p) b = record { first = omega (arith, b); second = omega (arith, b) }

either-part : (l x y : ℕ) → member l (x ∷ y ∷ []) ≡ true → (l ≡ x) ⊎ (l ≡ y)
either-part l x y h =
    ⊎_elim (λ e. inl (sym (eqb-true x l e)))
    (λ e. ⊎_elim (λ f. inr (sym (eqb-true y l f))) (λ f. absurd (false≢true f.1)) (or_cases (eqb y l) false e.1))
    (or_cases (eqb x l) (eqb y l || false) h)

-- what a node names is its first part or its second
part_is : (i l : ℕ) (k : Node) → member l (parts k) ≡ true → (l ≡ first_part i k) ⊎ (l ≡ second_part i k)
part_is i l (LeafNode x) h = absurd (false≢true h)
part_is i l (Sequence x y) h = either-part l x y h
part_is i l (Alternative x y) h = either-part l x y h
part_is i l (Star again x) h = ⊎_elim (λ e. inl (sym (eqb-true x l e))) (λ f. absurd (false≢true f.1)) (or_cases (eqb x l) false h)

part-below : (i l : ℕ) (k : Node) → Below i k → member l (parts k) ≡ true → l < i
part-below i l (LeafNode x) b h = absurd (false≢true h)
part-below i l (Sequence x y) b h =
    ⊎_elim (λ e. omega (arith, b.0)) (λ e. omega (arith, b.1)) (either-part l x y h)
part-below i l (Alternative x y) b h =
    ⊎_elim (λ e. omega (arith, b.0)) (λ e. omega (arith, b.1)) (either-part l x y h)
part-below i l (Star again x) b h = ⊎_elim (λ e. omega arith) (λ e. omega arith) (part_is i l (Star again x) h)

-- ── n lines whose last is the root of a tree ──
-- a line from i on and below n names l
pub record Named (f : ℕ → Line) (n i l : ℕ) : Type 0 where
  pub line : ℕ
  pub from : i ≤ line
  pub inside : line < n
  pub names : member l (parts (f line).node) ≡ true

pub record Rooted (f : ℕ → Line) (n : ℕ) : Type 0 where
  pub one : 1 ≤ n
  pub few : n ≤ 64
  pub lower : (l : ℕ) → l < n → Below l (f l).node
  pub named : (l : ℕ) → suc l < n → Named f n (suc l) l

member-some : (l : ℕ) (xs : List ℕ) → times l xs ≡ 1 → member l xs ≡ true
member-some l [] h = absurd (omega arith)
member-some l (x ∷ xs) h = go (eqb x l) (member-some l xs) h
  where
    go : (b : Bool) → (times l xs ≡ 1 → member l xs ≡ true) → tree_laws.bit b + times l xs ≡ 1 → (b || member l xs) ≡ true
    go true ih e = refl
    go false ih e = ih (omega arith)

member-append : (l : ℕ) (xs ys : List ℕ) → member l (xs ++ ys) ≡ true → (member l xs ≡ true) ⊎ (member l ys ≡ true)
member-append l [] ys h = inr h
member-append l (x ∷ xs) ys h = go (eqb x l) (member-append l xs ys) h
  where
    go :
        (b : Bool) → (member l (xs ++ ys) ≡ true → (member l xs ≡ true) ⊎ (member l ys ≡ true)) → (b || member l (xs ++ ys)) ≡ true
        → ((b || member l xs) ≡ true) ⊎ (member l ys ≡ true)
    go true ih e = inl refl
    go false ih e = ih e

-- lines that are those of a pattern that obeys the rules are such lines
module _ (p : Pattern) (r : Rules p) (f : ℕ → Line) (same : (l : ℕ) → l < p.count → f l ≡ line_at p l) where
  lower_line : (l : ℕ) → l < p.count → Below l (f l).node
  lower_line l h = subst (λ x. Below l x.node) (sym (same l h)) (r.lower l h)

  named_in : (l n : ℕ) → n ≤ p.count → member l (named_below p n) ≡ true → Named f p.count (suc l) l
  named_in l zero h e = absurd (false≢true e)
  named_in l (suc n) h e = ⊎_elim here (λ m. named_in l n (omega arith) m) (member-append l (parts (node_at p n)) (named_below p n) e)
    where
      here : member l (parts (node_at p n)) ≡ true → Named f p.count (suc l) l
      here m =
          let k : member l (parts (f n).node) ≡ true = ap (λ x. member l (parts x.node)) (same n h) ∙ m in
          record { line = n; from = part-below n l (f n).node (lower_line n h) k; inside = h; names = k }

  pub rules_rooted : Rooted f p.count
  rules_rooted = record {
    one = r.one;
    few = r.few;
    lower = lower_line;
    named = λ l h. named_in l p.count (omega arith) (member-some l (named_below p p.count) (r.once l h));
  }

-- ── known when the lines from i on have been passed: the last line, and what they name ──
abbrev pub Known : (f : ℕ → Line) → (n i l : ℕ) → Type 0
Known f n i l = (suc l ≡ n) ⊎ Named f n i l

known_line : {f : ℕ → Line} {n : ℕ} → Rooted f n → (l : ℕ) → l < n → Known f n (suc l) l
known_line {f} {n} whole l h = go (dec_lt (suc l) n)
  where
    go : Dec (suc l < n) → Known f n (suc l) l
    go (no k) = inl (omega arith)
    go (yes k) = inr (whole.named l k)

abbrev pub label_of : (f : ℕ → Line) → ℕ → Label
label_of f l = record { index = l; account = (f l).account }

pub line_made : {f : ℕ → Line} {n : ℕ} → Rooted f n → (l : ℕ) → l < n → tree_of f l ≡ made (label_of f l) (tree_of f) (f l).node
line_made {f} whole l h = tree-line f l (whole.lower l h)

pub made_has_index : {f : ℕ → Line} {n : ℕ} → Rooted f n → (l : ℕ) → l < n → index (tree_of f l) ≡ l
made_has_index {f} whole l h = ap index (line_made whole l h) ∙ made-index (label_of f l) (tree_of f) (f l).node

-- a cell is written, and no other changes
pub record Stores {X : Type 0} (before : ℕ → X) (a : ℕ) (v : X) (now : ℕ → X) : Type 0 where
  pub here : now a ≡ v
  pub other : (l : ℕ) → (l ≡ a → ⊥) → now l ≡ before l

pub stores_same : {X : Type 0} {before now : ℕ → X} {a b : ℕ} {v w : X} → a ≡ b → v ≡ w → Stores before a v now → Stores before b w now
stores_same {before = before} {now = now} {a = a} {w = w} e g s = subst (λ x. Stores before x w now) e (subst (λ y. Stores before a y now) g s)

-- Q says what is right at a node of the root's tree
module _ (f : ℕ → Line) (n : ℕ) {X : Type 0} (Q : (t : Tree) → Location (tree_of f (n - 1)) t → X → Type 0) where
  pub record Given (t : Tree) (x : X) : Type 0 where
    pub place : Location (tree_of f (n - 1)) t
    pub right : Q t place x

  -- every line that is known has its own
  abbrev pub AllGiven : (i : ℕ) → (now : ℕ → X) → Type 0
  AllGiven i now = (l : ℕ) → l < n → Known f n i l → Given (tree_of f l) (now l)

  -- line i hands its own to its second part, and what `first` makes of it to the first: both are right there
  pub record Hands (i : ℕ) (first : Node → X → X) : Type 0 where
    pub leaf : (x : Leaf) (v : X) → first (LeafNode x) v ≡ v
    pub sequence :
        (x y : ℕ) → x < i → y < i → (s : Location (tree_of f (n - 1)) (seq (label_of f i) (tree_of f x) (tree_of f y))) (v : X)
        → Q (seq (label_of f i) (tree_of f x) (tree_of f y)) s v → Q (tree_of f x) (fst s) (first (Sequence x y) v) × Q (tree_of f y) (snd s) v
    pub alternative :
        (x y : ℕ) → (s : Location (tree_of f (n - 1)) (alt (label_of f i) (tree_of f x) (tree_of f y))) (v : X)
        → Q (alt (label_of f i) (tree_of f x) (tree_of f y)) s v → Q (tree_of f x) (lft s) (first (Alternative x y) v) × Q (tree_of f y) (rgt s) v
    pub round :
        (again : Bool) (x : ℕ) → x < i → (s : Location (tree_of f (n - 1)) (star (label_of f i) again (tree_of f x))) (v : X)
        → Q (star (label_of f i) again (tree_of f x)) s v → Q (tree_of f x) (rnd s) (first (Star again x) v)

  -- at the start the last line alone is known
  pub given-start : (now : ℕ → X) → Q (tree_of f (n - 1)) top (now (n - 1)) → AllGiven n now
  given-start now q l h (inl e) = let i : n - 1 ≡ l = omega arith in subst (λ x. Given (tree_of f x) (now x)) i (record { place = top; right = q })
  given-start now q l h (inr m) = absurd (omega (arith, m.from, m.inside))

  module _ (whole : Rooted f n) where
    -- when all lines have been passed every line is known
    pub given_end : (now : ℕ → X) → AllGiven 0 now → (l : ℕ) → l < n → Given (tree_of f l) (now l)
    given_end now d l h = d l h (go (known_line whole l h))
      where
        go : Known f n (suc l) l → Known f n 0 l
        go (inl e) = inl e
        go (inr m) = inr (record { line = m.line; from = omega arith; inside = m.inside; names = m.names })

    module _ (i : ℕ) (h : i < n) (first : Node → X → X) (hands : Hands i first) where
      at_first :
          (k : Node) → Below i k → (v : X) → Given (tree_of f i) v → Given (made (label_of f i) (tree_of f) k) v
          → Given (tree_of f (first_part i k)) (first k v)
      at_first (LeafNode x) b v d g = subst (Given (tree_of f i)) (sym (hands.leaf x v)) d
      at_first (Sequence x y) b v d g = record { place = fst g.place; right = (hands.sequence x y b.0 b.1 g.place v g.right).0 }
      at_first (Alternative x y) b v d g = record { place = lft g.place; right = (hands.alternative x y g.place v g.right).0 }
      at_first (Star again x) b v d g = record { place = rnd g.place; right = hands.round again x b g.place v g.right }

      at_second :
          (k : Node) → Below i k → (second_part i k ≡ first_part i k → ⊥) → (v : X) → Given (made (label_of f i) (tree_of f) k) v
          → Given (tree_of f (second_part i k)) v
      at_second (LeafNode x) b ne v g = absurd (ne refl)
      at_second (Sequence x y) b ne v g = record { place = snd g.place; right = (hands.sequence x y b.0 b.1 g.place v g.right).1 }
      at_second (Alternative x y) b ne v g = record { place = rgt g.place; right = (hands.alternative x y g.place v g.right).1 }
      at_second (Star again x) b ne v g = absurd (ne refl)

      -- a line hands on by two stores, that of its second part before that of its first
      pub given-next :
          (old mid new : ℕ → X) → AllGiven (suc i) old → Stores old (second_part i (f i).node) (old i) mid
          → Stores mid (first_part i (f i).node) (first (f i).node (old i)) new → AllGiven i new
      given-next old mid new d s t l k m = go (equal l a) (equal l b)
        where
          a : ℕ
          a = first_part i (f i).node

          b : ℕ
          b = second_part i (f i).node

          here : Given (tree_of f i) (old i)
          here = d i h (known_line whole i h)

          node : Given (made (label_of f i) (tree_of f) (f i).node) (old i)
          node = subst (λ u. Given u (old i)) (line_made whole i h) here

          named : (l ≡ a → ⊥) → (l ≡ b → ⊥) → (m : Named f n i l) → Dec (i < m.line) → Given (tree_of f l) (old l)
          named u v m (yes y) = d l k (inr (record { line = m.line; from = y; inside = m.inside; names = m.names }))
          named u v m (no y) =
              let e : m.line ≡ i = omega (arith, m.from) in
              absurd (⊎_elim u v (part_is i l (f i).node (ap (λ x. member l (parts (f x).node)) (sym e) ∙ m.names)))

          before : (l ≡ a → ⊥) → (l ≡ b → ⊥) → Known f n i l → Given (tree_of f l) (old l)
          before u v (inl e) = d l k (inl e)
          before u v (inr m) = named u v m (dec_lt i m.line)

          go : Dec (l ≡ a) → Dec (l ≡ b) → Given (tree_of f l) (new l)
          go (yes u) v =
              subst (λ x. Given (tree_of f x) (new x)) (sym u)
              (subst (Given (tree_of f a)) (sym t.here) (at_first (f i).node (whole.lower i h) (old i) here node))
          go (no u) (yes v) =
              let ne : b ≡ a → ⊥ = λ e. u (v ∙ e) in
              subst (λ x. Given (tree_of f x) (new x)) (sym v)
              (subst (Given (tree_of f b)) (sym (t.other b ne ∙ s.here)) (at_second (f i).node (whole.lower i h) ne (old i) node))
          go (no u) (no v) = subst (Given (tree_of f l)) (sym (t.other l u ∙ s.other l v)) (before u v m)
