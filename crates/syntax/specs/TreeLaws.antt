-- Laws of tables: the table test is the pattern rules, and the tree of a table that obeys them holds every place exactly once.
use Rattle.std.specs.Prelude.{◌≡◌, Bool, ◌&&◌, ◌||◌, ◌↔◌, eqb, ltb, length, Option, None, Some}
use Rattle.std.proofs.Math.Path.{refl, ap, ap₂}
use Rattle.std.proofs.Common.{sym, ◌∙◌, true≢false, zero-add, add-mul, mul-one, length-append}
use Rattle.std.proofs.Math.Bool.{true, false, not}
use Rattle.std.proofs.lemmas.Bool.{false≢true}
use mathlib.Core.List.{List, [], ◌∷◌, ◌++◌}
use Rattle.std.proofs.lemmas.Option.{none-some}
use Prim.Native.Nat.{ℕ, zero, suc, ◌+◌, ◌*◌, ◌-◌, ◌≤◌, ◌<◌}
use Rattle.std.proofs.Math.Nat.{one-mul}
use native.Mathlib.Omega.{arith}
use Rattle.std.proofs.Math.Decide.{dec_lt}
use borrow.Author.Tests.{ltb-true, leb-true, eqb-true, eqb-false, lt-ltb, le-ltb, le-leb, eq-eqb, not-true, not-false}
use Rattle.std.proofs.Math.Dec.{leb}
use Rattle.std.proofs.Math.ListN.{get_or, get_or-append}
use Rattle.std.proofs.Math.Seq.{get_or_at}
use Rattle.syntax.specs.declared.Leaf.TheVariants.{Nothing, Letter, Range}
use Rattle.syntax.specs.declared.Node.{Node}
use Rattle.syntax.specs.declared.Node.TheVariants.{Leaf as LeafNode, Sequence, Alternative, Star}
use Rattle.syntax.specs.declared.Line.{Line}
use Rattle.syntax.specs.declared.Pattern.{Pattern}
use Rattle.syntax.specs.Bools.{and_fst, and_snd, and_intro}
use Rattle.syntax.specs.Tree.{Label, Tree, nothing, letter, range, seq, alt, star, index}
use Rattle.syntax.specs.Table.{line_at, node_at, line_good, badly_formed, parts, named_below, member, rightly_named, wrongly_names, unnamed}
use Rattle.syntax.specs.Table.{lowest, or_else, tree_fault, is_none, obeys}
use Rattle.syntax.specs.Trees.{made, unplanted, plant, trees, tree_of, root}
use Rattle.syntax.specs.Lowest.{lowest_none, none_lowest}

abbrev pub bit : Bool → ℕ
bit true = 1
bit false = 0

-- how often a place stands in a list
abbrev pub times : ℕ → List ℕ → ℕ
times l [] = 0
times l (x ∷ xs) = bit (eqb x l) + times l xs

-- every part of a node is below i
abbrev pub Below : ℕ → Node → Type 0
Below i (LeafNode x) = Unit {0}
Below i (Sequence p q) = (p < i) × (q < i)
Below i (Alternative p q) = (p < i) × (q < i)
Below i (Star again p) = p < i

-- THE PATTERN RULES of document 01, in the words of facts: "There are 1 to 64 lines"; letters, ranges and accounts are good;
-- "A part's place is below that of the line naming it. Every place but the last is named exactly once."
pub record Rules (p : Pattern) : Type 0 where
  pub one : 1 ≤ p.count
  pub few : p.count ≤ 64
  pub formed : (i : ℕ) → i < p.count → line_good (line_at p i) ≡ true
  pub lower : (i : ℕ) → i < p.count → Below i (node_at p i)
  pub once : (l : ℕ) → suc l < p.count → times l (named_below p p.count) ≡ 1

-- ── lists of places ──
pub times-append : (l : ℕ) (xs ys : List ℕ) → times l (xs ++ ys) ≡ times l xs + times l ys
times-append l [] ys = sym (zero-add (times l ys))
times-append l (x ∷ xs) ys = omega (arith, times-append l xs ys)

member-times : (l : ℕ) (xs : List ℕ) → member l xs ≡ false → times l xs ≡ 0
member-times l [] h = refl
member-times l (x ∷ xs) h = go (eqb x l) (member-times l xs) h
  where
    go : (b : Bool) → (member l xs ≡ false → times l xs ≡ 0) → (b || member l xs) ≡ false → bit b + times l xs ≡ 0
    go true ih e = absurd (true≢false e)
    go false ih e = omega (arith, ih e)

times-member : (l : ℕ) (xs : List ℕ) → times l xs ≡ 0 → member l xs ≡ false
times-member l [] h = refl
times-member l (x ∷ xs) h = go (eqb x l) (times-member l xs) h
  where
    go : (b : Bool) → (times l xs ≡ 0 → member l xs ≡ false) → bit b + times l xs ≡ 0 → (b || member l xs) ≡ false
    go true ih e = absurd (omega arith)
    go false ih e = ih (omega arith)

abbrev pub AllUnder : ℕ → List ℕ → Type 0
AllUnder n [] = Unit {0}
AllUnder n (x ∷ xs) = (x < n) × AllUnder n xs

below_parts : (i : ℕ) (k : Node) → AllUnder i (parts k) → Below i k
below_parts i (LeafNode x) h = tt
below_parts i (Sequence p q) h = (h.0, h.1.0)
below_parts i (Alternative p q) h = (h.0, h.1.0)
below_parts i (Star again p) h = h.0

pub parts_below : (i : ℕ) (k : Node) → Below i k → AllUnder i (parts k)
parts_below i (LeafNode x) h = tt
parts_below i (Sequence p q) h = (h.0, (h.1, tt))
parts_below i (Alternative p q) h = (h.0, (h.1, tt))
parts_below i (Star again p) h = (h, tt)

under_mono : (i b : ℕ) → i ≤ b → (xs : List ℕ) → AllUnder i xs → AllUnder b xs
under_mono i b h [] u = tt
under_mono i b h (x ∷ xs) u = (omega (arith, u.0), under_mono i b h xs u.1)

under-append : (n : ℕ) (xs ys : List ℕ) → AllUnder n xs → AllUnder n ys → AllUnder n (xs ++ ys)
under-append n [] ys h k = k
under-append n (x ∷ xs) ys h k = (h.0, under-append n xs ys h.1 k)

times_out : (l b : ℕ) (xs : List ℕ) → AllUnder b xs → b ≤ l → times l xs ≡ 0
times_out l b [] u h = refl
times_out l b (x ∷ xs) u h = rw (other (eqb x l) refl) (omega (arith, times_out l b xs u.1 h))
  where
    other : (e : Bool) → eqb x l ≡ e → e ≡ false
    other true e = absurd (omega (arith, u.0, eqb-true x l e))
    other false e = refl

-- ── rightly named: each part below its line, and none twice ──
rightly-sound :
    (qs seen : List ℕ) (i : ℕ) → rightly_named i seen qs ≡ true → ((l : ℕ) → times l seen ≤ 1) → AllUnder i qs × ((l : ℕ) → times l qs + times l seen ≤ 1)
rightly-sound [] seen i h m = (tt, λ l. omega (arith, m l))
rightly-sound (q ∷ qs) seen i h m =
    let a = and_fst (ltb q i && not (member q seen)) (rightly_named i (q ∷ seen) qs) h in
    let z : times q seen ≡ 0 = member-times q seen (not-true (member q seen) (and_snd (ltb q i) (not (member q seen)) a)) in
    let (u, n) = rightly-sound qs (q ∷ seen) i (and_snd (ltb q i && not (member q seen)) (rightly_named i (q ∷ seen) qs) h) (λ l. again z l (eqb q l) refl) in
    ((ltb-true q i (and_fst (ltb q i) (not (member q seen)) a), u), λ l. omega (arith, n l))
  where
    again : times q seen ≡ 0 → (l : ℕ) (b : Bool) → eqb q l ≡ b → bit b + times l seen ≤ 1
    again z l true e = let y : times l seen ≡ 0 = ap (λ x. times x seen) (sym (eqb-true q l e)) ∙ z in omega arith
    again z l false e = omega (arith, m l)

rightly_complete : (qs seen : List ℕ) (i : ℕ) → AllUnder i qs → ((l : ℕ) → times l qs + times l seen ≤ 1) → rightly_named i seen qs ≡ true
rightly_complete [] seen i u m = refl
rightly_complete (q ∷ qs) seen i u m =
    let z : times q seen ≡ 0 = omega (arith, m q, ap bit (eq-eqb q q refl)) in
    and_intro (and_intro (lt-ltb q i u.0) (ap not (times-member q seen z))) (rightly_complete qs (q ∷ seen) i u.1 (λ l. omega (arith, m l)))

-- ── the tree rules and the tree fault ──
module _ (p : Pattern) where
  not_wrong : (i : ℕ) → wrongly_names p i ≡ false → rightly_named i (named_below p i) (parts (node_at p i)) ≡ true
  unfolding wrongly_names
  not_wrong i h = not-false (rightly_named i (named_below p i) (parts (node_at p i))) h

  right : (i : ℕ) → rightly_named i (named_below p i) (parts (node_at p i)) ≡ true → wrongly_names p i ≡ false
  unfolding wrongly_names
  right i h = ap not h

  -- lines that name rightly name nothing twice
  named_once : ((i : ℕ) → i < p.count → wrongly_names p i ≡ false) → (i : ℕ) → i ≤ p.count → (l : ℕ) → times l (named_below p i) ≤ 1
  named_once h zero le l = omega arith
  named_once h (suc i) le l =
      let s = rightly-sound (parts (node_at p i)) (named_below p i) i (not_wrong i (h i le)) (named_once h i (omega arith)) in
      omega (arith, s.1 l, times-append l (parts (node_at p i)) (named_below p i))

  pub named_mono : (l i k : ℕ) → times l (named_below p i) ≤ times l (named_below p (i + k))
  named_mono l i zero = let e : i + 0 ≡ i = omega arith in rw e (omega arith)
  named_mono l i (suc k) =
      let e : i + suc k ≡ suc (i + k) = omega arith in
      rw e (omega (arith, named_mono l i k, times-append l (parts (node_at p (i + k))) (named_below p (i + k))))

  -- what the lines below n name is below n - 1
  named-under : (n : ℕ) → ((i : ℕ) → i < n → Below i (node_at p i)) → AllUnder (n - 1) (named_below p n)
  named-under zero h = tt
  named-under (suc n) h =
      under-append (suc n - 1) (parts (node_at p n)) (named_below p n)
      (under_mono n (suc n - 1) (omega arith) (parts (node_at p n)) (parts_below n (node_at p n) (h n (omega arith))))
      (under_mono (n - 1) (suc n - 1) (omega arith) (named_below p n) (named-under n (λ i l. h i (omega arith))))

  pub record TreeRules : Type 0 where
    pub lower : (i : ℕ) → i < p.count → Below i (node_at p i)
    pub once : (l : ℕ) → suc l < p.count → times l (named_below p p.count) ≡ 1

  faultless : tree_fault p ≡ None → TreeRules
  unfolding tree_fault unnamed
  faultless h = go (lowest (wrongly_names p) 0 p.count) refl (lowest (unnamed p) 0 (p.count - 1)) refl h
    where
      go : (x : Option ℕ) → lowest (wrongly_names p) 0 p.count ≡ x → (y : Option ℕ) → lowest (unnamed p) 0 (p.count - 1) ≡ y → or_else x y ≡ None
          → TreeRules
      go (Some x) ex y ey h = absurd (none-some x (sym h))
      go None ex (Some y) ey h = absurd (none-some y (sym h))
      go None ex None ey h =
          let w : (i : ℕ) → i < p.count → wrongly_names p i ≡ false = λ i l. lowest_none (wrongly_names p) p.count 0 ex i (omega arith) (omega arith) in
          record {
            lower = λ i l. below_parts i (node_at p i)
                (rightly-sound (parts (node_at p i)) (named_below p i) i (not_wrong i (w i l)) (named_once w i (omega arith))).0;
            once = λ l k.
                let u : not (member l (named_below p p.count)) ≡ false = lowest_none (unnamed p) (p.count - 1) 0 ey l (omega arith) (omega arith) in
                exactly l (times l (named_below p p.count)) refl (not-false (member l (named_below p p.count)) u)
                (named_once w p.count (omega arith) l);
          }
        where
          exactly : (l n : ℕ) → times l (named_below p p.count) ≡ n → member l (named_below p p.count) ≡ true
              → times l (named_below p p.count) ≤ 1 → n ≡ 1
          exactly l zero e m k = absurd (true≢false (sym m ∙ times-member l (named_below p p.count) e))
          exactly l (suc n) e m k = omega arith

  fault_free : 1 ≤ p.count → TreeRules → tree_fault p ≡ None
  unfolding tree_fault unnamed
  fault_free one r =
      ap₂ or_else
      (none_lowest (wrongly_names p) p.count 0
      (λ i a b. right i (rightly_complete (parts (node_at p i)) (named_below p i) i (parts_below i (node_at p i) (r.lower i (omega arith)))
      (λ l. part i l (omega arith)))))
      (none_lowest (unnamed p) (p.count - 1) 0 (λ l a b. ap not (named l (r.once l (omega arith)))))
    where
      most : (l : ℕ) → Dec (suc l < p.count) → times l (named_below p p.count) ≤ 1
      most l (yes h) = omega (arith, r.once l h)
      most l (no h) = omega (arith, times_out l (p.count - 1) (named_below p p.count) (named-under p.count r.lower) (omega arith))

      part : (i l : ℕ) → i < p.count → times l (parts (node_at p i)) + times l (named_below p i) ≤ 1
      part i l b =
          let e : suc i + (p.count - suc i) ≡ p.count = omega arith in
          let m : times l (named_below p (suc i)) ≤ times l (named_below p p.count) = rw e at (named_mono l (suc i) (p.count - suc i)) in
          omega (arith, m, most l (dec_lt (suc l) p.count), times-append l (parts (node_at p i)) (named_below p i))

      named : (l : ℕ) → times l (named_below p p.count) ≡ 1 → member l (named_below p p.count) ≡ true
      named l e = go (member l (named_below p p.count)) refl
        where
          go : (b : Bool) → member l (named_below p p.count) ≡ b → b ≡ true
          go true q = refl
          go false q = absurd (omega (arith, member-times l (named_below p p.count) q))

  -- ── the table test is the pattern rules ──
  is_none_none : (o : Option ℕ) → is_none o ≡ true → o ≡ None
  is_none_none None h = refl
  is_none_none (Some x) h = absurd (false≢true h)

  pub obeys_iff : (obeys p ≡ true) ↔ Rules p
  unfolding obeys
  obeys_iff = (there, back)
    where
      there : ((leb 1 p.count && leb p.count 64) && (is_none (lowest (badly_formed p) 0 p.count) && is_none (tree_fault p))) ≡ true → Rules p
      there h =
          let a = and_fst (leb 1 p.count && leb p.count 64) _ h in
          let b = and_snd (leb 1 p.count && leb p.count 64) _ h in
          let f = is_none_none (lowest (badly_formed p) 0 p.count) (and_fst (is_none (lowest (badly_formed p) 0 p.count)) (is_none (tree_fault p)) b) in
          let t = faultless (is_none_none (tree_fault p) (and_snd (is_none (lowest (badly_formed p) 0 p.count)) (is_none (tree_fault p)) b)) in
          record {
            one = leb-true 1 p.count (and_fst (leb 1 p.count) (leb p.count 64) a);
            few = leb-true p.count 64 (and_snd (leb 1 p.count) (leb p.count 64) a);
            formed = λ i l. not-false (line_good (line_at p i)) (lowest_none (badly_formed p) p.count 0 f i (omega arith) (omega arith));
            lower = t.lower;
            once = t.once;
          }

      back : Rules p → ((leb 1 p.count && leb p.count 64) && (is_none (lowest (badly_formed p) 0 p.count) && is_none (tree_fault p))) ≡ true
      back r =
          and_intro (and_intro (le-leb 1 p.count r.one) (le-leb p.count 64 r.few))
          (and_intro
          (ap is_none (none_lowest (badly_formed p) p.count 0 (λ i a b. ap not (r.formed i (omega arith)))))
          (ap is_none (fault_free r.one (record { lower = r.lower; once = r.once }))))

-- ── the tree of a line ──
module _ (f : ℕ → Line) where
  length-trees : (n : ℕ) → length (trees f n) ≡ n
  length-trees zero = refl
  length-trees (suc n) = simp length-append (omega (arith, length-trees n))

  trees_at : (n q : ℕ) → q < n → get_or (trees f n) q unplanted ≡ tree_of f q
  unfolding tree_of
  trees_at zero q h = absurd (omega arith)
  trees_at (suc n) q h = go (trees_at n q) (dec_lt q n)
    where
      go : (q < n → get_or (trees f n) q unplanted ≡ plant f (trees f q) q) → Dec (q < n)
          → get_or (trees f n ++ (plant f (trees f n) n ∷ [])) q unplanted ≡ plant f (trees f q) q
      go ih (yes l) = get_or-append (trees f n) (plant f (trees f n) n ∷ []) unplanted q (omega (arith, length-trees n)) ∙ ih l
      go ih (no l) = let e : n ≡ q = omega arith in get_or_at (trees f n) (plant f (trees f n) n) [] unplanted q (length-trees n ∙ e)
          ∙ ap (λ k. plant f (trees f k) k) e

made_same : (m : Label) (t u : ℕ → Tree) (l : ℕ) (k : Node) → Below l k → ((i : ℕ) → i < l → t i ≡ u i) → made m t k ≡ made m u k
made_same m t u l (LeafNode Nothing) h e = refl
made_same m t u l (LeafNode (Letter c)) h e = refl
made_same m t u l (LeafNode (Range a b)) h e = refl
made_same m t u l (Sequence p q) h e = ap₂ (λ x y. seq m x y) (e p h.0) (e q h.1)
made_same m t u l (Alternative p q) h e = ap₂ (λ x y. alt m x y) (e p h.0) (e q h.1)
made_same m t u l (Star again p) h e = ap (λ x. star m again x) (e p h)

-- the tree of a node has the node's index
pub made-index : (m : Label) (f : ℕ → Tree) (n : Node) → index (made m f n) ≡ m.index
made-index m f (LeafNode Nothing) = refl
made-index m f (LeafNode (Letter c)) = refl
made-index m f (LeafNode (Range a b)) = refl
made-index m f (Sequence p q) = refl
made-index m f (Alternative p q) = refl
made-index m f (Star again p) = refl

-- the tree of a line is its node over the trees of its parts
pub tree-line : (f : ℕ → Line) (l : ℕ) → Below l (f l).node → tree_of f l ≡ made (record { index = l; account = (f l).account }) (tree_of f) (f l).node
unfolding tree_of
tree-line f l h = made_same (record { index = l; account = (f l).account }) (λ q. get_or (trees f l) q unplanted) (tree_of f) l (f l).node h
    (λ i k. trees_at f l i k)

-- lines that are the same below n have the same trees there
trees_same : (f g : ℕ → Line) (n : ℕ) → ((l : ℕ) → l < n → f l ≡ g l) → trees f n ≡ trees g n
trees_same f g zero h = refl
trees_same f g (suc n) h =
    ap₂ (λ ts x. ts ++ (made (record { index = n; account = x.account }) (λ q. get_or ts q unplanted) x.node ∷ []))
    (trees_same f g n (λ l k. h l (omega arith))) (h n (omega arith))

pub tree_same : (f g : ℕ → Line) (n : ℕ) → ((l : ℕ) → l < n → f l ≡ g l) → (l : ℕ) → l < n → tree_of f l ≡ tree_of g l
unfolding tree_of
tree_same f g n h l k =
    ap₂ (λ ts x. made (record { index = l; account = x.account }) (λ q. get_or ts q unplanted) x.node) (trees_same f g l (λ i m. h i (omega arith))) (h l k)

-- ── every place stands in the root's tree exactly once ──
-- a number for each node of a tree, added up
abbrev pub weight : (ℕ → ℕ) → Tree → ℕ
weight g (nothing m) = g m.index
weight g (letter m c) = g m.index
weight g (range m a b) = g m.index
weight g (seq m t u) = g m.index + (weight g t + weight g u)
weight g (alt m t u) = g m.index + (weight g t + weight g u)
weight g (star m again t) = g m.index + weight g t

-- how often an index stands in a tree
abbrev pub occurrences : Tree → ℕ → ℕ
occurrences t l = weight (λ i. bit (eqb i l)) t

abbrev pub sum_to : ℕ → (ℕ → ℕ) → ℕ
sum_to zero f = 0
sum_to (suc n) f = f n + sum_to n f

abbrev sum_over : List ℕ → (ℕ → ℕ) → ℕ
sum_over [] f = 0
sum_over (x ∷ xs) f = f x + sum_over xs f

sum_over-append : (xs ys : List ℕ) (f : ℕ → ℕ) → sum_over (xs ++ ys) f ≡ sum_over xs f + sum_over ys f
sum_over-append [] ys f = sym (zero-add (sum_over ys f))
sum_over-append (x ∷ xs) ys f = omega (arith, sum_over-append xs ys f)

pub sum_same : (n : ℕ) (f g : ℕ → ℕ) → ((i : ℕ) → i < n → f i ≡ g i) → sum_to n f ≡ sum_to n g
sum_same zero f g h = refl
sum_same (suc n) f g h = ap₂ (λ x y. x + y) (h n (omega arith)) (sum_same n f g (λ i l. h i (omega arith)))

pub sum_add : (n : ℕ) (f g : ℕ → ℕ) → sum_to n (λ i. f i + g i) ≡ sum_to n f + sum_to n g
sum_add zero f g = refl
sum_add (suc n) f g = omega (arith, sum_add n f g)

-- the place x counted once
pub sum_only : (n x : ℕ) (f : ℕ → ℕ) → sum_to n (λ i. bit (eqb x i) * f i) ≡ bit (ltb x n) * f x
sum_only zero x f = rw (le-ltb x 0 (omega arith)) (omega arith)
sum_only (suc n) x f = go (sum_only n x f) (eqb x n) refl (dec_lt x n)
  where
    go : sum_to n (λ i. bit (eqb x i) * f i) ≡ bit (ltb x n) * f x → (e : Bool) → eqb x n ≡ e → Dec (x < n)
        → bit e * f n + sum_to n (λ i. bit (eqb x i) * f i) ≡ bit (ltb x (suc n)) * f x
    go ih true e d =
        let q : x ≡ n = eqb-true x n e in
        rw (lt-ltb x (suc n) (omega arith), ih, le-ltb x n (omega arith), q) (omega arith)
    go ih false e (yes d) = rw (lt-ltb x (suc n) (omega arith), ih, lt-ltb x n d) (omega arith)
    go ih false e (no d) = rw (le-ltb x (suc n) (omega (arith, eqb-false x n e)), ih, le-ltb x n (omega arith)) (omega arith)

-- a list of places, by how often each stands in it
sum-times : (n : ℕ) (xs : List ℕ) (f : ℕ → ℕ) → AllUnder n xs → sum_over xs f ≡ sum_to n (λ i. times i xs * f i)
sum-times n [] f h = sym (zeros n)
  where
    zeros : (n : ℕ) → sum_to n (λ i. 0 * f i) ≡ 0
    zeros zero = refl
    zeros (suc n) = omega (arith, zeros n)
sum-times n (x ∷ xs) f h =
    let o : sum_to n (λ i. bit (eqb x i) * f i) ≡ 1 * f x = sum_only n x f ∙ ap (λ z. bit z * f x) (lt-ltb x n h.0) in
    sym (sum_same n (λ i. (bit (eqb x i) + times i xs) * f i) (λ i. bit (eqb x i) * f i + times i xs * f i) (λ i l. add-mul (bit (eqb x i)) (times i xs) (f i))
    ∙ sum_add n (λ i. bit (eqb x i) * f i) (λ i. times i xs * f i) ∙ ap₂ (λ y z. y + z) (o ∙ one-mul (f x)) (sym (sum-times n xs f h.1)))

weight-made : (g : ℕ → ℕ) (i a : ℕ) (t : ℕ → Tree) (k : Node)
    → weight g (made (record { index = i; account = a }) t k) ≡ g i + sum_over (parts k) (λ q. weight g (t q))
weight-made g i a t (LeafNode Nothing) = omega arith
weight-made g i a t (LeafNode (Letter c)) = omega arith
weight-made g i a t (LeafNode (Range x y)) = omega arith
weight-made g i a t (Sequence p q) = omega arith
weight-made g i a t (Alternative p q) = omega arith
weight-made g i a t (Star again p) = omega arith

module _ (p : Pattern) (r : Rules p) (g : ℕ → ℕ) where
  abbrev of : ℕ → ℕ
  of i = weight g (tree_of (line_at p) i)

  named-sum : (n : ℕ) → n ≤ p.count → sum_to n of ≡ sum_to n g + sum_over (named_below p n) of
  named-sum zero h = refl
  named-sum (suc n) h =
      let e : of n ≡ g n + sum_over (parts (node_at p n)) of =
      ap (weight g) (tree-line (line_at p) n (r.lower n h)) ∙ weight-made g n (line_at p n).account (tree_of (line_at p)) (node_at p n) in
      omega (arith, e, named-sum n (omega arith), sum_over-append (parts (node_at p n)) (named_below p n) of)

  -- what is added up over the nodes of the root's tree is added up over the places of the table
  pub root-weight : weight g (root p) ≡ sum_to p.count g
  unfolding root
  root-weight = go p.count refl
    where
      go : (n : ℕ) → p.count ≡ n → weight g (tree_of (line_at p) (p.count - 1)) ≡ sum_to n g
      go zero e = absurd (omega (arith, r.one))
      go (suc n) e =
          let d : p.count - 1 ≡ n = omega arith in
          let u : AllUnder n (named_below p p.count) = rw d at (named-under p p.count r.lower) in
          let s : sum_over (named_below p p.count) of ≡ sum_to n of =
          sum-times n (named_below p p.count) of u
          ∙ sum_same n (λ i. times i (named_below p p.count) * of i) of (λ i h. ap (λ x. x * of i) (r.once i (omega arith)) ∙ one-mul (of i)) in
          let t : sum_to (suc n) of ≡ sum_to (suc n) g + sum_over (named_below p p.count) of =
          ap (λ k. sum_to k of) (sym e) ∙ named-sum p.count (omega arith) ∙ ap (λ k. sum_to k g + sum_over (named_below p p.count) of) e in
          rw d (omega (arith, s, t))

-- 01: the last line is the root, and every place but the last is named exactly once: so each stands in the tree once, and no other does
pub root_once : (p : Pattern) → Rules p → (l : ℕ) → occurrences (root p) l ≡ bit (ltb l p.count)
root_once p r l = root-weight p r (λ i. bit (eqb i l)) ∙ counted p.count
  where
    same : (i : ℕ) → bit (eqb i l) ≡ bit (eqb l i) * 1
    same i = go (eqb i l) refl (eqb l i) refl
      where
        go : (a : Bool) → eqb i l ≡ a → (b : Bool) → eqb l i ≡ b → bit a ≡ bit b * 1
        go true e true f = refl
        go false e false f = refl
        go true e false f = absurd (eqb-false l i f (sym (eqb-true i l e)))
        go false e true f = absurd (eqb-false i l e (sym (eqb-true l i f)))

    counted : (n : ℕ) → sum_to n (λ i. bit (eqb i l)) ≡ bit (ltb l n)
    counted n = sum_same n (λ i. bit (eqb i l)) (λ i. bit (eqb l i) * 1) (λ i h. same i) ∙ sum_only n l (λ i. 1) ∙ mul-one (bit (ltb l n))
