-- Laws of packed tables: filling one line by line, handing followers down, and the tree of a table that holds a good pattern.
use Rattle.std.specs.Prelude.{◌≡◌, refl, Bool, true, false, ◌&&◌, List, ℕ, zero, suc, ◌+◌, ◌-◌, ◌*◌, ◌/◌, ◌%◌, ◌≤◌, ◌<◌, eqb, leb, length, get_or, set, replicate}
use Rattle.std.proofs.Common.{sym, ap₂, ◌∙◌, arith, leb-true, length-set, get_or-set_same, get_or-set_other}
use Rattle.std.proofs.Math.Path.{ap, subst}
use Rattle.std.proofs.Math.Decide.{dec_lt}
use Rattle.syntax.specs.declared.Leaf.TheVariants.{Nothing, Letter, Range}
use Rattle.syntax.specs.declared.Node.{Node}
use Rattle.syntax.specs.declared.Node.TheVariants.{Leaf as LeafNode, Sequence, Alternative, Star}
use Rattle.syntax.specs.declared.Line.{Line}
use Rattle.syntax.specs.declared.Pattern.{Pattern}
use Rattle.syntax.specs.Bools.{and_fst, and_snd}
use Rattle.syntax.specs.Table.{blank, line_at, node_at, node_good, line_good, obeys, account_limit}
use Rattle.syntax.specs.Tree.{Tree, index}
use Rattle.syntax.specs.Trees.{made, tree_of, root}
use Rattle.syntax.specs.TreeLaws.{bit, Below, Rules, obeys_iff, tree-line, tree_same, made-index}
use Rattle.bits.specs.Fields.{put-above, kept_low, kept_field}
use Rattle.semantics.specs.Automaton.{Location, follower}
use Rattle.semantics.specs.Passing.{loops}
use Rattle.table.specs.declared.Numbers.{Numbers}
use Rattle.table.specs.HandDown.{equal, first_part, second_part, PartsInside, parts-inside, Rooted, rules_rooted, Known, made_has_index}
use Rattle.table.specs.HandDown.{Stores, stores_same, Given, AllGiven, Hands, given-start, given-next, given_end}
use Rattle.table.specs.Cells.{row_of, node_from, cell_node, cell_account, cell_line, node_in, account_in, line_in, tree_in}
use Rattle.table.specs.Cells.{field, first_place, second_place, account_place, half, above_place}
use Rattle.table.specs.Cells.{cell_follower, cell_follower_in, follower_in, loops_in, state_index, Followed, Holds, Good}

-- ── a cell ──
-- the numbers of a node say which node it is
row-node : (n : Node) → node_from (row_of n).kind (row_of n).first (row_of n).second ≡ n
row-node (LeafNode Nothing) = refl
row-node (LeafNode (Letter c)) = refl
row-node (LeafNode (Range a b)) = refl
row-node (Sequence p q) = refl
row-node (Alternative p q) = refl
row-node (Star false p) = refl
row-node (Star true p) = refl

pub cell_packed :
    (x : Line) (r : Numbers) (c : ℕ) → r ≡ row_of x.node → c % field ≡ r.kind → c / first_place % field ≡ r.first → c / second_place % field ≡ r.second
    → c / account_place % field ≡ x.account → cell_line c ≡ x
unfolding cell_node cell_account
cell_packed x r c er ek ea eb eo = rw (ek, ea, eb, eo, er, row-node x.node)

-- the node of a kind that has the number n
pub kind_is : (kind n a b : ℕ) → kind ≡ n → node_from n a b ≡ node_from kind a b
kind_is kind n a b e = ap (λ k. node_from k a b) (sym e)

pub lazy_from : (k a b : ℕ) → 6 ≤ k → Star true a ≡ node_from k a b
lazy_from zero a b h = absurd (omega arith)
lazy_from (suc zero) a b h = absurd (omega arith)
lazy_from (suc (suc zero)) a b h = absurd (omega arith)
lazy_from (suc (suc (suc zero))) a b h = absurd (omega arith)
lazy_from (suc (suc (suc (suc zero)))) a b h = absurd (omega arith)
lazy_from (suc (suc (suc (suc (suc zero))))) a b h = absurd (omega arith)
lazy_from (suc (suc (suc (suc (suc (suc k)))))) a b h = refl

-- ── filling ──
-- the lines below i are filled in
pub record Filled (p : Pattern) (table : List ℕ) (i : ℕ) : Type 0 where
  pub low : i ≤ p.count
  pub long : length table ≡ 64
  pub lines : (l : ℕ) → l < i → line_in table l ≡ line_at p l
  pub rest : (l : ℕ) → i ≤ l → l < 64 → line_in table l ≡ blank

getD_zeros : (n l : ℕ) → ◌≡◌ {A = ℕ} (get_or (replicate n 0) l 0) 0
getD_zeros zero zero = refl
getD_zeros zero (suc l) = refl
getD_zeros (suc n) zero = refl
getD_zeros (suc n) (suc l) = getD_zeros n l

pub filled-start : (p : Pattern) → Filled p (replicate 64 0) 0
unfolding cell_node cell_account
filled-start p = record { low = omega arith; long = refl; lines = λ l h. absurd (omega arith); rest = λ l h k. rw (getD_zeros 64 l) }

pub filled_next :
    (p : Pattern) (table : List ℕ) (i : ℕ) → Filled p table i → i < p.count → p.count ≤ 64 → (c : ℕ) → cell_line c ≡ line_at p i
    → Filled p (set table i c) (i + 1)
filled_next p table i f lt few c e =
    record {
      low = omega arith;
      long = length-set table i c ∙ f.long;
      lines = λ l h. before l h (dec_lt l i);
      rest = λ l h k. ap cell_line (get_or-set_other table i l c 0 (λ e. omega arith)) ∙ f.rest l (omega arith) k;
    }
  where
    before : (l : ℕ) → l < i + 1 → Dec (l < i) → line_in (set table i c) l ≡ line_at p l
    before l h (yes k) = ap cell_line (get_or-set_other table i l c 0 (λ e. omega arith)) ∙ f.lines l k
    before l h (no k) =
        let q : i ≡ l = omega arith in
        ap (line_in (set table i c)) (sym q) ∙ ap cell_line (get_or-set_same table i c 0 (omega (arith, f.long))) ∙ e ∙ ap (line_at p) q

pub filled_end : (p : Pattern) (table : List ℕ) (i : ℕ) → Filled p table i → p.count ≤ i → Filled p table p.count
filled_end p table i f h =
    let low = f.low in
    record { low = omega arith; long = f.long; lines = λ l k. f.lines l (omega arith); rest = λ l k m. f.rest l (omega arith) m }

-- ── followers ──
-- what follows line l is written into its cell, and lines stay
pub record FollowerPut (table : List ℕ) (l v : ℕ) (now : List ℕ) : Type 0 where
  pub long : length now ≡ length table
  pub lines : (k : ℕ) → line_in now k ≡ line_in table k
  pub stores : Stores (cell_follower_in table) l v (cell_follower_in now)

pub follower_put : (table : List ℕ) (l v : ℕ) → l < length table → FollowerPut table l v (set table l (get_or table l 0 % half + v * half))
unfolding cell_node cell_account cell_follower
follower_put table l v h = record {
  long = length-set table l cell;
  lines = λ k. line k (equal k l);
  stores = record {
    here = ap (λ c. c / half) same ∙ put-above 32 old v;
    other = λ k n. ap (λ c. c / half) (get_or-set_other table l k cell 0 n);
  };
}
  where
    old : ℕ
    old = get_or table l 0

    cell : ℕ
    cell = old % half + v * half

    same : get_or (set table l cell) l 0 ≡ cell
    same = get_or-set_same table l cell 0 h

    kind : cell % field ≡ old % field
    kind = kept_low 32 old v 8 (omega arith)

    first : cell / first_place % field ≡ old / first_place % field
    first = kept_field 32 old v 8 8 (omega arith)

    second : cell / second_place % field ≡ old / second_place % field
    second = kept_field 32 old v 8 16 (omega arith)

    account : cell / account_place % field ≡ old / account_place % field
    account = kept_field 32 old v 8 24 (omega arith)

    kept : cell_line cell ≡ cell_line old
    kept = rw (kind, first, second, account) refl

    line : (k : ℕ) → Dec (k ≡ l) → line_in (set table l cell) k ≡ line_in table k
    line k (yes e) = ap (line_in (set table l cell)) e ∙ ap cell_line same ∙ kept ∙ ap (line_in table) (sym e)
    line k (no n) = ap cell_line (get_or-set_other table l k cell 0 n)

-- what follows the first part of a line, from what follows the line: 256 more stands for a star above
abbrev pub first_follower : (line : ℕ) → Node → ℕ → ℕ
first_follower i (LeafNode x) v = v
first_follower i (Sequence p q) v = q
first_follower i (Alternative p q) v = v
first_follower i (Star again p) v = i + above_place

-- the number of what follows a node
pub record FollowerIs (root : Tree) (t : Tree) (s : Location root t) (v : ℕ) : Type 0 where
  pub state : v % field ≡ state_index (follower s)
  pub above : v / above_place ≡ bit (loops s)

module _ {f : ℕ → Line} {n : ℕ} (whole : Rooted f n) where
  follower_hands : (i : ℕ) → i < n → Hands f n (FollowerIs (tree_of f (n - 1))) i (first_follower i)
  follower_hands i h = record {
    leaf = λ x v. refl;
    sequence = λ x y a b s v q. (
      record {
        state = (let e : y % field ≡ y = omega (arith, whole.few) in e)
            ∙ sym (made_has_index whole y (omega arith));
        above = omega (arith, whole.few);
      },
      record { state = q.state; above = q.above },
    );
    alternative = λ x y s v q. (record { state = q.state; above = q.above }, record { state = q.state; above = q.above });
    round = λ again x a s v q. record { state = omega (arith, whole.few); above = omega (arith, whole.few) };
  }

-- on the way down, at line i: the lines are as they were, and every line that is known has its follower
pub record Following (start : List ℕ) (n i : ℕ) (table : List ℕ) : Type 0 where
  pub inside : i ≤ n
  pub long : length table ≡ 64
  pub lines : (l : ℕ) → line_in table l ≡ line_in start l
  pub given : AllGiven (line_in start) n (FollowerIs (tree_of (line_in start) (n - 1))) i (cell_follower_in table)

module _ (start : List ℕ) (n : ℕ) (whole : Rooted (line_in start) n) where
  pub following-start : length start ≡ 64 → cell_follower_in start (n - 1) ≡ 64 → Following start n n start
  following-start h e = record {
    inside = omega arith;
    long = h;
    lines = λ l. refl;
    given =
        given-start (line_in start) n (FollowerIs (tree_of (line_in start) (n - 1))) (cell_follower_in start)
        (rw e (record { state = refl; above = refl }));
  }

  module _ (i : ℕ) (table : List ℕ) (d : Following start n i table) (o : 0 < i) (k : Node) (e : k ≡ node_in table (i - 1)) where
    node_is : k ≡ node_in start (i - 1)
    node_is = e ∙ ap (λ x. x.node) (d.lines (i - 1))

    -- the line and its parts lie inside the table
    pub following-inside : PartsInside (i - 1) k
    following-inside = parts-inside (i - 1) k (rw node_is (whole.lower (i - 1) (omega (arith, d.inside))))

    pub following-next :
        (a b v w : ℕ) (mid new : List ℕ) → a ≡ second_part (i - 1) k → b ≡ first_part (i - 1) k → v ≡ cell_follower_in table (i - 1)
        → w ≡ first_follower (i - 1) k v
        → FollowerPut table a v mid → FollowerPut mid b w new → Following start n (i - 1) new
    following-next a b v w mid new ea eb ev ew s t = record {
      inside = omega (arith, d.inside);
      long = t.long ∙ s.long ∙ d.long;
      lines = λ l. t.lines l ∙ s.lines l ∙ d.lines l;
      given = given-next (line_in start) n (FollowerIs (tree_of (line_in start) (n - 1))) whole (i - 1) (omega (arith, d.inside)) (first_follower (i - 1))
          (follower_hands whole (i - 1) (omega (arith, d.inside))) (cell_follower_in table) (cell_follower_in mid) (cell_follower_in new)
          (λ l h m. d.given l h (subst (λ j. Known (line_in start) n j l) (let q : suc (i - 1) ≡ i = omega arith in q) m))
          (stores_same (ea ∙ ap (second_part (i - 1)) node_is) ev s.stores)
          (stores_same (eb ∙ ap (first_part (i - 1)) node_is) (ew ∙ ap₂ (first_follower (i - 1)) node_is ev) t.stores);
    }

-- every line has its follower
pub record Follows (start : List ℕ) (n : ℕ) (table : List ℕ) : Type 0 where
  pub long : length table ≡ 64
  pub lines : (l : ℕ) → line_in table l ≡ line_in start l
  pub followed : (l : ℕ) → l < n → Followed (tree_of (line_in start) (n - 1)) l (follower_in table l) (loops_in table l)

pub following_end : (start : List ℕ) (n : ℕ) → Rooted (line_in start) n → (i : ℕ) (table : List ℕ) → i ≡ 0 → Following start n i table → Follows start n table
following_end start n whole i table z d = record { long = d.long; lines = d.lines; followed = λ l h. at l h (given l h) }
  where
    given : (l : ℕ) → l < n → Given (line_in start) n (FollowerIs (tree_of (line_in start) (n - 1))) (tree_of (line_in start) l) (cell_follower_in table l)
    given =
        given_end (line_in start) n (FollowerIs (tree_of (line_in start) (n - 1))) whole (cell_follower_in table)
        (subst (λ j. AllGiven (line_in start) n (FollowerIs (tree_of (line_in start) (n - 1))) j (cell_follower_in table)) z d.given)

    bit_is : (b : Bool) → eqb (bit b % 2) 1 ≡ b
    bit_is true = refl
    bit_is false = refl

    at :
        (l : ℕ) → l < n → Given (line_in start) n (FollowerIs (tree_of (line_in start) (n - 1))) (tree_of (line_in start) l) (cell_follower_in table l)
        → Followed (tree_of (line_in start) (n - 1)) l (follower_in table l) (loops_in table l)
    at l h g = record {
      node = record { tree = tree_of (line_in start) l; place = g.place; is = made_has_index whole l h };
      is = g.right.state;
      above = ap (λ x. eqb (x % 2) 1) g.right.above ∙ bit_is (loops g.place);
    }

pub put-filled : (p : Pattern) (table : List ℕ) (i l v : ℕ) (now : List ℕ) → Filled p table i → FollowerPut table l v now → Filled p now i
put-filled p table i l v now f b = record {
  low = f.low;
  long = b.long ∙ f.long;
  lines = λ k h. b.lines k ∙ f.lines k h;
  rest = λ k h m. b.lines k ∙ f.rest k h m;
}

-- the lines and their followers are a table that holds the pattern
module _ (p : Pattern) (r : Rules p) (start : List ℕ) (f : Filled p start p.count) where
  pub filled_rooted : Rooted (line_in start) p.count
  filled_rooted = rules_rooted p r (line_in start) f.lines

  pub followed_holds : (table : List ℕ) → Follows start p.count table → Holds p table
  unfolding root
  followed_holds table g = record {
    long = g.long;
    lines = λ l h. g.lines l ∙ f.lines l h;
    rest = λ l h k. g.lines l ∙ f.rest l h k;
    follows = λ l h. subst (λ t. Followed t l (follower_in table l) (loops_in table l)) tree (g.followed l h);
  }
    where
      tree : tree_of (line_in start) (p.count - 1) ≡ tree_of (line_at p) (p.count - 1)
      tree = tree_same (line_in start) (line_at p) p.count f.lines (p.count - 1) (omega (arith, r.one))

-- ── a packed table that holds a pattern that obeys the rules ──
module _ (p : Pattern) (table : List ℕ) (o : obeys p ≡ true) (h : Holds p table) where
  rules : Rules p
  rules = (obeys_iff p).0 o

  -- its tree is the pattern's
  pub holds_tree : tree_in table (p.count - 1) ≡ root p
  unfolding root tree_in
  holds_tree = let one = rules.one in tree_same (line_in table) (line_at p) p.count h.lines (p.count - 1) (omega arith)

  -- at each line either the pattern's own, or nothing
  each : (P : ℕ → Line → Type 0) → ((l : ℕ) → l < p.count → P l (line_at p l)) → ((l : ℕ) → P l blank) → (l : ℕ) → l < 64 → P l (line_in table l)
  each P own none l k = go (dec_lt l p.count)
    where
      go : Dec (l < p.count) → P l (line_in table l)
      go (yes q) = rw (h.lines l q) (own l q)
      go (no q) = rw (h.rest l (omega arith) k) (none l)

  good-line : (l : ℕ) → l < p.count → (leb (line_at p l).account account_limit && node_good (node_at p l)) ≡ true
  unfolding line_good
  good-line l k = rules.formed l k

  pub holds_good : Good table
  holds_good =
      record {
        lower = each (λ l x. Below l x.node) rules.lower (λ l. tt);
        formed = each (λ l x. node_good x.node ≡ true)
            (λ l k. and_snd (leb (line_at p l).account account_limit) (node_good (node_at p l)) (good-line l k)) (λ l. refl);
        accounts = each (λ l x. x.account ≤ account_limit)
            (λ l k. leb-true (line_at p l).account account_limit
            (and_fst (leb (line_at p l).account account_limit) (node_good (node_at p l)) (good-line l k)))
            (λ l. omega arith);
      }

-- ── the node of a line over the trees of its parts ──
module _ {table : List ℕ} (good : Good table) (l : ℕ) (h : l < 64) where
  module _ (n : Node) (e : n ≡ node_in table l) where
    pub line-tree : tree_in table l ≡ made (record { index = l; account = account_in table l }) (tree_in table) n
    unfolding tree_in
    line-tree =
        tree-line (line_in table) l (good.lower l h) ∙ ap (made (record { index = l; account = account_in table l }) (tree_of (line_in table))) (sym e)

    pub line_lower : Below l n
    line_lower = rw e (good.lower l h)

  pub line-index : index (tree_in table l) ≡ l
  line-index = ap index (line-tree (node_in table l) refl) ∙ made-index (record { index = l; account = account_in table l }) (tree_in table) (node_in table l)
