-- The ways of the sweep at a node of a table: what the calls for its parts need, and what is written when they are done.
use Rattle.std.specs.Prelude.{◌≡◌, refl, Bool, true, false, ◌||◌, not, cond, List, [], ◌∷◌, ◌++◌, ℕ, ◌+◌, ◌≤◌, ◌<◌, ltb, length}
use Rattle.std.proofs.Common.{sym, ap, subst, ◌∙◌, arith, lt-ltb, le-ltb}
use Rattle.syntax.specs.declared.Leaf.{Leaf}
use Rattle.syntax.specs.declared.Leaf.TheVariants.{Nothing, Letter, Range}
use Rattle.syntax.specs.declared.Node.{Node}
use Rattle.syntax.specs.declared.Node.TheVariants.{Leaf as LeafNode, Sequence, Alternative, Star}
use Rattle.syntax.specs.Tree.{Label, Tree, index}
use Rattle.syntax.specs.Trees.{made}
use Rattle.syntax.specs.TreeLaws.{Below}
use Rattle.table.specs.Cells.{node_in, account_in, tree_in, Good}
use Rattle.table.specs.CellLaws.{line-tree, line_lower, line-index}
use Rattle.semantics.specs.Value.{nonempty}
use Rattle.second_sweep.specs.declared.Swept.{Swept}
use Rattle.second_sweep.specs.Sweeping.{Puts, is_open, goes_on, Chooses, Stops, Wrote, CanSweep, leaf_tree, LeafReady, LeafSwept, Ready, SweptAll}
use Rattle.second_sweep.specs.SweepLaws.{wrote_then, wrote_put, wrote_same, wrote_none, put_long}
use Rattle.second_sweep.specs.SweepLaws.{SeqWay, seq_way, SideWay, side_way, RoundWay, round_way, stop_way}

leaf_made : (m : Label) (f : ℕ → Tree) (x : Leaf) → made m f (LeafNode x) ≡ leaf_tree m x
leaf_made m f Nothing = refl
leaf_made m f (Letter c) = refl
leaf_made m f (Range a b) = refl

pub flag_same : (taken : Bool) (i : ℕ) (ls : List ℕ) (j : ℕ) → j ≡ i + length ls → (taken || ltb i j) ≡ (taken || nonempty ls)
flag_same taken i [] j e = ap (λ b. taken || b) (le-ltb i j (omega arith))
flag_same taken i (x ∷ ls) j e = ap (λ b. taken || b) (lt-ltb i j (omega arith))

-- the same sweep, its place given in another way
abbrev moved : {table words tape : List ℕ} {t : Tree} (i j : ℕ) (b c : Bool) (at to : ℕ) → j ≡ i → c ≡ b → to ≡ at →
    CanSweep table words tape t i b at → CanSweep table words tape t j c to
moved i j b c at to ei eb ea s = record {
  after = s.after;
  letters = s.letters;
  bits = s.bits;
  knows = s.knows;
  sweeps = rw (ei, eb) s.sweeps;
  within = rw ei s.within;
  limited = s.limited;
  few = rw ea s.few;
}

-- the same sweep, of the same tree
abbrev regrown : {table words tape : List ℕ} (t u : Tree) {i : ℕ} {b : Bool} {at : ℕ} → u ≡ t →
    CanSweep table words tape t i b at → CanSweep table words tape u i b at
regrown t u e s = record {
  after = s.after;
  letters = s.letters;
  bits = s.bits;
  knows = rw e s.knows;
  sweeps = rw e s.sweeps;
  within = s.within;
  limited = s.limited;
  few = s.few;
}

-- line l of a table that may be walked, and its node
pub record LineNode (table : List ℕ) (l : ℕ) (n : Node) : Type 0 where
  pub good : Good table
  pub low : l < 64
  pub is : n ≡ node_in table l

abbrev label_in : (table : List ℕ) → (l : ℕ) → Label
label_in table l = record { index = l; account = account_in table l }

-- the tree of a chosen side
pub side_tree : (table : List ℕ) (left : Bool) (p q side : ℕ) → side ≡ cond left p q → tree_in table side ≡ cond left (tree_in table p) (tree_in table q)
side_tree table true p q side e = ap (tree_in table) e
side_tree table false p q side e = ap (tree_in table) e

-- what is left to do once a node's last part is known: the part is ready, and what it writes ends the node
pub record Last {table words tape : List ℕ} {l i : ℕ} {taken : Bool} {at : ℕ} (s : Ready table words tape l i taken at)
    (code₀ code : List ℕ) (here : Swept) (flag : Bool) (part : ℕ) : Type 0 where
  pub below : part < l
  pub further : at ≤ here.at
  pub ready : Ready table words tape part here.position flag here.at
  pub done : {zs : List ℕ} {r : Swept} → Wrote here.position here.at ready.it.letters ready.it.bits code zs r →
      Wrote i at s.it.letters s.it.bits code₀ zs r

-- the same, where the ways to it have met
pub last_met : {table words tape : List ℕ} {l i : ℕ} {taken : Bool} {at : ℕ} {s : Ready table words tape l i taken at}
    {code₀ xs ys : List ℕ} {here one : Swept} {flag b : Bool} {part p : ℕ} → xs ≡ ys → here ≡ one → flag ≡ b → part ≡ p →
    Last s code₀ ys one b p → Last s code₀ xs here flag part
last_met {s = s} {code₀} {xs} {ys} {here} {one} {flag} {b} {part} {p} ex eh ef ep w =
    subst (λ x. Last s code₀ x here flag part) (sym ex)
    (subst (λ x. Last s code₀ ys x flag part) (sym eh)
    (subst (λ x. Last s code₀ ys one x part) (sym ef) (subst (λ x. Last s code₀ ys one b x) (sym ep) w)))

module _ {table : List ℕ} {l : ℕ} {n : Node} (a : LineNode table l n) where
  -- its tree, once the node is known
  tree : (k : Node) → n ≡ k → tree_in table l ≡ made (label_in table l) (tree_in table) k
  tree k e = line-tree a.good l a.low n a.is ∙ ap (made (label_in table l) (tree_in table)) e

  -- parts lie below
  pub lower : {k : Node} → n ≡ k → Below l k
  lower e = subst (λ k. Below l k) e (line_lower a.good l a.low n a.is)

  side_lower : {p q at side : ℕ} {left : Bool} {xs ys : List ℕ} → n ≡ Alternative p q → Chooses left p q at xs ys side → side < l
  side_lower {p} {q} {left = left} e c = rw c.side_is (go left (lower e))
    where
      go : (b : Bool) → (p < l) × (q < l) → cond b p q < l
      go true x = x.0
      go false x = x.1

  -- ── leaf ──
  leaf_is : {x : Leaf} → n ≡ LeafNode x → tree_in table l ≡ leaf_tree (label_in table l) x
  leaf_is {x} e = tree (LeafNode x) e ∙ leaf_made (label_in table l) (tree_in table) x

  module _ {words tape : List ℕ} {i : ℕ} {taken : Bool} {at : ℕ} {x : Leaf} (e : n ≡ LeafNode x) where
    pub leaf_ready : Ready table words tape l i taken at → LeafReady x tape i at
    leaf_ready s = record {
      label = label_in table l;
      table = table;
      words = words;
      taken = taken;
      it = subst (λ t. CanSweep table words tape t i taken at) (leaf_is e) s.it;
    }

    pub leaf_done : {xs ys : List ℕ} {r : Swept} → LeafSwept x tape i at xs ys r → SweptAll table words tape l i taken at xs ys r
    leaf_done {xs} {ys} {r} f s =
        subst (λ t. (c : CanSweep table words tape t i taken at) → Wrote i at c.letters c.bits xs ys r)
        (sym (leaf_is e)) (f (label_in table l) table words taken) s.it

  -- ── sequence ──
  module _ {words tape : List ℕ} {i : ℕ} {taken : Bool} {at : ℕ} {p q : ℕ} (e : n ≡ Sequence p q) where
    module _ (s : Ready table words tape l i taken at) where
      pub way : SeqWay table words tape i taken at (tree_in table l) (tree_in table p) (tree_in table q) s.it
      way = seq_way table words tape i taken at (label_in table l) (tree_in table p) (tree_in table q) (tree_in table l) (tree (Sequence p q) e) s.it

      abbrev pub seq_first : Ready table words tape p i taken at
      seq_first = record { it = way.one; enough = s.enough }

    -- the first part is swept
    module _ {xs ys : List ℕ} {one : Swept} (f : SweptAll table words tape p i taken at xs ys one)
        {flag : Bool} (ef : flag ≡ (taken || ltb i one.position)) where
      abbrev seq_second : Ready table words tape l i taken at → Ready table words tape q one.position flag one.at
      seq_second s =
          let w = f (seq_first s) in
          let v = way s in
          record {
            it = moved (i + length v.one.letters) one.position (taken || nonempty v.one.letters) flag
                (at + length v.one.bits) one.at
                w.position_is (ef ∙ flag_same taken i v.one.letters one.position w.position_is) w.at_is v.two;
            enough = s.enough;
          }

      -- and the second is the last
      pub seq_last : (s : Ready table words tape l i taken at) → Last s xs ys one flag q
      seq_last s =
          let v = way s in
          let w = f (seq_first s) in
          record {
            below = (lower e).1;
            further = omega (arith, w.at_is);
            ready = seq_second s;
            done = λ u. wrote_same (v.one.letters ++ v.two.letters) s.it.letters (v.one.bits ++ v.two.bits) s.it.bits
                v.letters_are v.bits_are (wrote_then v.one.letters v.two.letters v.one.bits v.two.bits w u);
          }

  -- ── the state sets at a part ──
  open_part : (p : ℕ) → p < l → (words : List ℕ) (j : ℕ) (b : Bool) → is_open words j b (index (tree_in table p)) ≡ is_open words j b p
  open_part p h words j b = ap (is_open words j b) (line-index a.good p (omega (arith, a.low)))

  -- ── alternative ──
  abbrev pub side_of : (left : Bool) → (p q : ℕ) → Tree
  side_of left p q = cond left (tree_in table p) (tree_in table q)

  module _ {words tape : List ℕ} {i : ℕ} {taken : Bool} {at : ℕ} {p q : ℕ} (e : n ≡ Alternative p q) {xs ys : List ℕ} {side : ℕ}
      (h : Chooses (is_open words i taken p) p q at xs ys side) (s : Ready table words tape l i taken at) where
    pub chosen : SideWay table words tape i taken at (tree_in table l) (side_of (is_open words i taken p) p q) (not (is_open words i taken p)) s.it
    chosen =
        side_way table words tape i taken at (label_in table l) (tree_in table p) (tree_in table q) (tree_in table l)
        (tree (Alternative p q) e) (is_open words i taken p) (open_part p (lower e).0 words i taken) s.it

    abbrev side_ready : Ready table words tape side i taken (at + 1)
    side_ready = record {
      it = regrown (side_of (is_open words i taken p) p q) (tree_in table side)
          (side_tree table (is_open words i taken p) p q side h.side_is) chosen.one;
      enough = s.enough;
    }

    -- the side is the last part
    pub side_last : Last s xs ys (record { position = i; at = at + 1 }) taken side
    side_last =
        let o = not (is_open words i taken p) in
        let t = side_ready.it in
        record {
          below = side_lower e h;
          further = omega arith;
          ready = side_ready;
          done = λ u. wrote_same t.letters s.it.letters (o ∷ t.bits) s.it.bits chosen.letters_are chosen.bits_are
              (wrote_put o t.letters t.bits h.puts u);
        }

-- ── star ──
-- what is left to do from here gives what was to be done from the start
pub record Going {table words tape : List ℕ} {l i : ℕ} {taken : Bool} {at : ℕ} (s : Ready table words tape l i taken at)
    (code₀ code : List ℕ) (j to : ℕ) (flag : Bool) : Type 0 where
  pub now : CanSweep table words tape (tree_in table l) j flag to
  pub done : {zs : List ℕ} {r : Swept} → Wrote j to now.letters now.bits code zs r →
      Wrote i at s.it.letters s.it.bits code₀ zs r
  pub as_long : length code ≡ length code₀
  pub further : at ≤ to

pub going_start : {table words tape : List ℕ} {l i : ℕ} {taken : Bool} {at : ℕ} (s : Ready table words tape l i taken at)
    (code : List ℕ) → Going s code code i at taken
going_start s code = record { now = s.it; done = λ w. w; as_long = refl; further = omega arith }

module _ {table : List ℕ} {l : ℕ} {n : Node} (a : LineNode table l n) {again : Bool} {p : ℕ} (e : n ≡ Star again p)
    {words tape : List ℕ} {i : ℕ} {taken : Bool} {at : ℕ} (s : Ready table words tape l i taken at)
    {code₀ code : List ℕ} {j to : ℕ} {flag : Bool} (g : Going s code₀ code j to flag)
    {o : Bool} (eo : o ≡ goes_on table words (length tape) l j flag again p) where
  decided : goes_on table words (length tape) l j flag again (index (tree_in table p)) ≡ o
  decided = ap (goes_on table words (length tape) l j flag again) (line-index a.good p (omega (arith, lower a e, a.low))) ∙ sym eo

  pub star_stop : o ≡ false → {zs : List ℕ} {r : Swept} → Stops again j to code zs r →
      Wrote i at s.it.letters s.it.bits code₀ zs r
  star_stop f {zs} {r} h =
      let (x, y) = stop_way table words tape j flag to (label_in table l) again (tree_in table p) (tree_in table l)
      (tree a (Star again p) e) g.now (decided ∙ f) in
      g.done
      (wrote_same [] g.now.letters (not again ∷ []) g.now.bits x y
      (rw h.result_is (wrote_put (not again) [] [] h.puts (wrote_none j (to + 1) zs))))

  module _ (f : o ≡ true) where
    pub turn : RoundWay table words tape j flag to again (tree_in table l) (tree_in table p) g.now
    turn = round_way table words tape j flag to (label_in table l) again (tree_in table p) (tree_in table l)
        (tree a (Star again p) e) g.now (decided ∙ f)

    abbrev pub round_ready : Ready table words tape p j false (to + 1)
    round_ready = record { it = turn.one; enough = s.enough }

    module _ {ys zs : List ℕ} (ey : Puts again to code ys) {one : Swept}
        (h : SweptAll table words tape p j false (to + 1) ys zs one) where
      pub round-less : (j < one.position) × (one.position ≤ length tape)
      round-less =
          let x = turn.full in
          let y = turn.more.within in
          let z = (h round_ready).position_is in
          (omega arith, omega arith)

      pub round_done : Going s code₀ zs one.position one.at true
      round_done =
          let w = h round_ready in
          let v = turn in
          record {
            now = moved (j + length v.one.letters) one.position true true (to + 1 + length v.one.bits) one.at
                w.position_is refl w.at_is v.more;
            done = λ u. g.done
                (wrote_same (v.one.letters ++ v.more.letters) g.now.letters
                (again ∷ (v.one.bits ++ v.more.bits)) g.now.bits v.letters_are v.bits_are
                (wrote_put again (v.one.letters ++ v.more.letters) (v.one.bits ++ v.more.bits) ey
                (wrote_then v.one.letters v.more.letters v.one.bits v.more.bits w u)));
            as_long = w.as_long ∙ ap length ey.written ∙ put_long code to (again ∷ []) ∙ g.as_long;
            further = omega (arith, g.further, w.at_is);
          }
