-- Document 03's reading of a code is the decoding of crate semantics: at every node of a table that obeys the rules, on all bits.
use Rattle.std.specs.Prelude.{◌≡◌, Bool, ◌&&◌, ◌||◌, not, cond, ◌⊎◌, leb, take, drop}
use Rattle.std.proofs.Math.Path.{refl, ap, subst}
use Rattle.std.proofs.Common.{sym, ◌∙◌, inl, inr, mul_assoc, add-mul, pow-suc}
use Rattle.std.proofs.Math.Bool.{true, false}
use Rattle.std.proofs.Math.Option.{Option, none, some, bind}
use mathlib.Core.List.{List, [], ◌∷◌, ◌++◌}
use Prim.Native.Nat.{ℕ, zero, suc, ◌+◌, ◌*◌, ◌^◌, ◌≤◌, ◌<◌}
use native.Mathlib.Omega.{arith}
use Rattle.std.proofs.Math.Decide.{dec_le}
use borrow.Author.Tests.{le-leb, lt-leb, eq-eqb, ne_eqb}
use Rattle.std.proofs.Math.Dec.{eqb}
use Rattle.std.proofs.Math.ListN.{length, length-append}
use Rattle.syntax.specs.declared.Leaf.TheVariants.{Nothing, Letter, Range}
use Rattle.syntax.specs.declared.Node.{Node as OwnNode}
use Rattle.syntax.specs.declared.Node.TheVariants.{Leaf as LeafNode, Sequence, Alternative, Star}
use Rattle.syntax.specs.declared.Line.{Line}
use Rattle.syntax.specs.declared.Pattern.{Pattern}
use Rattle.syntax.specs.Letter.{is_letter, in_range}
use Rattle.syntax.specs.Table.{line_at, node_at}
use Rattle.syntax.specs.Tree.{Label, Tree, nothing, letter, range, seq, alt, star}
use Rattle.syntax.specs.Trees.{made, tree_of}
use Rattle.syntax.specs.TreeLaws.{Rules, Below, tree-line}
use Rattle.bits.specs.Bits.{bit, cell}
use Rattle.bits.specs.Paper03.{numbers}
use Rattle.semantics.specs.Value.{Value, flat, nonempty, nonproblematic}
use Rattle.semantics.specs.Code.{code}
use Rattle.semantics.specs.Decode.{get_bits, checked, read as decoded}
use Rattle.semantics.proofs.DecodeLaws.{read_sound, read_seq, read_left, read_right, read_stop, read-round}
use Rattle.theorems.specs.Numbers.{length-numbers, drop-numbers}
use Rattle.theorems.specs.Paper03Pattern.{Node, letter_byte, node}
use Rattle.theorems.specs.Paper03Codes.{Read, read, bad, joined, with_hollow, value_from, range_read, rounds_read, side_read, read_node}

-- what 03 reads is what is decoded: nothing good where no value stands in front, else its letters, the bits behind it and its empty rounds
abbrev pub Same : (t : Tree) → Read → Option (Value t × List Bool) → Type 0
Same t x none = x.good ≡ false
Same t x (some q) = x ≡ read (flat t q.0) (numbers q.1) (not (nonproblematic t q.0))

abbrev pub ReadsAs : (List ℕ → Read) → Tree → Type 0
ReadsAs f t = (bs : List Bool) → Same t (f (numbers bs)) (decoded t bs)

-- ── leaves ──
reads_nothing : (m : Label) → ReadsAs (λ bs. read [] bs false) (nothing m)
unfolding decoded
reads_nothing m bs = refl

reads_letter : (m : Label) (c : ℕ) → ReadsAs (λ bs. read (c ∷ []) bs false) (letter m c)
unfolding decoded
reads_letter m c bs = refl

module _ {X : Type 0} where
  get_long : (n : ℕ) (k : ℕ → List Bool → Option X) (bs : List Bool) → n ≤ length bs → get_bits n k bs ≡ k (cell n bs) (drop n bs)
  get_long zero k bs h = refl
  get_long (suc n) k [] h = absurd (omega arith)
  get_long (suc n) k (false ∷ bs) h =
      let e : cell n bs ≡ 0 * 2 ^ n + cell n bs = omega arith in
      get_long n k bs (omega arith) ∙ ap (λ c. k c (drop n bs)) e
  get_long (suc n) k (true ∷ bs) h =
      let e : 2 ^ n + cell n bs ≡ 1 * 2 ^ n + cell n bs = omega arith in
      get_long n (λ c. k (2 ^ n + c)) bs (omega arith) ∙ ap (λ c. k c (drop n bs)) e

  get_short : (n : ℕ) (k : ℕ → List Bool → Option X) (bs : List Bool) → length bs < n → get_bits n k bs ≡ none
  get_short zero k bs h = absurd (omega arith)
  get_short (suc n) k [] h = refl
  get_short (suc n) k (false ∷ bs) h = get_short n k bs (omega arith)
  get_short (suc n) k (true ∷ bs) h = get_short n (λ c. k (2 ^ n + c)) bs (omega arith)

twice : (v k : ℕ) → (2 * v) * 2 ^ k ≡ v * 2 ^ suc k
twice v k = let e : v * 2 ^ suc k ≡ v * (2 ^ k * 2) = ap (λ x. v * x) (pow-suc 2 k) in omega (arith, mul_assoc 2 v (2 ^ k), mul_assoc v (2 ^ k) 2)

value_cell : (n v : ℕ) (bs : List Bool) → n ≤ length bs → value_from v (take n (numbers bs)) ≡ v * 2 ^ n + cell n bs
unfolding value_from
value_cell zero v bs h = omega arith
value_cell (suc n) v [] h = absurd (omega arith)
value_cell (suc n) v (b ∷ bs) h =
    value_cell n (2 * v + bit b) bs (omega arith) ∙ omega (arith, twice v n, add-mul (2 * v) (bit b) (2 ^ n))

module _ (m : Label) (low high : ℕ) where
  -- a letter of the range
  in_between : (c : ℕ) → (letter_byte c && (leb low c && leb c high)) ≡ in_range low high c
  unfolding letter_byte is_letter in_range
  in_between c = refl

  -- what a range makes of the number that eight bits write
  abbrev here : ℕ → List Bool → Option (Value (range m low high) × List Bool)
  here c r = checked low high c (λ v s. some (v, s)) r (in_range low high c) refl

  reads_range : ReadsAs (range_read low high) (range m low high)
  unfolding range_read decoded
  reads_range bs = go (dec_le 8 (length bs))
    where
      go : Dec (8 ≤ length bs) → Same (range m low high) (range_read low high (numbers bs)) (decoded (range m low high) bs)
      go (no h) =
          rw (
            get_short {X = Value (range m low high) × List Bool} 8 here bs (omega arith),
            length-numbers bs,
            lt-leb 8 (length bs) (omega arith),
          ) refl
      go (yes h) =
          let e : value_from 0 (take 8 (numbers bs)) ≡ cell 8 bs = value_cell 8 0 bs h ∙ omega arith in
          rw (
            get_long {X = Value (range m low high) × List Bool} 8 here bs h,
            length-numbers bs,
            le-leb 8 (length bs) h,
            e,
            in_between (cell 8 bs),
            drop-numbers 8 bs,
          ) (by (in_range low high (cell 8 bs)) refl)
        where
          by : (b : Bool) (q : in_range low high (cell 8 bs) ≡ b)
              → Same (range m low high) (cond b (read (cell 8 bs ∷ []) (numbers (drop 8 bs)) false) bad)
              (checked low high (cell 8 bs) (λ v r. some (v, r)) (drop 8 bs) b q)
          by true q = refl
          by false q = refl

-- ── parts ──
not-and : (a b : Bool) → (not a || not b) ≡ not (a && b)
not-and true b = refl
not-and false b = refl

module _ (m : Label) (t u : Tree) (f g : List ℕ → Read) (F : ReadsAs f t) (G : ReadsAs g u) where
  reads_seq : ReadsAs (λ bs. cond (f bs).good (joined (f bs) (g (f bs).rest)) bad) (seq m t u)
  unfolding joined read bind
  reads_seq bs =
      subst (Same (seq m t u) (cond (f (numbers bs)).good (joined (f (numbers bs)) (g (f (numbers bs)).rest)) bad)) (sym (read_seq m t u bs))
      (go (decoded t bs) (F bs))
    where
      two : (v : Value t) (r : List Bool) (o : Option (Value u × List Bool)) → Same u (g (numbers r)) o
          → Same (seq m t u) (joined (read (flat t v) (numbers r) (not (nonproblematic t v))) (g (numbers r)))
          (bind o (λ q. some ((v, q.0), q.1)))
      two v r none e = ap (λ b. true && b) e
      two v r (some q) e = rw e (ap (λ h. read (flat t v ++ flat u q.0) (numbers q.1) h) (not-and (nonproblematic t v) (nonproblematic u q.0)))

      go : (o : Option (Value t × List Bool)) → Same t (f (numbers bs)) o
          → Same (seq m t u) (cond (f (numbers bs)).good (joined (f (numbers bs)) (g (f (numbers bs)).rest)) bad)
          (bind o (λ p. bind (decoded u p.1) (λ q. some ((p.0, q.0), q.1))))
      go none e = rw e refl
      go (some p) e = rw e (two p.0 p.1 (decoded u p.1) (G p.1))

  no_side : decoded (alt m t u) [] ≡ none
  unfolding decoded
  no_side = refl

  reads_alt : ReadsAs (side_read f g) (alt m t u)
  unfolding side_read bind
  reads_alt [] = subst (Same (alt m t u) bad) (sym no_side) refl
  reads_alt (false ∷ bs) = subst (Same (alt m t u) (f (numbers bs))) (sym (read_left m t u bs)) (go (decoded t bs) (F bs))
    where
      go : (o : Option (Value t × List Bool)) → Same t (f (numbers bs)) o → Same (alt m t u) (f (numbers bs)) (bind o (λ p. some (inl p.0, p.1)))
      go none e = e
      go (some p) e = e
  reads_alt (true ∷ bs) = subst (Same (alt m t u) (g (numbers bs))) (sym (read_right m t u bs)) (go (decoded u bs) (G bs))
    where
      go : (o : Option (Value u × List Bool)) → Same u (g (numbers bs)) o → Same (alt m t u) (g (numbers bs)) (bind o (λ p. some (inr p.0, p.1)))
      go none e = e
      go (some p) e = e

-- ── rounds ──
hollow-round : (w : List ℕ) (a b : Bool) → (eqb (length w) 0 || (not a || not b)) ≡ not ((nonempty w && a) && b)
hollow-round [] a b = refl
hollow-round (c ∷ w) a b = rw (ne_eqb (suc (length w)) 0 (λ z. omega arith)) (not-and a b)

-- a bit means another round, or it stops
sides : (again b : Bool) → (b ≡ again) ⊎ (b ≡ not again)
sides false false = inl refl
sides false true = inr refl
sides true true = inl refl
sides true false = inr refl

-- a star that takes another round for the bit `again`: `K` for 0, `Z` for 1
module _ (m : Label) (again : Bool) (t : Tree) (f : List ℕ → Read) (F : ReadsAs f t) where
  abbrev u : Tree
  u = star m again t

  -- 03's rounds, which the other bit stops
  abbrev rounds : (fuel : ℕ) → List ℕ → Read
  rounds n bs = rounds_read (bit (not again)) n f bs

  no_round : decoded u [] ≡ none
  unfolding decoded
  no_round = refl

  rounds_stop : (n : ℕ) (bs : List ℕ) → rounds (suc n) (bit (not again) ∷ bs) ≡ read [] bs false
  unfolding rounds_read
  rounds_stop n bs = rw (eq-eqb (bit (not again)) (bit (not again)) refl) refl

  rounds_on : (n : ℕ) (bs : List ℕ) → rounds (suc n) (bit again ∷ bs)
      ≡ cond (f bs).good (with_hollow (eqb (length (f bs).letters) 0) (joined (f bs) (rounds n (f bs).rest))) bad
  unfolding rounds_read
  rounds_on n bs = rw (differ again) refl
    where
      differ : (b : Bool) → eqb (bit b) (bit (not b)) ≡ false
      differ false = refl
      differ true = refl

  module _ (n : ℕ) (ih : (r : List Bool) → length r < n → Same u (rounds n (numbers r)) (decoded u r)) (bs : List Bool) (h : length bs < n) where
    more : (v : Value t) (r : List Bool) (o : Option (List (Value t) × List Bool)) → Same u (rounds n (numbers r)) o
        → Same u (with_hollow (eqb (length (flat t v)) 0) (joined (read (flat t v) (numbers r) (not (nonproblematic t v))) (rounds n (numbers r))))
        (bind o (λ q. some (v ∷ q.0, q.1)))
    unfolding with_hollow joined read bind
    more v r none e = ap (λ b. true && b) e
    more v r (some q) e =
        rw e (ap (λ h. read (flat t v ++ flat u q.0) (numbers q.1) h)
        (hollow-round (flat t v) (nonproblematic t v) (nonproblematic u q.0)))

    one_more : (o : Option (Value t × List Bool)) → decoded t bs ≡ o → Same t (f (numbers bs)) o
        → Same u (cond (f (numbers bs)).good
        (with_hollow (eqb (length (f (numbers bs)).letters) 0) (joined (f (numbers bs)) (rounds n (f (numbers bs)).rest))) bad)
        (bind o (λ p. bind (decoded u p.1) (λ q. some (p.0 ∷ q.0, q.1))))
    unfolding read bind
    one_more none s e = rw e refl
    one_more (some p) s e =
        let l : length bs ≡ length (code t p.0) + length p.1 = ap length (read_sound t bs p s) ∙ length-append (code t p.0) p.1 in
        rw e (more p.0 p.1 (decoded u p.1) (ih p.1 (omega arith)))

    by_side : (b : Bool) → (b ≡ again) ⊎ (b ≡ not again) → Same u (rounds (suc n) (bit b ∷ numbers bs)) (decoded u (b ∷ bs))
    by_side b (inr e) =
        rw (e, read_stop m again t bs, rounds_stop n (numbers bs)) refl
    by_side b (inl e) =
        rw (e, read-round m again t bs, rounds_on n (numbers bs)) (one_more (decoded t bs) refl (F bs))

  rounds_as : (n : ℕ) (bs : List Bool) → length bs < n → Same u (rounds n (numbers bs)) (decoded u bs)
  unfolding rounds_read
  rounds_as zero bs h = absurd (omega arith)
  rounds_as (suc n) [] h = rw no_round refl
  rounds_as (suc n) (b ∷ bs) h = by_side n (λ r l. rounds_as n r l) bs (omega arith) b (sides again b)

  reads_star : ReadsAs (λ bs. rounds (suc (length bs)) bs) u
  reads_star bs = rounds_as (suc (length (numbers bs))) bs (omega (arith, length-numbers bs))

-- ── the nodes of a table ──

-- 03: "5 rounds". 02, Job 2: 6 for kind `Z`
abbrev pub star_kind : (again : Bool) → ℕ
star_kind false = 5
star_kind true = 6

-- a line as 03 writes it: "kinds: 0 nothing, 1 a letter, 2 a range, 3 one after the other, 4 either, 5 rounds; a and b are letters or places"
abbrev pub node_as : (account : ℕ) → OwnNode → Node
node_as c (LeafNode Nothing) = record { kind = 0; account = c; a = 0; b = 0 }
node_as c (LeafNode (Letter x)) = record { kind = 1; account = c; a = x; b = 0 }
node_as c (LeafNode (Range x y)) = record { kind = 2; account = c; a = x; b = y }
node_as c (Sequence q r) = record { kind = 3; account = c; a = q; b = r }
node_as c (Alternative q r) = record { kind = 4; account = c; a = q; b = r }
node_as c (Star again q) = record { kind = star_kind again; account = c; a = q; b = 0 }

abbrev pub line_as : Line → Node
line_as x = node_as x.account x.node

module _ (p : Pattern) (r : Rules p) (ns : List Node) (same : (l : ℕ) → l < p.count → node ns l ≡ line_as (line_at p l)) where
  by_node : (n l : ℕ) (x : OwnNode) (c : ℕ) → node ns l ≡ node_as c x → Below l x
      → ((q : ℕ) → q < l → ReadsAs (read_node n ns q) (tree_of (line_at p) q)) → (m : Label)
      → ReadsAs (read_node (suc n) ns l) (made m (tree_of (line_at p)) x)
  unfolding read_node
  by_node n l (LeafNode Nothing) c e b ih m bs = rw e (reads_nothing m bs)
  by_node n l (LeafNode (Letter x)) c e b ih m bs = rw e (reads_letter m x bs)
  by_node n l (LeafNode (Range x y)) c e b ih m bs = rw e (reads_range m x y bs)
  by_node n l (Sequence x y) c e b ih m bs =
      rw e (reads_seq m (tree_of (line_at p) x) (tree_of (line_at p) y) (read_node n ns x) (read_node n ns y) (ih x b.0) (ih y b.1) bs)
  by_node n l (Alternative x y) c e b ih m bs =
      rw e (reads_alt m (tree_of (line_at p) x) (tree_of (line_at p) y) (read_node n ns x) (read_node n ns y) (ih x b.0) (ih y b.1) bs)
  by_node n l (Star false x) c e b ih m bs = rw e (reads_star m false (tree_of (line_at p) x) (read_node n ns x) (ih x b) bs)
  by_node n l (Star true x) c e b ih m bs = rw e (reads_star m true (tree_of (line_at p) x) (read_node n ns x) (ih x b) bs)

  -- with fuel above the node's index 03 reads a node as its tree is decoded
  pub reads-node : (n l : ℕ) → l < n → l < p.count → ReadsAs (read_node n ns l) (tree_of (line_at p) l)
  reads-node zero l h k = absurd (omega arith)
  reads-node (suc n) l h k =
      subst (ReadsAs (read_node (suc n) ns l)) (sym (tree-line (line_at p) l (r.lower l k)))
      (by_node n l (node_at p l) (line_at p l).account (same l k) (r.lower l k) (λ q g. reads-node n q (omega arith) (omega arith))
      (record { index = l; account = (line_at p l).account }))
