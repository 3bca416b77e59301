-- What single steps come to: of the loops over lines, of putting back what follows a line, of joining a line's bit to the cells of a row, and of a
-- leaf's letters. No answer needs these laws, since arrays of whole firsts and follows, iterators and the check itself take the steps; they say what
-- each of the definitions does where a loop starts, goes on and ends.
use Rattle.std.specs.Prelude.{◌≡◌, refl, Bool, true, false, ◌&&◌, ◌||◌, List, ℕ, ◌+◌, ◌-◌, ◌*◌, ◌^◌, ◌≤◌, ◌<◌, eqb, ltb, length, set}
use Rattle.std.proofs.Common.{sym, ap, ap₂, subst, ◌∙◌, arith, pow_pos, length-set, lt-ltb, le-ltb, ne_eqb}
use Rattle.std.proofs.Math.Bool.{or-false, and-true}
use Rattle.std.proofs.Math.Decide.{dec_lt}
use Rattle.std.specs.Int.Bits.{bit_or, bit_and}
use Rattle.std.specs.Int.Count.{count_trailing_zeros}
use Rattle.syntax.specs.declared.Leaf.{Leaf}
use Rattle.syntax.specs.declared.Leaf.TheVariants.{Nothing, Letter}
use Rattle.syntax.specs.declared.Node.{Node}
use Rattle.syntax.specs.declared.Node.TheVariants.{Leaf as LeafNode}
use Rattle.syntax.specs.declared.Line.{Line}
use Rattle.syntax.specs.Table.{leaf_good, node_good}
use Rattle.bits.specs.Bits.{bit, test_bit}
use Rattle.bits.specs.Numbers.{test_small}
use Rattle.bits.specs.Lowest.{lowest_lt, lowest_on, lowest_cleared, lowest_out}
use Rattle.semantics.proofs.Basics.{eqb_self}
use Rattle.table.specs.HandDown.{first_part, second_part, equal}
use Rattle.masks.specs.declared.firsts.First.{First}
use Rattle.masks.specs.declared.follows.Follow.{Follow}
use Rattle.masks.specs.Leaves.{letter_cells, letter_cell, entry}
use Rattle.masks.specs.Firsts.{first_at, first_line, first_here, Firsts}
use Rattle.masks.specs.Follows.{Down}
use Rattle.masks.specs.Masks.{Filled, leaf_takes, node_takes}
use Rattle.masks.specs.Scatter.{Marked, Marking, marking-next, marking-end, Scattered, line_takes}

-- ── first and nullable ──
pub first_same : {x y : ℕ} {u v : Bool} → x ≡ y → u ≡ v → ◌≡◌ {A = First} (record { leaves = x; nullable = u }) (record { leaves = y; nullable = v })
first_same e f = ap₂ (λ a b. record { leaves = a; nullable = b }) e f

-- before the first line nothing is known
pub firsts_start : (f : ℕ → Line) (fs : List First) → length fs ≡ 64 → Firsts f 0 fs
firsts_start f fs a = record { long = a; right = λ l h. absurd (omega arith) }

pub firsts_end : (f : ℕ → Line) {fs : List First} (i n : ℕ) → i ≡ n → Firsts f i fs → Firsts f n fs
firsts_end f {fs} i n e d = subst (λ k. Firsts f k fs) e d

-- what a line comes to, as code finds it: k is its node, x and y are its parts
pub first-line-same :
    {k : Node} {x y : ℕ} {a b r : First} (f : ℕ → Line) (i : ℕ) (fs : List First) → k ≡ (f i).node → x ≡ first_part i k → y ≡ second_part i k
    → a ≡ first_at fs x → b ≡ first_at fs y → r ≡ first_line i k a b → r ≡ first_here f i fs
first-line-same {k} f i fs e ex ey ea eb er =
    er ∙ ap₂ (first_line i k) (ea ∙ ap (first_at fs) ex) (eb ∙ ap (first_at fs) ey)
    ∙ ap (λ n. first_line i n (first_at fs (first_part i n)) (first_at fs (second_part i n))) e

-- ── follow ──
pub follow_same : {x y z w : ℕ} {u v : Bool} → x ≡ y → z ≡ w → u ≡ v
    → ◌≡◌ {A = Follow} (record { zero = x; one = z; end = u }) (record { zero = y; one = w; end = v })
follow_same e f g = rw (e, f, g) refl

-- an array of follows has a cell for each line
pub record Sized (ks : List Follow) : Type 0 where
  pub follows : length ks ≡ 64

-- what follows line a is stored
pub record Stored (ks : List Follow) (a : ℕ) (v : Follow) (ys : List Follow) : Type 0 where
  pub follows : ys ≡ set ks a v

pub stored_sized : {ks : List Follow} {a : ℕ} {v : Follow} {ys : List Follow} → Stored ks a v ys → Sized ks → Sized ys
stored_sized s z = record { follows = rw s.follows (simp length-set z.follows) }

pub down_end : {f : ℕ → Line} {n : ℕ} {ks : List Follow} (i : ℕ) → i ≡ 0 → Down f n i ks → Down f n 0 ks
down_end {f} {n} {ks} i e d = subst (λ j. Down f n j ks) e d

-- ── marking cells ──
-- all is left to mark
pub marking_start : (chosen : ℕ → Bool) (i : ℕ) (before : List ℕ) → Marking chosen i before chosen before
marking_start chosen i before = record { long = refl; together = λ x h l. refl }

-- where no cell is chosen nothing is marked
pub marked_none : (i : ℕ) (cells : List ℕ) → Marked (λ x. false) i cells cells
marked_none i cells = record { long = refl; bits = λ x h l. sym (or-false (test_bit (entry cells x) l)) }

-- the cells of a row: its bits, the lowest first
pub record RowLeft (row i : ℕ) (before : List ℕ) (rest : ℕ) (now : List ℕ) : Type 0 where
  pub few : rest < 2 ^ 64
  pub it : Marking (test_bit row) i before (test_bit rest) now

module _ (row i mark : ℕ) (before : List ℕ) (m : mark ≡ bit true * 2 ^ i) where
  pub row-start : row < 2 ^ 64 → RowLeft row i before row before
  row-start h = record { few = h; it = marking_start (test_bit row) i before }

  -- the lowest bit that is left, marked and taken out
  pub row_left_next :
      (rest : ℕ) (now : List ℕ) (x v : ℕ) → length before ≡ 64 → RowLeft row i before rest now → 1 ≤ rest → x ≡ count_trailing_zeros 64 rest
      → v ≡ bit_or (entry now x) mark → RowLeft row i before (bit_and rest (rest - 1)) (set now x v)
  row_left_next rest now x v long r one e f = rw (lowest_cleared 64 rest x one r.few e) (record {
    few = omega (arith, r.few);
    it =
        marking-next (test_bit row) i before (test_bit rest) (test_bit (rest - 2 ^ x)) now x v (omega (arith, lowest_lt 64 rest x one r.few e))
        (lowest_on 64 rest x one r.few e)
        (λ y h. lowest_out 64 rest x one r.few e y (omega arith)) (f ∙ ap (bit_or (entry now x)) m) r.it;
  })

  pub row_end : (rest : ℕ) (now : List ℕ) → rest ≡ 0 → RowLeft row i before rest now → Marked (test_bit row) i before now
  row_end rest now e r = marking-end (test_bit row) i before (test_bit rest) now (λ x h. ap (λ z. test_bit z x) e ∙ test_small 0 x (pow_pos x)) r.it

-- ── line by line ──
module _ (f : ℕ → ℕ → Bool) (size : ℕ) where
  pub scattered_start : (cells : List ℕ) → Filled 0 (λ x. 0) size size cells → Scattered f size 0 cells
  scattered_start cells z =
      record {
        long = z.long;
        bits = λ x h l. ap (λ k. test_bit k l) (z.cells x h) ∙ test_small 0 l (pow_pos l)
            ∙ sym (ap (λ k. k && f l x) (le-ltb l 0 (omega arith)));
      }

  pub scattered_next : (i : ℕ) (cells now : List ℕ) → Scattered f size i cells → Marked (f i) i cells now → Scattered f size (i + 1) now
  scattered_next i cells now s m = record {
    long = m.long ∙ s.long;
    bits = λ x h l. m.bits x (omega (arith, s.long)) l ∙ ap (λ z. z || (f i x && eqb i l)) (s.bits x h l) ∙ go x l (dec_lt l i) (equal i l);
  }
    where
      go : (x l : ℕ) → Dec (l < i) → Dec (i ≡ l) → ((ltb l i && f l x) || (f i x && eqb i l)) ≡ (ltb l (i + 1) && f l x)
      go x l (yes a) (yes b) = absurd (omega arith)
      go x l (yes a) (no b) = rw (lt-ltb l i a, lt-ltb l (i + 1) (omega arith), ne_eqb i l b) (drop_false (f l x) (f i x))
        where
          drop_false : (u v : Bool) → (u || (v && false)) ≡ u
          drop_false true v = refl
          drop_false false true = refl
          drop_false false false = refl
      go x l (no a) (yes b) =
          rw (le-ltb l i (omega arith), lt-ltb l (i + 1) (omega arith))
          (ap (λ z. f i x && z) (ap (eqb i) (sym b) ∙ eqb_self i) ∙ and-true (f i x) ∙ ap (λ z. f z x) b)
      go x l (no a) (no b) = rw (le-ltb l i (omega arith), le-ltb l (i + 1) (omega arith), ne_eqb i l b) (none (f i x))
        where
          none : (v : Bool) → (v && false) ≡ false
          none true = refl
          none false = refl

pub takers-next :
    (f : ℕ → Line) (k : Node) (i : ℕ) (cells now : List ℕ) → k ≡ (f i).node → Scattered (line_takes f) letter_cells i cells
    → Marked (node_takes k) i cells now → Scattered (line_takes f) letter_cells (i + 1) now
takers-next f k i cells now e s m = scattered_next (line_takes f) letter_cells i cells now s (rw e at m)

pub columns_next : (rows : ℕ → ℕ) (i w : ℕ) (cells now : List ℕ) → Scattered (λ l. test_bit (rows l)) 64 i cells → w ≡ rows i → Marked (test_bit w) i cells now
    → Scattered (λ l. test_bit (rows l)) 64 (i + 1) now
columns_next rows i w cells now s e m = scattered_next (λ l. test_bit (rows l)) 64 i cells now s (rw e at m)

-- ── a leaf's letters ──
pub leaf_nothing : (leaf : Leaf) (i : ℕ) (cells : List ℕ) → leaf ≡ Nothing → Marked (leaf_takes leaf) i cells cells
leaf_nothing leaf i cells e = rw e (marked_none i cells)

-- the letters of a good leaf have their cells
pub leaf_cell : (leaf : Leaf) (a : ℕ) → leaf_good leaf ≡ true → leaf ≡ Letter a → a < letter_cells
leaf_cell leaf a g e = letter_cell a (rw e at g)

pub node-leaf :
    (node : Node) (i : ℕ) (before now : List ℕ) (x : Leaf) → node ≡ LeafNode x → Marked (leaf_takes x) i before now
    → Marked (node_takes node) i before now
node-leaf node i before now x e m = rw e m

pub node-leaf_good : (node : Node) (x : Leaf) → node_good node ≡ true → node ≡ LeafNode x → leaf_good x ≡ true
node-leaf_good node x g e = rw e at g
