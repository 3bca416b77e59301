-- Cells to which a line's bit is joined: a set says in which. Masks are made so, line by line.
use Rattle.std.specs.Prelude.{◌≡◌, refl, Bool, true, false, ◌&&◌, ◌||◌, not, List, ℕ, ◌+◌, ◌-◌, ◌*◌, ◌%◌, ◌^◌, ◌≤◌, ◌<◌, min, max, eqb, leb, ltb, length, get_or, set}
use Rattle.std.proofs.Common.{sym, ap, ap₂, ◌∙◌, arith, length-set, get_or-set_same, get_or-set_other, lt-ltb, le-ltb, le-leb, ne_eqb}
use Rattle.std.proofs.Math.Bool.{or-false, and-true}
use Rattle.std.proofs.Math.Decide.{dec_lt}
use Rattle.std.proofs.Math.Nat.{mod-eq_of_lt}
use Rattle.std.proofs.Math.Pow.{pow-lt}
use Rattle.std.specs.Int.{from_bool}
use Rattle.std.specs.Int.Bits.{bit_or}
use Rattle.std.proofs.lemmas.Bool.{lt-leb}
use Rattle.syntax.specs.declared.Leaf.{Leaf}
use Rattle.syntax.specs.declared.Leaf.TheVariants.{Letter, Range}
use Rattle.syntax.specs.declared.Line.{Line}
use Rattle.syntax.specs.LetterLaws.{letter_above, letter_below, from_first, in_gap, upto_last, range_low, range_high, range_between}
use Rattle.syntax.specs.Letter.{is_letter, in_range}
use Rattle.syntax.specs.Table.{leaf_good}
use Rattle.bits.specs.Bits.{bit, test_bit, word_of}
use Rattle.bits.specs.Words.{word-bit, word_past, test_or, test_single}
use Rattle.semantics.proofs.Basics.{eqb_self, and_fst, and_snd}
use Rattle.table.specs.HandDown.{equal}
use Rattle.masks.specs.Leaves.{letter_cells, entry}
use Rattle.bits.specs.Lowest.{same_bits}
use Rattle.bits.specs.Ones.{Lowest, given_on, given_out}
use Rattle.masks.specs.Masks.{Filled, column, leaf_takes, node_takes, line_takers}

-- the bit of line i in the chosen cells, and nothing else changed
pub record Marked (chosen : ℕ → Bool) (i : ℕ) (before now : List ℕ) : Type 0 where
  pub long : length now ≡ length before
  pub bits : (x : ℕ) → x < length before → (l : ℕ) → test_bit (entry now x) l ≡ (test_bit (entry before x) l || (chosen x && eqb i l))

-- what is marked so far, and what is left to mark: together all that is to be marked
pub record Marking (chosen : ℕ → Bool) (i : ℕ) (before : List ℕ) (rest : ℕ → Bool) (now : List ℕ) : Type 0 where
  pub long : length now ≡ length before
  pub together :
      (x : ℕ) → x < length before → (l : ℕ)
      → (test_bit (entry now x) l || (rest x && eqb i l)) ≡ (test_bit (entry before x) l || (chosen x && eqb i l))

module _ (chosen : ℕ → Bool) (i : ℕ) (before : List ℕ) where
  pub marking-next :
      (rest next : ℕ → Bool) (now : List ℕ) (x v : ℕ) → x < length before → rest x ≡ true
      → ((y : ℕ) → y < length before → next y ≡ (rest y && not (eqb x y)))
      → v ≡ bit_or (entry now x) (bit true * 2 ^ i) → Marking chosen i before rest now → Marking chosen i before next (set now x v)
  marking-next rest next now x v h r n e m = record {
    long = simp length-set m.long;
    together = λ y k l. go y k l (equal x y);
  }
    where
      here : (a b : Bool) → ((a || b) || (false && b)) ≡ (a || (true && b))
      here true b = refl
      here false true = refl
      here false false = refl

      go :
          (y : ℕ) → y < length before → (l : ℕ) → Dec (x ≡ y)
          → (test_bit (entry (set now x v) y) l || (next y && eqb i l)) ≡ (test_bit (entry before y) l || (chosen y && eqb i l))
      go y k l (yes q) =
          ap₂ (λ a b. a || (b && eqb i l))
          (ap (λ z. test_bit z l) (ap (λ z. get_or (set now x v) z 0) (sym q) ∙ get_or-set_same now x v 0 (omega (arith, m.long)) ∙ e)
          ∙ test_or (entry now x) (bit true * 2 ^ i) l
          ∙ ap (λ z. test_bit (entry now x) l || z) (test_single i true l ∙ and-true (eqb i l)))
          (n y k ∙ ap (λ z. rest y && not z) (ap (eqb x) (sym q) ∙ eqb_self x) ∙ none (rest y))
          ∙ here (test_bit (entry now x) l) (eqb i l) ∙ ap₂ (λ a b. test_bit (entry now a) l || (b && eqb i l)) q (sym r ∙ ap rest q) ∙ m.together y k l
        where
          none : (a : Bool) → (a && false) ≡ false
          none true = refl
          none false = refl
      go y k l (no q) =
          ap₂ (λ a b. test_bit a l || (b && eqb i l)) (get_or-set_other now x y v 0 (λ z. q (sym z)))
          (n y k ∙ ap (λ z. rest y && not z) (ne_eqb x y q) ∙ and-true (rest y)) ∙ m.together y k l

  pub marking-end :
      (rest : ℕ → Bool) (now : List ℕ) → ((x : ℕ) → x < length before → rest x ≡ false) → Marking chosen i before rest now
      → Marked chosen i before now
  marking-end rest now n m = record {
    long = m.long;
    bits = λ x h l. sym (or-false (test_bit (entry now x) l)) ∙ ap (λ z. test_bit (entry now x) l || (z && eqb i l)) (sym (n x h)) ∙ m.together x h l;
  }

pub marked_same : (f g : ℕ → Bool) (i : ℕ) (before now : List ℕ) → ((x : ℕ) → f x ≡ g x) → Marked f i before now → Marked g i before now
marked_same f g i before now e m = record { long = m.long; bits = λ x h l. m.bits x h l ∙ ap (λ z. test_bit (entry before x) l || (z && eqb i l)) (e x) }

-- a line's bit as code makes it: a truth value, shifted
pub shifted : (i : ℕ) (b : Bool) → i < 64 → (from_bool b * 2 ^ i) % 2 ^ 64 ≡ bit b * 2 ^ i
shifted i true h = mod-eq_of_lt (omega (arith, pow-lt h))
shifted i false h = mod-eq_of_lt (omega (arith, pow-lt h))

-- ---- the cells of a row: its bits, the lowest first
module _ (row i mark : ℕ) (before : List ℕ) (m : mark ≡ bit true * 2 ^ i) where
  pub row_next :
      (rest left : ℕ) (now : List ℕ) (x v : ℕ) → length before ≡ 64 → Marking (test_bit row) i before (test_bit rest) now → Lowest rest x left
      → v ≡ bit_or (entry now x) mark → Marking (test_bit row) i before (test_bit left) (set now x v)
  row_next rest left now x v long r g f =
      marking-next (test_bit row) i before (test_bit rest) (test_bit left) now x v (omega (arith, g.small)) (given_on g) (λ y h. given_out g y (omega arith))
      (f ∙ ap (bit_or (entry now x)) m) r

-- ---- line by line: each cell has the bits of the lines before i that choose it
pub record Scattered (f : ℕ → ℕ → Bool) (size i : ℕ) (cells : List ℕ) : Type 0 where
  pub long : length cells ≡ size
  pub bits : (x : ℕ) → x < size → (l : ℕ) → test_bit (entry cells x) l ≡ (ltb l i && f l x)

module _ (f : ℕ → ℕ → Bool) (size : ℕ) where
  pub scattered_end : (n m : ℕ) (cells : List ℕ) → m ≤ size → Scattered f size n cells → Filled 0 (λ x. word_of n (λ l. f l x)) size m cells
  scattered_end n m cells h s = record {
    long = s.long;
    cells = λ x k. same_bits (entry cells x) (word_of n (λ l. f l x)) (λ l. s.bits x (omega arith) l ∙ go x l (dec_lt l n));
  }
    where
      go : (x l : ℕ) → Dec (l < n) → (ltb l n && f l x) ≡ test_bit (word_of n (λ l. f l x)) l
      go x l (yes a) = ap (λ z. z && f l x) (lt-ltb l n a) ∙ sym (word-bit n (λ l. f l x) l a)
      go x l (no a) = ap (λ z. z && f l x) (le-ltb l n (omega arith)) ∙ sym (word_past n (λ l. f l x) l (omega arith))

-- ---- letters from low to high
abbrev pub between : (low high c : ℕ) → Bool
between low high c = leb low c && leb c high

pub between_first : (low high : ℕ) → low ≤ high → between low high low ≡ true
between_first low high h = ap₂ (λ a b. a && b) (le-leb low low (omega arith)) (le-leb low high h)

pub between_next : (low high y : ℕ) → between (low + 1) high y ≡ (between low high y && not (eqb low y))
between_next low high y = go (dec_lt y low) (equal low y)
  where
    swap : (a b : Bool) → (a && b) ≡ ((a && b) && true)
    swap true true = refl
    swap true false = refl
    swap false b = refl

    none : (a : Bool) → false ≡ (a && false)
    none true = refl
    none false = refl

    go : Dec (y < low) → Dec (low ≡ y) → (leb (low + 1) y && leb y high) ≡ ((leb low y && leb y high) && not (eqb low y))
    go (yes a) (yes b) = absurd (omega arith)
    go (yes a) (no b) = rw (lt-leb (low + 1) y (omega arith), lt-leb low y a) refl
    go (no a) (yes b) =
        rw (lt-leb (low + 1) y (omega arith))
        (none (leb low y && leb y high) ∙ ap (λ z. (leb low y && leb y high) && not z) (sym (ap (eqb low) (sym b) ∙ eqb_self low)))
    go (no a) (no b) = rw (le-leb (low + 1) y (omega arith), le-leb low y (omega arith), ne_eqb low y b) (swap true (leb y high))

pub between_none : (low high y : ℕ) → high < low → between low high y ≡ false
between_none low high y h = go (dec_lt y low)
  where
    go : Dec (y < low) → (leb low y && leb y high) ≡ false
    go (yes a) = ap (λ z. z && leb y high) (lt-leb low y a)
    go (no a) = ap₂ (λ u v. u && v) (le-leb low y (omega arith)) (lt-leb y high (omega arith))

-- the cells of letters, the lowest first
module _ (low high i mark : ℕ) (before : List ℕ) (m : mark ≡ bit true * 2 ^ i) where
  abbrev pub RangeLeft : (c : ℕ) → List ℕ → Type 0
  RangeLeft c now = Marking (between low high) i before (between c high) now

  pub range-next :
      (c : ℕ) (now : List ℕ) (v : ℕ) → high < length before → c ≤ high → v ≡ bit_or (entry now c) mark → RangeLeft c now
      → RangeLeft (c + 1) (set now c v)
  range-next c now v h k f r =
      marking-next (between low high) i before (between c high) (between (c + 1) high) now c v (omega arith) (between_first c high k)
      (λ y l. between_next c high y) (f ∙ ap (bit_or (entry now c)) m) r

  pub range_end : (c : ℕ) (now : List ℕ) → high < c → RangeLeft c now → Marked (between low high) i before now
  range_end c now h r = marking-end (between low high) i before (between c high) now (λ x l. between_none c high x h) r

-- a leaf of a letter takes that
pub letter_between : (a c : ℕ) → between a a c ≡ leaf_takes (Letter a) c
letter_between a c = go (dec_lt c a) (equal a c)
  where
    go : Dec (c < a) → Dec (a ≡ c) → (leb a c && leb c a) ≡ eqb a c
    go (yes u) (yes v) = absurd (omega arith)
    go (yes u) (no v) = rw (lt-leb a c u, ne_eqb a c v) refl
    go (no u) (yes v) = ap₂ (λ x y. x && y) (le-leb a c (omega arith)) (le-leb c a (omega arith)) ∙ sym (ap (eqb a) (sym v) ∙ eqb_self a)
    go (no u) (no v) = rw (le-leb a c (omega arith), lt-leb c a (omega arith), ne_eqb a c v) refl

-- the letters of a range are those up to the gap and those behind it
pub split-range :
    (low high cold hot : ℕ) → is_letter low ≡ true → is_letter high ≡ true → cold ≡ min high 126 → hot ≡ max low 161 → (c : ℕ)
    → (between low cold c || between hot high c) ≡ in_range low high c
split-range low high cold hot gl gh ec eh c = go (letter_above low gl) (letter_below high gh) (dec_lt c low) (dec_lt high c) (dec_lt 126 c) (dec_lt c 161)
  where
    gone : (a b : Bool) → ((a && false) || (b && false)) ≡ false
    gone true true = refl
    gone true false = refl
    gone false true = refl
    gone false false = refl

    go : 33 ≤ low → high < 255 → Dec (c < low) → Dec (high < c) → Dec (126 < c) → Dec (c < 161)
        → ((leb low c && leb c cold) || (leb hot c && leb c high)) ≡ in_range low high c
    go u v (yes a) q s t = rw (lt-leb low c a, lt-leb hot c (omega arith)) (range_low low high c a)
    go u v (no a) (yes b) s t =
        rw (lt-leb c cold (omega arith), lt-leb c high b) (gone (leb low c) (leb hot c) ∙ range_high low high c (omega arith) b)
    go u v (no a) (no b) (no s) t =
        rw (le-leb low c (omega arith), le-leb c cold (omega arith))
        (sym (le-leb 33 c (omega arith)) ∙ from_first c (omega arith) ∙ range_between low high c (omega arith) (omega arith))
    go u v (no a) (no b) (yes s) (yes t) =
        rw (le-leb low c (omega arith), lt-leb c cold (omega arith), lt-leb hot c (omega arith))
        (in_gap c s t ∙ range_between low high c (omega arith) (omega arith))
    go u v (no a) (no b) (yes s) (no t) =
        rw (le-leb low c (omega arith), lt-leb c cold (omega arith), le-leb hot c (omega arith), le-leb c high (omega arith))
        (sym (le-leb c 254 (omega arith)) ∙ upto_last c (omega arith) ∙ range_between low high c (omega arith) (omega arith))

-- marked in two goes
pub marked-both :
    (f g : ℕ → Bool) (i : ℕ) (before mid now : List ℕ) → Marked f i before mid → Marked g i mid now → Marked (λ x. f x || g x) i before now
marked-both f g i before mid now m n = record {
  long = n.long ∙ m.long;
  bits = λ x h l.
      n.bits x (omega (arith, m.long)) l ∙ ap (λ z. z || (g x && eqb i l)) (m.bits x h l)
      ∙ join (test_bit (entry before x) l) (f x) (g x) (eqb i l);
}
  where
    join : (a u v e : Bool) → ((a || (u && e)) || (v && e)) ≡ (a || ((u || v) && e))
    join true u v e = refl
    join false false v e = refl
    join false true v true = refl
    join false true true false = refl
    join false true false false = refl

-- so a range is marked by both calls; `end` is where the second one ends
pub range-marked :
    (low high cold hot end i : ℕ) (before mid now : List ℕ) → is_letter low ≡ true → is_letter high ≡ true → cold ≡ min high 126 → hot ≡ max low 161
    → Marked (between low cold) i before mid → Marked (between hot end) i mid now → end ≡ high → Marked (in_range low high) i before now
range-marked low high cold hot end i before mid now gl gh ec eh m n e =
    marked_same (λ c. between low cold c || between hot high c) (in_range low high) i before now (split-range low high cold hot gl gh ec eh)
    (marked-both (between low cold) (between hot high) i before mid now m (rw e at n))

pub leaf_letter :
    (leaf : Leaf) (i : ℕ) (before now : List ℕ) (a : ℕ) → leaf ≡ Letter a → Marked (between a a) i before now → Marked (leaf_takes leaf) i before now
leaf_letter leaf i before now a e m = rw e (marked_same (between a a) (leaf_takes (Letter a)) i before now (letter_between a) m)

pub leaf_range :
    (leaf : Leaf) (i : ℕ) (before now : List ℕ) (a b : ℕ) → leaf ≡ Range a b → Marked (in_range a b) i before now → Marked (leaf_takes leaf) i before now
leaf_range leaf i before now a b e m = rw e (marked_same (in_range a b) (leaf_takes (Range a b)) i before now (λ c. refl) m)

-- the ends of a good leaf that is a range are letters
pub range_ends : (leaf : Leaf) (a b : ℕ) → leaf_good leaf ≡ true → leaf ≡ Range a b → (is_letter a ≡ true) × (is_letter b ≡ true)
range_ends leaf a b g e =
    let h = and_fst (is_letter a && is_letter b) (leb a b) (rw e at g) in
    (and_fst (is_letter a) (is_letter b) h, and_snd (is_letter a) (is_letter b) h)

module _ (f : ℕ → Line) where
  -- the lines that take a letter
  abbrev pub line_takes : (l c : ℕ) → Bool
  line_takes l = node_takes (f l).node

  pub takers-end :
      (n i : ℕ) (cells : List ℕ) → i ≡ n → Scattered line_takes letter_cells i cells → Filled 0 (λ c. line_takers f c n) letter_cells letter_cells cells
  takers-end n i cells e s = scattered_end line_takes letter_cells n letter_cells cells (omega arith) (rw e at s)

pub columns-end :
    (rows : ℕ → ℕ) (count i : ℕ) (cells : List ℕ) → count ≤ 64 → i ≡ count → Scattered (λ l. test_bit (rows l)) 64 i cells
    → Filled 0 (column count rows) 64 count cells
columns-end rows count i cells h e s = scattered_end (λ l. test_bit (rows l)) 64 count count cells h (rw e at s)
