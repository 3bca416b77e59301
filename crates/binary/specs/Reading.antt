-- Reading a bit, or a number of as many bits as a cell has, at any bit of cells of any width.
use Rattle.std.specs.Prelude.{◌≡◌, List, [], ◌∷◌, ◌++◌}
use Rattle.std.proofs.Math.Path.{refl, sym, ap, ap₂}
use Rattle.std.proofs.Common.{◌∙◌, append_assoc, suc-mul, suc-add, zero-add, mod-lt, add-one, length-drop, take-append-drop, pow_pos, pow_mono, drop-cons, drop-drop, get_or-append-add}
use Rattle.std.proofs.Math.Bool.{false}
use Prim.Native.Nat.{ℕ, zero, suc, ◌+◌, ◌-◌, ◌*◌, ◌/◌, ◌%◌, ◌^◌, ◌≤◌, ◌<◌}
use Rattle.std.proofs.Math.Nat.{mod-eq_of_lt, div-add-mod', sub-zero, suc-sub-suc}
use native.Mathlib.Omega.{arith}
use Rattle.std.proofs.Math.ListN.{length, take, drop, get_or, length-take, drop_of_length-le, get_or-append}
use Rattle.std.proofs.Math.Seq.{take_all, take-nil, take-take, length-take-le, get_or-take, take-append-le, drop-append-le}
use Rattle.binary.specs.Bits.{test_bit, bits_of, cell, number_of, unpack, bit_at, number_at, Small, held, unread}
use Rattle.binary.specs.Numbers.{length-bits_of, test_small, take_bits, drop_bits, join_bits, cell_bits, number_bits, bits_of-number_of, number_of_lt}
use Rattle.binary.specs.Packing.{length-unpack, drop-unpack}

-- ---- one bit

pub bits_of_at : (w x r : ℕ) → r < w → get_or (bits_of w x) r false ≡ test_bit x (w - suc r)
unfolding bits_of
bits_of_at zero x r h = absurd (omega arith)
bits_of_at (suc w) x zero h = rw (suc-sub-suc w 0, sub-zero w) refl
bits_of_at (suc w) x (suc r) h = rw (suc-sub-suc w (suc r)) (bits_of_at w x r (omega arith))

at_cell : (w : ℕ) (xs : List ℕ) (q r : ℕ) → r < w → get_or (unpack w xs) (q * w + r) false ≡ test_bit (get_or xs q 0) (w - suc r)
at_cell w [] q r h = sym (test_small 0 (w - suc r) (pow_pos (w - suc r)))
at_cell w (x ∷ xs) zero r h =
    let e : 0 * w + r ≡ r = omega arith in
    rw e (get_or-append (bits_of w x) (unpack w xs) false r (omega (arith, length-bits_of w x)) ∙ bits_of_at w x r h)
at_cell w (x ∷ xs) (suc q) r h =
    let e : suc q * w + r ≡ length (bits_of w x) + (q * w + r) = omega (arith, suc-mul q w, length-bits_of w x) in
    rw e (get_or-append-add (bits_of w x) (unpack w xs) (q * w + r) false ∙ at_cell w xs q r h)

-- bit i of the cells is bit i of all their bits, for every i
pub bit_at-unpack : (w : ℕ) → 0 < w → (xs : List ℕ) (i : ℕ) → bit_at w xs i ≡ get_or (unpack w xs) i false
unfolding bit_at
bit_at-unpack w h xs i =
    let e : w - 1 - i % w ≡ w - suc (i % w) = omega arith in
    ap (test_bit (get_or xs (i / w) 0)) e ∙ sym (at_cell w xs (i / w) (i % w) (mod-lt i h)) ∙ ap (λ j. get_or (unpack w xs) j false) (div-add-mod' i w)

-- what is left from bit i on begins with bit i
pub drop-bit : (w : ℕ) → 0 < w → (xs : List ℕ) (i : ℕ) → i < length xs * w → drop i (unpack w xs) ≡ bit_at w xs i ∷ drop (suc i) (unpack w xs)
drop-bit w h xs i l =
    drop-cons (unpack w xs) i false (rw length-unpack l) ∙ ap (λ b. b ∷ drop (suc i) (unpack w xs)) (sym (bit_at-unpack w h xs i))

-- ---- a number of w bits

-- the bits from bit r of cell q on
pub from_cell : (w : ℕ) (xs : List ℕ) (q r : ℕ) → q < length xs → r ≤ w
    → drop (q * w + r) (unpack w xs) ≡ drop r (bits_of w (get_or xs q 0)) ++ unpack w (drop (suc q) xs)
from_cell w xs q r l h =
    sym (drop-drop r (q * w) (unpack w xs)) ∙ ap (drop r) (drop-unpack w q xs ∙ ap (unpack w) (drop-cons xs q 0 l))
    ∙ drop-append-le r (bits_of w (get_or xs q 0)) (unpack w (drop (suc q) xs)) (omega (arith, length-bits_of w (get_or xs q 0)))

module _ (w : ℕ) (xs : List ℕ) (s : Small w xs) (i : ℕ) (h : 0 < w) where
  -- at the start of a cell: the cell
  pub number_at-whole : i / w < length xs → i % w ≡ 0 → number_at w xs i w ≡ get_or xs (i / w) 0
  unfolding number_at
  number_at-whole l z =
      let q = i / w in
      let x = get_or xs q 0 in
      let e : q * w + 0 ≡ i = omega (arith, div-add-mod' i w) in
      let n = length-bits_of w x in
      let t : take w (drop i (unpack w xs)) ≡ bits_of w x =
      ap (λ j. take w (drop j (unpack w xs))) (sym e) ∙ ap (take w) (from_cell w xs q 0 l (omega arith))
      ∙ take-append-le w (bits_of w x) (unpack w (drop (suc q) xs)) (omega arith) ∙ take_all w (bits_of w x) (omega arith) in
      ap number_of t ∙ number_bits w x ∙ mod-eq_of_lt (s q)

  -- elsewhere over two cells, which stand side by side as one number
  pub number_at-parts : i / w + 1 < length xs
      → number_at w xs i w ≡ (get_or xs (i / w) 0 * 2 ^ w + get_or xs (i / w + 1) 0) / 2 ^ (w - i % w) % 2 ^ w
  unfolding number_at
  number_at-parts l =
      ap (λ j. number_of (take w (drop j (unpack w xs)))) (sym (div-add-mod' i w)) ∙ go (i / w) (i % w) (mod-lt i h) (omega arith)
      ∙ ap (λ j. (get_or xs (i / w) 0 * 2 ^ w + get_or xs j 0) / 2 ^ (w - i % w) % 2 ^ w) (sym (add-one (i / w)))
    where
      go : (q r : ℕ) → r < w → suc q < length xs
          → number_of (take w (drop (q * w + r) (unpack w xs))) ≡ (get_or xs q 0 * 2 ^ w + get_or xs (suc q) 0) / 2 ^ (w - r) % 2 ^ w
      go q r k l =
          let x = get_or xs q 0 in
          let y = get_or xs (suc q) 0 in
          let both = x * 2 ^ w + y in
          let later = unpack w (drop (suc (suc q)) xs) in
          let side : drop (q * w) (unpack w xs) ≡ bits_of (w + w) both ++ later =
          drop-unpack w q xs ∙ ap (unpack w) (drop-cons xs q 0 (omega arith) ∙ ap (λ l. x ∷ l) (drop-cons xs (suc q) 0 l))
          ∙ sym (append_assoc (bits_of w x) (bits_of w y) later) ∙ ap (λ l. l ++ later) (sym (join_bits w w x y (s (suc q)))) in
          let e : r + (w + (w - r)) ≡ w + w = omega arith in
          let d : drop r (bits_of (w + w) both) ≡ bits_of (w + (w - r)) both = ap (λ i. drop r (bits_of i both)) (sym e) ∙ drop_bits r (w + (w - r)) both in
          let bits : take w (drop (q * w + r) (unpack w xs)) ≡ bits_of w (both / 2 ^ (w - r)) =
          ap (take w)
          (sym (drop-drop r (q * w) (unpack w xs)) ∙ ap (drop r) side
          ∙ drop-append-le r (bits_of (w + w) both) later (omega (arith, length-bits_of (w + w) both))
          ∙ ap (λ l. l ++ later) d)
          ∙ take-append-le w (bits_of (w + (w - r)) both) later (omega (arith, length-bits_of (w + (w - r)) both)) ∙ take_bits w (w - r) both in
          ap number_of bits ∙ number_bits w (both / 2 ^ (w - r))

-- ---- what is left to read of a code of n bits, as a walk meets it

drop-take : {A : Type 0} (i m : ℕ) (l : List A) → drop i (take (i + m) l) ≡ take m (drop i l)
drop-take zero m l = rw zero-add refl
drop-take (suc i) m [] = rw suc-add (sym (take-nil m))
drop-take (suc i) m (x ∷ l) = rw suc-add (drop-take i m l)

module _ (w : ℕ) (xs : List ℕ) (n : ℕ) where
  -- bits that are left are bits of the cells
  unread_cells : (i : ℕ) → i ≤ n → unread w xs n i ≡ take (n - i) (drop i (unpack w xs))
  unfolding unread held
  unread_cells i l = let e : i + (n - i) ≡ n = omega arith in ap (λ m. drop i (take m (unpack w xs))) (sym e) ∙ drop-take i (n - i) (unpack w xs)

  pub length-unread : n ≤ length xs * w → (i : ℕ) → length (unread w xs n i) ≡ n - i
  unfolding unread held
  length-unread f i = rw (length-drop, length-take-le n (unpack w xs) (rw length-unpack f)) refl

  pub unread_all : unread w xs n 0 ≡ held w xs n
  unfolding unread
  unread_all = refl

  -- past the last bit nothing is left
  pub unread_none : (i : ℕ) → n ≤ i → unread w xs n i ≡ []
  unfolding unread held
  unread_none i l = drop_of_length-le (take n (unpack w xs)) {i = i} (rw length-take (omega arith))

  -- before it, the next bit
  pub unread-bit : 0 < w → n ≤ length xs * w → (i : ℕ) → i < n → unread w xs n i ≡ bit_at w xs i ∷ unread w xs n (suc i)
  unread-bit h f i l =
      let e : n - i ≡ suc (n - suc i) = omega arith in
      unread_cells i (omega arith) ∙ ap₂ (λ m l. take m l) e (drop-bit w h xs i (omega arith)) ∙ ap (λ l. bit_at w xs i ∷ l) (sym (unread_cells (suc i) l))

  -- and m bits at once: the number that they write
  pub unread-number : n ≤ length xs * w → (i m : ℕ) → i + m ≤ n → unread w xs n i ≡ bits_of m (number_at w xs i m) ++ unread w xs n (i + m)
  unfolding unread held number_at
  unread-number f i m l =
      let bs = drop i (take n (unpack w xs)) in
      let ts = take m (drop i (unpack w xs)) in
      let k : length ts ≡ m = length-take-le m (drop i (unpack w xs)) (rw (length-drop, length-unpack) (omega arith)) in
      let t : take m bs ≡ ts = ap (take m) (unread_cells i (omega arith)) ∙ take-take m (n - i) (drop i (unpack w xs)) (omega arith) in
      let b : bits_of m (number_of ts) ≡ ts = ap (λ j. bits_of j (number_of ts)) (sym k) ∙ bits_of-number_of ts in
      sym (take-append-drop m bs) ∙ ap₂ (λ a c. a ++ c) (t ∙ sym b) (drop-drop m i (take n (unpack w xs)))

-- a number that is read has as many bits as were read
pub number_at_lt : (w : ℕ) (xs : List ℕ) (i n : ℕ) → number_at w xs i n < 2 ^ n
unfolding number_at
number_at_lt w xs i n =
    let ts = take n (drop i (unpack w xs)) in
    let l : length ts ≤ n = rw length-take (omega arith) in
    omega (arith, number_of_lt ts, pow_mono l)

-- ---- the bits held, as a walk meets them

module _ (w : ℕ) (xs : List ℕ) (n : ℕ) (f : n ≤ length xs * w) where
  pub held-length : length (held w xs n) ≡ n
  unfolding held
  held-length = length-take-le n (unpack w xs) (rw length-unpack f)

  pub held-bit : 0 < w → (i : ℕ) → i < n → get_or (held w xs n) i false ≡ bit_at w xs i
  unfolding held
  held-bit h i l = get_or-take n (unpack w xs) i false l ∙ sym (bit_at-unpack w h xs i)

  -- m bits from bit i on
  pub held-cell : (i m : ℕ) → i + m ≤ n → cell m (drop i (held w xs n)) ≡ number_at w xs i m
  unfolding unread
  held-cell i m l =
      ap (cell m) (unread-number w xs n f i m l) ∙ cell_bits m (number_at w xs i m) (unread w xs n (i + m)) ∙ mod-eq_of_lt (number_at_lt w xs i m)

-- every bit of the cells: those held, and the rest
pub held-every : (w : ℕ) (xs : List ℕ) (n : ℕ) → held w xs (length xs * w) ≡ held w xs n ++ drop n (unpack w xs)
unfolding held
held-every w xs n =
    let k : length (unpack w xs) ≤ length xs * w = rw length-unpack (omega arith) in
    take_all (length xs * w) (unpack w xs) k ∙ sym (take-append-drop n (unpack w xs))
