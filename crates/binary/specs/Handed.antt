-- A code as handed in, cells and a bit count: it is good exactly if it is the packing of its bits.
use Rattle.std.specs.Prelude.{◌≡◌, Bool, true, false, ◌&&◌, not, ◌↔◌, leb, eqb, get_or}
use Rattle.std.proofs.Math.Path.{refl, sym, ap}
use Rattle.std.proofs.Common.{ap₂, ◌∙◌, arith, take-append-drop, drop_of_length-le, pow_pos}
use Rattle.std.proofs.lemmas.Bool.{false≢true}
use mathlib.Core.List.{List, [], ◌∷◌, ◌++◌, append-nil}
use Prim.Native.Nat.{ℕ, zero, suc, ◌+◌, ◌-◌, ◌*◌, ◌/◌, ◌%◌, ◌^◌, ◌≤◌, ◌<◌}
use Rattle.std.proofs.Math.Nat.{mod-lt, div-add-mod'}
use borrow.Author.Tests.{eqb-true, eqb-false, eq-eqb, ne_eqb, leb-true, le-leb, lt-leb}
use Rattle.std.proofs.Math.ListN.{length, take, drop}
use Rattle.std.proofs.Math.Pow.{split}
use Rattle.std.proofs.lemmas.Nat.{mod-pow-add}
use Rattle.std.proofs.Math.Seq.{drop-nil}
use Rattle.syntax.specs.Bools.{and_fst, and_snd, and_intro}
use Rattle.binary.specs.Bits.{bit, test_bit, bits_of, cell, cell_count, fill, pack, unpack, Small, high_bits, held, all_zero, exact, byte_limit}
use Rattle.binary.specs.Bits.{handed_good}
use Rattle.binary.specs.Numbers.{bit_parity, drop_bits, cell_nil}
use Rattle.binary.specs.Packing.{cells_whole, cells_begun, cells_enough, length-fill, length-pack, length-unpack, pad, unpack-fill, unpack-pack}
use Rattle.binary.specs.Packing.{fill-unpack}
use Rattle.binary.specs.Reading.{from_cell, held-length}

-- ---- bits that are 0 pack to nothing

cell_zeros : (w : ℕ) (bs zs : List Bool) → all_zero zs ≡ true → cell w (bs ++ zs) ≡ cell w bs
cell_zeros zero bs zs h = refl
cell_zeros (suc w) [] [] h = refl
cell_zeros (suc w) [] (true ∷ zs) h = absurd (false≢true h)
cell_zeros (suc w) [] (false ∷ zs) h = omega (arith, cell_zeros w [] zs h, cell_nil w)
cell_zeros (suc w) (b ∷ bs) zs h = rw (cell_zeros w bs zs h) refl

drop_zeros : (w : ℕ) (bs zs : List Bool) → all_zero zs ≡ true → (ys : List Bool) × (all_zero ys ≡ true) × (drop w (bs ++ zs) ≡ drop w bs ++ ys)
drop_zeros zero bs zs h = (zs, h, refl)
drop_zeros (suc w) [] [] h = ([], refl, refl)
drop_zeros (suc w) [] (z ∷ zs) h =
    let (ys, o, e) = drop_zeros w [] zs (and_snd (not z) (all_zero zs) h) in
    (ys, o, e ∙ ap (λ l. l ++ ys) (drop-nil w))
drop_zeros (suc w) (b ∷ bs) zs h = drop_zeros w bs zs h

fill_zeros : (w k : ℕ) (bs zs : List Bool) → all_zero zs ≡ true → fill w k (bs ++ zs) ≡ fill w k bs
fill_zeros w zero bs zs h = refl
fill_zeros w (suc k) bs zs h =
    let (ys, o, e) = drop_zeros w bs zs h in
    ap₂ (λ a l. a ∷ l) (cell_zeros w bs zs h) (ap (fill w k) e ∙ fill_zeros w k (drop w bs) ys o)

pad_zeros : (bs : List Bool) (m : ℕ) → all_zero (drop (length bs) (pad m bs)) ≡ true
pad_zeros [] zero = refl
pad_zeros [] (suc m) = pad_zeros [] m
pad_zeros (b ∷ bs) zero = refl
pad_zeros (b ∷ bs) (suc m) = pad_zeros bs m

-- ---- exactly enough cells, unused bits 0

-- 03's `PacksBack`: what is packed and handed in with its count is the same bits
pub held-pack : (w : ℕ) → 0 < w → (bs : List Bool) → held w (pack w bs) (length bs) ≡ bs
unfolding held
held-pack w h bs = unpack-pack w h bs

-- packed bits are exact
pub exact-pack : (w : ℕ) (bs : List Bool) → exact w (pack w bs) (length bs) ≡ true
unfolding exact pack
exact-pack w bs =
    let k = cell_count w (length bs) in
    and_intro (eq-eqb (length (fill w k bs)) k (length-fill w k bs)) (ap (λ l. all_zero (drop (length bs) l)) (unpack-fill w k bs) ∙ pad_zeros bs (k * w))

-- EXACT MEANS PACKED: cells and a count are exact if and only if they are the packing and the count of the bits that they hold
module _ (w : ℕ) (h : 0 < w) (xs : List ℕ) (n : ℕ) where
  pub exact-length : exact w xs n ≡ true → length xs ≡ cell_count w n
  unfolding exact
  exact-length t = eqb-true (length xs) (cell_count w n) (and_fst (eqb (length xs) (cell_count w n)) (all_zero (drop n (unpack w xs))) t)

  -- a reader that stays below the count stays inside the cells
  pub exact_fits : exact w xs n ≡ true → n ≤ length xs * w
  exact_fits t = rw (exact-length t) (cells_enough w n h)

  pub exact_count : exact w xs n ≡ true → length (held w xs n) ≡ n
  exact_count t = held-length w xs n (exact_fits t)

  exact_zeros : exact w xs n ≡ true → all_zero (drop n (unpack w xs)) ≡ true
  unfolding exact
  exact_zeros t = and_snd (eqb (length xs) (cell_count w n)) (all_zero (drop n (unpack w xs))) t

  pub exact_cells : Small w xs → exact w xs n ≡ true → xs ≡ pack w (held w xs n)
  unfolding held pack
  exact_cells s t =
      let bs = take n (unpack w xs) in
      sym (fill-unpack w xs s) ∙ ap (fill w (length xs)) (sym (take-append-drop n (unpack w xs)))
      ∙ fill_zeros w (length xs) bs (drop n (unpack w xs)) (exact_zeros t)
      ∙ ap (λ i. fill w i bs) (exact-length t ∙ ap (cell_count w) (sym (exact_count t)))

  pub exact_iff : Small w xs → (exact w xs n ≡ true) ↔ ((xs ≡ pack w (held w xs n)) × (length (held w xs n) ≡ n))
  exact_iff s = (
    λ t. (exact_cells s t, exact_count t),
    λ t. ap₂ (exact w) t.0 (sym t.1) ∙ exact-pack w (held w xs n),
  )

-- 01: "Codes are equal if their bit counts and all their bytes are": of exact codes, exactly if their bits are
pub exact_equal : (w : ℕ) → 0 < w → (xs ys : List ℕ) (n m : ℕ) → Small w xs → Small w ys → exact w xs n ≡ true → exact w ys m ≡ true
    → (held w xs n ≡ held w ys m) ↔ ((xs ≡ ys) × (n ≡ m))
exact_equal w h xs ys n m s r p q = (
  λ e. (exact_cells w h xs n s p ∙ ap (pack w) e ∙ sym (exact_cells w h ys m r q), sym (exact_count w h xs n p) ∙ ap length e ∙ exact_count w h ys m q),
  λ e. ap₂ (held w) e.0 e.1,
)

-- ---- a good code, in bytes

pub handed_iff : (xs : List ℕ) (n : ℕ) → Small 8 xs
    → (handed_good xs n ≡ true) ↔ ((xs ≡ pack 8 (held 8 xs n)) × (length (held 8 xs n) ≡ n) × (length xs ≤ byte_limit))
unfolding handed_good
handed_iff xs n s = (
  λ t.
      let (c, k) = (exact_iff 8 (omega arith) xs n s).0 (and_snd (leb (length xs) byte_limit) (exact 8 xs n) t) in
      (c, k, leb-true (length xs) byte_limit (and_fst (leb (length xs) byte_limit) (exact 8 xs n) t)),
  λ t. and_intro (le-leb (length xs) byte_limit t.2) ((exact_iff 8 (omega arith) xs n s).1 (t.0, t.1)),
)

-- the bits that a code writes, packed, are good within the limit
pub handed-pack : (bs : List Bool) → cell_count 8 (length bs) ≤ byte_limit → handed_good (pack 8 bs) (length bs) ≡ true
unfolding handed_good
handed-pack bs h = and_intro (le-leb (length (pack 8 bs)) byte_limit (rw length-pack h)) (exact-pack 8 bs)

pub handed-exact : (xs : List ℕ) (n : ℕ) → handed_good xs n ≡ true → exact 8 xs n ≡ true
unfolding handed_good
handed-exact xs n t = and_snd (leb (length xs) byte_limit) (exact 8 xs n) t

pub handed_limit : (xs : List ℕ) (n : ℕ) → handed_good xs n ≡ true → length xs ≤ byte_limit
unfolding handed_good
handed_limit xs n t = leb-true (length xs) byte_limit (and_fst (leb (length xs) byte_limit) (exact 8 xs n) t)

pub handed_fit : (xs : List ℕ) (n : ℕ) → handed_good xs n ≡ true → n ≤ length xs * 8
handed_fit xs n t = exact_fits 8 (omega arith) xs n (handed-exact xs n t)

-- so the count of a good code is at most 524,288
pub handed_count : (xs : List ℕ) (n : ℕ) → handed_good xs n ≡ true → n ≤ byte_limit * 8
handed_count xs n t = omega (arith, handed_fit xs n t, handed_limit xs n t)

-- ---- the test, as a program makes it: only the last cell can hold unused bits

zero_bits : (m x : ℕ) → all_zero (bits_of m x) ≡ eqb (x % 2 ^ m) 0
unfolding bits_of
zero_bits zero x = let e : x % 2 ^ 0 ≡ 0 = omega arith in rw e refl
zero_bits (suc m) x = go (zero_bits m x) (test_bit x m) refl
  where
    sum : (b : Bool) → test_bit x m ≡ b → x % 2 ^ suc m ≡ bit b * 2 ^ m + x % 2 ^ m
    sum b t =
        let e : 1 + m ≡ suc m = omega arith in
        ap (λ i. x % 2 ^ i) (sym e) ∙ mod-pow-add x 1 m ∙ ap (λ y. y * 2 ^ m + x % 2 ^ m) (sym (bit_parity (x / 2 ^ m)) ∙ ap bit t)

    go : all_zero (bits_of m x) ≡ eqb (x % 2 ^ m) 0 → (b : Bool) → test_bit x m ≡ b → (not b && all_zero (bits_of m x)) ≡ eqb (x % 2 ^ suc m) 0
    go ih true t = sym (ne_eqb (x % 2 ^ suc m) 0 (λ z. omega (arith, sum true t, pow_pos m)))
    go ih false t = ih ∙ ap (λ y. eqb y 0) (let e : 0 * 2 ^ m + x % 2 ^ m ≡ x % 2 ^ m = omega arith in sym (sum false t ∙ e))

-- the bits below the r highest of a cell are 0 exactly if the cell is its r highest bits
pub unused_zero : (w r x : ℕ) → r ≤ w → all_zero (drop r (bits_of w x)) ≡ eqb (high_bits w r x) x
unfolding high_bits
unused_zero w r x h =
    let e : r + (w - r) ≡ w = omega arith in
    ap (λ i. all_zero (drop r (bits_of i x))) (sym e) ∙ ap all_zero (drop_bits r (w - r) x) ∙ zero_bits (w - r) x ∙ go (w - r) (eqb (x % 2 ^ (w - r)) 0) refl
  where
    go : (m : ℕ) (b : Bool) → eqb (x % 2 ^ m) 0 ≡ b → b ≡ eqb (x / 2 ^ m * 2 ^ m) x
    go m true t = sym (eq-eqb (x / 2 ^ m * 2 ^ m) x (omega (arith, split x m, eqb-true (x % 2 ^ m) 0 t)))
    go m false t = sym (ne_eqb (x / 2 ^ m * 2 ^ m) x (λ e. eqb-false (x % 2 ^ m) 0 t (omega (arith, split x m))))

module _ (w : ℕ) (xs : List ℕ) (n : ℕ) where
  -- too few cells, or too many
  pub exact_wrong : (length xs ≡ cell_count w n → ⊥) → exact w xs n ≡ false
  unfolding exact
  exact_wrong k = rw (ne_eqb (length xs) (cell_count w n) k) refl

  -- no bit is unused
  pub exact-whole : 0 < w → length xs ≡ cell_count w n → n % w ≡ 0 → exact w xs n ≡ true
  unfolding exact
  exact-whole h e z =
      let m : n / w * w ≡ n = omega (arith, div-add-mod' n w) in
      let k : length xs * w ≡ n = ap (λ i. i * w) (e ∙ ap (cell_count w) (sym m) ∙ cells_whole w (n / w) h) ∙ m in
      and_intro (eq-eqb (length xs) (cell_count w n) e) (ap all_zero (drop_of_length-le (unpack w xs) {i = n} (rw length-unpack (omega arith))))

  -- the last cell has unused bits
  pub exact_begun : 0 < w → length xs ≡ cell_count w n → (n % w ≡ 0 → ⊥) → exact w xs n ≡ eqb (high_bits w (n % w) (get_or xs (n / w) 0)) (get_or xs (n / w) 0)
  unfolding exact
  exact_begun h e z =
      let q = n / w in
      let r = n % w in
      let m : q * w + r ≡ n = div-add-mod' n w in
      let k : r < w = mod-lt n h in
      let c : length xs ≡ suc q = e ∙ ap (cell_count w) (sym m) ∙ cells_begun w q r (omega arith) (omega arith) in
      let t : drop n (unpack w xs) ≡ drop r (bits_of w (get_or xs q 0)) =
      ap (λ i. drop i (unpack w xs)) (sym m) ∙ from_cell w xs q r (omega arith) (omega arith)
      ∙ ap (λ l. drop r (bits_of w (get_or xs q 0)) ++ unpack w l) (drop_of_length-le xs {i = suc q} (omega arith))
      ∙ append-nil (drop r (bits_of w (get_or xs q 0))) in
      rw (eq-eqb (length xs) (cell_count w n) e) (ap all_zero t ∙ unused_zero w r (get_or xs q 0) (omega arith))

-- bytes over the limit
pub handed_over : (xs : List ℕ) (n : ℕ) → byte_limit < length xs → handed_good xs n ≡ false
unfolding handed_good
handed_over xs n h = rw (lt-leb (length xs) byte_limit h) refl

pub handed-within : (xs : List ℕ) (n : ℕ) → length xs ≤ byte_limit → handed_good xs n ≡ exact 8 xs n
unfolding handed_good
handed-within xs n h = rw (le-leb (length xs) byte_limit h) refl
