-- Packing bits into cells of any width and back.
use Rattle.std.specs.Prelude.{◌≡◌, refl, Bool, false, ◌↔◌, List, [], ◌∷◌, ◌++◌, ℕ, zero, suc, ◌+◌, ◌-◌, ◌*◌, ◌/◌, ◌^◌, ◌≤◌, ◌<◌, length, take, drop, get_or}
use Rattle.std.proofs.Common.{sym, ap, ap₂, ◌∙◌, append_assoc, zero-add, suc-add, add_comm, suc-mul, mod-lt, mod-eq_of_lt, div-add-mod', div-lt_iff_lt-mul, arith, length-append, pow_pos, drop_at}
use Rattle.std.proofs.Math.Nat.{div-eq_of_lt, mul-add-div_right}
use Rattle.std.proofs.Math.Seq.{drop-nil, drop-append-add}
use Rattle.binary.specs.Bits.{bit, bits_of, cell, cell_count, fill, pack, unpack, Small}
use Rattle.binary.specs.Numbers.{length-bits_of, bits_low, test_high, cell_lt, cell_nil, cell_bits}

-- ---- how many cells

-- q whole cells
pub cells_whole : (w q : ℕ) → 0 < w → cell_count w (q * w) ≡ q
cells_whole w q h =
    mul-add-div_right h q (w - 1) ∙ (let d : (w - 1) / w ≡ 0 = div-eq_of_lt {n = w - 1} {m = w} (omega arith) in omega arith)

-- q whole cells and one that is begun
pub cells_begun : (w q r : ℕ) → 0 < r → r ≤ w → cell_count w (q * w + r) ≡ suc q
cells_begun w q r h k =
    let e : q * w + r + (w - 1) ≡ suc q * w + (r - 1) = omega (arith, suc-mul q w) in
    let p : 0 < w = omega arith in
    let d : (r - 1) / w ≡ 0 = div-eq_of_lt {n = r - 1} {m = w} (omega arith) in
    ap (λ x. x / w) e ∙ mul-add-div_right p (suc q) (r - 1) ∙ omega arith

-- the cells are enough
pub cells_enough : (w n : ℕ) → 0 < w → n ≤ cell_count w n * w
cells_enough w n h = omega (arith, div-add-mod' (n + (w - 1)) w, mod-lt (n + (w - 1)) h)

-- and no fewer would be: k cells that hold n bits are at least as many
pub cells_least : (w n k : ℕ) → 0 < w → n ≤ k * w → cell_count w n ≤ k
cells_least w n k h l =
    let e : n + (w - 1) < suc k * w = omega (arith, suc-mul k w) in
    let d : (n + (w - 1)) / w < suc k = (div-lt_iff_lt-mul h).1 e in
    omega arith

-- ---- lengths

pub length-fill : (w k : ℕ) (bs : List Bool) → length (fill w k bs) ≡ k
length-fill w zero bs = refl
length-fill w (suc k) bs = ap suc (length-fill w k (drop w bs))

pub length-pack : (w : ℕ) (bs : List Bool) → length (pack w bs) ≡ cell_count w (length bs)
unfolding pack
length-pack w bs = length-fill w (cell_count w (length bs)) bs

pub length-unpack : (w : ℕ) (xs : List ℕ) → length (unpack w xs) ≡ length xs * w
length-unpack w [] = omega arith
length-unpack w (x ∷ xs) = rw length-append (omega (arith, length-bits_of w x, length-unpack w xs, suc-mul (length xs) w))

-- ---- packed, then unpacked

-- the first n bits, and 0 for those that are missing
abbrev pub pad : ℕ → List Bool → List Bool
pad zero bs = []
pad (suc n) [] = false ∷ pad n []
pad (suc n) (b ∷ bs) = b ∷ pad n bs

bits_cell : (w : ℕ) (bs : List Bool) → bits_of w (cell w bs) ≡ pad w bs
unfolding bits_of
bits_cell zero bs = refl
bits_cell (suc w) [] =
    let e : 0 * 2 ^ w + cell w [] ≡ 0 = omega (arith, cell_nil w) in
    ap (bits_of (suc w)) (sym e)
    ∙ ap₂ (λ a l. a ∷ l) (test_high false w (cell w []) (cell_lt w [])) (bits_low w 0 (cell w []) ∙ bits_cell w [])
bits_cell (suc w) (b ∷ bs) =
    ap₂ (λ a l. a ∷ l) (test_high b w (cell w bs) (cell_lt w bs)) (bits_low w (bit b) (cell w bs) ∙ bits_cell w bs)

pad_add : (m n : ℕ) (bs : List Bool) → pad (m + n) bs ≡ pad m bs ++ pad n (drop m bs)
pad_add zero n bs = rw zero-add refl
pad_add (suc m) n [] = rw suc-add (ap (λ l. false ∷ l) (pad_add m n [] ∙ ap (λ l. pad m [] ++ pad n l) (drop-nil m)))
pad_add (suc m) n (b ∷ bs) = rw suc-add (ap (λ l. b ∷ l) (pad_add m n bs))

pub unpack-fill : (w k : ℕ) (bs : List Bool) → unpack w (fill w k bs) ≡ pad (k * w) bs
unpack-fill w zero bs = let e : 0 * w ≡ 0 = omega arith in rw e refl
unpack-fill w (suc k) bs =
    let e : suc k * w ≡ w + k * w = suc-mul k w ∙ add_comm (k * w) w in
    rw (e, pad_add w (k * w) bs) (ap₂ (λ a l. a ++ l) (bits_cell w bs) (unpack-fill w k (drop w bs)))

pub take-pad : (bs : List Bool) (n : ℕ) → length bs ≤ n → take (length bs) (pad n bs) ≡ bs
take-pad [] n h = refl
take-pad (b ∷ bs) zero h = absurd (omega arith)
take-pad (b ∷ bs) (suc n) h = ap (λ l. b ∷ l) (take-pad bs n (omega arith))

pub getD_pad : (n : ℕ) (bs : List Bool) (i : ℕ) → i < n → get_or (pad n bs) i false ≡ get_or bs i false
getD_pad zero bs i h = absurd (omega arith)
getD_pad (suc n) [] zero h = refl
getD_pad (suc n) [] (suc i) h = getD_pad n [] i (omega arith)
getD_pad (suc n) (b ∷ bs) zero h = refl
getD_pad (suc n) (b ∷ bs) (suc i) h = getD_pad n bs i (omega arith)

-- PACK THEN UNPACK, for any count of bits and any width: the bits come back
pub unpack-pack : (w : ℕ) → 0 < w → (bs : List Bool) → take (length bs) (unpack w (pack w bs)) ≡ bs
unfolding pack
unpack-pack w h bs =
    ap (take (length bs)) (unpack-fill w (cell_count w (length bs)) bs) ∙ take-pad bs (cell_count w (length bs) * w) (cells_enough w (length bs) h)

-- packed codes are equal, with their counts, exactly if the bits are
pub pack_equal : (w : ℕ) → 0 < w → (bs cs : List Bool) → ((length bs ≡ length cs) × (pack w bs ≡ pack w cs)) ↔ (bs ≡ cs)
pack_equal w h bs cs = (
  λ e. sym (unpack-pack w h bs) ∙ ap₂ (λ n l. take n (unpack w l)) e.0 e.1 ∙ unpack-pack w h cs,
  λ e. (ap length e, ap (pack w) e),
)

-- ---- unpacked, then packed

pub small_tail : (w x : ℕ) (xs : List ℕ) → Small w (x ∷ xs) → Small w xs
small_tail w x xs s = λ k. s (suc k)

drop-cell : (w x : ℕ) (r : List Bool) → drop w (bits_of w x ++ r) ≡ r
drop-cell w x r = drop_at (bits_of w x) r w (length-bits_of w x)

pub fill-unpack : (w : ℕ) (xs : List ℕ) → Small w xs → fill w (length xs) (unpack w xs) ≡ xs
fill-unpack w [] s = refl
fill-unpack w (x ∷ xs) s =
    ap₂ (λ a l. a ∷ l) (cell_bits w x (unpack w xs) ∙ mod-eq_of_lt (s 0))
    (ap (fill w (length xs)) (drop-cell w x (unpack w xs)) ∙ fill-unpack w xs (small_tail w x xs s))

-- UNPACK THEN PACK: the cells come back
pub pack-unpack : (w : ℕ) → 0 < w → (xs : List ℕ) → Small w xs → pack w (unpack w xs) ≡ xs
unfolding pack
pack-unpack w h xs s =
    ap (λ n. fill w n (unpack w xs)) (ap (cell_count w) (length-unpack w xs) ∙ cells_whole w (length xs) h) ∙ fill-unpack w xs s

-- packed cells are numbers of w bits
fill_small : (w k : ℕ) (bs : List Bool) → Small w (fill w k bs)
fill_small w zero bs i = pow_pos w
fill_small w (suc k) bs zero = cell_lt w bs
fill_small w (suc k) bs (suc i) = fill_small w k (drop w bs) i

pub pack_small : (w : ℕ) (bs : List Bool) → Small w (pack w bs)
unfolding pack
pack_small w bs = fill_small w (cell_count w (length bs)) bs

-- ---- parts

pub unpack-append : (w : ℕ) (xs ys : List ℕ) → unpack w (xs ++ ys) ≡ unpack w xs ++ unpack w ys
unpack-append w [] ys = refl
unpack-append w (x ∷ xs) ys = ap (λ l. bits_of w x ++ l) (unpack-append w xs ys) ∙ sym (append_assoc (bits_of w x) (unpack w xs) (unpack w ys))

-- the bits from cell k on
pub drop-unpack : (w k : ℕ) (xs : List ℕ) → drop (k * w) (unpack w xs) ≡ unpack w (drop k xs)
drop-unpack w zero xs = let e : 0 * w ≡ 0 = omega arith in rw e refl
drop-unpack w (suc k) [] = drop-nil (suc k * w)
drop-unpack w (suc k) (x ∷ xs) =
    let e : suc k * w ≡ length (bits_of w x) + k * w = omega (arith, suc-mul k w, length-bits_of w x) in
    rw e (drop-append-add (bits_of w x) (unpack w xs) (k * w) ∙ drop-unpack w k xs)
