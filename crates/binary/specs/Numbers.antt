-- Numbers and their bits, highest first, for any width: both round trips, and bits of a part of a number.
use Rattle.std.specs.Prelude.{◌≡◌, refl, Bool, true, false, cond, List, [], ◌∷◌, ◌++◌, ℕ, zero, suc, ◌+◌, ◌-◌, ◌*◌, ◌/◌, ◌%◌, ◌^◌, ◌≤◌, ◌<◌, eqb, leb, length, take, drop}
use Rattle.std.proofs.Common.{sym, ap, ap₂, ◌∙◌, append-nil, zero-add, suc-add, add_comm, mul_assoc, add-mul, add_assoc, mod-lt, mod-eq_of_lt, zero-lt-suc, arith, leb-true, leb-false, take-append-drop, drop_of_length-le, pow_pos, pow-add, shr-shr}
use Rattle.std.proofs.Math.Nat.{div-eq_of_lt, mul-add-div_right, sub-zero, suc-sub-suc}
use Rattle.std.proofs.Math.Pow.{high}
use Rattle.std.proofs.lemmas.Nat.{mod-pow-add}
use Rattle.std.specs.Int.Bits.{block_odd}
use Rattle.std.proofs.Math.Seq.{drop-nil}
use Rattle.binary.specs.Bits.{bit, test_bit, bits_of, cell, number_of}

-- ---- one bit

pub bit_lt : (b : Bool) → bit b < 2
bit_lt false = omega arith
bit_lt true = omega arith

pub bit_parity : (x : ℕ) → bit (eqb (x % 2) 1) ≡ x % 2
bit_parity x = go (x % 2) (mod-lt x (zero-lt-suc 1))
  where
    go : (r : ℕ) → r < 2 → bit (eqb r 1) ≡ r
    go zero h = refl
    go (suc zero) h = refl
    go (suc (suc r)) h = absurd (omega arith)

parity_bit : (b : Bool) → eqb (bit b % 2) 1 ≡ b
parity_bit false = refl
parity_bit true = refl

-- the bit above a number of n bits
pub test_high : (b : Bool) (n r : ℕ) → r < 2 ^ n → test_bit (bit b * 2 ^ n + r) n ≡ b
test_high b n r h = ap (λ x. eqb (x % 2) 1) (high (bit b) n h) ∙ parity_bit b

-- the bits below it
pub test_low : (a l d r : ℕ) → test_bit (a * 2 ^ (suc d + l) + r) l ≡ test_bit r l
test_low a l d r =
    rw (pow-add 2 (suc d) l, ← mul_assoc a (2 ^ suc d) (2 ^ l), mul-add-div_right (pow_pos l) (a * 2 ^ suc d) r, block_odd a d (r / 2 ^ l)) refl

-- a number of l bits has no bit l
pub test_small : (x l : ℕ) → x < 2 ^ l → test_bit x l ≡ false
test_small x l h = ap (λ y. eqb (y % 2) 1) (div-eq_of_lt h)

-- ---- n bits

pub length-bits_of : (n x : ℕ) → length (bits_of n x) ≡ n
unfolding bits_of
length-bits_of zero x = refl
length-bits_of (suc n) x = ap suc (length-bits_of n x)

low_from : (j d a x : ℕ) → bits_of j (a * 2 ^ (d + j) + x) ≡ bits_of j x
unfolding bits_of
low_from zero d a x = refl
low_from (suc j) d a x =
    let e : d + suc j ≡ suc d + j = omega arith in
    rw e (ap₂ (λ b bs. b ∷ bs) (test_low a j d x) (low_from j (suc d) a x))

-- what lies above n bits is not seen
pub bits_low : (n a x : ℕ) → bits_of n (a * 2 ^ n + x) ≡ bits_of n x
bits_low n a x = let e : 0 + n ≡ n = omega arith in ap (λ i. bits_of n (a * 2 ^ i + x)) (sym e) ∙ low_from n 0 a x

-- the highest bits of a number, and the lowest
pub take_bits : (n k x : ℕ) → take n (bits_of (n + k) x) ≡ bits_of n (x / 2 ^ k)
unfolding bits_of
take_bits zero k x = refl
take_bits (suc n) k x =
    rw suc-add (ap₂ (λ b bs. b ∷ bs) (ap (λ i. eqb (x / 2 ^ i % 2) 1) (add_comm n k) ∙ ap (λ y. eqb (y % 2) 1) (sym (shr-shr x k n))) (take_bits n k x))

pub drop_bits : (j k x : ℕ) → drop j (bits_of (j + k) x) ≡ bits_of k x
unfolding bits_of
drop_bits zero k x = rw zero-add refl
drop_bits (suc j) k x = rw suc-add (drop_bits j k x)

pub split_bits : (n k x : ℕ) → bits_of (n + k) x ≡ bits_of n (x / 2 ^ k) ++ bits_of k x
split_bits n k x = sym (take-append-drop n (bits_of (n + k) x)) ∙ ap₂ (λ a b. a ++ b) (take_bits n k x) (drop_bits n k x)

-- two numbers side by side
pub join_bits : (n k x y : ℕ) → y < 2 ^ k → bits_of (n + k) (x * 2 ^ k + y) ≡ bits_of n x ++ bits_of k y
join_bits n k x y h = split_bits n k (x * 2 ^ k + y) ∙ ap₂ (λ a b. bits_of n a ++ b) (high x k h) (bits_low k x y)

-- ---- the number that bits write

pub cell_lt : (w : ℕ) (bs : List Bool) → cell w bs < 2 ^ w
cell_lt zero bs = omega arith
cell_lt (suc w) [] = omega (arith, cell_lt w [])
cell_lt (suc w) (false ∷ bs) = omega (arith, cell_lt w bs)
cell_lt (suc w) (true ∷ bs) = omega (arith, cell_lt w bs)

pub cell_nil : (w : ℕ) → cell w [] ≡ 0
cell_nil zero = refl
cell_nil (suc w) = refl

-- 01: "highest first": of a number in w bits, with anything behind it, the first w bits are the number
pub cell_bits : (w x : ℕ) (r : List Bool) → cell w (bits_of w x ++ r) ≡ x % 2 ^ w
unfolding bits_of
cell_bits zero x r = omega arith
cell_bits (suc w) x r =
    let e : 1 + w ≡ suc w = omega arith in
    ap₂ (λ a b. a * 2 ^ w + b) (bit_parity (x / 2 ^ w)) (cell_bits w x r) ∙ sym (mod-pow-add x 1 w) ∙ ap (λ i. x % 2 ^ i) e

pub cell_join : (w : ℕ) (ts cs : List Bool) → length ts ≤ w → cell w (ts ++ cs) ≡ cell w ts + cell (w - length ts) cs
cell_join w [] cs h = rw (sub-zero w, cell_nil w, zero-add (cell w cs)) refl
cell_join zero (t ∷ ts) cs h = absurd (omega arith)
cell_join (suc w) (t ∷ ts) cs h =
    rw (suc-sub-suc w (length ts), cell_join w ts cs (omega arith)) (sym (add_assoc (bit t * 2 ^ w) (cell w ts) (cell (w - length ts) cs)))

pub cell_first : (w : ℕ) (ps cs : List Bool) → w ≤ length ps → cell w (ps ++ cs) ≡ cell w ps
cell_first zero ps cs h = refl
cell_first (suc w) [] cs h = absurd (omega arith)
cell_first (suc w) (p ∷ ps) cs h = ap (λ x. bit p * 2 ^ w + x) (cell_first w ps cs (omega arith))

-- the first m bits stand above the others
pub cell_split : (m r : ℕ) (bs : List Bool) → cell (m + r) bs ≡ cell m bs * 2 ^ r + cell r (drop m bs)
cell_split zero r bs = rw zero-add (omega arith)
cell_split (suc m) r [] = let e : cell r (drop (suc m) []) ≡ 0 = ap (cell r) (drop-nil (suc m)) ∙ cell_nil r in rw (suc-add, e) (omega arith)
cell_split (suc m) r (b ∷ bs) =
    rw (suc-add, cell_split m r bs, pow-add 2 m r) (omega (arith, mul_assoc (bit b) (2 ^ m) (2 ^ r), add-mul (bit b * 2 ^ m) (cell m bs) (2 ^ r)))

-- r bits alone in a cell of r + m bits
pub cell_short : (m r : ℕ) (ts : List Bool) → length ts ≤ r → cell (r + m) ts ≡ cell r ts * 2 ^ m
cell_short m r ts h = cell_split r m ts ∙ rw (drop_of_length-le ts h, cell_nil m) (omega arith)

-- ---- round trips

pub number_bits : (n x : ℕ) → number_of (bits_of n x) ≡ x % 2 ^ n
number_bits n x = ap₂ (λ i bs. cell i bs) (length-bits_of n x) (sym (append-nil (bits_of n x))) ∙ cell_bits n x []

-- a number of n bits is what its n bits write
pub number_of-bits_of : (n x : ℕ) → x < 2 ^ n → number_of (bits_of n x) ≡ x
number_of-bits_of n x h = number_bits n x ∙ mod-eq_of_lt h

-- bits are the bits of the number that they write
pub bits_of-number_of : (bs : List Bool) → bits_of (length bs) (number_of bs) ≡ bs
unfolding bits_of
bits_of-number_of [] = refl
bits_of-number_of (b ∷ bs) =
    ap₂ (λ a l. a ∷ l) (test_high b (length bs) (number_of bs) (cell_lt (length bs) bs)) (bits_low (length bs) (bit b) (number_of bs) ∙ bits_of-number_of bs)

pub number_of_lt : (bs : List Bool) → number_of bs < 2 ^ length bs
number_of_lt bs = cell_lt (length bs) bs

-- n bits that two numbers of n bits share make them equal
pub bits_of_injective : (n x y : ℕ) → x < 2 ^ n → y < 2 ^ n → bits_of n x ≡ bits_of n y → x ≡ y
bits_of_injective n x y h k e = sym (number_of-bits_of n x h) ∙ ap number_of e ∙ number_of-bits_of n y k

-- the same bits by comparing and subtracting, for definitions that go so
pub bits_of_compare : (n x : ℕ) → x < 2 ^ suc n → bits_of (suc n) x ≡ leb (2 ^ n) x ∷ bits_of n (cond (leb (2 ^ n) x) (x - 2 ^ n) x)
unfolding bits_of
bits_of_compare n x h = go (leb (2 ^ n) x) refl
  where
    go : (b : Bool) → leb (2 ^ n) x ≡ b → bits_of (suc n) x ≡ b ∷ bits_of n (cond b (x - 2 ^ n) x)
    go true e =
        let q : 2 ^ n ≤ x = leb-true (2 ^ n) x e in
        let m : 1 * 2 ^ n + (x - 2 ^ n) ≡ x = omega arith in
        ap (bits_of (suc n)) (sym m) ∙ ap₂ (λ b bs. b ∷ bs) (test_high true n (x - 2 ^ n) (omega arith)) (bits_low n 1 (x - 2 ^ n))
    go false e = ap (λ b. b ∷ bits_of n x) (test_small x n (leb-false (2 ^ n) x e))
