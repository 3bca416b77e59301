-- The bytes of document 03, whose bits are the numbers 0 and 1: its definitions, and that they are those of Bits.antt.
use Rattle.std.specs.Prelude.{◌≡◌, refl, Bool, true, false, ◌&&◌, cond, List, [], ◌∷◌, ◌++◌, ℕ, zero, suc, ◌+◌, ◌*◌, ◌/◌, ◌%◌, ◌^◌, leb, ltb, eqb, length, take, drop}
use Rattle.std.proofs.Common.{sym, ap, ap₂, ◌∙◌, mul_assoc, add-mul, pow-suc, arith, ltb-true}
use Rattle.syntax.specs.Bools.{and_fst}
use Rattle.binary.specs.Bits.{bit, test_bit, bits_of, cell, fill, pack, unpack, held, all_zero, exact, handed_good, word_of}
use Rattle.binary.specs.Numbers.{bit_parity, cell_nil}
use Rattle.binary.specs.Handed.{held-pack}

-- ---- as 03 writes them

unfoldable pub is_bits : List ℕ → Bool
is_bits [] = true
is_bits (b ∷ bs) = ltb b 2 && is_bits bs

unfoldable pub byte_from : (left : ℕ) → (v : ℕ) → List ℕ → ℕ
byte_from zero v bs = v
byte_from (suc k) v [] = byte_from k (2 * v) []
byte_from (suc k) v (b ∷ bs) = byte_from k (2 * v + b) bs

unfoldable pub packed_from : (left : ℕ) → List ℕ → List ℕ
packed_from zero bs = []
packed_from (suc k) bs = byte_from 8 0 bs ∷ packed_from k (drop 8 bs)

unfoldable pub packed : (bits : List ℕ) → List ℕ
packed bs = packed_from ((length bs + 7) / 8) bs

unfoldable pub byte_bits : (left : ℕ) → (v : ℕ) → List ℕ
byte_bits zero v = []
byte_bits (suc k) v = (v / 2 ^ k % 2) ∷ byte_bits k v

unfoldable pub unpacked : List ℕ → List ℕ
unpacked [] = []
unpacked (x ∷ xs) = byte_bits 8 x ++ unpacked xs

unfoldable pub all_zeros : List ℕ → Bool
all_zeros [] = true
all_zeros (b ∷ bs) = eqb b 0 && all_zeros bs

unfoldable pub handed : (bytes : List ℕ) → (count : ℕ) → List ℕ
handed xs n = take n (unpacked xs)

-- 03's `handed_good` but for its last part, that the bits are a code of the pattern
unfoldable pub handed_fits : (bytes : List ℕ) → (count : ℕ) → Bool
handed_fits xs n = (eqb (length xs) ((n + 7) / 8) && leb (length xs) 65536) && all_zeros (drop n (unpacked xs))

-- bit l of a mark word, and the word of the nodes from l on of which f holds (03 has the automaton in the place of f)
unfoldable pub mark_bit : (word l : ℕ) → Bool
mark_bit w l = eqb (w / 2 ^ l % 2) 1

unfoldable pub word_from : (left l : ℕ) → (f : ℕ → Bool) → ℕ
word_from zero l f = 0
word_from (suc k) l f = cond (f l) (2 ^ l) 0 + word_from k (suc l) f

unfoldable pub PacksBack : Type 0
PacksBack = (bs : List ℕ) → is_bits bs ≡ true → handed (packed bs) (length bs) ≡ bs

-- ---- that they are the same

-- bits as 03 writes them
abbrev pub numbers : List Bool → List ℕ
numbers [] = []
numbers (b ∷ bs) = bit b ∷ numbers bs

abbrev pub bools : List ℕ → List Bool
bools [] = []
bools (b ∷ bs) = eqb b 1 ∷ bools bs

numbers-bools : (bs : List ℕ) → is_bits bs ≡ true → numbers (bools bs) ≡ bs
unfolding is_bits
numbers-bools [] h = refl
numbers-bools (zero ∷ bs) h = ap (λ l. 0 ∷ l) (numbers-bools bs h)
numbers-bools (suc zero ∷ bs) h = ap (λ l. 1 ∷ l) (numbers-bools bs h)
numbers-bools (suc (suc b) ∷ bs) h = absurd (omega (arith, ltb-true (suc (suc b)) 2 (and_fst (ltb (suc (suc b)) 2) (is_bits bs) h)))

length-numbers : (bs : List Bool) → length (numbers bs) ≡ length bs
length-numbers [] = refl
length-numbers (b ∷ bs) = ap suc (length-numbers bs)

numbers-append : (bs cs : List Bool) → numbers (bs ++ cs) ≡ numbers bs ++ numbers cs
numbers-append [] cs = refl
numbers-append (b ∷ bs) cs = ap (λ l. bit b ∷ l) (numbers-append bs cs)

drop-numbers : (n : ℕ) (bs : List Bool) → drop n (numbers bs) ≡ numbers (drop n bs)
drop-numbers zero bs = refl
drop-numbers (suc n) [] = refl
drop-numbers (suc n) (b ∷ bs) = drop-numbers n bs

take-numbers : (n : ℕ) (bs : List Bool) → take n (numbers bs) ≡ numbers (take n bs)
take-numbers zero bs = refl
take-numbers (suc n) [] = refl
take-numbers (suc n) (b ∷ bs) = ap (λ l. bit b ∷ l) (take-numbers n bs)

twice : (v k : ℕ) → (2 * v) * 2 ^ k ≡ v * 2 ^ suc k
twice v k = let e : v * 2 ^ suc k ≡ v * (2 ^ k * 2) = ap (λ x. v * x) (pow-suc 2 k) in omega (arith, mul_assoc 2 v (2 ^ k), mul_assoc v (2 ^ k) 2)

byte_from-cell : (k v : ℕ) (bs : List Bool) → byte_from k v (numbers bs) ≡ v * 2 ^ k + cell k bs
unfolding byte_from
byte_from-cell zero v bs = omega arith
byte_from-cell (suc k) v [] = byte_from-cell k (2 * v) [] ∙ omega (arith, twice v k, cell_nil k)
byte_from-cell (suc k) v (b ∷ bs) = byte_from-cell k (2 * v + bit b) bs ∙ omega (arith, twice v k, add-mul (2 * v) (bit b) (2 ^ k))

packed_from-fill : (k : ℕ) (bs : List Bool) → packed_from k (numbers bs) ≡ fill 8 k bs
unfolding packed_from
packed_from-fill zero bs = refl
packed_from-fill (suc k) bs =
    ap₂ (λ x l. x ∷ l) (byte_from-cell 8 0 bs ∙ omega arith) (ap (packed_from k) (drop-numbers 8 bs) ∙ packed_from-fill k (drop 8 bs))

-- 03 packs as `pack 8` does
pub packed-pack : (bs : List Bool) → packed (numbers bs) ≡ pack 8 bs
unfolding packed pack
packed-pack bs = ap (λ n. packed_from ((n + 7) / 8) (numbers bs)) (length-numbers bs) ∙ packed_from-fill ((length bs + 7) / 8) bs

byte_bits_of : (k v : ℕ) → byte_bits k v ≡ numbers (bits_of k v)
unfolding byte_bits bits_of
byte_bits_of zero v = refl
byte_bits_of (suc k) v = ap₂ (λ x l. x ∷ l) (sym (bit_parity (v / 2 ^ k))) (byte_bits_of k v)

-- and unpacks as `unpack 8` does
pub unpacked-unpack : (xs : List ℕ) → unpacked xs ≡ numbers (unpack 8 xs)
unfolding unpacked
unpacked-unpack [] = refl
unpacked-unpack (x ∷ xs) = ap₂ (λ a b. a ++ b) (byte_bits_of 8 x) (unpacked-unpack xs) ∙ sym (numbers-append (bits_of 8 x) (unpack 8 xs))

pub handed-held : (xs : List ℕ) (n : ℕ) → handed xs n ≡ numbers (held 8 xs n)
unfolding handed held
handed-held xs n = ap (take n) (unpacked-unpack xs) ∙ take-numbers n (unpack 8 xs)

-- 03's PACKS-BACK, as 03 states it
pub packs_back : PacksBack
unfolding PacksBack
packs_back bs h =
    let cs = bools bs in
    let e : numbers cs ≡ bs = numbers-bools bs h in
    ap (λ l. handed (packed l) (length l)) (sym e) ∙ ap₂ handed (packed-pack cs) (length-numbers cs) ∙ handed-held (pack 8 cs) (length cs)
    ∙ ap numbers (held-pack 8 (omega arith) cs) ∙ e

all_zeros-numbers : (bs : List Bool) → all_zeros (numbers bs) ≡ all_zero bs
unfolding all_zeros
all_zeros-numbers [] = refl
all_zeros-numbers (true ∷ bs) = refl
all_zeros-numbers (false ∷ bs) = all_zeros-numbers bs

-- 03 finds the same codes as handed in good
pub handed_fits-good : (xs : List ℕ) (n : ℕ) → handed_fits xs n ≡ handed_good xs n
unfolding handed_fits handed_good exact
handed_fits-good xs n =
    ap (λ z. (eqb (length xs) ((n + 7) / 8) && leb (length xs) 65536) && z)
    (ap (λ l. all_zeros (drop n l)) (unpacked-unpack xs) ∙ ap all_zeros (drop-numbers n (unpack 8 xs)) ∙ all_zeros-numbers (drop n (unpack 8 xs)))
    ∙ turn (eqb (length xs) ((n + 7) / 8)) (leb (length xs) 65536) (all_zero (drop n (unpack 8 xs)))
  where
    turn : (a b z : Bool) → ((a && b) && z) ≡ (b && (a && z))
    turn true true z = refl
    turn true false z = refl
    turn false true z = refl
    turn false false z = refl

-- 03's bit of a mark word is `test_bit`
pub mark_bit_test : (w l : ℕ) → mark_bit w l ≡ test_bit w l
unfolding mark_bit
mark_bit_test w l = refl

word_from_on : (k l : ℕ) (f : ℕ → Bool) → word_from k l f + word_of l f ≡ word_of (k + l) f
unfolding word_from word_of
word_from_on zero l f = let e : 0 + l ≡ l = omega arith in omega (arith, ap (λ n. word_of n f) e)
word_from_on (suc k) l f =
    let e : k + suc l ≡ suc k + l = omega arith in
    omega (arith, word_from_on k (suc l) f, one (f l), ap (λ n. word_of n f) e)
  where
    one : (v : Bool) → cond v (2 ^ l) 0 ≡ bit v * 2 ^ l
    one true = omega arith
    one false = omega arith

-- and its words are `word_of`
pub word_from_of : (n : ℕ) (f : ℕ → Bool) → word_from n 0 f ≡ word_of n f
unfolding word_of
word_from_of n f = let e : n + 0 ≡ n = omega arith in omega (arith, word_from_on n 0 f, ap (λ i. word_of i f) e)
