-- Bits of numbers, bits in cells, codes as handed in, words of state sets: the definitions that the contracts cite. Assumes nothing.
-- A cell holds a number of w bits, and a byte is a cell of 8. Only the limit of a code's bytes speaks of one width.
use Rattle.std.specs.Prelude.{Bool, true, false, ◌&&◌, not, List, [], ◌∷◌, ◌++◌, ℕ, zero, suc, ◌+◌, ◌-◌, ◌*◌, ◌/◌, ◌%◌, ◌^◌, ◌<◌, eqb, leb, length, take, drop, get_or}

-- ---- bits of a number

abbrev pub bit : Bool → ℕ
bit false = 0
bit true = 1

-- 01: "Bit l (value 2 to the power l)", of the number x
abbrev pub test_bit : (x l : ℕ) → Bool
test_bit x l = eqb (x / 2 ^ l % 2) 1

-- 01: "`R` writes its letter in 8 bits, highest first". A number in n bits; of a number that needs more, the n lowest
unfoldable pub bits_of : (n x : ℕ) → List Bool
bits_of zero x = []
bits_of (suc n) x = test_bit x n ∷ bits_of n x

-- the number that the first w bits write, the highest first; a bit that is missing is 0
abbrev pub cell : (w : ℕ) → List Bool → ℕ
cell zero bs = 0
cell (suc w) [] = 0
cell (suc w) (b ∷ bs) = bit b * 2 ^ w + cell w bs

-- the number that all of the bits write
abbrev pub number_of : List Bool → ℕ
number_of bs = cell (length bs) bs

-- ---- bits in cells

-- 01: "the bytes are exactly enough": how many cells of w bits n bits need
abbrev pub cell_count : (w n : ℕ) → ℕ
cell_count w n = (n + (w - 1)) / w

-- the first k cells of w bits that bits fill
abbrev pub fill : (w k : ℕ) → List Bool → List ℕ
fill w zero bs = []
fill w (suc k) bs = cell w bs ∷ fill w k (drop w bs)

-- 01: "Codes fill bytes from the highest bit", and the bytes are "exactly enough, unused bits 0"
unfoldable pub pack : (w : ℕ) → List Bool → List ℕ
pack w bs = fill w (cell_count w (length bs)) bs

-- all bits of cells of w bits, the highest of each cell first
abbrev pub unpack : (w : ℕ) → List ℕ → List Bool
unpack w [] = []
unpack w (x ∷ xs) = bits_of w x ++ unpack w xs

-- bit i of cells of w bits, counted from the highest bit of the first cell; past the cells 0
unfoldable pub bit_at : (w : ℕ) → List ℕ → (i : ℕ) → Bool
bit_at w xs i = test_bit (get_or xs (i / w) 0) (w - 1 - i % w)

-- the number that n bits from bit i on write
unfoldable pub number_at : (w : ℕ) → List ℕ → (i n : ℕ) → ℕ
number_at w xs i n = number_of (take n (drop i (unpack w xs)))

-- every cell holds a number of w bits
abbrev pub Small : (w : ℕ) → List ℕ → Type 0
Small w xs = (k : ℕ) → get_or xs k 0 < 2 ^ w

-- ---- writing

-- 01: "Buffer cells past the written ones never change": what is written, and behind it what the buffer had there
unfoldable pub in_front : {A : Type 0} → (new old : List A) → List A
in_front new old = new ++ drop (length new) old

-- The bits cs written from bit i on. The bits before i stand, the rest of the last cell that is touched is 0, the cells behind it stand;
-- writing nothing changes nothing. So what is written bit after bit has its unused bits 0, whatever the buffer held before.
unfoldable pub write : (w : ℕ) → (buffer : List ℕ) → (i : ℕ) → (cs : List Bool) → List ℕ
write w xs i [] = xs
write w xs i (c ∷ cs) = in_front (pack w (take i (unpack w xs) ++ (c ∷ cs))) xs

-- the r highest of the w bits of a number, the others 0: what a cell keeps where bits are written from its bit r on
unfoldable pub high_bits : (w r x : ℕ) → ℕ
high_bits w r x = x / 2 ^ (w - r) * 2 ^ (w - r)

-- ---- a code as handed in: bytes and a bit count

-- the bits that are handed in
unfoldable pub held : (w : ℕ) → (cells : List ℕ) → (count : ℕ) → List Bool
held w xs n = take n (unpack w xs)

-- those of them that are left to read from bit i on
unfoldable pub unread : (w : ℕ) → (cells : List ℕ) → (count i : ℕ) → List Bool
unread w xs n i = drop i (held w xs n)

abbrev pub all_zero : List Bool → Bool
all_zero [] = true
all_zero (b ∷ bs) = not b && all_zero bs

-- 01: "the bytes are exactly enough, unused bits 0", for cells of w bits
unfoldable pub exact : (w : ℕ) → (cells : List ℕ) → (count : ℕ) → Bool
exact w xs n = eqb (length xs) (cell_count w n) && all_zero (drop n (unpack w xs))

-- 01: "at most 65,536 bytes"; in code `Pattern::MAX_CODE_BYTES`
abbrev pub byte_limit : ℕ
byte_limit = 65536

-- 01: "A code is given as bytes and a bit count; the bytes are exactly enough, unused bits 0, at most 65,536 bytes."
-- Whether the bits are a code of a pattern is not said here.
unfoldable pub handed_good : (bytes : List ℕ) → (count : ℕ) → Bool
handed_good xs n = leb (length xs) byte_limit && exact 8 xs n

-- ---- words of state sets (01: marks)

-- 01: "Bits past the last node are 0": the word whose bit l is f l for every l below n, and 0 from n on
unfoldable pub word_of : (n : ℕ) → (f : ℕ → Bool) → ℕ
word_of zero f = 0
word_of (suc n) f = bit (f n) * 2 ^ n + word_of n f

-- how many l below n have f l
unfoldable pub count_below : (n : ℕ) → (f : ℕ → Bool) → ℕ
count_below zero f = 0
count_below (suc n) f = bit (f n) + count_below n f
