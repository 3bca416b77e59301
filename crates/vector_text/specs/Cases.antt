-- Cases as text: what is read from a case's line, digests, and the lines of the input. Definitions only.
use Rattle.std.specs.Prelude.{◌≡◌, Option, Some, None, Bool, true, false, ◌&&◌, cond, List, [], ◌∷◌, ◌++◌, ℕ, ◌+◌, ◌-◌, ◌*◌, ◌/◌, ◌%◌, ◌≤◌, min, eqb, leb, length, take, drop, fold}
use Rattle.text.specs.Text.{PutsTo, hex, parted, field}
use Rattle.vector_text.specs.declared.lines.Input.{Input}
use Rattle.vector_text.specs.declared.lines.Step.{Step}
use Rattle.vector_text.specs.declared.lines.Step.TheVariants.{Within, Complete, Ended}

-- the cells from `from` to before `to`, as far as there are any
abbrev pub part : {A : Type 0} → (from to : ℕ) → List A → List A
part from to xs = take (to - from) (drop from xs)

-- the value of a hexadecimal digit in lower case, none for any other byte
abbrev pub hex_value : ℕ → Option ℕ
hex_value c = cond (leb 48 c && leb c 57) (Some (c - 48)) (cond (leb 97 c && leb c 102) (Some (c - 87)) None)

-- the byte that two digits of these values write, none where one is no digit
abbrev pub byte_of : (high low : Option ℕ) → Option ℕ
byte_of (Some h) (Some l) = Some (16 * h + l)
byte_of (Some h) None = None
byte_of None low = None

-- what two hexadecimal digits write, nothing where one is none
abbrev pub hex_pair : (high low : ℕ) → Option ℕ
hex_pair h l = byte_of (hex_value h) (hex_value l)

-- a byte before others, none of them where there is none
abbrev pub while_some : Option ℕ → List ℕ → List ℕ
while_some (Some b) bs = b ∷ bs
while_some None bs = []

-- the bytes that pairs of hexadecimal digits write, up to the first pair that writes none
abbrev pub hex_bytes : List ℕ → List ℕ
hex_bytes [] = []
hex_bytes (h ∷ []) = []
hex_bytes (h ∷ l ∷ cs) = while_some (hex_pair h l) (hex_bytes cs)

-- a number with one decimal digit more; other bytes are left out
abbrev pub appended : (n c : ℕ) → ℕ
appended n c = cond (leb 48 c && leb c 57) (10 * n + (c - 48)) n

abbrev pub decimal_from : (n : ℕ) → List ℕ → ℕ
decimal_from n [] = n
decimal_from n (c ∷ cs) = decimal_from (appended n c) cs

-- the greatest number of 32 bits stands for every number above it too
abbrev pub most_number : ℕ
most_number = 4294967295

unfoldable pub number_of_text : List ℕ → ℕ
number_of_text cs = min (decimal_from 0 cs) most_number

-- Digests: each value below 2^32 in turn is added to the digest before it, multiplied by 65,599, modulo the largest
-- prime below 2^32.
unfoldable pub digest_step : (digest value : ℕ) → ℕ
digest_step d v = (d % 4294967291 * 65599 + v % 4294967296) % 4294967291

-- cells are taken in one after the other, each by `add`
abbrev pub digest_by : {A : Type 0} → (add : ℕ → A → ℕ) → (digest : ℕ) → List A → ℕ
digest_by add d xs = fold add d xs

abbrev pub bytes_digest : (digest : ℕ) → List ℕ → ℕ
bytes_digest = digest_by digest_step

-- a tab and the first cells: up to 64 whole, more as # and a digest that starts from 1
unfoldable pub shown_text : (count : ℕ) → List ℕ → List ℕ
shown_text n xs = 9 ∷ cond (leb n 64) (hex (part 0 n xs)) (parted 35 (bytes_digest 1 (part 0 n xs)))

-- a word counts as two halves, the low one first
abbrev pub word_step : (digest word : ℕ) → ℕ
word_step d w = digest_step (digest_step d w) (w / 4294967296)

abbrev pub words_digest : (digest : ℕ) → List ℕ → ℕ
words_digest = digest_by word_step

-- what a call leaves: a digest of the words lent, the code bytes lent, and one digest of all cells past those lent, which goes on from `digest`
abbrev pub left_text : (digest : ℕ) → (words : List ℕ) → (lent : ℕ) → (code : List ℕ) → (bytes : ℕ) → List ℕ
left_text d words lent code bytes =
    field (words_digest 1 (part 0 lent words))
    ++ shown_text bytes code
    ++ field (bytes_digest (words_digest d (part lent (length words) words)) (part bytes (length code) code))

-- numbers, the first of which is number i of a list: a tab stands before the first one, commas before the others
abbrev pub numbers_text : (i : ℕ) → List ℕ → List ℕ
numbers_text i [] = []
numbers_text i (n ∷ ns) = parted (cond (eqb i 0) 9 44) n ++ numbers_text (i + 1) ns

-- what stands before the first byte `stop`, and whether there is one
abbrev pub before_byte : (stop : ℕ) → List ℕ → List ℕ
before_byte stop [] = []
before_byte stop (c ∷ cs) = cond (eqb c stop) [] (c ∷ before_byte stop cs)

abbrev pub has_byte : (stop : ℕ) → List ℕ → Bool
has_byte stop [] = false
has_byte stop (c ∷ cs) = cond (eqb c stop) true (has_byte stop cs)

-- what stands behind it, nothing where there is none
abbrev pub behind_byte : (stop : ℕ) → List ℕ → List ℕ
behind_byte stop [] = []
behind_byte stop (c ∷ cs) = cond (eqb c stop) cs (behind_byte stop cs)

-- Lines: the input comes in chunks, and `line` holds the first bytes of the line that is being read. A size one above
-- the line's length marks a line that does not fit.
abbrev pub most_held : (line : List ℕ) → ℕ
most_held line = length line + 1

-- nothing is read yet
abbrev pub before_input : Input
before_input = record { from = 0; to = 0; size = 0; step = Within }

-- a line that was complete is no longer held
abbrev pub kept_of : Step → (size : ℕ) → ℕ
kept_of Within n = n
kept_of Complete n = 0
kept_of Ended n = n

abbrev pub kept_size : Input → ℕ
kept_size i = kept_of i.step i.size

abbrev pub chunk_left : Input → (chunk : List ℕ) → List ℕ
chunk_left i chunk = part i.from i.to chunk

-- The bytes of the chunk up to the next byte 10 are held; byte 10 itself is passed.
pub record Holds (line chunk : List ℕ) (i : Input) (after : List ℕ) (r : Input) : Type 0 where
  pub held : PutsTo (most_held line) line (kept_size i) (before_byte 10 (chunk_left i chunk)) after r.size
  pub completes : r.step ≡ cond (has_byte 10 (chunk_left i chunk)) Complete Within
  pub passes : r.from ≡ i.from + length (before_byte 10 (chunk_left i chunk)) + cond (has_byte 10 (chunk_left i chunk)) 1 0
  pub same_end : r.to ≡ i.to

-- A new chunk, of whose bytes nothing can be said; the input has ended where it has none.
pub record Refills (chunk : List ℕ) (i r : Input) : Type 0 where
  pub keeps : r.size ≡ kept_size i
  pub starts : r.from ≡ 0
  pub lies : r.to ≤ length chunk
  pub says_end : r.step ≡ cond (eqb r.to 0) Ended Within
