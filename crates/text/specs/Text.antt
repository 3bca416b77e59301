-- WHAT MUST BE BELIEVED: numbers, bytes and refusals as text, and text put into a buffer. Definitions only.
use Rattle.std.specs.Prelude.{◌≡◌, cond, List, [], ◌∷◌, ◌++◌, ℕ, zero, suc, ◌+◌, ◌/◌, ◌%◌, min, ltb, length}
use Rattle.std.proofs.lemmas.List.Edits.{sets}
use Rattle.refusals.specs.Refusals.{Answer}

-- ---- text put into a buffer

-- Bytes put into a buffer from `at` on: what does not fit is left out. Answered is where they end, at most `most`.
pub record PutsTo (most : ℕ) (out : List ℕ) (at : ℕ) (bytes after : List ℕ) (r : ℕ) : Type 0 where
  pub leaves : after ≡ sets out at bytes
  pub ends : r ≡ min (at + length bytes) most

-- the same with the buffer's own length as the most
abbrev pub Puts : (out : List ℕ) → (at : ℕ) → (bytes after : List ℕ) → (r : ℕ) → Type 0
Puts out at bytes after r = PutsTo (length out) out at bytes after r

-- ---- numbers and bytes

-- a number's decimal digits, the highest first, none leading but for 0 itself; at most so many places
unfoldable pub digits : (places n : ℕ) → List ℕ
digits zero n = []
digits (suc k) n = cond (ltb n 10) ((48 + n) ∷ []) (digits k (n / 10) ++ ((48 + n % 10) ∷ []))

-- a number needs at most as many places as it counts, and one; `decimal_writes` reads them back
unfoldable pub decimal : (n : ℕ) → List ℕ
decimal n = digits (suc n) n

-- hexadecimal digits are 0 to 9 and a to f
unfoldable pub hex_digit : ℕ → ℕ
hex_digit d = cond (ltb d 10) (48 + d) (87 + d)

unfoldable pub hex_byte : ℕ → List ℕ
hex_byte b = hex_digit (b / 16) ∷ hex_digit (b % 16) ∷ []

unfoldable pub hex : List ℕ → List ℕ
hex [] = []
hex (b ∷ bs) = hex_byte b ++ hex bs

-- ---- fields and lines

-- a number behind the byte that parts it from what stands before it
abbrev pub parted : (by n : ℕ) → List ℕ
parted by n = by ∷ decimal n

-- a tab and a number
abbrev pub field : (n : ℕ) → List ℕ
field n = parted 9 n

-- two numbers, parted by a tab
abbrev pub pair : (a b : ℕ) → List ℕ
pair a b = decimal a ++ field b

-- a word and two numbers
unfoldable pub entry : (word : List ℕ) → (a b : ℕ) → List ℕ
entry word a b = word ++ (field a ++ field b)

-- byte 10 ends a line
unfoldable pub line : (word : List ℕ) → (a b : ℕ) → List ℕ
line word a b = entry word a b ++ (10 ∷ [])

-- ---- refusals

-- `refused`
abbrev pub refused_word : List ℕ
refused_word = 114 ∷ 101 ∷ 102 ∷ 117 ∷ 115 ∷ 101 ∷ 100 ∷ []

-- 01: "A refusal prints `refused`, number and returned number, tab-parted, and no more."
unfoldable pub refused_line : Answer → List ℕ
refused_line a = line refused_word a.number a.value
