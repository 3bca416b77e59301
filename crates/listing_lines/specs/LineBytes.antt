-- WHAT MUST BE BELIEVED: the bytes of each line of a listing. Definitions only.
use Rattle.std.specs.Prelude.{cond, List, [], ◌∷◌, ◌++◌, ℕ, zero, suc, ◌+◌, ◌*◌, eqb, get_or}
use Rattle.text.specs.Text.{hex, entry, line}
use Rattle.bits.specs.Bits.{test_bit, count_below}

-- the words that begin lines: `tape`, `account`, `open`; crate text has `refused`, and numbers, hexadecimal digits and fields
abbrev pub tape_word : List ℕ
tape_word = 116 ∷ 97 ∷ 112 ∷ 101 ∷ []

abbrev pub account_word : List ℕ
account_word = 97 ∷ 99 ∷ 99 ∷ 111 ∷ 117 ∷ 110 ∷ 116 ∷ []

abbrev pub open_word : List ℕ
open_word = 111 ∷ 112 ∷ 101 ∷ 110 ∷ []

-- ---- lines: "tab-parted", each ended by byte 10

-- 01: "First line: letters, bits, code in hexadecimal (an empty field for a code of 0 bits)."
unfoldable pub tape_line : (letters bits : ℕ) → (code : List ℕ) → List ℕ
tape_line n m code = entry tape_word n m ++ ((9 ∷ []) ++ (hex code ++ (10 ∷ [])))

-- a line for one account, none for 0 litres
unfoldable pub account_line : (account litres : ℕ) → List ℕ
account_line a n = cond (eqb n 0) [] (line account_word a n)

-- 01: "Then each account with litres above 0, rising": the totals of the accounts from this one on
unfoldable pub account_lines : (account : ℕ) → (totals : List ℕ) → List ℕ
account_lines a [] = []
account_lines a (n ∷ ns) = account_line a n ++ account_lines (suc a) ns

-- 01: "then each position with the count of ones in its flag 1 word": so many positions from this one on
unfoldable pub open_lines : (words : List ℕ) → (position count : ℕ) → List ℕ
open_lines words i zero = []
open_lines words i (suc n) = line open_word i (count_below 64 (test_bit (get_or words (2 * i + 1) 0))) ++ open_lines words (suc i) n
