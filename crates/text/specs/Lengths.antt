-- How long text can be, for numbers of 32 bits, which have at most ten digits.
use Rattle.std.specs.Prelude.{◌≡◌, refl, List, [], ◌∷◌, ℕ, ◌+◌, ◌*◌, ◌≤◌, ◌<◌, length}
use Rattle.std.proofs.Common.{arith, length-append}
use Rattle.refusals.specs.Refusals.{answer}
use Rattle.text.specs.Text.{hex_byte, hex, field, entry, line, refused_word, refused_line}
use Rattle.text.specs.Digits.{decimal_few}

abbrev pub Short : ℕ → Type 0
Short n = n < 4294967296

field-length : (n : ℕ) → Short n → length (field n) ≤ 11
field-length n h = omega (arith, decimal_few 9 n (omega arith))

pub entry_length : (word : List ℕ) (a b : ℕ) → Short a → Short b → length (entry word a b) ≤ length word + 22
unfolding entry
entry_length word a b ha hb = simp length-append (omega (arith, field-length a ha, field-length b hb))

pub line-length : (word : List ℕ) (a b : ℕ) → Short a → Short b → length (line word a b) ≤ length word + 23
unfolding line
line-length word a b ha hb = simp length-append (omega (arith, entry_length word a b ha hb))

pub refused-length : (a b : ℕ) → Short a → Short b → length (refused_line (answer a b)) ≤ 30
unfolding refused_line
refused-length a b ha hb = line-length refused_word a b ha hb

pub hex-length : (bs : List ℕ) → length (hex bs) ≡ 2 * length bs
unfolding hex hex_byte
hex-length [] = refl
hex-length (b ∷ bs) = omega (arith, hex-length bs)
