-- Hexadecimal digits, one law for each way of the code.
use Rattle.std.specs.Prelude.{◌≡◌, refl, Option, Some, None, List, [], ◌∷◌, ◌++◌, ℕ, ◌+◌, ◌*◌, ◌/◌, ◌≤◌, ◌<◌, length, drop, get_or}
use Rattle.std.proofs.Common.{sym, ap, ◌∙◌, arith, length-drop, drop-drop}
use Rattle.text.specs.Putting.{drop_next}
use Rattle.vector_text.specs.Cases.{hex_pair, while_some, hex_bytes}

-- what the first two digits write, nothing where they write no byte
abbrev pub first_pair : List ℕ → Option ℕ
first_pair [] = None
first_pair (h ∷ []) = None
first_pair (h ∷ l ∷ cs) = hex_pair h l

-- Pair n of the digits.
pub pair_none : (n : ℕ) (cs : List ℕ) → length cs / 2 ≤ n → first_pair (drop (2 * n) cs) ≡ None
pair_none n cs h = short (drop (2 * n) cs) (omega (arith, length-drop (2 * n) cs)) where
  short : (xs : List ℕ) → length xs ≤ 1 → first_pair xs ≡ None
  short [] h = refl
  short (x ∷ []) h = refl
  short (x ∷ y ∷ xs) h = absurd (omega arith)

bytes_stop : (xs : List ℕ) → None ≡ first_pair xs → hex_bytes xs ≡ []
bytes_stop [] e = refl
bytes_stop (x ∷ []) e = refl
bytes_stop (x ∷ y ∷ xs) e = ap (λ b. while_some b (hex_bytes xs)) (sym e)

bytes_next : (xs : List ℕ) (b : ℕ) → Some b ≡ first_pair xs → hex_bytes xs ≡ b ∷ hex_bytes (drop 2 xs)
bytes_next [] b e = absurd (let z : ◌≡◌ {A = Option ℕ} (Some b) None = e in cc)
bytes_next (x ∷ []) b e = absurd (let z : ◌≡◌ {A = Option ℕ} (Some b) None = e in cc)
bytes_next (x ∷ y ∷ xs) b e = ap (λ p. while_some p (hex_bytes xs)) (sym e)

pub decode_stop : (n : ℕ) (cs : List ℕ) → None ≡ first_pair (drop (2 * n) cs) → hex_bytes (drop (2 * n) cs) ≡ []
decode_stop n cs e = bytes_stop (drop (2 * n) cs) e

pub decode_next : (n b : ℕ) (cs : List ℕ) → Some b ≡ first_pair (drop (2 * n) cs)
    → hex_bytes (drop (2 * n) cs) ≡ (b ∷ []) ++ hex_bytes (drop (2 * (n + 1)) cs)
decode_next n b cs e =
    let m : 2 * n + 2 ≡ 2 * (n + 1) = omega arith in
    bytes_next (drop (2 * n) cs) b e ∙ ap (λ xs. b ∷ hex_bytes xs) (drop-drop 2 (2 * n) cs ∙ ap (λ k. drop k cs) m)
