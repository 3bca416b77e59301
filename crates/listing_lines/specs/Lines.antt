-- Laws of the lines of a listing: as the code puts them, and how long they can be.
use Rattle.std.specs.Prelude.{◌≡◌, refl, Bool, true, false, cond, List, [], ◌∷◌, ◌++◌, eqb, length, drop, get_or, replicate}
use Rattle.std.proofs.Common.{sym, ◌∙◌, add-one, eq-eqb, ne_eqb, length-append}
use Rattle.std.proofs.Math.Path.{ap, ap₂}
use Prim.Native.Nat.{ℕ, zero, suc, ◌+◌, ◌*◌, ◌-◌, ◌≤◌, ◌<◌, min}
use native.Mathlib.Omega.{arith}
use Rattle.std.proofs.lemmas.List.Edits.{sets}
use Rattle.syntax.specs.Table.{account_limit}
use Rattle.bits.specs.Bits.{bit, test_bit, count_below}
use Rattle.text.specs.Text.{Puts, hex, entry, line}
use Rattle.text.specs.Putting.{puts_as, puts_then, drop_next, drop_done}
use Rattle.text.specs.Lengths.{Short, entry_length, line-length, hex-length}
use Rattle.listing_lines.specs.LineBytes.{tape_word, tape_line, account_word, open_word, account_line, account_lines, open_lines}

-- ── the first line ──
pub tape_done : (out : List ℕ) (at n m : ℕ) (code : List ℕ) (a b : ℕ) (mid : List ℕ) (r : ℕ) (after : List ℕ) (s : ℕ)
    → Puts out at (entry tape_word a b) mid r → a ≡ n → b ≡ m → Puts mid r ((9 ∷ []) ++ (hex code ++ (10 ∷ []))) after s
    → Puts out at (tape_line n m code) after s
unfolding tape_line
tape_done out at n m code a b mid r after s p ea eb q =
    puts_then out at _ mid r _ after s (puts_as out at _ _ mid r (ap₂ (entry tape_word) ea eb) p) q

pub tape-length : (n m : ℕ) (code : List ℕ) → Short n → Short m → length (tape_line n m code) ≤ 28 + 2 * length code
unfolding tape_line
tape-length n m code hn hm = simp length-append (omega (arith, entry_length tape_word n m hn hm, hex-length code))

-- ── accounts ──
account_none : (a n : ℕ) → n ≡ 0 → account_line a n ≡ []
unfolding account_line
account_none a n e = rw (eq-eqb n 0 e)

-- nothing is put, and the answer lies within the buffer
pub account-nothing : (out : List ℕ) (at a n r : ℕ) → n ≡ 0 → r ≡ min at (length out) → Puts out at (account_line a n) out r
account-nothing out at a n r z e = record {
  leaves = sym (ap (sets out at) (account_none a n z));
  ends = omega (arith, e, ap length (account_none a n z));
}

account-some : (a n : ℕ) → (n ≡ 0 → ⊥) → line account_word a n ≡ account_line a n
unfolding account_line
account-some a n e = sym (rw (ne_eqb n 0 e))

pub account_done : (out : List ℕ) (at a n x y : ℕ) (after : List ℕ) (r : ℕ) → (n ≡ 0 → ⊥) → Puts out at (line account_word x y) after r
    → x ≡ a → y ≡ n → Puts out at (account_line a n) after r
account_done out at a n x y after r h p ex ey = puts_as out at _ _ after r (ap₂ (line account_word) ex ey ∙ account-some a n h) p

module _ (i : ℕ) (xs : List ℕ) where
  pub accounts_turn : i < length xs
      → account_lines i (drop i xs) ≡ account_line i (get_or xs i 0) ++ account_lines (i + 1) (drop (i + 1) xs)
  unfolding account_lines
  accounts_turn l =
      ap (account_lines i) (drop_next i xs l)
      ∙ ap (λ k. account_line i (get_or xs i 0) ++ account_lines k (drop (i + 1) xs)) (sym (add-one i))

  pub accounts_over : length xs ≤ i → account_lines i (drop i xs) ≡ []
  unfolding account_lines
  accounts_over l = ap (account_lines i) (drop_done i xs l)

-- accounts without litres behind the others change nothing
none_listed : (m a : ℕ) → account_lines a (replicate m 0) ≡ []
unfolding account_lines account_line
none_listed zero a = refl
none_listed (suc m) a = none_listed m (suc a)

pub zeros_behind : (m a : ℕ) (xs : List ℕ) → account_lines a (xs ++ replicate m 0) ≡ account_lines a xs
unfolding account_lines
zeros_behind m a [] = none_listed m a
zeros_behind m a (x ∷ xs) = ap (λ l. account_line a x ++ l) (zeros_behind m (suc a) xs)

-- no line of an account is longer: its word, two tabs, two numbers of ten digits at most and byte 10
abbrev pub account_line_limit : ℕ
account_line_limit = 30

account-length : (a n : ℕ) → Short a → Short n → length (account_line a n) ≤ account_line_limit
unfolding account_line
account-length a n ha hn = go (eqb n 0)
  where
    go : (b : Bool) → length (cond b [] (line account_word a n)) ≤ account_line_limit
    go true = omega arith
    go false = omega (arith, line-length account_word a n ha hn)

accounts-each : (i : ℕ) (xs : List ℕ) → i + length xs ≤ 4294967296 → ((k : ℕ) → Short (get_or xs k 0))
    → length (account_lines i xs) ≤ account_line_limit * length xs
unfolding account_lines
accounts-each i [] h f = omega arith
accounts-each i (x ∷ xs) h f = simp length-append
    (omega (arith, account-length i x (omega arith) (f 0), accounts-each (suc i) xs (omega arith) (λ k. f (suc k))))

pub accounts-length : (xs : List ℕ) → length xs ≤ account_limit + 1 → ((k : ℕ) → Short (get_or xs k 0))
    → length (account_lines 0 xs) ≤ account_line_limit * length xs
accounts-length xs h f = accounts-each 0 xs (omega arith) f

-- ── open nodes: position i of n, whose word's ones are counted ──
module _ (ws : List ℕ) (n : ℕ) where
  pub open_all : open_lines ws 0 (n - 0) ≡ open_lines ws 0 n
  open_all =
      let e : n - 0 ≡ n = omega arith in
      ap (open_lines ws 0) e

  pub open_turn : (i ones : ℕ) → i < n → ones ≡ count_below 64 (test_bit (get_or ws (2 * i + 1) 0))
      → open_lines ws i (n - i) ≡ line open_word i ones ++ open_lines ws (i + 1) (n - (i + 1))
  unfolding open_lines
  open_turn i ones l e =
      let k : n - i ≡ suc (n - (i + 1)) = omega arith in
      let j : suc i ≡ i + 1 = omega arith in
      ap (open_lines ws i) k ∙ ap₂ (λ o h. line open_word i o ++ open_lines ws h (n - (i + 1))) (sym e) j

  pub open_over : (i : ℕ) → n ≤ i → open_lines ws i (n - i) ≡ []
  unfolding open_lines
  open_over i l =
      let e : n - i ≡ 0 = omega arith in
      ap (open_lines ws i) e

count_few : (n : ℕ) (f : ℕ → Bool) → count_below n f ≤ n
unfolding count_below
count_few zero f = omega arith
count_few (suc n) f = omega (arith, one (f n), count_few n f)
  where
    one : (b : Bool) → bit b ≤ 1
    one true = omega arith
    one false = omega arith

pub open_length : (ws : List ℕ) (i n : ℕ) → i + n ≤ 4294967296 → length (open_lines ws i n) ≤ 27 * n
unfolding open_lines
open_length ws i zero h = omega arith
open_length ws i (suc n) h =
    let f = test_bit (get_or ws (2 * i + 1) 0) in
    let c : count_below 64 f < 4294967296 = omega (arith, count_few 64 f) in
    simp length-append
    (omega (arith, line-length open_word i (count_below 64 f) (omega arith) c, open_length ws (suc i) n (omega arith)))
