-- The digits of numbers: as the code makes them, how many there are, and that they write the number.
use Rattle.std.specs.Prelude.{◌≡◌, refl, Bool, true, false, List, [], ◌∷◌, ◌++◌, ℕ, zero, suc, ◌+◌, ◌*◌, ◌-◌, ◌/◌, ◌%◌, ◌^◌, ◌≤◌, ◌<◌, ltb, length}
use Rattle.std.proofs.Common.{sym, ap, ◌∙◌, arith, lt-ltb, le-ltb, ltb-true, ltb-false, length-append}
use Rattle.text.specs.Text.{digits, decimal, hex_digit}

digits_small : (k n : ℕ) → n < 10 → digits (suc k) n ≡ (48 + n) ∷ []
unfolding digits
digits_small k n h = rw (lt-ltb n 10 h)

digits_large : (k n : ℕ) → 10 ≤ n → digits (suc k) n ≡ digits k (n / 10) ++ ((48 + n % 10) ∷ [])
unfolding digits
digits_large k n h = rw (le-ltb n 10 h)

-- any number of places above the number gives the same
digits_enough : (k j n : ℕ) → n < k → n < j → digits k n ≡ digits j n
digits_enough zero j n h g = absurd (omega arith)
digits_enough (suc k) zero n h g = absurd (omega arith)
digits_enough (suc k) (suc j) n h g = go (ltb n 10) refl (λ l. digits_enough k j (n / 10) (omega arith) (omega arith))
  where
    go : (b : Bool) → ltb n 10 ≡ b → (10 ≤ n → digits k (n / 10) ≡ digits j (n / 10)) → digits (suc k) n ≡ digits (suc j) n
    go true e ih = digits_small k n (ltb-true n 10 e) ∙ sym (digits_small j n (ltb-true n 10 e))
    go false e ih =
        let l : 10 ≤ n = ltb-false n 10 e in
        digits_large k n l ∙ ap (λ ds. ds ++ ((48 + n % 10) ∷ [])) (ih l) ∙ sym (digits_large j n l)

decimal_small : (n : ℕ) → n < 10 → decimal n ≡ (48 + n) ∷ []
unfolding decimal
decimal_small n h = digits_small n n h

decimal_large : (n : ℕ) → 10 ≤ n → decimal n ≡ decimal (n / 10) ++ ((48 + n % 10) ∷ [])
unfolding decimal
decimal_large n h = digits_large n n h ∙ ap (λ ds. ds ++ ((48 + n % 10) ∷ [])) (digits_enough n (suc (n / 10)) (n / 10) (omega arith) (omega arith))

-- a number below 10 to the power k + 1 has at most k + 1 digits
pub decimal_few : (k n : ℕ) → n < 10 * 10 ^ k → length (decimal n) ≤ suc k
decimal_few zero n h = rw (decimal_small n (omega arith)) (omega arith)
decimal_few (suc k) n h = go (ltb n 10) refl (decimal_few k (n / 10) (omega arith))
  where
    go : (b : Bool) → ltb n 10 ≡ b → length (decimal (n / 10)) ≤ suc k → length (decimal n) ≤ suc (suc k)
    go true e f = rw (decimal_small n (ltb-true n 10 e)) (omega arith)
    go false e f = rw (decimal_large n (ltb-false n 10 e), length-append) (omega arith)

-- ── the digits write the number ──
abbrev pub number_from : (so_far : ℕ) → List ℕ → ℕ
number_from k [] = k
number_from k (d ∷ ds) = number_from (10 * k + (d - 48)) ds

number_last : (k : ℕ) (ds : List ℕ) (d : ℕ) → number_from k (ds ++ (d ∷ [])) ≡ 10 * number_from k ds + (d - 48)
number_last k [] d = refl
number_last k (e ∷ ds) d = number_last (10 * k + (e - 48)) ds d

digits-write : (k n : ℕ) → n < k → number_from 0 (digits k n) ≡ n
digits-write zero n h = absurd (omega arith)
digits-write (suc k) n h = go (ltb n 10) refl (λ l. digits-write k (n / 10) (omega arith))
  where
    go : (b : Bool) → ltb n 10 ≡ b → (10 ≤ n → number_from 0 (digits k (n / 10)) ≡ n / 10) → number_from 0 (digits (suc k) n) ≡ n
    go true e ih = rw (digits_small k n (ltb-true n 10 e)) (omega arith)
    go false e ih =
        let l : 10 ≤ n = ltb-false n 10 e in
        let i : number_from 0 (digits k (n / 10)) ≡ n / 10 = ih l in
        rw (digits_large k n l, number_last 0 (digits k (n / 10)) (48 + n % 10)) (omega arith)

pub decimal_writes : (n : ℕ) → number_from 0 (decimal n) ≡ n
unfolding decimal
decimal_writes n = digits-write (suc n) n (omega arith)

-- ── as the code makes them ──
pub last_small : (n x : ℕ) → x ≡ 48 + n % 10 → n < 10 → x ∷ [] ≡ decimal n
last_small n x e h =
    let k : x ≡ 48 + n = omega arith in
    ap (λ d. d ∷ []) k ∙ sym (decimal_small n h)

pub last_large : (n x : ℕ) → x ≡ 48 + n % 10 → 10 ≤ n → decimal (n / 10) ++ (x ∷ []) ≡ decimal n
last_large n x e h = ap (λ d. decimal (n / 10) ++ (d ∷ [])) e ∙ sym (decimal_large n h)

-- ── hexadecimal digits ──
pub hex_low : (d : ℕ) → d < 10 → 48 + d ≡ hex_digit d
unfolding hex_digit
hex_low d h = rw (lt-ltb d 10 h)

pub hex_high : (d : ℕ) → 10 ≤ d → 87 + d ≡ hex_digit d
unfolding hex_digit
hex_high d h = rw (le-ltb d 10 h)
