-- Laws of the account that a field writes, and of the way it is read: digit by digit. No law here cites a case of AccountCases; naming the file
-- has its cases checked first.
use Rattle.std.specs.Prelude.{◌≡◌, refl, Bool, true, false, ◌&&◌, cond, List, [], ◌∷◌, ℕ, ◌+◌, ◌*◌, ◌-◌, ◌≤◌, ◌<◌, ltb, leb, length, get_or, None, Some, option_and_then}
use Rattle.std.proofs.Common.{◌∙◌, arith}
use borrow.Author.Tests.{eq-eqb, ne_eqb, lt-ltb, le-leb, lt-leb, leb-true, leb-false}
use Rattle.syntax.specs.Table.{account_limit}
use Rattle.fields.specs.Text.{digit, all_digits, decimal, no_account, account_number, account, when}
use Rattle.fields.specs.AccountCases as cases
use Rattle.fields.specs.Fields.{below, longer, number}

pub digit_is : (b : ℕ) → 48 ≤ b → b ≤ 57 → digit b ≡ b - 48
unfolding digit
digit_is b h k = rw (le-leb 48 b h, le-leb b 57 k)

-- a byte with a digit's value from 1 on is `1` to `9`
digit_bytes : (b : ℕ) → 1 ≤ digit b → digit b < 10 → (49 ≤ b) × (b ≤ 57)
unfolding digit
digit_bytes b l u = go (leb 48 b) refl (leb b 57) refl l u
  where
    go : (x : Bool) → leb 48 b ≡ x → (y : Bool) → leb b 57 ≡ y → 1 ≤ cond (x && y) (b - 48) 10 → cond (x && y) (b - 48) 10 < 10 → (49 ≤ b) × (b ≤ 57)
    go true p true q l u = (omega arith, leb-true b 57 q)
    go true p false q l u = absurd (omega arith)
    go false p y q l u = absurd (omega arith)

-- more digits never make a number smaller
pub decimal_grows : (n : ℕ) (bs : List ℕ) → n ≤ decimal n bs
unfolding decimal
decimal_grows n [] = omega arith
decimal_grows n (b ∷ bs) = omega (arith, decimal_grows (10 * n + digit b) bs)

-- ── no account ──
-- the first byte is no digit from 1 to 9, or the number is too great
number_none : (a : ℕ) (more : List ℕ) → (49 ≤ a → a ≤ 57 → account_limit < decimal (digit a) more) → account_number a more ≡ no_account
unfolding account_number
number_none a more h = go (leb 49 a) refl (leb a 57) refl (all_digits more)
  where
    go : (x : Bool) → leb 49 a ≡ x → (y : Bool) → leb a 57 ≡ y → (z : Bool)
        → cond ((x && y) && (z && leb (decimal (digit a) more) account_limit)) (decimal (digit a) more) no_account ≡ no_account
    go true p true q true = rw (lt-leb (decimal (digit a) more) account_limit (h (leb-true 49 a p) (leb-true a 57 q)))
    go true p true q false = refl
    go true p false q z = refl
    go false p y q z = refl

-- 02, Job 7: "one to three digits"
pub account_long : (field : List ℕ) → 4 ≤ length field → account field ≡ no_account
unfolding account decimal
account_long [] h = absurd (omega arith)
account_long (a ∷ []) h = absurd (omega arith)
account_long (a ∷ b ∷ []) h = absurd (omega arith)
account_long (a ∷ b ∷ c ∷ []) h = absurd (omega arith)
account_long (a ∷ b ∷ c ∷ d ∷ more) h =
    number_none a (b ∷ c ∷ d ∷ more)
    (λ l u. omega (arith, digit_is a (omega arith) u, decimal_grows (10 * (10 * (10 * digit a + digit b) + digit c) + digit d) more))

-- ── a field of one byte ──
pub byte_dash : (b : ℕ) → b ≡ 45 → 0 ≡ account (b ∷ [])
unfolding account
byte_dash b e = rw (eq-eqb b 45 e)

pub byte_digit : (b : ℕ) → (b ≡ 45 → ⊥) → {d : ℕ} → d ≡ digit b → 1 ≤ d → d < 10 → d ≡ account (b ∷ [])
unfolding account account_number all_digits decimal
byte_digit b h e l u =
    let (p, q) = digit_bytes b (omega arith) (omega arith) in
    rw (ne_eqb b 45 h, le-leb 49 b p, le-leb b 57 q, le-leb (digit b) account_limit (omega arith)) e

-- ── digit by digit ──
-- one test of the whole number is as good as one of each number on the way, since more digits never make it smaller
number_is : (n : ℕ) (bs : List ℕ) → n ≤ account_limit → number n bs ≡ when (all_digits bs && leb (decimal n bs) account_limit) (decimal n bs)
unfolding number longer all_digits decimal
number_is n [] h = rw (le-leb n account_limit h)
number_is n (b ∷ bs) h = go (ltb (digit b) 10) (leb (10 * n + digit b) account_limit) refl (number_is (10 * n + digit b) bs)
  where
    big : account_limit < 10 * n + digit b → (z : Bool) → None ≡ when (z && leb (decimal (10 * n + digit b) bs) account_limit) (decimal (10 * n + digit b) bs)
    big l true = rw (lt-leb (decimal (10 * n + digit b) bs) account_limit (omega (arith, decimal_grows (10 * n + digit b) bs)))
    big l false = refl

    go : (x y : Bool) → leb (10 * n + digit b) account_limit ≡ y
        → (10 * n + digit b ≤ account_limit
        → number (10 * n + digit b) bs ≡ when (all_digits bs && leb (decimal (10 * n + digit b) bs) account_limit) (decimal (10 * n + digit b) bs))
        → option_and_then (λ m. number m bs) (when (x && y) (10 * n + digit b))
        ≡ when ((x && all_digits bs) && leb (decimal (10 * n + digit b) bs) account_limit) (decimal (10 * n + digit b) bs)
    go true true e next = next (leb-true (10 * n + digit b) account_limit e)
    go true false e next = big (leb-false (10 * n + digit b) account_limit e) (all_digits bs)
    go false y e next = refl

-- the number of a first digit from 1 to 9 and the digits behind it
number_from : (a : ℕ) (more : List ℕ) → 49 ≤ a → a ≤ 57 → number 0 (a ∷ more) ≡ below no_account (account_number a more)
unfolding account_number all_digits decimal
number_from a more l u =
    let d : ltb (digit a) 10 ≡ true = lt-ltb (digit a) 10 (omega (arith, digit_is a (omega arith) u)) in
    let z : 10 * 0 + digit a ≡ digit a = omega arith in
    number_is 0 (a ∷ more) (omega arith) ∙ rw (d, z, le-leb 49 a l, le-leb a 57 u) (go (all_digits more) (leb (decimal (digit a) more) account_limit) refl)
  where
    go : (x y : Bool) → leb (decimal (digit a) more) account_limit ≡ y
        → when (x && y) (decimal (digit a) more) ≡ below no_account (cond (x && y) (decimal (digit a) more) no_account)
    go true true e = rw (lt-ltb (decimal (digit a) more) 201 (omega (arith, leb-true (decimal (digit a) more) account_limit e)))
    go true false e = refl
    go false y e = refl

-- ── one law for each way of the code ──
pub account_dash : (w : List ℕ) → length w ≡ 1 → get_or w 0 0 ≡ 45 → Some 0 ≡ below no_account (account w)
unfolding account
account_dash [] h e = absurd (omega arith)
account_dash (a ∷ []) h e = rw (eq-eqb a 45 e)
account_dash (a ∷ b ∷ w) h e = absurd (omega arith)

pub account_digits : (w : List ℕ) → 1 ≤ length w → 49 ≤ get_or w 0 0 → get_or w 0 0 ≤ 57 → number 0 w ≡ below no_account (account w)
unfolding account
account_digits [] h l u = absurd (omega arith)
account_digits (a ∷ []) h l u = number_from a [] l u ∙ rw (ne_eqb a 45 (λ e. omega arith))
account_digits (a ∷ b ∷ w) h l u = number_from a (b ∷ w) l u

pub account_none :
    (w : List ℕ) → (length w ≡ 1 → get_or w 0 0 ≡ 45 → ⊥) → (1 ≤ length w → 49 ≤ get_or w 0 0 → get_or w 0 0 ≤ 57 → ⊥) → None ≡ below no_account (account w)
unfolding account
account_none [] h k = refl
account_none (a ∷ []) h k = rw (ne_eqb a 45 (h refl), number_none a [] (λ l u. absurd (k (omega arith) l u)))
account_none (a ∷ b ∷ w) h k = rw (number_none a (b ∷ w) (λ l u. absurd (k (omega arith) l u)))
