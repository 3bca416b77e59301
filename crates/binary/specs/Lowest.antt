-- The lowest bit that is set in a number of w bits, and the number without it.
use Rattle.std.specs.Prelude.{◌≡◌, refl, Bool, true, ◌&&◌, not, ℕ, zero, suc, ◌+◌, ◌-◌, ◌*◌, ◌/◌, ◌%◌, ◌^◌, ◌≤◌, ◌<◌, eqb}
use Rattle.std.proofs.Common.{sym, ap, ap₂, ◌∙◌, one-mul, mul_left_comm, mul-add, div-one, arith, eq-eqb, ne_eqb, pow_pos, pow_mono}
use Rattle.std.proofs.Math.Bool.{and-true}
use Rattle.std.proofs.Math.Nat.{div-div-eq-div-mul}
use Rattle.std.proofs.Math.Decide.{dec_lt}
use Rattle.std.specs.Int.Bits.{bit_and, and_self, and_shifted}
use Rattle.std.proofs.lemmas.Nat.{and_block}
use Rattle.std.specs.Int.Count.{count_trailing_zeros, under}
use Rattle.binary.specs.Bits.{bit, test_bit, word_of}
use Rattle.binary.specs.Words.{word_self, word-bit, word_unique, word_lt}

-- ---- the lowest bit that is set
pub lowest_set : (k n : ℕ) → 1 ≤ n → n < 2 ^ k → (count_trailing_zeros k n < k) × (test_bit n (count_trailing_zeros k n) ≡ true)
unfolding count_trailing_zeros
lowest_set zero n one h = absurd (omega arith)
lowest_set (suc k) n one h = go (lowest_set k (n / 2)) (n % 2) refl
  where
    half : n / 2 < 2 ^ k
    half = omega arith

    go : (1 ≤ n / 2 → n / 2 < 2 ^ k → (count_trailing_zeros k (n / 2) < k) × (test_bit (n / 2) (count_trailing_zeros k (n / 2)) ≡ true))
        → (d : ℕ) → n % 2 ≡ d → (under d (count_trailing_zeros k (n / 2)) < suc k) × (test_bit n (under d (count_trailing_zeros k (n / 2))) ≡ true)
    go ih zero e =
        let q = ih (omega arith) half in
        (omega (arith, q.0), ap (λ z. eqb (z % 2) 1) (split (count_trailing_zeros k (n / 2))) ∙ q.1)
      where
        split : (t : ℕ) → n / 2 ^ suc t ≡ n / 2 / 2 ^ t
        split t = let f : 2 ^ suc t ≡ 2 * 2 ^ t = omega arith in ap (λ z. n / z) f ∙ sym (div-div-eq-div-mul n 2 (2 ^ t))
    go ih (suc d) e = (omega arith, ap (λ z. eqb (z % 2) 1) (div-one n) ∙ ap (λ z. eqb z 1) (let f : n % 2 ≡ 1 = omega arith in f))

-- below the lowest bit that is set all is 0
lowest_split : (k n : ℕ) → 1 ≤ n → n < 2 ^ k → (q : ℕ) × (n ≡ q * 2 ^ suc (count_trailing_zeros k n) + 2 ^ count_trailing_zeros k n)
unfolding count_trailing_zeros
lowest_split zero n one h = absurd (omega arith)
lowest_split (suc k) n one h = go (lowest_split k (n / 2)) (n % 2) refl
  where
    double : (q s : ℕ) → q * 2 ^ suc s ≡ 2 * (q * 2 ^ s)
    double q s = let f : 2 ^ suc s ≡ 2 * 2 ^ s = omega arith in ap (λ z. q * z) f ∙ mul_left_comm q 2 (2 ^ s)

    go : (1 ≤ n / 2 → n / 2 < 2 ^ k → (q : ℕ) × (n / 2 ≡ q * 2 ^ suc (count_trailing_zeros k (n / 2)) + 2 ^ count_trailing_zeros k (n / 2)))
        → (d : ℕ) → n % 2 ≡ d → (q : ℕ) × (n ≡ q * 2 ^ suc (under d (count_trailing_zeros k (n / 2))) + 2 ^ under d (count_trailing_zeros k (n / 2)))
    go ih zero e =
        let i = ih (omega arith) (omega arith) in
        let d : i.0 * 2 ^ suc (suc (count_trailing_zeros k (n / 2))) ≡ 2 * (i.0 * 2 ^ suc (count_trailing_zeros k (n / 2))) =
        double i.0 (suc (count_trailing_zeros k (n / 2))) in
        let f : 2 ^ suc (count_trailing_zeros k (n / 2)) ≡ 2 * 2 ^ count_trailing_zeros k (n / 2) = omega arith in
        let h : n ≡ 2 * (n / 2) = omega arith in (
          i.0,
          h ∙ ap (λ z. 2 * z) i.1 ∙ mul-add 2 (i.0 * 2 ^ suc (count_trailing_zeros k (n / 2))) (2 ^ count_trailing_zeros k (n / 2))
              ∙ ap₂ (λ y z. y + z) (sym d) (sym f),
        )
    go ih (suc d) e = (n / 2, omega arith)

word_same : (n : ℕ) (f g : ℕ → Bool) → ((l : ℕ) → l < n → f l ≡ g l) → word_of n f ≡ word_of n g
word_same n f g h = word_unique n (word_of n f) g (word_lt n f) (λ l k. word-bit n f l k ∙ h l k)

-- without its bit x a word is less by 2 to the power x
cleared : (x n : ℕ) (f : ℕ → Bool) → x < n → f x ≡ true → word_of n f ≡ word_of n (λ l. f l && not (eqb x l)) + 2 ^ x
unfolding word_of
cleared x zero f h e = absurd (omega arith)
cleared x (suc n) f h e = go (cleared x n f) (dec_lt x n)
  where
    go : (x < n → f x ≡ true → word_of n f ≡ word_of n (λ l. f l && not (eqb x l)) + 2 ^ x) → Dec (x < n)
        → bit (f n) * 2 ^ n + word_of n f ≡ (bit (f n && not (eqb x n)) * 2 ^ n + word_of n (λ l. f l && not (eqb x l))) + 2 ^ x
    go ih (yes l) =
        rw (ne_eqb x n (λ q. omega arith), and-true (f n)) (omega (arith, ih l e))
    go ih (no l) =
        let q : x ≡ n = omega arith in
        let a : f n ≡ true = ap f (sym q) ∙ e in
        let b : eqb x n ≡ true = eq-eqb x n q in
        let s : word_of n f ≡ word_of n (λ l. f l && not (eqb x l)) =
        word_same n f (λ l. f l && not (eqb x l)) (λ l k. sym (ap (λ z. f l && not z) (ne_eqb x l (λ y. omega arith)) ∙ and-true (f l))) in
        rw (a, b, q) (omega (arith, ap (λ z. word_of n (λ l. f l && not (eqb z l))) q, s))

-- taking the lowest bit out
module _ (w rest x : ℕ) (one : 1 ≤ rest) (h : rest < 2 ^ w) (e : x ≡ count_trailing_zeros w rest) where
  pub lowest_lt : x < w
  lowest_lt = omega (arith, (lowest_set w rest one h).0)

  pub lowest_on : test_bit rest x ≡ true
  lowest_on = ap (test_bit rest) e ∙ (lowest_set w rest one h).1

  rest_is : rest ≡ word_of w (λ l. test_bit rest l && not (eqb x l)) + 2 ^ x
  rest_is = word_self w rest h ∙ cleared x w (test_bit rest) lowest_lt lowest_on

  pub lowest-less : rest - 2 ^ x < rest
  lowest-less = omega (arith, rest_is, pow_pos x)

  -- the lowest bit cleared, as code does it
  pub lowest_cleared : bit_and rest (rest - 1) ≡ rest - 2 ^ x
  lowest_cleared = go (lowest_split w rest one h)
    where
      go : (q : ℕ) × (rest ≡ q * 2 ^ suc (count_trailing_zeros w rest) + 2 ^ count_trailing_zeros w rest) → bit_and rest (rest - 1) ≡ rest - 2 ^ x
      go (q, s) =
          let r : rest ≡ q * 2 ^ suc x + 2 ^ x = s ∙ ap (λ t. q * 2 ^ suc t + 2 ^ t) (sym e) in
          let l : 2 ^ x < 2 ^ suc x = omega (arith, pow_pos x) in
          let m : 2 ^ x - 1 < 2 ^ suc x = omega arith in
          let n : rest - 1 ≡ q * 2 ^ suc x + (2 ^ x - 1) = omega (arith, pow_pos x) in
          let z : bit_and (2 ^ x) (2 ^ x - 1) ≡ 0 =
          ap (λ y. bit_and y (2 ^ x - 1)) (sym (one-mul (2 ^ x))) ∙ and_shifted 1 x (2 ^ x - 1) (omega (arith, pow_pos x)) in
          ap₂ bit_and r n ∙ and_block (suc x) q q (2 ^ x) (2 ^ x - 1) l m ∙ ap₂ (λ y u. y * 2 ^ suc x + u) (and_self q) z
          ∙ (let u : q * 2 ^ suc x + 0 ≡ rest - 2 ^ x = omega arith in u)

  pub lowest_out : (l : ℕ) → l < w → test_bit (rest - 2 ^ x) l ≡ (test_bit rest l && not (eqb x l))
  lowest_out l k =
      let q : rest - 2 ^ x ≡ word_of w (λ l. test_bit rest l && not (eqb x l)) = omega (arith, rest_is) in
      ap (λ z. test_bit z l) q ∙ word-bit w (λ l. test_bit rest l && not (eqb x l)) l k

-- what a loop over the set bits of a number of w bits needs, in the words of its code
pub record Lowest (w rest : ℕ) : Type 0 where
  pub small : count_trailing_zeros w rest < w
  pub less : bit_and rest (rest - 1) < rest

pub lowest : (w rest : ℕ) → 1 ≤ rest → rest < 2 ^ w → Lowest w rest
lowest w rest one few = record {
  small = lowest_lt w rest (count_trailing_zeros w rest) one few refl;
  less = rw (lowest_cleared w rest (count_trailing_zeros w rest) one few refl) (lowest-less w rest (count_trailing_zeros w rest) one few refl);
}

-- numbers with the same bits are equal
pub same_bits : (x y : ℕ) → ((l : ℕ) → test_bit x l ≡ test_bit y l) → x ≡ y
same_bits x y h =
    word_unique (x + y) x (test_bit y) (large x y) (λ l k. h l)
    ∙ sym (word_self (x + y) y (let e : y + x ≡ x + y = omega arith in rw e at (large y x)))
  where
    under_power : (x : ℕ) → x < 2 ^ x
    under_power zero = omega arith
    under_power (suc x) = omega (arith, under_power x)

    large : (x y : ℕ) → x < 2 ^ (x + y)
    large x y = omega (arith, under_power x, pow_mono (let h : x ≤ x + y = omega arith in h))
