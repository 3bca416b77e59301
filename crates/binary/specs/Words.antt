-- Mark words as numbers, for any width: bit l has the value 2 to the power l.
use Rattle.std.specs.Prelude.{◌≡◌, refl, Bool, true, false, ◌&&◌, ◌||◌, List, ℕ, zero, suc, ◌+◌, ◌-◌, ◌*◌, ◌/◌, ◌%◌, ◌^◌, ◌≤◌, ◌<◌, min, max, eqb, get_or}
use Rattle.std.proofs.Common.{sym, ap, ap₂, ◌∙◌, add-zero, mod-lt, mod-eq_of_lt, arith, eqb-true, pow_pos, pow_mono, shr_lt}
use Rattle.std.proofs.Math.Decide.{dec_lt}
use Rattle.std.proofs.lemmas.Bool.{eqb-false}
use Rattle.std.proofs.Math.Pow.{pow-lt, split}
use Rattle.std.specs.Int.Bits.{bit_and, and_step, and_lt, bit_or, or_step}
use Rattle.std.proofs.lemmas.Nat.{and_shr, or_shr, or_lt, ones_cat}
use Rattle.std.specs.Int.Count.{ones}
use Rattle.binary.specs.Bits.{bit, test_bit, word_of, count_below}
use Rattle.binary.specs.Numbers.{bit_lt, bit_parity, test_high, test_low, test_small}

pub word_lt : (n : ℕ) (f : ℕ → Bool) → word_of n f < 2 ^ n
unfolding word_of
word_lt zero f = omega arith
word_lt (suc n) f = go (f n) (word_lt n f)
  where
    go : (v : Bool) → word_of n f < 2 ^ n → bit v * 2 ^ n + word_of n f < 2 ^ suc n
    go false h = omega arith
    go true h = omega arith

-- bit l of the word is f l
pub word-bit : (n : ℕ) (f : ℕ → Bool) (l : ℕ) → l < n → test_bit (word_of n f) l ≡ f l
unfolding word_of
word-bit zero f l h = absurd (omega arith)
word-bit (suc n) f l h = go (word-bit n f l) (dec_lt l n)
  where
    go : (l < n → test_bit (word_of n f) l ≡ f l) → Dec (l < n) → test_bit (bit (f n) * 2 ^ n + word_of n f) l ≡ f l
    go ih (yes q) =
        let e : suc (n - suc l) + l ≡ n = omega arith in
        ap (λ i. test_bit (bit (f n) * 2 ^ i + word_of n f) l) (sym e) ∙ test_low (bit (f n)) l (n - suc l) (word_of n f) ∙ ih q
    go ih (no q) =
        let e : l ≡ n = omega arith in
        rw e (test_high (f n) n (word_of n f) (word_lt n f))

-- 01: "Bits past the last node are 0"
pub word_past : (n : ℕ) (f : ℕ → Bool) (l : ℕ) → n ≤ l → test_bit (word_of n f) l ≡ false
word_past n f l h = test_small (word_of n f) l (omega (arith, word_lt n f, pow_mono h))

-- a word has one number: bits below n that are those of f, and none above, make it the word of f
pub word_unique : (n x : ℕ) (f : ℕ → Bool) → x < 2 ^ n → ((l : ℕ) → l < n → test_bit x l ≡ f l) → x ≡ word_of n f
unfolding word_of
word_unique zero x f h b = omega arith
word_unique (suc n) x f h b =
    let q : x / 2 ^ n < 2 = shr_lt 1 n (let e : 1 + n ≡ suc n = omega arith in rw e h) in
    let m : x / 2 ^ n % 2 ≡ x / 2 ^ n = mod-eq_of_lt q in
    let i : x % 2 ^ n ≡ word_of n f = word_unique n (x % 2 ^ n) f (mod-lt x (pow_pos n)) (λ l k. lower l k ∙ b l (omega arith)) in
    sym (split x n) ∙ ap₂ (λ y z. y * 2 ^ n + z) (sym m ∙ sym (bit_parity (x / 2 ^ n)) ∙ ap bit (b n (omega arith))) i
  where
    lower : (l : ℕ) → l < n → test_bit (x % 2 ^ n) l ≡ test_bit x l
    lower l k =
        let e : suc (n - suc l) + l ≡ n = omega arith in
        sym (test_low (x / 2 ^ n) l (n - suc l) (x % 2 ^ n)) ∙ ap (λ i. test_bit (x / 2 ^ n * 2 ^ i + x % 2 ^ n) l) e ∙ ap (λ y. test_bit y l) (split x n)

-- every number of n bits is the word of its own bits
pub word_self : (n x : ℕ) → x < 2 ^ n → x ≡ word_of n (test_bit x)
word_self n x h = word_unique n x (test_bit x) h (λ l k. refl)

-- ---- the count of ones

-- the ones of a word are the l for which f holds
pub ones_word : (n : ℕ) (f : ℕ → Bool) → ones (word_of n f) ≡ count_below n f
unfolding ones word_of count_below
ones_word zero f = refl
ones_word (suc n) f = ones_cat n (bit (f n)) (word_of n f) (word_lt n f) ∙ ap₂ (λ x y. x + y) (one (f n)) (ones_word n f)
  where
    one : (v : Bool) → ones (bit v) ≡ bit v
    one false = refl
    one true = refl

-- the language's count of ones of a number of n bits
pub ones_count : (n x : ℕ) → x < 2 ^ n → ones x ≡ count_below n (test_bit x)
ones_count n x h = ap ones (word_self n x h) ∙ ones_word n (test_bit x)

-- LAW 9: in a word that is wide enough the ones are as many as the l below n for which f holds
pub count_word : (m n : ℕ) (f : ℕ → Bool) → n ≤ m → count_below m (test_bit (word_of n f)) ≡ count_below n f
count_word m n f h = sym (ones_count m (word_of n f) (omega (arith, word_lt n f, pow_mono h))) ∙ ones_word n f

pub count_same : (n : ℕ) (f g : ℕ → Bool) → ((l : ℕ) → l < n → f l ≡ g l) → count_below n f ≡ count_below n g
unfolding count_below
count_same zero f g e = refl
count_same (suc n) f g e = ap₂ (λ b k. bit b + k) (e n (omega arith)) (count_same n f g (λ l h. e l (omega arith)))

pub count_le : (n : ℕ) (f : ℕ → Bool) → count_below n f ≤ n
unfolding count_below
count_le zero f = omega arith
count_le (suc n) f = go (f n) (count_le n f)
  where
    go : (v : Bool) → count_below n f ≤ n → bit v + count_below n f ≤ suc n
    go false h = omega arith
    go true h = omega arith

-- ---- words that a program makes

-- bit l of `|` and of `&`: both go digit by digit, so one law serves them, over what they do with two digits
digit_wise : (op : ℕ → ℕ → ℕ) (on : ℕ → ℕ → ℕ) (join : Bool → Bool → Bool)
    → ((a b k : ℕ) → op a b / 2 ^ k ≡ op (a / 2 ^ k) (b / 2 ^ k)) → ((a b : ℕ) → op a b ≡ op (a / 2) (b / 2) * 2 + on (a % 2) (b % 2))
    → ((p q : Bool) → on (bit p) (bit q) ≡ bit (join p q)) → (x y l : ℕ) → test_bit (op x y) l ≡ join (test_bit x l) (test_bit y l)
digit_wise op on join shr step table x y l =
    ap (λ z. eqb (z % 2) 1) (shr x y l ∙ step a b ∙ ap (λ z. op (a / 2) (b / 2) * 2 + z) last)
    ∙ parity (op (a / 2) (b / 2)) (join (test_bit x l) (test_bit y l))
  where
    a : ℕ
    a = x / 2 ^ l

    b : ℕ
    b = y / 2 ^ l

    last : on (a % 2) (b % 2) ≡ bit (join (test_bit x l) (test_bit y l))
    last = ap₂ on (sym (bit_parity a)) (sym (bit_parity b)) ∙ table (test_bit x l) (test_bit y l)

    parity : (z : ℕ) (v : Bool) → eqb ((z * 2 + bit v) % 2) 1 ≡ v
    parity z v = let e : (z * 2 + bit v) % 2 ≡ bit v = omega (arith, bit_lt v) in ap (λ r. eqb r 1) e ∙ one v
      where
        one : (v : Bool) → eqb (bit v) 1 ≡ v
        one false = refl
        one true = refl

pub test_or : (x y l : ℕ) → test_bit (bit_or x y) l ≡ (test_bit x l || test_bit y l)
test_or = digit_wise bit_or max ◌||◌ or_shr or_step table
  where
    table : (p q : Bool) → max (bit p) (bit q) ≡ bit (p || q)
    table false false = refl
    table false true = refl
    table true false = refl
    table true true = refl

pub test_and : (x y l : ℕ) → test_bit (bit_and x y) l ≡ (test_bit x l && test_bit y l)
test_and = digit_wise bit_and min ◌&&◌ and_shr and_step table
  where
    table : (p q : Bool) → min (bit p) (bit q) ≡ bit (p && q)
    table false false = refl
    table false true = refl
    table true false = refl
    table true true = refl

-- so words are joined and cut as their bits are
pub word-or : (n : ℕ) (f g : ℕ → Bool) → bit_or (word_of n f) (word_of n g) ≡ word_of n (λ l. f l || g l)
word-or n f g =
    word_unique n (bit_or (word_of n f) (word_of n g)) (λ l. f l || g l) (or_lt n (word_of n f) (word_of n g) (word_lt n f) (word_lt n g))
    (λ l h. test_or (word_of n f) (word_of n g) l ∙ ap₂ ◌||◌ (word-bit n f l h) (word-bit n g l h))

pub word_and : (n : ℕ) (f g : ℕ → Bool) → bit_and (word_of n f) (word_of n g) ≡ word_of n (λ l. f l && g l)
word_and n f g =
    word_unique n (bit_and (word_of n f) (word_of n g)) (λ l. f l && g l) (and_lt n (word_of n f) (word_of n g) (word_lt n f) (word_lt n g))
    (λ l h. test_and (word_of n f) (word_of n g) l ∙ ap₂ ◌&&◌ (word-bit n f l h) (word-bit n g l h))

-- the word with one bit
pub single_lt : (p : ℕ) (v : Bool) (n : ℕ) → p < n → bit v * 2 ^ p < 2 ^ n
single_lt p false n h = omega (arith, pow_pos n)
single_lt p true n h = omega (arith, pow-lt h)

pub test_single : (p : ℕ) (v : Bool) (l : ℕ) → test_bit (bit v * 2 ^ p) l ≡ (eqb p l && v)
test_single p v l = go (eqb p l) refl
  where
    plus : (i : ℕ) → bit v * 2 ^ i ≡ bit v * 2 ^ i + 0
    plus i = omega arith

    other : eqb p l ≡ false → Dec (p < l) → test_bit (bit v * 2 ^ p) l ≡ false
    other e (yes h) = test_small (bit v * 2 ^ p) l (single_lt p v l h)
    other e (no h) =
        let n = eqb-false p l e in
        let d : suc (p - suc l) + l ≡ p = omega arith in
        ap (λ x. test_bit x l) (plus p) ∙ ap (λ i. test_bit (bit v * 2 ^ i + 0) l) (sym d) ∙ test_low (bit v) l (p - suc l) 0 ∙ test_small 0 l (pow_pos l)

    go : (e : Bool) → eqb p l ≡ e → test_bit (bit v * 2 ^ p) l ≡ (e && v)
    go true e = ap (λ i. test_bit (bit v * 2 ^ i) l) (eqb-true p l e) ∙ ap (λ x. test_bit x l) (plus l) ∙ test_high v l 0 (pow_pos l)
    go false e = other e (dec_lt p l)

-- ---- a word that is filled from bit 0 on
pub word_next : (i : ℕ) (f : ℕ → Bool) (x v : ℕ) → x ≡ word_of i f → v ≡ bit (f i) * 2 ^ i → v + x ≡ word_of (i + 1) f
unfolding word_of
word_next i f x v e g = let q : i + 1 ≡ suc i = omega arith in rw (q, e, g) refl

pub word-start : (f : ℕ → Bool) → 0 ≡ word_of 0 f
unfolding word_of
word-start f = refl

pub word_fits : (w i : ℕ) (f : ℕ → Bool) (x v : ℕ) → i < w → x ≡ word_of i f → v ≡ bit (f i) * 2 ^ i → v + x < 2 ^ w
word_fits w i f x v h e g = omega (arith, word_next i f x v e g, word_lt (i + 1) f, pow_mono (let k : i + 1 ≤ w = omega arith in k))

-- ---- the two words of a position

-- the word of flag 0, and behind it that of flag 1
module _ (ws : List ℕ) (i : ℕ) (taken : Bool) (l : ℕ) where
  pub word_one : taken ≡ true → test_bit (get_or ws (2 * i + 1) 0) l ≡ test_bit (get_or ws (2 * i + bit taken) 0) l
  word_one e = ap (λ b. test_bit (get_or ws (2 * i + bit b) 0) l) (sym e)

  pub word-zero : taken ≡ false → test_bit (get_or ws (2 * i) 0) l ≡ test_bit (get_or ws (2 * i + bit taken) 0) l
  word-zero e = ap (λ j. test_bit (get_or ws j 0) l) (sym (add-zero (2 * i))) ∙ ap (λ b. test_bit (get_or ws (2 * i + bit b) 0) l) (sym e)
