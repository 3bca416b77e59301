-- Two numbers in one, for any width: n above the w lowest bits, v in them.
use Rattle.std.specs.Prelude.{◌≡◌, ℕ, ◌+◌, ◌-◌, ◌*◌, ◌/◌, ◌%◌, ◌^◌, ◌≤◌, ◌<◌}
use Rattle.std.proofs.Common.{sym, ap, ap₂, ◌∙◌, add_comm, mod-lt, arith, pow_pos}
use Rattle.std.proofs.Math.Pow.{split, high, low, field, mod-mod-pow}

-- n · 2^w + v splits back
pub splits_back : (w n v : ℕ) → v < 2 ^ w → ((n * 2 ^ w + v) / 2 ^ w ≡ n) × ((n * 2 ^ w + v) % 2 ^ w ≡ v)
splits_back w n v h = (high n w h, low n w h)

-- a number is nothing but its two parts
pub joins_back : (w x : ℕ) → x ≡ x / 2 ^ w * 2 ^ w + x % 2 ^ w
joins_back w x = sym (split x w)

pub same_parts : (w x y : ℕ) → x / 2 ^ w ≡ y / 2 ^ w → x % 2 ^ w ≡ y % 2 ^ w → x ≡ y
same_parts w x y q m = joins_back w x ∙ ap₂ (λ a b. a * 2 ^ w + b) q m ∙ sym (joins_back w y)

-- v put above the w lowest bits of x
module _ (w x v : ℕ) where
  swapped : x % 2 ^ w + v * 2 ^ w ≡ v * 2 ^ w + x % 2 ^ w
  swapped = add_comm (x % 2 ^ w) (v * 2 ^ w)

  pub put-above : (x % 2 ^ w + v * 2 ^ w) / 2 ^ w ≡ v
  put-above = ap (λ y. y / 2 ^ w) swapped ∙ high v w (mod-lt x (pow_pos w))

  -- the lowest j bits are as they were
  pub kept_low : (j : ℕ) → j ≤ w → (x % 2 ^ w + v * 2 ^ w) % 2 ^ j ≡ x % 2 ^ j
  kept_low j h =
      let e : (w - j) + j ≡ w = omega arith in
      sym (mod-mod-pow (x % 2 ^ w + v * 2 ^ w) (w - j) j) ∙ ap (λ i. (x % 2 ^ w + v * 2 ^ w) % 2 ^ i % 2 ^ j) e
      ∙ ap (λ y. y % 2 ^ j) (ap (λ y. y % 2 ^ w) swapped ∙ low v w (mod-lt x (pow_pos w)))
      ∙ ap (λ i. x % 2 ^ i % 2 ^ j) (sym e) ∙ mod-mod-pow x (w - j) j

  -- and so are j bits from bit k on
  pub kept_field : (j k : ℕ) → j + k ≤ w → (x % 2 ^ w + v * 2 ^ w) / 2 ^ k % 2 ^ j ≡ x / 2 ^ k % 2 ^ j
  kept_field j k h = sym (field (x % 2 ^ w + v * 2 ^ w) j k) ∙ ap (λ y. y / 2 ^ k) (kept_low (j + k) h) ∙ field x j k
