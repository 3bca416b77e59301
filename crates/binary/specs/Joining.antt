-- JOINING the words of a number's set bits, the lowest of those left first, for any width.
use Rattle.std.specs.Prelude.{◌≡◌, refl, Bool, true, false, ◌&&◌, ◌||◌, not, ℕ, zero, suc, ◌-◌, ◌^◌, ◌≤◌, ◌<◌, eqb}
use Rattle.std.proofs.Common.{sym, ap, ap₂, ◌∙◌, arith, pow_pos}
use Rattle.std.proofs.Math.Bool.{or-false, or_assoc}
use Rattle.std.specs.Int.Bits.{bit_or}
use Rattle.std.specs.Int.Count.{count_trailing_zeros}
use Rattle.binary.specs.Bits.{test_bit}
use Rattle.binary.specs.Numbers.{test_small}
use Rattle.binary.specs.Words.{test_or}
use Rattle.binary.specs.Lowest.{lowest_lt, lowest_on, lowest_out, same_bits}
use Rattle.binary.specs.Unions.{any_to, any_same, any_pull, pick, union, pick-bit, union-bit}

-- what is joined so far, and what is left: together all that is to be joined
pub record Joining (w set : ℕ) (choice : ℕ → Bool) (words : ℕ → ℕ) (rest joined : ℕ) : Type 0 where
  pub together :
      (l : ℕ) → (test_bit joined l || any_to w (λ x. (test_bit rest x && choice x) && test_bit (words x) l)) ≡ any_to w
      (λ x. (test_bit set x && choice x) && test_bit (words x) l)

module _ (w set : ℕ) (o : ℕ → Bool) (m : ℕ → ℕ) where
  pub joining_start : Joining w set o m set 0
  joining_start = record { together = λ l. ap (λ z. z || any_to w (λ x. (test_bit set x && o x) && test_bit (m x) l)) (test_small 0 l (pow_pos l)) }

  pub joining_next : (rest joined x : ℕ) → Joining w set o m rest joined → 1 ≤ rest → rest < 2 ^ w → x ≡ count_trailing_zeros w rest
      → Joining w set o m (rest - 2 ^ x) (bit_or joined (pick (o x) (m x)))
  joining_next rest joined x j one h e = record {
    together = λ l.
        ap₂ (λ y z. y || z)
        (test_or joined (pick (o x) (m x)) l ∙ ap (λ z. test_bit joined l || z) (pick-bit (o x) (m x) l))
        (any_same w (λ y. (test_bit (rest - 2 ^ x) y && o y) && test_bit (m y) l) (λ y. not (eqb x y) && all l y)
        (λ y k. ap (λ z. (z && o y) && test_bit (m y) l) (lowest_out w rest x one h e y k) ∙ turn (test_bit rest y) (not (eqb x y)) (o y) (test_bit (m y) l)))
        ∙ or_assoc (test_bit joined l) (o x && test_bit (m x) l) (any_to w (λ y. not (eqb x y) && all l y))
        ∙ ap (λ z. test_bit joined l || z)
        (ap (λ z. (z && test_bit (m x) l) || any_to w (λ y. not (eqb x y) && all l y)) (sym (ap (λ z. z && o x) (lowest_on w rest x one h e)))
        ∙ sym (any_pull w x (all l) (lowest_lt w rest x one h e)))
        ∙ j.together l;
  }
    where
      all : ℕ → ℕ → Bool
      all l y = (test_bit rest y && o y) && test_bit (m y) l

      turn : (a b c d : Bool) → (((a && b) && c) && d) ≡ (b && ((a && c) && d))
      turn true true c d = refl
      turn true false c d = refl
      turn false true c d = refl
      turn false false c d = refl

  pub joining_end : (joined : ℕ) → Joining w set o m 0 joined → joined ≡ union w (λ x. test_bit set x && o x) m
  joining_end joined j =
      same_bits joined (union w (λ x. test_bit set x && o x) m)
      (λ l. sym (or-false (test_bit joined l)) ∙ ap (λ z. test_bit joined l || z) (sym (nothing_left l)) ∙ j.together l
      ∙ sym (union-bit w (λ x. test_bit set x && o x) m l))
    where
      none : (n : ℕ) (k : ℕ → Bool) → ((x : ℕ) → x < n → k x ≡ false) → any_to n k ≡ false
      none zero k h = refl
      none (suc n) k h = rw (h n (omega arith)) (none n k (λ x l. h x (omega arith)))

      nothing_left : (l : ℕ) → any_to w (λ x. (test_bit 0 x && o x) && test_bit (m x) l) ≡ false
      nothing_left l = none w (λ x. (test_bit 0 x && o x) && test_bit (m x) l) (λ x n. ap (λ z. (z && o x) && test_bit (m x) l) (test_small 0 x (pow_pos x)))
