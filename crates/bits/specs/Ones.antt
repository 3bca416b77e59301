-- The bits of a word, one after the other, the lowest first.
use Rattle.std.specs.Prelude.{◌≡◌, true, ◌&&◌, not, ℕ, ◌-◌, ◌^◌, ◌≤◌, ◌<◌, eqb, Option, Some, None}
use Rattle.std.proofs.Common.{ap, ◌∙◌}
use Rattle.std.specs.Int.Bits.{bit_and}
use Rattle.std.specs.Int.Count.{count_trailing_zeros}
use Rattle.binary.specs.Bits.{test_bit}
use Rattle.binary.specs.Lowest.{lowest_on, lowest_out, lowest_cleared}
use Rattle.bits.specs.declared.ones.Ones.{Ones}

-- bit x is taken out of a word
pub record Lowest (word x left : ℕ) : Type 0 where
  pub few : word < 2 ^ 64
  pub some : 1 ≤ word
  pub is : x ≡ count_trailing_zeros 64 word
  pub small : x < 64
  pub left_is : left ≡ bit_and word (word - 1)

abbrev pub Gives : (before : Ones) → Option ℕ → (after : Ones) → Type 0
Gives s None t = s.0 ≡ 0
Gives s (Some x) t = Lowest s.0 x t.0

-- IT GIVES THE BITS THAT ARE SET: each is one of them, and is the only one that is not left
module _ {word x left : ℕ} (g : Lowest word x left) where
  pub given_on : test_bit word x ≡ true
  given_on = lowest_on 64 word x g.some g.few g.is

  pub given_left : left ≡ word - 2 ^ x
  given_left = g.left_is ∙ lowest_cleared 64 word x g.some g.few g.is

  pub given_out : (l : ℕ) → l < 64 → test_bit left l ≡ (test_bit word l && not (eqb x l))
  given_out l h = ap (λ z. test_bit z l) given_left ∙ lowest_out 64 word x g.some g.few g.is l h
