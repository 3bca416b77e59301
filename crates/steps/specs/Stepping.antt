-- Both words of a position, leaf after leaf, the lowest of those left first.
use Rattle.std.specs.Prelude.{◌≡◌, Bool, ◌&&◌, List, ℕ, ◌-◌, ◌*◌}
use Rattle.std.proofs.Common.{ap₂}
use Rattle.std.specs.Int.Bits.{bit_or}
use Rattle.bits.specs.Bits.{bit, test_bit}
use Rattle.bits.specs.Joining.{Joining, joining_start, joining_next, joining_end}
use Rattle.bits.specs.Ones.{Lowest, given_left}
use Rattle.bits.specs.Unions.{union, times-pick}
use Rattle.masks.specs.Leaves.{entry}
use Rattle.steps.specs.declared.Words.{Words}

pub record Stepping (zs os : List ℕ) (takers : ℕ) (choice : ℕ → Bool) (rest a b : ℕ) : Type 0 where
  pub zeros : Joining 64 takers choice (entry zs) rest a
  pub ones : Joining 64 takers choice (entry os) rest b

module _ (zs os : List ℕ) (takers : ℕ) (o : ℕ → Bool) where
  pub stepping_start : Stepping zs os takers o takers 0 0
  stepping_start = record { zeros = joining_start 64 takers o (entry zs); ones = joining_start 64 takers o (entry os) }

  pub stepping_next : (rest left a b x e zero one : ℕ) → Stepping zs os takers o rest a b → Lowest rest x left → e ≡ bit (o x)
      → zero ≡ entry zs x * e → one ≡ entry os x * e → Stepping zs os takers o left (bit_or a zero) (bit_or b one)
  stepping_next rest left a b x e y z q g f h k = rw (given_left g) (record {
    zeros = rw (h, f, times-pick (o x) (entry zs x)) (joining_next 64 takers o (entry zs) rest a x q.zeros g.some g.few g.is);
    ones = rw (k, f, times-pick (o x) (entry os x)) (joining_next 64 takers o (entry os) rest b x q.ones g.some g.few g.is);
  })

  pub stepping_end : (rest a b : ℕ) → Stepping zs os takers o rest a b → rest ≡ 0
      → ◌≡◌ {A = Words} (record { zero = a; one = b })
      (record { zero = union 64 (λ x. test_bit takers x && o x) (entry zs); one = union 64 (λ x. test_bit takers x && o x) (entry os) })
  stepping_end rest a b q e =
      ap₂ (λ x y. record { zero = x; one = y }) (joining_end 64 takers o (entry zs) a (rw e at q.zeros))
      (joining_end 64 takers o (entry os) b (rw e at q.ones))
