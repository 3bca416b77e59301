-- What the functions on pages do.
use Rattle.std.specs.Prelude.{◌≡◌, refl, List, [], ◌∷◌, get_or, take, set}
use Rattle.std.proofs.Math.Path.{ap}
use Rattle.std.proofs.Common.{◌∙◌}
use Prim.Native.Nat.{ℕ, zero, suc, ◌+◌, ◌-◌, ◌≤◌, ◌<◌}
use native.Mathlib.Omega.{arith}
use Rattle.desk.specs.declared.Desk.{Desk}
use Rattle.desk.specs.Desks.{sum, lengths_held, held, with_page, without_page}

-- ── `take_off` ──
sum_last : (xs : List ℕ) (n : ℕ) → sum (take (suc n) xs) ≡ sum (take n xs) + get_or xs n 0
sum_last [] zero = refl
sum_last [] (suc n) = refl
sum_last (x ∷ xs) zero = omega arith
sum_last (x ∷ xs) (suc n) = omega (arith, sum_last xs n)

entry_upto : (xs : List ℕ) (n i : ℕ) → i < n → get_or xs i 0 ≤ sum (take n xs)
entry_upto xs zero i h = absurd (omega arith)
entry_upto [] (suc n) i h = omega arith
entry_upto (x ∷ xs) (suc n) zero h = omega arith
entry_upto (x ∷ xs) (suc n) (suc i) h = omega (arith, entry_upto xs n i (omega arith))

-- no page held has more letters than all of them
pub page-within : (d : Desk) (i n : ℕ) → n ≡ get_or d.lengths i 0 → i < d.count → n ≤ held d
unfolding held lengths_held
page-within d i n e h = omega (arith, e, entry_upto d.lengths d.count i h)

module _ (d : Desk) (h : 1 ≤ d.count) where
  -- the letters held without the last page
  pub less-held : held d ≡ held (without_page d) + get_or d.lengths (d.count - 1) 0
  unfolding held lengths_held
  less-held =
      let e : d.count ≡ suc (d.count - 1) = omega arith in
      ap (λ n. sum (take n d.lengths)) e ∙ sum_last d.lengths (d.count - 1)
