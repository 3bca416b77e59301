-- Laws of laying totals into the lent cells.
use Rattle.std.specs.Prelude.{◌≡◌, List, ◌++◌, ℕ, ◌+◌, ◌≤◌, min, length, take, drop, replicate}
use Rattle.std.proofs.Common.{sym, ap, ap₂, ◌∙◌, arith, length-take, length-take-le, take_all}
use Rattle.std.proofs.Math.Decide.{dec_le}
use Rattle.std.proofs.lemmas.List.{take-replicate, length-replicate}
use Rattle.syntax.specs.Table.{account_limit}
use Rattle.bits.specs.Bits.{in_front}
use Rattle.totals.specs.Totals.{no_litres}
use Rattle.packing.specs.Packing.{in_cells}

-- no more of a list is taken than it has
take_least : (xs : List ℕ) (n : ℕ) → take (min (length xs) n) xs ≡ take n xs
take_least xs n = go (dec_le (length xs) n)
  where
    go : Dec (length xs ≤ n) → take (min (length xs) n) xs ≡ take n xs
    go (yes h) = let e : min (length xs) n ≡ length xs = omega arith in take_all (min (length xs) n) xs (omega arith) ∙ sym (take_all n xs h)
    go (no h) = let e : min (length xs) n ≡ n = omega arith in ap (λ k. take k xs) e

-- the front of the totals in the front of the cells
pub laid : (totals cells front : List ℕ) (n : ℕ) → n ≡ min (length totals) (length cells) → front ≡ take n totals
    → front ++ drop n cells ≡ in_cells totals cells
unfolding in_front
laid totals cells front n e f =
    let all : take n totals ≡ take (length cells) totals = ap (λ k. take k totals) e ∙ take_least totals (length cells) in
    let size : n ≡ length (take (length cells) totals) = omega (arith, e, length-take (length cells) totals) in
    ap₂ (λ xs k. xs ++ drop k cells) (f ∙ all) size

-- nothing but zeros there
pub laid_zeros : (cells front : List ℕ) (n : ℕ) → n ≡ min (length cells) (account_limit + 1) → front ≡ replicate (length (take n cells)) 0
    → front ++ drop n cells ≡ in_cells no_litres cells
laid_zeros cells front n e f =
    let size : length (take n cells) ≡ n = length-take-le n cells (omega (arith, e)) in
    laid no_litres cells front n (omega (arith, e, length-replicate {A = ℕ} (account_limit + 1) 0))
    (f ∙ ap (λ m. replicate m 0) size ∙ sym (take-replicate n (account_limit + 1) 0 (omega (arith, e))))
