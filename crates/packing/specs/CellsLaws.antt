-- Laws of totals in lent cells: one for each way of the code, and that no litre is lost where the answer is not a refusal.
use Rattle.std.specs.Prelude.{◌≡◌, refl, Bool, true, false, ◌||◌, List, [], ◌∷◌, ◌++◌, ltb, length, take, drop, get_or, replicate}
use Rattle.std.proofs.Math.Path.{sym, ap}
use Rattle.std.proofs.Common.{ap₂, ◌∙◌, true≢false, lt-ltb, le-ltb, ltb-false, length-take, take_all}
use Rattle.std.proofs.Math.Bool.{cond}
use Prim.Native.Nat.{ℕ, zero, suc, ◌+◌, ◌-◌, ◌≤◌, ◌<◌}
use native.Mathlib.Omega.{arith}
use Rattle.std.proofs.Math.Decide.{dec_le}
use Rattle.std.proofs.Math.Seq.{drop-append-add}
use Rattle.bits.specs.Bits.{in_front}
use Rattle.bits.specs.Writing.{length-in_front, take-in_front}
use Rattle.syntax.specs.Table.{account_limit}
use Rattle.refusals.specs.Refusals.{Answer, answer}
use Rattle.totals.specs.Totals.{no_litres}
use Rattle.totals.specs.TotalsLaws.{sum_list}
use Rattle.packing.specs.Packing.{unpacked, in_cells}
use Rattle.packing.specs.Cells.{some_litres, beyond, cells_too_few, cells_answer, cells_totals, Gives}

-- ── the ways of handing out totals ──
module _ (a : Answer) (totals cells cells_now : List ℕ) (r : ℕ) where
  pub gives_none : true ≡ beyond totals (length cells) → cells_now ≡ in_cells no_litres cells → unpacked r ≡ cells_too_few → Gives a totals cells cells_now r
  unfolding cells_answer cells_totals
  gives_none b e f = record { answers = f ∙ ap (λ x. cond x cells_too_few a) b; leaves = e ∙ ap (λ x. in_cells (cond x no_litres totals) cells) b }

  pub gives_all : false ≡ beyond totals (length cells) → cells_now ≡ in_cells totals cells → unpacked r ≡ a → Gives a totals cells cells_now r
  unfolding cells_answer cells_totals
  gives_all b e f = record { answers = f ∙ ap (λ x. cond x cells_too_few a) b; leaves = e ∙ ap (λ x. in_cells (cond x no_litres totals) cells) b }

-- of the same answer and totals
pub given_same : {a b : Answer} {totals others cells cells_now : List ℕ} {r : ℕ} → a ≡ b → totals ≡ others → Gives a totals cells cells_now r
    → Gives b others cells cells_now r
given_same {a} {b} {totals} {others} {cells} {cells_now} {r} e f g = record {
  answers = g.answers ∙ ap₂ (λ x y. cells_answer x y (length cells)) e f;
  leaves = g.leaves ∙ ap (λ y. in_cells (cells_totals y (length cells)) cells) f;
}

-- ── where nothing is beyond the cells ──
zeros_beyond : (k n : ℕ) → some_litres (drop n (replicate k 0)) ≡ false
zeros_beyond zero zero = refl
zeros_beyond zero (suc n) = refl
zeros_beyond (suc k) zero = zeros_beyond k zero
zeros_beyond (suc k) (suc n) = zeros_beyond k n

-- no litres are beyond any cells, so what the service refuses is answered as it refuses it
pub none_beyond : (n : ℕ) → beyond no_litres n ≡ false
unfolding beyond
none_beyond n = zeros_beyond (account_limit + 1) n

pub refused_first : (a : Answer) (totals : List ℕ) (n : ℕ) → totals ≡ no_litres → (cells_answer a totals n ≡ a) × (cells_totals totals n ≡ no_litres)
unfolding cells_answer cells_totals
refused_first a totals n e =
    let b : beyond totals n ≡ false = ap (λ xs. beyond xs n) e ∙ none_beyond n in (
      ap (λ x. cond x cells_too_few a) b,
      ap (λ x. cond x no_litres totals) b ∙ e,
    )

pub refused-given : {a b : Answer} {totals cells cells_now : List ℕ} {r : ℕ} → Gives a totals cells cells_now r → a ≡ b → totals ≡ no_litres
    → (unpacked r ≡ b) × (cells_now ≡ in_cells no_litres cells)
refused-given {a} {b} {totals} {cells} {cells_now} {r} g e f =
    let (x, y) = refused_first a totals (length cells) f in (g.answers ∙ x ∙ e, g.leaves ∙ ap (λ z. in_cells z cells) y)

-- ten accounts and zeros after them need ten cells
pub zeros_last : (xs : List ℕ) (k n : ℕ) → length xs ≤ n → beyond (xs ++ replicate k 0) n ≡ false
unfolding beyond
zeros_last xs k n h =
    let e : n ≡ length xs + (n - length xs) = omega arith in
    ap some_litres (ap (λ i. drop i (xs ++ replicate k 0)) e ∙ drop-append-add xs (replicate k 0) (n - length xs)) ∙ zeros_beyond k (n - length xs)

-- the service's answer, and its totals in the cells
pub within_cells : {a : Answer} {totals cells cells_now : List ℕ} {r : ℕ} → Gives a totals cells cells_now r → beyond totals (length cells) ≡ false
    → (unpacked r ≡ a) × (cells_now ≡ in_cells totals cells)
unfolding cells_answer cells_totals
within_cells {a} {totals} {cells} {cells_now} {r} g b =
    (g.answers ∙ ap (λ x. cond x cells_too_few a) b, g.leaves ∙ ap (λ x. in_cells (cond x no_litres totals) cells) b)

-- ── what a caller can rely on, unless the answer is 20 ──
-- of the cells those that are written: as many totals as there are cells
front_cells : (totals cells : List ℕ) → take (length totals) (in_cells totals cells) ≡ take (length cells) totals
front_cells totals cells = go (dec_le (length totals) (length cells))
  where
    go : Dec (length totals ≤ length cells) → take (length totals) (in_cells totals cells) ≡ take (length cells) totals
    go (yes k) =
        let e : take (length cells) totals ≡ totals = take_all (length cells) totals k in
        ap (λ x. take (length totals) (in_front x cells)) e ∙ take-in_front totals cells ∙ sym e
    go (no k) =
        let n : length (take (length cells) totals) ≡ length cells = length-take (length cells) totals ∙ omega arith in
        let m = length-in_front (take (length cells) totals) cells (omega (arith, n)) in
        take_all (length totals) (in_cells totals cells) (omega (arith, m))
        ∙ sym (take_all (length (take (length cells) totals)) (in_cells totals cells) (omega (arith, m, n)))
        ∙ take-in_front (take (length cells) totals) cells

not_found : (b : Bool) → (b ≡ true → ⊥) → b ≡ false
not_found true h = absurd (h refl)
not_found false h = refl

sum_none : (xs : List ℕ) → some_litres xs ≡ false → sum_list xs ≡ 0
sum_none [] h = refl
sum_none (x ∷ xs) h = go (ltb 0 x) refl h (sum_none xs)
  where
    go : (b : Bool) → ltb 0 x ≡ b → (b || some_litres xs) ≡ false → (some_litres xs ≡ false → sum_list xs ≡ 0) → x + sum_list xs ≡ 0
    go true e h ih = absurd (true≢false h)
    go false e h ih = omega (arith, ltb-false 0 x e, ih h)

sum-cut : (n : ℕ) (xs : List ℕ) → some_litres (drop n xs) ≡ false → sum_list (take n xs) ≡ sum_list xs
sum-cut zero xs h = sym (sum_none xs h)
sum-cut (suc n) [] h = refl
sum-cut (suc n) (x ∷ xs) h = ap (λ k. x + k) (sum-cut n xs h)

module _ {a : Answer} {totals cells cells_now : List ℕ} {r : ℕ} (g : Gives a totals cells cells_now r) (h : (unpacked r).number ≡ 20 → ⊥) where
  -- no account without a cell has litres
  pub none_left : beyond totals (length cells) ≡ false
  unfolding cells_answer
  none_left = not_found (beyond totals (length cells)) (λ b. h (ap (λ x. x.number) (g.answers ∙ ap (λ x. cond x cells_too_few a) b)))

  pub given-totals : (unpacked r ≡ a) × (cells_now ≡ in_cells totals cells)
  given-totals = within_cells g none_left

  -- no litre is lost: the cells written add up to all totals
  pub given-sum : sum_list (take (length totals) cells_now) ≡ sum_list totals
  unfolding beyond
  given-sum =
      ap (λ x. sum_list (take (length totals) x)) given-totals.1 ∙ ap sum_list (front_cells totals cells) ∙ sum-cut (length cells) totals none_left
