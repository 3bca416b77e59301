-- Totals in lent cells, and the cause of the calls from C where these are too few. Definitions only.
use Rattle.std.specs.Prelude.{◌≡◌, Bool, false, ◌||◌, cond, List, [], ◌∷◌, ℕ, ltb, length, drop, Result, Ok, Err}
use Rattle.std.specs.List.{list_any}
use Rattle.refusals.specs.Refusals.{Answer, answer}
use Rattle.totals.specs.Totals.{no_litres}
use Rattle.packing.specs.Packing.{unpacked, in_cells}

-- whether an account has litres
abbrev pub some_litres : (totals : List ℕ) → Bool
some_litres = list_any (λ litres. ltb 0 litres)

-- whether an account without a cell has litres: cells are for the accounts from 0 on
unfoldable pub beyond : (totals : List ℕ) → (cells : ℕ) → Bool
beyond totals n = some_litres (drop n totals)

-- a cause of the calls' own. 01: "A cause added later returns 0"
abbrev pub cells_too_few : Answer
cells_too_few = answer 20 0

-- what is answered where the service answers a. It is the last cause: where the service refuses, all its totals are 0 (law `refused_first`).
unfoldable pub cells_answer : Answer → (totals : List ℕ) → (cells : ℕ) → Answer
cells_answer a totals n = cond (beyond totals n) cells_too_few a

-- what the cells get; 01: "refused, all are 0"
unfoldable pub cells_totals : (totals : List ℕ) → (cells : ℕ) → List ℕ
cells_totals totals n = cond (beyond totals n) no_litres totals

-- what totalling answered, for the causes of any service: its answer, whose value is 0, and its totals; `says` is the number and value of each cause
abbrev pub outcome_by : {Cause : Type 0} → (says : Cause → Answer) → Result (List ℕ) Cause → Answer
outcome_by says (Ok sums) = answer 0 0
outcome_by says (Err why) = says why

abbrev pub litres_by : {Cause : Type 0} → Result (List ℕ) Cause → List ℕ
litres_by (Ok sums) = sums
litres_by (Err why) = no_litres

-- THE PROMISE of handing out totals: answer and lent cells
pub record Gives (a : Answer) (totals cells cells_now : List ℕ) (r : ℕ) : Type 0 where
  pub answers : unpacked r ≡ cells_answer a totals (length cells)
  pub leaves : cells_now ≡ in_cells (cells_totals totals (length cells)) cells
