-- Answers in one number, and totals in lent cells. Definitions only.
use Rattle.std.specs.Prelude.{List, ℕ, ◌/◌, ◌%◌, length, take}
use Rattle.refusals.specs.Refusals.{Answer, answer}
use Rattle.bits.specs.Bits.{in_front}

-- the number is the upper 32 bits, the value the lower 32
abbrev pub unpacked : ℕ → Answer
unpacked r = answer (r / 4294967296) (r % 4294967296)

-- as many of the totals as there are cells, from account 0 on, in front of what the cells behind them held
abbrev pub in_cells : (totals cells : List ℕ) → List ℕ
in_cells totals cells = in_front (take (length cells) totals) cells
