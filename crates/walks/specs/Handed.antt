-- The bits of a code where a walk reads several of them, for any width: the number that semantics reads off the bits is that of the cells.
use Rattle.std.specs.Prelude.{◌≡◌, refl, Bool, true, false, cond, List, ℕ, zero, suc, ◌+◌, ◌*◌, ◌^◌, ◌≤◌, length, drop, get_or}
use Rattle.std.proofs.Common.{sym, ap, ap₂, ◌∙◌, arith, drop-cons}
use Rattle.bits.specs.Bits.{bit, cell, number_at, held}
use Rattle.bits.specs.Reading.{held-length, held-cell}
use Rattle.semantics.specs.Positions.{number_at as bits_number}

bit-cond : (b : Bool) (n : ℕ) → bit b * n ≡ cond b n 0
bit-cond true n = omega arith
bit-cond false n = omega arith

cell-number : (bs : List Bool) (n i : ℕ) → i + n ≤ length bs → cell n (drop i bs) ≡ bits_number bs i n
cell-number bs zero i h = refl
cell-number bs (suc n) i h =
    ap (cell (suc n)) (drop-cons bs i false (omega arith))
    ∙ ap₂ (λ x y. x + y) (bit-cond (get_or bs i false) (2 ^ n)) (cell-number bs n (suc i) (omega arith))

pub held_number : (w : ℕ) (code : List ℕ) (count : ℕ) → count ≤ length code * w → (i n : ℕ) → i + n ≤ count
    → bits_number (held w code count) i n ≡ number_at w code i n
held_number w code count fit i n h =
    sym (cell-number (held w code count) n i (rw (held-length w code count fit) h)) ∙ held-cell w code count fit i n h
