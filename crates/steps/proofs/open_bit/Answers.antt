-- `steps::open_bit` meets its contract.
use Rattle.std.proofs.Common.{◌≡◌, ◌≤◌, Bool, true, false, refl, sym, ◌∙◌, arith, lt-ltb, le-ltb}
use Rattle.std.specs.Int.{from_bool}
use Rattle.bits.specs.Bits.{bit}
use Rattle.bits.specs.Numbers.{bit_parity}
use Rattle.steps.proofs.open_bit.Goals as goal

as_bit : (b : Bool) → (from_bool b ≡ bit b) × (from_bool b ≤ 1)
as_bit true = (refl, omega arith)
as_bit false = (refl, omega arith)

pub returns-then-state-lt64 : goal.returns-then-state-lt64
returns-then-state-lt64 c = (rw (lt-ltb c.args.state 64 c.if-state-lt64.true) (sym (bit_parity _)), omega arith)

pub returns-else-state-lt64 : goal.returns-else-state-lt64
returns-else-state-lt64 c = let b = as_bit c.args.last in
    (rw (le-ltb c.args.state 64 c.if-state-lt64.false) (c.from.ensures ∙ b.0), omega (arith, c.from.ensures, b.1))
