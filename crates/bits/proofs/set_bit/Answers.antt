-- `bits::set_bit` meets its contract: one store is `write` of one bit (crate binary, specs/Writing.antt). Assumes nothing.
use native.Mathlib.Omega.{arith}
use mathlib.Core.Path.{◌≡◌, sym, ap₂, ◌∙◌}
use Prim.Native.Nat.{◌*◌, ◌-◌, ◌/◌, ◌%◌, ◌^◌}
use lib.Bits.{bit_or}
use lib.ListN.{get_or, set}
use Rattle.binary.specs.Bits.{high_bits}
use Rattle.binary.specs.Writing.{write-bit}
use borrow.Author.Rules.{rules}
use Rattle.bits.proofs.set_bit.Goals as goal

pub returns : goal.returns
returns c = let xs = c.args.code.now in
    let i = c.args.i in
    let kept : c.high_bits-kept.result ≡ high_bits 8 (i % 8) (get_or xs (i / 8) 0) = c.high_bits-kept.ensures in
    ap₂ (λ h v. set xs (i / 8) (bit_or h ((v * 2 ^ (7 - i % 8)) % 256))) kept c.from.ensures
    ∙ sym (write-bit 8 xs (λ k. search rules) i (omega arith) (omega arith) c.args.value)
