-- `bits::set_byte` meets its contract: one store, or two, are `write` of eight bits (crate binary, specs/Writing.antt). Assumes nothing.
use native.Mathlib.Omega.{arith}
use mathlib.Core.Path.{sym, ap, ◌∙◌}
use Prim.Native.Nat.{◌+◌, ◌*◌, ◌-◌, ◌/◌, ◌%◌, ◌^◌}
use lib.Bits.{bit_or}
use lib.ListN.{set}
use Rattle.binary.specs.Writing.{write-whole, write-parts}
use borrow.Author.Rules.{rules}
use Rattle.bits.proofs.set_byte.Goals as goal

pub returns-then-r-eq0 : goal.returns-then-r-eq0
returns-then-r-eq0 c = sym (write-whole 8 c.args.code.now (λ k. search rules) c.args.i (omega arith) (omega arith) (omega arith)
    c.args.value c.ranges.value.fits)

pub returns : goal.returns
returns c = let i = c.args.i in
    let v = c.args.value in
    ap (λ h. set (set c.args.code.now (i / 8) (bit_or h (v / 2 ^ (i % 8)))) (i / 8 + 1) ((v * 2 ^ (8 - i % 8)) % 256)) c.high_bits-before.ensures
    ∙ sym (write-parts 8 c.args.code.now (λ k. search rules) i (omega arith) (omega arith)
    c.if-r-eq0.false v c.ranges.value.fits)
