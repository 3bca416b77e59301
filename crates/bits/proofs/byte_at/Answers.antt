-- `bits::byte_at` meets its contract: at the start of a byte the byte, elsewhere a part of two (crate binary, specs/Reading.antt). Assumes nothing.
use native.Mathlib.Omega.{arith}
use mathlib.Core.Path.{◌≡◌, sym, ap₂, ◌∙◌}
use Prim.Native.Nat.{◌+◌, ◌*◌, ◌-◌, ◌/◌, ◌%◌, ◌^◌}
use lib.ListN.{get_or}
use Rattle.binary.specs.Reading.{number_at-whole, number_at-parts}
use Rattle.bits.proofs.byte_at.Goals as goal

pub returns-then-r-eq0 : goal.returns-then-r-eq0
returns-then-r-eq0 c = sym (number_at-whole 8 c.args.code.now (λ k. (c.type_inv.code k).fits) c.args.i (omega arith) (omega arith) (omega arith))

pub returns : goal.returns
returns c = let xs = c.args.code.now in
    let i = c.args.i in
    let first : c.from.result ≡ get_or xs (i / 8) 0 = c.from.ensures in
    let second : c.from-2.result ≡ get_or xs (i / 8 + 1) 0 = c.from-2.ensures in
    ap₂ (λ x y. (x * 256 + y) / 2 ^ (8 - i % 8) % 256) first second
    ∙ sym (number_at-parts 8 xs (λ k. (c.type_inv.code k).fits) i (omega arith) (omega arith))
