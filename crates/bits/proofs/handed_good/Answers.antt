-- `bits::handed_good` meets its contract, each way out by one law of crate binary, specs/Handed.antt. Assumes nothing.
use native.Mathlib.Omega.{arith}
use mathlib.Core.Path.{◌≡◌, sym, ap, ◌∙◌}
use Prim.Native.Nat.{◌/◌, ◌%◌}
use lib.Dec.{eqb}
use lib.ListN.{get_or}
use borrow.Author.Tests.{eq-eqb, ne_eqb}
use Rattle.binary.specs.Bits.{high_bits}
use Rattle.binary.specs.Handed.{handed-within, exact_wrong, exact-whole, exact_begun}
use Rattle.bits.proofs.handed_good.Goals as goal

pub returns-then-r-eq0 : goal.returns-then-r-eq0
returns-then-r-eq0 c =
    let xs = c.args.code.now in
    let n = c.args.count in
    eq-eqb _ _ c.if-r-eq0.true
    ∙ sym (handed-within xs n (omega arith) ∙ exact-whole 8 xs n (omega arith) (omega arith) c.if-r-eq0.true)

pub returns-else-r-eq0 : goal.returns-else-r-eq0
returns-else-r-eq0 c =
    let xs = c.args.code.now in
    let n = c.args.count in
    let kept : c.high_bits.result ≡ high_bits 8 (n % 8) (get_or xs (n / 8) 0) = c.high_bits.ensures in
    ap (λ h. eqb h (get_or xs (n / 8) 0)) kept
    ∙ sym (handed-within xs n (omega arith) ∙ exact_begun 8 xs n (omega arith) (omega arith) c.if-r-eq0.false)

pub returns-else-code-bytes_for : goal.returns-else-code-bytes_for
returns-else-code-bytes_for c =
    let xs = c.args.code.now in
    let n = c.args.count in
    ne_eqb _ _ c.if-code-bytes_for.false
    ∙ sym (handed-within xs n (omega arith) ∙ exact_wrong 8 xs n (λ e. c.if-code-bytes_for.false (e ∙ sym c.bytes_for.ensures)))
