-- `vector_codes::code_cases::shown` meets its contract. The invariant: what is left out is 0.
use Rattle.std.proofs.Common.{◌≡◌, ◌+◌, ◌-◌, subst, arith}
use Rattle.vector_codes.specs.Answers.{Shown, none_left_out, one_left_out, shown_last, shown_first}
use Rattle.vector_codes.proofs.code_cases.shown.Goals as goal

pub loop-n-init : goal.loop-n-init
loop-n-init c = none_left_out _

pub returns-then-litres-n-ne0 : goal.returns-then-litres-n-ne0
returns-then-litres-n-ne0 c =
    let same : c.loop-n.n ≡ c.loop-n.n - 1 + 1 = omega (arith, c.loop-n-test.true) in
    subst (Shown c.args.litres.now) same (shown_last _ _ c.loop-n.invariant c.if-litres-n-ne0.true)

pub loop-n-preserved : goal.loop-n-preserved
loop-n-preserved c = one_left_out _ _ c.loop-n.invariant c.loop-n-test.true c.if-litres-n-ne0.false

pub returns : goal.returns
returns c =
    let left = c.loop-n.invariant in
    let same : c.loop-n.n ≡ c.min.result = omega (arith, left.first, left.within, c.min.ensures, c.loop-n-test.false) in
    subst (Shown c.args.litres.now) same (shown_first _ _ left c.loop-n-test.false)
