-- `agree::settle_again` meets its contract.
use Rattle.std.proofs.Common.{refl, sym, length-take-le, rules}
use Rattle.std.proofs.lemmas.Result.{err_from_is_err_and}
use Rattle.agree.specs.AgreeLaws.{left_end, again_first, again_second, again-both}
use Rattle.agree.proofs.settle_again.Goals as goal
use Rattle.agree.proofs.settle_again.Goals.{then-one_back, else-one_back}

pub returns-in_err-k : goal.returns-in_err-k
returns-in_err-k c =
    let p = err_from_is_err_and c.from_residual.result c.from_residual.ensures.1 in
    rw (p.1, p.2) (again_first c.args.two.now c.args.m c.in_err-k.ensures _ refl)

pub slice_bounds-equal-end : goal.slice_bounds-equal-end
slice_bounds-equal-end c = left_end c.in_ok-k.ensures refl _ c.bytes_for.ensures

pub slice_bounds-equal-end-2 : goal.slice_bounds-equal-end-2
slice_bounds-equal-end-2 c = sym (length-take-le _ _ (left_end c.in_ok-k.ensures refl _ c.bytes_for.ensures))

pub returns-in_err-l : goal.returns-in_err-l
returns-in_err-l c =
    let p = err_from_is_err_and c.from_residual-in_err-l.result c.from_residual-in_err-l.ensures.1 in
    rw (p.1, p.2)
    (again_second c.args.two.now c.args.m c.in_ok-k.ensures refl c.in_err-l.ensures _ refl)

pub slice_bounds-equal-end-3 : goal.slice_bounds-equal-end-3
slice_bounds-equal-end-3 c = left_end c.in_ok-l.ensures refl _ c.bytes_for-2.ensures

pub slice_bounds-equal-end-4 : goal.slice_bounds-equal-end-4
slice_bounds-equal-end-4 c = sym (length-take-le _ _ (left_end c.in_ok-l.ensures refl _ c.bytes_for-2.ensures))

pub returns-then-two_back : goal.returns-then-two_back
returns-then-two_back c = again-both c.args.two.now c.args.m c.in_ok-k.ensures refl c.in_ok-l.ensures refl
    c.bytes_for.ensures c.bytes_for-2.ensures _ _ _ c.equal-one_back.ensures c.equal-two_back.ensures (λ _ _. c.equal.ensures)

pub returns-else-two_back : goal.returns-else-two_back
returns-else-two_back c = again-both c.args.two.now c.args.m c.in_ok-k.ensures refl c.in_ok-l.ensures refl
    c.bytes_for.ensures c.bytes_for-2.ensures _ _ _ c.equal-one_back.ensures c.equal-two_back.ensures (λ f g. search rules)
