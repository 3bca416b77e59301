-- `agree::agree` meets its contract.
use Rattle.std.proofs.Common.{refl, sym, length-take-le}
use Rattle.std.proofs.lemmas.Result.{err_from_is_err_and}
use Rattle.agree.specs.AgreeLaws.{left_end, agrees_first, agrees-second, agrees-both}
use Rattle.agree.proofs.agree.Goals as goal

pub returns-in_err-k : goal.returns-in_err-k
returns-in_err-k c =
    let p = err_from_is_err_and c.from_residual.result c.from_residual.ensures.1 in
    rw (p.1, p.2) (agrees_first c.in_err-k.ensures c.canonicalize-second.ensures _ refl)

pub returns-in_err-l : goal.returns-in_err-l
returns-in_err-l c =
    let p = err_from_is_err_and c.from_residual-in_err-l.result c.from_residual-in_err-l.ensures.1 in
    rw (p.1, p.2) (agrees-second c.in_ok-k.ensures c.in_err-l.ensures _ _ refl refl)

pub slice_bounds-settle_again-end : goal.slice_bounds-settle_again-end
slice_bounds-settle_again-end c = left_end c.in_ok-k.ensures refl _ c.bytes_for.ensures

pub slice_bounds-settle_again-end-2 : goal.slice_bounds-settle_again-end-2
slice_bounds-settle_again-end-2 c = sym (length-take-le _ _ (left_end c.in_ok-k.ensures refl _ c.bytes_for.ensures))

pub slice_bounds-settle_again-end-3 : goal.slice_bounds-settle_again-end-3
slice_bounds-settle_again-end-3 c = left_end c.in_ok-l.ensures refl _ c.bytes_for-2.ensures

pub slice_bounds-settle_again-end-4 : goal.slice_bounds-settle_again-end-4
slice_bounds-settle_again-end-4 c = sym (length-take-le _ _ (left_end c.in_ok-l.ensures refl _ c.bytes_for-2.ensures))

pub returns : goal.returns
returns c = agrees-both c.in_ok-k.ensures c.in_ok-l.ensures _ _ _ _ _ refl refl
    c.bytes_for.ensures c.bytes_for-2.ensures _ c.settle_again.ensures
