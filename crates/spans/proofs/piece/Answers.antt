-- `spans::piece` meets its contract.
use Rattle.std.proofs.Common.{◌≡◌, arith, rules}
use Rattle.spans.specs.Spans.{span_given}
use Rattle.spans.specs.Pieces.{part}
use Rattle.spans.proofs.piece.Goals as goal

pub slice_bounds-result-end : goal.slice_bounds-result-end
slice_bounds-result-end c =
    let e : c.unwrap_or_default-shown.result ≡ span_given c.span.result = search rules in
    omega (arith, (part _ _ _ _ _ _ _ _ e c.span.ensures).fits)
