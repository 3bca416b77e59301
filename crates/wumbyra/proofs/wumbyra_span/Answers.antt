-- `wumbyra::wumbyra_span` meets its contract.
use Rattle.std.proofs.Common.{ap, ◌∙◌, arith}
use Rattle.refusals.specs.Refusals.{answer}
use Rattle.wumbyra.specs.PackedLaws.{shown_small, span_packed, span_refused}
use Rattle.wumbyra.proofs.wumbyra_span.Goals as goal

pub halves-requires : goal.halves-requires
halves-requires c = let f = shown_small _ _ _ _ _ _ _ c.span.ensures _ c.in-Ok.is in (omega (arith, f), omega (arith, f))

pub returns-in-Ok : goal.returns-in-Ok
returns-in-Ok c = span_packed _ _ c.pattern_of.ensures _ _ _ _ _ _ c.span.ensures _ _ c.in-Ok.is (c.packed.ensures ∙ ap (answer 0) c.halves.ensures)

pub returns-in-Err : goal.returns-in-Err
returns-in-Err c = span_refused _ _ c.pattern_of.ensures _ _ _ _ _ _ c.span.ensures _ _ c.in-Err.is c.of_cause.ensures
