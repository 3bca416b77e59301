-- `vector_codes::code_cases::put_totals` meets its contract: as many totals as are shown.
use Rattle.std.proofs.Common.{sym, ap, length-take-le}
use Rattle.std.proofs.lemmas.List.{map-id}
use Rattle.text.specs.Putting.{puts_as}
use Rattle.vector_text.specs.Cases.{numbers_text}
use Rattle.vector_codes.proofs.code_cases.put_totals.Goals as goal

pub slice_bounds-put_numbers-end : goal.slice_bounds-put_numbers-end
slice_bounds-put_numbers-end c = sym (length-take-le _ _ c.shown-n.ensures.within)

pub returns : goal.returns
returns c = record {
  n = c.shown-n.result;
  shown = c.shown-n.ensures;
  puts = puts_as _ _ _ _ _ _ (ap (numbers_text 0) (map-id _)) c.put_numbers.ensures;
}
