-- `vector_text::parts::before` meets its contract: the first byte of the kind ends what stands before it.
use Rattle.std.proofs.Common.{◌≡◌, ap, ◌∙◌, rules, tests, length}
use Rattle.std.specs.Prelude.{position, ◌==◌}
use Rattle.std.specs.Option.{unwrap_or}
use Rattle.std.proofs.lemmas.Iterator.{YieldsList-from_slice}
use Rattle.std.proofs.lemmas.Iterator.Search.{position_from_yields_List}
use Rattle.vector_text.specs.Folds.{before_found, take-before}
use Rattle.vector_text.proofs.parts.before.Goals as goal

pub returns : goal.returns
returns c =
    let bytes = c.args.bytes.now in
    let found = position_from_yields_List (λ x. x == c.args.stop) _ _ c.position.result c.position.ensures.ran (YieldsList-from_slice bytes cc) (λ x b q k. search (rules, tests)) in
    take-before c.args.stop bytes _ (c.unwrap_or-end.ensures ∙ ap (λ r. unwrap_or r (length bytes)) found ∙ before_found c.args.stop bytes)
