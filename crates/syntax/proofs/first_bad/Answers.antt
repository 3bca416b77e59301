-- `syntax::first_bad` meets its contract.
use Rattle.std.proofs.Common.{rules, tests, sym, ap, ◌∙◌, not, length, unwrap_or}
use Rattle.std.proofs.lemmas.Iterator.{YieldsList-from_slice}
use Rattle.std.proofs.lemmas.Iterator.Search.{position_from_yields_List}
use Rattle.syntax.specs.Letter.{is_letter}
use Rattle.syntax.specs.LetterLaws.{first_bad_is}
use Rattle.syntax.proofs.first_bad.Goals as goal

pub returns : goal.returns
returns c = c.unwrap_or.ensures
    ∙ ap (λ o. unwrap_or o (length c.args.tape.now))
    (position_from_yields_List (λ x. not (is_letter x)) _ _ c.position.result c.position.ensures.ran (YieldsList-from_slice c.args.tape.now cc) (λ x b q k. search (rules, tests)))
    ∙ sym (first_bad_is c.args.tape.now)
