-- `tapelist::print_break` prints what locating promises of what is held.
use Rattle.std.proofs.Common.{ap, ◌∙◌, rules}
use Rattle.std.specs.Result.{result_unwrap_or}
use Rattle.tapelist.specs.PrintLaws.{table_given, tells}
use Rattle.tapelist.proofs.print_break.Goals as goal

pub tell-requires : goal.tell-requires
tell-requires g c =
    let table = c.unwrap_or-p.ensures ∙ ap (result_unwrap_or c.load.result) c.new.ensures ∙ table_given _ _ c.load.ensures in
    tells _ _ _ _ _ _ _ _ table c.letters_of.ensures c.locate-located.ensures
    c.put_located-size.ensures.puts c.put_located-size.ensures.located_len_bound (search rules)
