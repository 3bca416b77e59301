-- `syntax::table::good_lines` meets its contract.
use Rattle.std.proofs.Common.{rules, tests, sym, ◌∙◌, arith, take}
use Rattle.std.proofs.lemmas.Iterator.{YieldsList-from_slice}
use Rattle.std.proofs.lemmas.Iterator.Search.{all_from_yields_List}
use Rattle.syntax.specs.Table.{line_good}
use Rattle.syntax.specs.TableTest.{good_lines_are}
use Rattle.syntax.proofs.table.good_lines.Goals as goal

pub returns : goal.returns
returns c = all_from_yields_List line_good _ _ _ c.all.ensures.ran (YieldsList-from_slice (take c.args.p.count c.args.p.lines) cc) (λ x b q k. search (rules, tests))
    ∙ sym (good_lines_are c.args.p (omega arith))
