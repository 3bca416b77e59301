-- `wumbyra::wumbyra_term_totals` meets its contract.
use Rattle.wumbyra.specs.PackedLaws.{term-totals-packed}
use Rattle.wumbyra.proofs.wumbyra_term_totals.Goals as goal

pub returns : goal.returns
returns c = term-totals-packed _ _ c.pattern_of.ensures c.args.code.now _ c.args.start c.args.first c.args.last _ _ _
    c.date_of-3.ensures c.date_of.ensures c.date_of-2.ensures _ c.term_totals-totals.ensures _ _ _ c.give_litres.ensures
