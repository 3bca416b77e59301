-- `desk::limits::sum_pages` meets its contract.
use Rattle.std.proofs.Common.{sym, ◌∙◌, arith}
use Rattle.desk.specs.Limits.{pages_summed_end, pages_summed_broken, pages_summed_next}
use Rattle.desk.proofs.limits.sum_pages.Goals as goal

pub loop-n-preserved : goal.loop-n-preserved
loop-n-preserved c = pages_summed_next _ _ _ c.loop-n.invariant c.loop-n-test.true _
    c.from-n.ensures (sym c.good_page.ensures ∙ c.if-not-good_page.false)

pub returns : goal.returns
returns c = pages_summed_end _ _ _ c.loop-n.invariant c.loop-n-test.false

pub returns-then-not-good_page : goal.returns-then-not-good_page
returns-then-not-good_page c = pages_summed_broken _ _ _ c.loop-n.invariant c.loop-n-test.true _
    c.from-n.ensures (sym c.good_page.ensures ∙ c.if-not-good_page.true)
