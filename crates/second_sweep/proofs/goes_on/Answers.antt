-- `second_sweep::goes_on` meets its contract.
use Rattle.second_sweep.specs.SweepLaws.{on_lazy, on_greedy}
use Rattle.second_sweep.proofs.goes_on.Goals as goal

pub returns-then-again : goal.returns-then-again
returns-then-again c = let a = c.args in
    on_lazy a.table.now a.words.now a.size a.l a.i a.flag a.again a.p c.if-again.true c.may_stop.ensures

pub returns-else-again : goal.returns-else-again
returns-else-again c = let a = c.args in
    on_greedy a.table.now a.words.now a.size a.l a.i a.flag a.again a.p c.if-again.false c.is_open.ensures
