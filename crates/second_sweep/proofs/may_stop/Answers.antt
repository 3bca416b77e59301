-- `second_sweep::may_stop` meets its contract.
use Rattle.second_sweep.specs.SweepLaws.{stop_shut, stop_end, stop_open}
use Rattle.second_sweep.proofs.may_stop.Goals as goal

pub returns-then-not-passes : goal.returns-then-not-passes
returns-then-not-passes c = let a = c.args in
    stop_shut a.table.now a.words.now a.size a.l a.i a.flag c.passes.ensures c.if-not-passes.true

pub returns-then-follower-lt-END : goal.returns-then-follower-lt-END
returns-then-follower-lt-END c = let a = c.args in
    stop_open a.table.now a.words.now a.size a.l a.i a.flag c.passes.ensures c.if-not-passes.false
    c.follower_at-follower.ensures c.if-follower-lt-END.true c.is_open.ensures

pub returns-else-follower-lt-END : goal.returns-else-follower-lt-END
returns-else-follower-lt-END c = let a = c.args in
    stop_end a.table.now a.words.now a.size a.l a.i a.flag c.passes.ensures c.if-not-passes.false
    c.follower_at-follower.ensures c.if-follower-lt-END.false c.ends.ensures
