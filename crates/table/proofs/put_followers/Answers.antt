-- `table::put_followers` meets its contract.
use native.Mathlib.Omega.{arith}
use Rattle.table.specs.CellLaws.{following-start, following-next, following_end}
use Rattle.table.proofs.put_followers.Goals as goal

pub loop-i-init : goal.loop-i-init
loop-i-init c = (c.requires.0, following-start _ _ c.requires.0 c.requires.1 c.requires.2)

pub loop-i-preserved : goal.loop-i-preserved
loop-i-preserved c = (
  c.loop-i.invariant.0,
  following-next _ _ c.loop-i.invariant.0 _ _ c.loop-i.invariant.1 c.loop-i-test.true _ c.node_at-node.ensures _ _ _ _ _ _
      c.second_part.ensures c.first_part.ensures c.follower-line.ensures.0
      c.first_follower.ensures.0
      c.put_follower.ensures c.put_follower-in-loop-i.ensures,
)

pub returns : goal.returns
returns c = following_end _ _ c.loop-i.invariant.0 _ _ (omega (arith, c.loop-i-test.false)) c.loop-i.invariant.1
