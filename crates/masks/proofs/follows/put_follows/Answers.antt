-- `masks::follows::put_follows` meets its contract.
use Rattle.std.proofs.Common.{refl, arith}
use Rattle.masks.specs.Follows.{down_start, down_at}
use Rattle.masks.proofs.follows.put_follows.Goals as goal

pub loop-i-init : goal.loop-i-init
loop-i-init c = (c.requires.0, c.requires.1, down_start c.requires.0 _ _ c.requires.2 (let d = c.default.ensures in rw (d.0, d.1.0) refl))

pub loop-i-preserved : goal.loop-i-preserved
loop-i-preserved c = let l = c.loop-i.invariant in (
  l.0,
  l.1,
  down_at l.0 _ l.1 _ (omega (arith, c.loop-i-test.true)) l.2 c.node_at-node.ensures c.second_part.ensures c.hand_on.ensures,
)
