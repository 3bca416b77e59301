-- `second_sweep::sweep` meets its contract.
use Rattle.std.proofs.Common.{ℕ, arith}
use Rattle.second_sweep.specs.Sweeping.{Ready}
use Rattle.second_sweep.specs.Ways.{LineNode, lower, leaf_ready, leaf_done, seq_first, Last, last_met, seq_last, side_last}
use Rattle.second_sweep.specs.Ways.{Going, going_start, star_stop, round_ready, round-less, round_done}
use Rattle.second_sweep.proofs.+sweep.Goals as goal
use Rattle.second_sweep.proofs.+sweep.Goals.{After-node_at, At-loop-flag, Joined-node_at, in-Sequence, in-Alternative}

-- the line's node
line : (t : ℕ) (c : After-node_at t) → LineNode c.args.table.now c.args.l c.node_at.result
line t c = record { good = c.requires.0; low = c.requires.1; is = c.node_at.ensures }

-- what is left of the rounds gives them all
going : (t : ℕ) (c : At-loop-flag t) →
    Going c.requires.2 c.args.code.now c.loop-flag.code c.loop-flag.here.position c.loop-flag.here.at c.loop-flag.flag
going t c = c.loop-flag.invariant c.requires.2

-- the last part of a sequence, or the side of an alternative, gives the node
last_part : (t : ℕ) (c : Joined-node_at t) → LineNode c.args.table.now c.args.l c.node_at.result →
    (s : Ready c.args.table.now c.args.words.now c.args.tape.now c.args.l c.args.i c.args.taken c.args.at) →
    Last s c.args.code.now c.match-node_at.code c.match-node_at.here c.match-node_at.flag c.match-node_at.last
last_part t c n s =
    elim c.match-node_at.branch [
      | in-Sequence w ↦ last_met w.code-is w.here-is w.flag-is w.last-is
          (seq_last n w.in-Sequence.is w.sweep-here.ensures w.flag_behind-flag.ensures s)
      | in-Alternative w ↦ last_met w.code-is w.here-is w.flag-is w.last-is (side_last n w.in-Alternative.is w.choose-last.ensures s)
    ]

pub sweep_leaf-requires : goal.sweep_leaf-requires
sweep_leaf-requires t c = leaf_ready (line t (goal.at.sweep_leaf-requires t c).After-node_at) c.in-Leaf.is c.requires.2

pub returns-in-Leaf : goal.returns-in-Leaf
returns-in-Leaf t c = leaf_done (line t (goal.at.returns-in-Leaf t c).After-node_at) c.in-Leaf.is c.sweep_leaf.ensures

pub sweep-here-requires : goal.sweep-here-requires
sweep-here-requires t c =
    let n = line t (goal.at.sweep-here-requires t c).After-node_at in
    let h = (lower n c.in-Sequence.is).0 in
    (omega (arith, c.decreases), (n.good, omega (arith, n.low), seq_first n c.in-Sequence.is c.requires.2))

pub loop-flag-init : goal.loop-flag-init
loop-flag-init t c = λ s. going_start s _

pub goes_on-requires : goal.goes_on-requires
goes_on-requires t c =
    let s = c.requires.2 in
    let at = goal.at.goes_on-requires t c in
    (c.requires.1, omega (arith, lower (line t at.After-node_at) c.in-Star.is, c.requires.1), omega (arith, s.enough, (going t c).now.within))

pub put_bit-requires : goal.put_bit-requires
put_bit-requires t c = omega (arith, (going t (goal.at.put_bit-requires t c).At-loop-flag).now.few)

pub overflow_add-next : goal.overflow_add-next
overflow_add-next t c = omega (arith, (going t (goal.at.overflow_add-next t c).At-loop-flag).now.few)

pub sweep-here-requires-in-loop-flag : goal.sweep-here-requires-in-loop-flag
sweep-here-requires-in-loop-flag t c =
    let at = goal.at.sweep-here-requires-in-loop-flag t c in
    let n = line t at.After-node_at in
    let h = lower n c.in-Star.is in
    let g = going t at.At-loop-flag in
    let ready = round_ready n c.in-Star.is c.requires.2 g c.goes_on.ensures c.loop-flag-test.true in
    (omega (arith, c.decreases, g.further), (n.good, omega (arith, n.low), ready))

pub loop-flag-smaller : goal.loop-flag-smaller
loop-flag-smaller t c =
    let at = goal.at.loop-flag-smaller t c in
    let less = round-less (line t at.After-node_at) c.in-Star.is c.requires.2 (going t at.At-loop-flag) c.goes_on.ensures
    c.loop-flag-test.true c.put_bit.ensures c.sweep-here-in-loop-flag.ensures in
    omega arith

pub loop-flag-preserved : goal.loop-flag-preserved
loop-flag-preserved t c =
    λ s. round_done (line t (goal.at.loop-flag-preserved t c).After-node_at) c.in-Star.is s (c.loop-flag.invariant s) c.goes_on.ensures
    c.loop-flag-test.true c.put_bit.ensures c.sweep-here-in-loop-flag.ensures

pub stop-requires : goal.stop-requires
stop-requires t c = omega (arith, (going t (goal.at.stop-requires t c).At-loop-flag).now.few)

pub returns-in-Star : goal.returns-in-Star
returns-in-Star t c =
    λ s. star_stop (line t (goal.at.returns-in-Star t c).After-node_at) c.in-Star.is s (c.loop-flag.invariant s) c.goes_on.ensures
    c.loop-flag-test.false c.stop.ensures

pub sweep-here-requires-2 : goal.sweep-here-requires-2
sweep-here-requires-2 t c =
    let at = goal.at.sweep-here-requires-2 t c in
    let n = line t at.After-node_at in
    let k = last_part t at.Joined-node_at n c.requires.2 in
    (omega (arith, k.below, k.further, c.decreases), (n.good, omega (arith, k.below, n.low), k.ready))

pub returns : goal.returns
returns t c =
    let at = goal.at.returns t c in
    λ s. let k = last_part t at.Joined-node_at (line t at.After-node_at) s in k.done (c.sweep-here-2.ensures k.ready)
