-- `entries::put_entries` meets its contract: each way is one law of `Entering`.
use Rattle.std.proofs.Common.{◌≡◌, ◌∙◌, refl, ℕ, arith, ◌+◌}
use Rattle.semantics.specs.Accounts.{handed_down}
use Rattle.table.specs.Cells.{tree_in}
use Rattle.entries.specs.Entering.{Parts, AtLine, line_known, second_below, leaf_is, seq_is, side_is, stop_is, round_is, alt_none_is, star_none_is}
use Rattle.entries.specs.Entering.{enters_stays, enters_ready, not_entered, none_entered, first_failed, both-charged, same_entered}
use Rattle.entries.specs.Entering.{turns_failed, turns_more}
use Rattle.entries.proofs.+put_entries.Goals as goal
use Rattle.entries.proofs.+put_entries.Goals.{After-node_at, Else-stops_at}

-- what is known of the line once its node is read
line : (t : ℕ) (c : After-node_at t) → AtLine c.args.table.now c.args.l c.args.above c.handed_down-owner.result c.node_at.result
line t c =
    let owner : c.handed_down-owner.result ≡ handed_down c.account_at-own.result c.args.above = c.handed_down-owner.ensures in
    line_known c.requires.good.0 c.requires.good.1 c.node_at.ensures c.account_at-own.ensures owner

-- the parts of a round that is begun
round : (t : ℕ) (c : Else-stops_at t)
    → Parts c.args.code.now (tree_in c.args.table.now c.args.l) c.args.above c.loop-here.here
    (tree_in c.args.table.now c.from-part.result) c.handed_down-owner.result (c.loop-here.here + 1) (tree_in c.args.table.now c.args.l) c.args.above
round t c =
    let known = line_known c.requires.good.0 c.requires.good.1 c.node_at.ensures c.account_at-own.ensures c.handed_down-owner.ensures in
    round_is known _ _ _ _ c.in-Star.is (omega (arith, c.bits_in-end.ensures)) _ c.stops_at.ensures c.if-stops_at.false
    c.from-part.ensures

pub returns-in_err-one-in-Sequence : goal.returns-in_err-one-in-Sequence
returns-in_err-one-in-Sequence t c =
    let known = line t (goal.at.returns-in_err-one-in-Sequence t c).After-node_at in
    let parts = seq_is known _ _ _ _ c.in-Sequence.is c.requires.ready.within c.from-first.ensures c.from-second.ensures in
    rw c.from_residual.ensures (first_failed parts c.put_entries.ensures c.in_err-one-in-Sequence.was)

pub put_entries-requires-in-Sequence : goal.put_entries-requires-in-Sequence
put_entries-requires-in-Sequence t c =
    let known = line t (goal.at.put_entries-requires-in-Sequence t c).After-node_at in
    let h = second_below known _ _ c.in-Sequence.is in
    let ok = c.in_ok-one-in-Sequence.was in
    let on = enters_stays c.put_entries.ensures ok c.requires.ready.within in
    (omega (arith, h, on.0, c.decreases, c.from-second.ensures), ((known.good, omega (arith, h, known.below, c.from-second.ensures)), enters_ready c.put_entries.ensures ok c.requires.ready))

pub returns-then-bits_in-at : goal.returns-then-bits_in-at
returns-then-bits_in-at t c =
    let known = line t (goal.at.returns-then-bits_in-at t c).After-node_at in
    not_entered refl refl refl (alt_none_is known _ _ _ _ c.in-Alternative.is (omega arith))

pub returns-then-stops_at : goal.returns-then-stops_at
returns-then-stops_at t c =
    let known = line t (goal.at.returns-then-stops_at t c).After-node_at in
    let stop = stop_is known _ _ _ _ c.in-Star.is (omega (arith, c.bits_in-end.ensures)) _ c.stops_at.ensures c.if-stops_at.true in
    c.loop-here.invariant.finish _ _ _ (none_entered _ _ c.loop-here.invariant.ready.few stop)

pub returns-in_err-one-in-Star : goal.returns-in_err-one-in-Star
returns-in_err-one-in-Star t c =
    rw c.from_residual-in_err-one-in-Star.ensures (turns_failed c.loop-here.invariant (round t (goal.at.returns-in_err-one-in-Star t c).Else-stops_at) c.put_entries-in-loop-here.ensures
    c.in_err-one-in-Star.was)

pub loop-here-smaller : goal.loop-here-smaller
loop-here-smaller t c =
    let parts = round t (goal.at.loop-here-smaller t c).Else-stops_at in
    omega (
      arith,
      c.loop-here.invariant.ready.short,
      enters_stays c.put_entries-in-loop-here.ensures c.in_ok-one-in-Star.was parts.within,
    )

pub loop-here-preserved : goal.loop-here-preserved
loop-here-preserved t c =
    turns_more c.loop-here.invariant (round t (goal.at.loop-here-preserved t c).Else-stops_at) c.put_entries-in-loop-here.ensures
    c.in_ok-one-in-Star.was

pub returns-in-Leaf : goal.returns-in-Leaf
returns-in-Leaf t c =
    let known = line t (goal.at.returns-in-Leaf t c).After-node_at in
    same_entered (leaf_is known _ _ _ c.in-Leaf.is c.requires.ready.within) c.put_leaf.ensures

pub returns-in_ok-one-in-Sequence : goal.returns-in_ok-one-in-Sequence
returns-in_ok-one-in-Sequence t c =
    let known = line t (goal.at.returns-in_ok-one-in-Sequence t c).After-node_at in
    let ready = c.requires.ready in
    both-charged (seq_is known _ _ _ _ c.in-Sequence.is ready.within c.from-first.ensures c.from-second.ensures) c.put_entries.ensures c.in_ok-one-in-Sequence.was ready.long ready.wide
    c.put_entries-in-Sequence.ensures refl

pub returns-else-bits_in-at : goal.returns-else-bits_in-at
returns-else-bits_in-at t c =
    let known = line t (goal.at.returns-else-bits_in-at t c).After-node_at in
    same_entered (side_is known _ _ _ _ _ c.in-Alternative.is (omega arith) (c.from-side.ensures ∙ c.side_at.ensures)) c.put_entries-in-Alternative.ensures

pub returns-after-loop-here : goal.returns-after-loop-here
returns-after-loop-here t c =
    let known = line t (goal.at.returns-after-loop-here t c).After-node_at in
    let over = star_none_is known _ _ _ _ c.in-Star.is (omega (arith, c.bits_in-end.ensures)) in
    c.loop-here.invariant.finish _ _ _ (not_entered refl refl refl over)
