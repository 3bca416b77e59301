-- `spans::find::find` and `spans::find::find_inside` meet their contracts: they call each other.
use Rattle.std.proofs.Common.{ℕ, ◌+◌, ◌<◌, ◌≡◌, Bool, true, false, cond, refl, sym, ap, ◌∙◌, arith}
use Rattle.std.specs.declared.ops.ControlFlow.TheVariants.{Break}
use Rattle.syntax.specs.Tree.{Tree, star}
use Rattle.table.specs.Cells.{account_in, tree_in}
use Rattle.table.specs.CellLaws.{line-index}
use Rattle.walks.specs.Lines.{line_as, side_lower, first_lower, second_lower, star_lower}
use Rattle.bits.specs.Bits.{bit_at}
use Rattle.spans.specs.Traces.{trace_at, inside_at}
use Rattle.spans.specs.TraceLaws.{inside_side}
use Rattle.spans.specs.Apart.{apart}
use Rattle.spans.specs.Seeks.{seeking_same, found_same, Runs, first_seeking, first_found, second_seeking, second_found}
use Rattle.spans.specs.Seeks.{inside_seeking, inside_end, inside_found, own_found, leaf_letters, leaf_missed, pair_runs, alt_in, found_stays}
use Rattle.spans.specs.Seeks.{turns_in, turns_stop, turns_round, turns_found, turns_less, turns_more}
use Rattle.spans.proofs.find.+find_find_inside.Goals as goal
use Rattle.spans.proofs.find.+find_find_inside.Goals.{find_inside-In-Sequence, find_inside-In-Alternative, find_inside-After-from-in-Alternative, find_inside-At-loop-here}

-- ── a node ──
pub find-find_inside-inside-requires : goal.find-find_inside-inside-requires
find-find_inside-inside-requires t c =
    (omega (arith, c.decreases), (c.requires.good, (c.requires.l_bound, inside_seeking _ _ _ _ c.requires.seeking)))

pub find-ended-requires : goal.find-ended-requires
find-ended-requires t c = inside_end _ _ _ _ c.find_inside-inside.ensures

pub find-returns-then-is_here : goal.find-returns-then-is_here
find-returns-then-is_here t c =
    own_found _ _ _ _ c.find_inside-inside.ensures (line-index c.requires.good c.args.l c.requires.l_bound.0)
    (sym c.is_here.ensures ∙ c.if-is_here.true) (apart c.requires.good c.args.l c.requires.l_bound.0) c.ended.ensures

pub find-returns-else-is_here : goal.find-returns-else-is_here
find-returns-else-is_here t c =
    inside_found _ _ _ _ c.find_inside-inside.ensures (line-index c.requires.good c.args.l c.requires.l_bound.0)
    (sym c.is_here.ensures ∙ c.if-is_here.false) c.left_inside-left.ensures

-- ── inside a node ──
pub find_inside-overflow_add-result-in-Leaf : goal.find_inside-overflow_add-result-in-Leaf
find_inside-overflow_add-result-in-Leaf t c =
    let e = line_as c.requires.good _ c.requires.l_bound.0 _ c.node_at.ensures _ c.in-Leaf.is in
    let h = leaf_letters _ _ (omega arith) _ (tree_in c.args.table.now) _ e c.requires.l_bound.1 c.requires.seeking c.step_of-step.ensures in
    omega (arith, c.requires.l_bound, h)

pub find_inside-returns-in-Leaf : goal.find_inside-returns-in-Leaf
find_inside-returns-in-Leaf t c =
    let e = line_as c.requires.good _ c.requires.l_bound.0 _ c.node_at.ensures _ c.in-Leaf.is in
    leaf_missed _ _ (omega arith) _ (tree_in c.args.table.now) _ e c.requires.l_bound.1 c.requires.seeking c.step_of-step.ensures

pair_is : (t : ℕ) (c : find_inside-In-Sequence t) (f s : ℕ) → f ≡ c.in-Sequence.p → s ≡ c.in-Sequence.q →
    Runs (inside_at c.args.code.now c.args.count (tree_in c.args.table.now c.args.l) c.args.at)
    (trace_at c.args.code.now c.args.count (tree_in c.args.table.now f) c.args.at)
    (trace_at c.args.code.now c.args.count (tree_in c.args.table.now s))
pair_is t c f s ef es =
    rw (ef, es)
    (pair_runs _ _ (omega arith) (line_as c.requires.good _ c.requires.l_bound.0 _ c.node_at.ensures _ c.in-Sequence.is) c.requires.l_bound.1)

pub find_inside-find-requires : goal.find_inside-find-requires
find_inside-find-requires t c =
    let h = first_lower c.requires.good _ c.requires.l_bound.0 _ c.node_at.ensures _ _ c.in-Sequence.is in
    let e = c.from.ensures in
    let r = first_seeking (pair_is t (goal.at.find_inside-find-requires t c).In-Sequence c.from.result c.in-Sequence.q e refl) c.requires.seeking in
    (omega (arith, c.decreases, c.requires.l_bound, h, e), (c.requires.good, (omega (arith, c.requires.l_bound, h, e), r)))

pub find_inside-returns-in_err-one-in-Sequence : goal.find_inside-returns-in_err-one-in-Sequence
find_inside-returns-in_err-one-in-Sequence t c =
    let place = (goal.at.find_inside-returns-in_err-one-in-Sequence t c).In-Sequence in
    let found : c.find.result ≡ Break c.in_err-one-in-Sequence.field-0.0 = c.in_err-one-in-Sequence.was in
    let same : c.from_residual.result ≡ c.find.result = c.from_residual.ensures ∙ sym found in
    rw same (first_found (pair_is t place c.from.result c.in-Sequence.q c.from.ensures refl) c.requires.seeking c.find.ensures found)

pub find_inside-find-requires-in-Sequence : goal.find_inside-find-requires-in-Sequence
find_inside-find-requires-in-Sequence t c =
    let place = (goal.at.find_inside-find-requires-in-Sequence t c).In-Sequence in
    let e = c.in_ok-one-in-Sequence.was in
    let h = second_lower c.requires.good _ c.requires.l_bound.0 _ c.node_at.ensures _ _ c.in-Sequence.is in
    let g = found_stays _ _ (omega arith) _ c.find.ensures c.requires.l_bound.1 e in
    let q = c.from-in-Sequence.ensures in
    let r = second_seeking (pair_is t place c.from.result c.from-in-Sequence.result c.from.ensures q) c.requires.seeking c.find.ensures e in
    (omega (arith, c.decreases, c.requires.l_bound, h, g, q), (c.requires.good, (omega (arith, c.requires.l_bound, h, g, q), r)))

pub find_inside-returns-in_ok-one-in-Sequence : goal.find_inside-returns-in_ok-one-in-Sequence
find_inside-returns-in_ok-one-in-Sequence t c =
    let place = (goal.at.find_inside-returns-in_ok-one-in-Sequence t c).In-Sequence in
    second_found (pair_is t place c.from.result c.from-in-Sequence.result c.from.ensures c.from-in-Sequence.ensures) c.requires.seeking c.find.ensures
    c.in_ok-one-in-Sequence.was c.find-in-Sequence.ensures

-- the bit of an alternative that is there is in the code
choice_in : (t : ℕ) (c : find_inside-In-Alternative t) → c.args.at < c.args.count
choice_in t c =
    alt_in _ _ (omega arith) (line_as c.requires.good _ c.requires.l_bound.0 _ c.node_at.ensures _ c.in-Alternative.is) _ c.requires.seeking

side : (f : ℕ → Tree) (p q : ℕ) (b : Bool) (r : ℕ) → r ≡ cond b q p → cond b (f q) (f p) ≡ f r
side f p q true r e = ap f (sym e)
side f p q false r e = ap f (sym e)

choice_is : (t : ℕ) (c : find_inside-After-from-in-Alternative t) → c.args.at < c.args.count →
    inside_at c.args.code.now c.args.count (tree_in c.args.table.now c.args.l) c.args.at
    ≡ trace_at c.args.code.now c.args.count (tree_in c.args.table.now c.from-in-Alternative.result) (c.args.at + 1)
choice_is t c h =
    inside_side _ _ (omega arith) (line_as c.requires.good _ c.requires.l_bound.0 _ c.node_at.ensures _ c.in-Alternative.is) _ h
    ∙ ap (λ z. trace_at c.args.code.now c.args.count z (c.args.at + 1))
    (side (tree_in c.args.table.now) c.in-Alternative.p c.in-Alternative.q (bit_at 8 c.args.code.now c.args.at) c.from-in-Alternative.result
    (c.from-in-Alternative.ensures ∙ c.side_at-side.ensures))

pub find_inside-side_at-side-requires : goal.find_inside-side_at-side-requires
find_inside-side_at-side-requires t c =
    let h = choice_in t (goal.at.find_inside-side_at-side-requires t c).In-Alternative in
    omega (arith, c.requires.l_bound, h)

pub find_inside-find-requires-in-Alternative : goal.find_inside-find-requires-in-Alternative
find_inside-find-requires-in-Alternative t c =
    let at = goal.at.find_inside-find-requires-in-Alternative t c in
    let g = choice_in t at.In-Alternative in
    let h = side_lower c.requires.good _ c.requires.l_bound.0 _ c.node_at.ensures _ _ c.in-Alternative.is
    (bit_at 8 c.args.code.now c.args.at) _ c.side_at-side.ensures in
    let e = c.from-in-Alternative.ensures in
    let r = seeking_same (choice_is t at.After-from-in-Alternative g) c.requires.seeking in
    (omega (arith, c.decreases, c.requires.l_bound, h, g, e), (c.requires.good, (omega (arith, c.requires.l_bound, h, g, e), r)))

pub find_inside-returns-in-Alternative : goal.find_inside-returns-in-Alternative
find_inside-returns-in-Alternative t c =
    let at = goal.at.find_inside-returns-in-Alternative t c in
    found_same (choice_is t at.After-from-in-Alternative (choice_in t at.In-Alternative)) c.find-in-Alternative.ensures

star_is : (t : ℕ) (c : find_inside-At-loop-here t) →
    tree_in c.args.table.now c.args.l
    ≡ star (record { index = c.args.l; account = account_in c.args.table.now c.args.l }) c.in-Star.again (tree_in c.args.table.now c.from-part.result)
star_is t c = rw c.from-part.ensures (line_as c.requires.good _ c.requires.l_bound.0 _ c.node_at.ensures _ c.in-Star.is)

-- the bit of a star that is there is in the code
turn_in : (t : ℕ) (c : find_inside-At-loop-here t) → c.loop-here.here.at < c.args.count
turn_in t c = turns_in (omega arith) (star_is t c) c.loop-here.invariant

pub find_inside-stops_at-requires : goal.find_inside-stops_at-requires
find_inside-stops_at-requires t c =
    let h = turn_in t c in
    omega (arith, c.requires.l_bound, h)

pub find_inside-returns-after-loop-here : goal.find_inside-returns-after-loop-here
find_inside-returns-after-loop-here t c =
    turns_stop (omega arith) (star_is t (goal.at.find_inside-returns-after-loop-here t c).At-loop-here) c.loop-here.invariant c.stops_at.ensures
    c.loop-here-test.false

pub find_inside-find-requires-in-loop-here : goal.find_inside-find-requires-in-loop-here
find_inside-find-requires-in-loop-here t c =
    let at = (goal.at.find_inside-find-requires-in-loop-here t c).At-loop-here in
    let h = star_lower c.requires.good _ c.requires.l_bound.0 _ c.node_at.ensures _ _ c.in-Star.is in
    let g = turn_in t at in
    let e = c.from-part.ensures in
    let low = c.loop-here.invariant.low in
    let r = turns_round (omega arith) (star_is t at) c.loop-here.invariant c.stops_at.ensures c.loop-here-test.true in
    (omega (arith, c.decreases, c.requires.l_bound, h, g, low, e), (c.requires.good, (omega (arith, c.requires.l_bound, h, g, e), r)))

pub find_inside-returns-in_err-here-in-Star : goal.find_inside-returns-in_err-here-in-Star
find_inside-returns-in_err-here-in-Star t c =
    let at = (goal.at.find_inside-returns-in_err-here-in-Star t c).At-loop-here in
    let found : c.find-in-loop-here.result ≡ Break c.in_err-here-in-Star.field-0.0 = c.in_err-here-in-Star.was in
    let same : c.from_residual-in_err-here-in-Star.result ≡ c.find-in-loop-here.result = c.from_residual-in_err-here-in-Star.ensures ∙ sym found in
    rw same
    (turns_found (omega arith) (star_is t at) c.loop-here.invariant c.stops_at.ensures c.loop-here-test.true c.find-in-loop-here.ensures found)

pub find_inside-loop-here-smaller : goal.find_inside-loop-here-smaller
find_inside-loop-here-smaller t c =
    let h = turns_less (omega arith) (star_is t (goal.at.find_inside-loop-here-smaller t c).At-loop-here) c.loop-here.invariant c.stops_at.ensures
    c.loop-here-test.true c.find-in-loop-here.ensures c.in_ok-here-in-Star.was in
    omega (arith, h)

pub find_inside-loop-here-preserved : goal.find_inside-loop-here-preserved
find_inside-loop-here-preserved t c =
    turns_more (omega arith) (star_is t (goal.at.find_inside-loop-here-preserved t c).At-loop-here) c.loop-here.invariant c.stops_at.ensures
    c.loop-here-test.true c.find-in-loop-here.ensures c.in_ok-here-in-Star.was
