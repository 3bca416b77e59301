-- `listing_lines::put_open` meets its contract. The invariant: what is left to put gives what was to be put.
use Rattle.std.proofs.Common.{◌∙◌, ◌+◌, suc, inl, arith}
use Rattle.text.specs.Putting.{put-start, put_turn, put_done}
use Rattle.listing_lines.specs.Lines.{open_all, open_turn, open_over}
use Rattle.listing_lines.proofs.put_open.Goals as goal

pub loop-i-init : goal.loop-i-init
loop-i-init c =
    put-start _ _ _ _ _ _ (omega arith) c.min-end.ensures (open_all c.args.words.now (suc c.args.letters))

pub loop-i-preserved : goal.loop-i-preserved
loop-i-preserved c =
    let ones = c.from.ensures ∙ c.open_nodes-open.ensures in
    let turn = open_turn c.args.words.now (suc c.args.letters) c.loop-i.i _ (omega (arith, c.loop-i-test.true)) ones in
    put_turn _ _ _ _ _ _ _ _ _ _ _ _ c.loop-i.invariant turn c.loop-i.invariant.long c.put_line-end.ensures

pub returns-2 : goal.returns-2
returns-2 c =
    let ones = c.from.ensures ∙ c.open_nodes-open.ensures in
    let turn = open_turn c.args.words.now (suc c.args.letters) c.loop-i.i _ (omega (arith, c.loop-i-test.true)) ones in
    let left = put_turn _ _ _ _ _ _ _ _ _ _ _ _ c.loop-i.invariant turn c.loop-i.invariant.long c.put_line-end.ensures in
    put_done _ _ _ _ _ _ _ left (inl (open_over c.args.words.now (suc c.args.letters) (c.loop-i.i + 1) (omega arith)))
