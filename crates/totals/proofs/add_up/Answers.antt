-- `totals::add_up` meets its contract.
use Rattle.std.proofs.Common.{◌≡◌, ◌+◌, ◌<◌, length, get_or, set, take, ap, ap₂, ◌∙◌, arith, rules}
use Rattle.std.proofs.lemmas.List.{get_or-take, length-take, length_push}
use Rattle.std.proofs.lemmas.Slice.Zip.{zip_turn, zip_end}
use Rattle.totals.specs.Sums.{charge_one, entries_summed_room, entries_summed_next, entries_summed_end}
use Rattle.totals.proofs.add_up.Goals as goal

-- the letter and the account of this turn
turn : (c : goal.After-from) → (length c.loop-c.yielded < c.args.n)
    × (c.in-Some.field-0-0.now ≡ get_or c.args.letters.now (length c.loop-c.yielded) 0)
    × (c.from.result ≡ get_or c.args.accounts.now (length c.loop-c.yielded) 0)
turn c =
    let xs = c.args.letters.now in
    let ys = c.args.accounts.now in
    let n = c.args.n in
    let i = length c.loop-c.yielded in
    let t = zip_turn (take n xs) (take n ys) c.loop-c.yielded c.into_iter-c-iterator.result c.loop-c.c-iterator c.next.new.self _ (search rules) (search rules)
    c.loop-c.yielded_by _ c.in-Some.is c.next.ensures.steps in
    let more : i < n = omega (arith, t.0, length-take n xs) in
    (more, t.2 0 ∙ get_or-take n xs i 0 more, c.from.ensures ∙ t.3 0 ∙ get_or-take n ys i 0 more)

pub overflow_add-sums : goal.overflow_add-sums
overflow_add-sums c =
    let (more, letter, account) = turn c in
    let own = c.requires.2.own _ more in
    omega (arith, entries_summed_room _ _ _ _ _ c.loop-c.invariant more c.requires.1 c.from.result c.in-Some.field-0-0.now (omega (arith, account, own)), c.litres_of.ensures)

pub loop-c-preserved : goal.loop-c-preserved
unfolding charge_one
loop-c-preserved c =
    let (more, letter, account) = turn c in
    let s = c.loop-c.sums in
    let a = c.from.result in
    rw (length_push c.loop-c.yielded (c.in-Some.field-0-0, c.in-Some.field-0-1))
    (entries_summed_next _ _ _ _ _ c.loop-c.invariant more c.requires.0 c.requires.2.wide _
    (ap (λ l. set s a (get_or s a 0 + l)) c.litres_of.ensures ∙ ap₂ (charge_one s) account letter))

pub returns : goal.returns
returns c =
    let low = zip_end (take c.args.n c.args.letters.now) (take c.args.n c.args.accounts.now) c.loop-c.yielded c.into_iter-c-iterator.result
    c.loop-c.c-iterator c.next.new.self _ (search rules) (search rules) c.loop-c.yielded_by c.in-None.is c.next.ensures.steps in
    let wide = c.requires.2.wide in
    entries_summed_end _ _ _ _ _ c.loop-c.invariant (omega (arith, low, length-take c.args.n c.args.letters.now, length-take c.args.n c.args.accounts.now))
