-- `desk::limits::limits_of` meets its contract.
use Rattle.std.proofs.Common.{◌≡◌, ◌<◌, ◌≤◌, length, arith, rules}
use Rattle.desk.specs.Limits.{count_over, limits_summed}
use Rattle.desk.proofs.limits.limits_of.Goals as goal

pub returns-in_err-get : goal.returns-in_err-get
returns-in_err-get c =
    let whole : length c.args.desk.now.lengths ≡ 30 = search rules in
    let over : length c.args.desk.now.lengths < c.args.desk.now.count = omega (arith, c.from.ensures, c.in_err-get.ensures.lookup) in
    rw c.from_residual.ensures (count_over c.args.desk.now whole over)

pub returns : goal.returns
returns c =
    let whole : length c.args.desk.now.lengths ≡ 30 = search rules in
    let upto : c.args.desk.now.count ≤ length c.args.desk.now.lengths = omega (arith, c.from.ensures, c.in_ok-get.ensures.lookup.0.1) in
    limits_summed c.args.desk.now whole upto _ (rw (← c.from.ensures) c.in_ok-get.ensures.lookup.0.2) _ c.sum_pages.ensures
