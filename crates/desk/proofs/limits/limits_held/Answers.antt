-- `desk::limits::limits_held` meets its contract.
use Rattle.std.proofs.Common.{refl, ◌∙◌}
use Rattle.desk.specs.Limits.{held_broken, held_upto, held_told}
use Rattle.desk.proofs.limits.limits_held.Goals as goal

pub returns-in_err-held : goal.returns-in_err-held
returns-in_err-held c = c.from_residual.ensures ∙ held_broken _ _ _ c.limits_of.ensures c.in_err-held.was

pub overflow_sub-from : goal.overflow_sub-from
overflow_sub-from c = held_upto _ c.args.letters.now _ c.limits_of.ensures _ c.in_ok-held.was

pub returns : goal.returns
returns c = held_told _ c.args.letters.now _ c.limits_of.ensures _ c.in_ok-held.was _ _ c.first_bad-bad.ensures refl c.requires _
    c.then_some.ensures
