-- `calendar::month_length` meets its contract: no month has so many days that a leap day more would not fit.
use Prim.Native.Nat.{◌-◌}
use native.Mathlib.Omega.{arith}
use Rattle.calendar.specs.DateLaws.{entry-between, leap_day_small}
use Rattle.calendar.specs.declared.TheConstants.{MONTH_LENGTHS}
use Rattle.calendar.proofs.month_length.Goals as goal

pub overflow_add-result : goal.overflow_add-result
overflow_add-result c =
    let m = c.args.month in
    let days = entry-between 28 31 MONTH_LENGTHS (omega arith) (m - 1) (omega (arith, c.in-1-to-12)) in
    omega (arith, c.leap_day.ensures, leap_day_small c.args.year m, days.1)
