-- `calendar::next_date` meets its contract: no date is in a year past 2099, and its day is none past 32. The day's sum is shown by that, and not by
-- the test before it, so that an edit of the test leaves the sum right.
use mathlib.Core.Path.{sym, ◌∙◌}
use native.Mathlib.Omega.{arith}
use Rattle.calendar.specs.DateLaws.{date_facts, month_between}
use Rattle.calendar.proofs.next_date.Goals as goal

pub overflow_add-result : goal.overflow_add-result
overflow_add-result c =
    let d = date_facts c.args.d (sym c.is_date.ensures ∙ c.if-not-is_date.false) in
    omega (arith, d.last_day, month_between c.args.d.year c.args.d.month d.first_month d.last_month)

pub overflow_add-result-else-d-lt-MONTHS : goal.overflow_add-result-else-d-lt-MONTHS
overflow_add-result-else-d-lt-MONTHS c =
    omega (arith, (date_facts c.args.d (sym c.is_date.ensures ∙ c.if-not-is_date.false)).last_year)
