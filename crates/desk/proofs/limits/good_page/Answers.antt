-- `desk::limits::good_page` meets its contract.
use Rattle.std.proofs.Common.{arith, rules}
use Rattle.desk.specs.Desks.{good_page}
use Rattle.desk.proofs.limits.good_page.Goals as goal

pub returns : goal.returns
unfolding good_page
returns c = search rules
