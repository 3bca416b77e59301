-- `terms::days::last_date` meets its contract.
use Rattle.std.proofs.Common.{◌≡◌, take}
use Rattle.terms.specs.Days.{date_behind}
use Rattle.terms.proofs.days.last_date.Given as goal

abbrev pub invariant-loop-c : goal.invariant-loop-c
invariant-loop-c l = l.date ≡ date_behind l.initial.date (take l.c-index l.c-items)
