use Rattle.std.proofs.Common.{◌≡◌, drop}
use Rattle.fields.specs.Fields.{number}
use Rattle.fields.proofs.number_of.Given as goal

abbrev pub invariant-loop-b : goal.invariant-loop-b
invariant-loop-b l = number l.n (drop l.b-index l.digits) ≡ number 0 l.digits
