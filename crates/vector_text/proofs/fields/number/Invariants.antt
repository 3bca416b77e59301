-- `vector_text::fields::number` meets its contract. The invariant: what is left to read gives the number of all.
use Rattle.std.proofs.Common.{drop}
use Rattle.vector_text.specs.Folds.{Reads}
use Rattle.vector_text.proofs.fields.number.Given as goal

abbrev pub invariant-loop-digit : goal.invariant-loop-digit
invariant-loop-digit l = Reads l.digits l.n (drop l.digit-index l.digits)
