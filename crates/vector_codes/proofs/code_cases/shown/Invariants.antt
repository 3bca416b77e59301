-- `vector_codes::code_cases::shown` meets its contract. The invariant: what is left out is 0.
use Rattle.vector_codes.specs.Answers.{LeftOut}
use Rattle.vector_codes.proofs.code_cases.shown.Given as goal

abbrev pub invariant-loop-n : goal.invariant-loop-n
invariant-loop-n l = LeftOut l.litres l.n
