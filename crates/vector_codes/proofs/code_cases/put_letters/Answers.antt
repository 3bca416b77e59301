-- `vector_codes::code_cases::put_letters` meets its contract: two puts are one of the joined bytes.
use Rattle.text.specs.Putting.{puts_then}
use Rattle.vector_codes.proofs.code_cases.put_letters.Goals as goal

pub returns : goal.returns
returns c = puts_then _ _ _ _ _ _ _ _ c.put_digest-end.ensures c.put_digest.ensures
