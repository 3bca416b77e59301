-- `vector_codes::term_cases::date_at` meets its contract: a field after the other.
use Rattle.vector_codes.specs.Answers.{date-made}
use Rattle.vector_codes.proofs.term_cases.date_at.Goals as goal

pub returns : goal.returns
returns c = date-made c.args.line.now c.rest-second.ensures c.rest-third.ensures c.field.ensures
    c.number.ensures c.field-2.ensures c.number-2.ensures c.field-3.ensures c.number-3.ensures
