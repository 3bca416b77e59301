-- `parser::write_code` meets its contract.
use Rattle.parser.specs.ParseLaws.{write_fits}
use Rattle.parser.proofs.write_code.Goals as goal

pub returns : goal.returns
returns c = λ s. write_fits s c.args.code.now (c.in_default.ensures s) (c.sweep-swept.ensures s.ready)
