-- `vector_text::fields::rest` meets its contract: what lies behind the first space.
use Rattle.std.proofs.Common.{ap, length}
use Rattle.vector_text.specs.Folds.{drop-behind}
use Rattle.vector_text.proofs.fields.rest.Goals as goal

pub returns : goal.returns
returns c = drop-behind 32 c.args.line.now _ _ (ap length c.field.ensures) c.min-start.ensures
