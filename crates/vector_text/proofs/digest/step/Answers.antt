-- `vector_text::digest::step` meets its contract: it is the definition.
use Rattle.std.proofs.Common.{refl}
use Rattle.vector_text.specs.Cases.{digest_step}
use Rattle.vector_text.proofs.digest.step.Goals as goal

pub returns : goal.returns
unfolding digest_step
returns c = refl
