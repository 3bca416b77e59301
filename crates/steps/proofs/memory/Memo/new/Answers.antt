-- `steps::memory::Memo::new` meets its contract.
use Rattle.std.proofs.Common.{refl}
use Rattle.steps.specs.Memo.{learned_start}
use Rattle.steps.proofs.memory.Memo.new.Goals as goal

pub returns : goal.returns
returns c = λ zs os ts. learned_start zs os ts _ refl
