-- `steps::memory::Memo::number_of` meets its contract.
use Rattle.std.proofs.Common.{refl, sym, ◌∙◌, arith}
use Rattle.steps.specs.Memo.{extends_self, found}
use Rattle.steps.proofs.memory.Memo.number_of.Goals as goal

pub returns-in-Some : goal.returns-in-Some
returns-in-Some c = record {
  extends = extends_self _ _ (omega arith) c.requires;
  owners = refl;
  ways = refl;
  number = found _ _ _ _ (omega arith) (sym c.find.ensures ∙ c.in-Some.is);
}
