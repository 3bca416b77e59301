-- `steps::memory::Memo::learn` meets its contract.
use Rattle.std.proofs.Common.{Some}
use Rattle.steps.specs.Memo.{learned_numbered, learned_step, stands_numbered}
use Rattle.steps.proofs.memory.Memo.learn.Goals as goal

pub returns-in_default : goal.returns-in_default
returns-in_default c = record {
  learned = λ zs os ts next last l p e. learned_numbered zs os ts _ _ _ _ c.number_of.ensures c.args.takers next last l;
  stands = tt;
}

pub returns-in-Some-from : goal.returns-in-Some-from
returns-in-Some-from c = record {
  learned = λ zs os ts next last l p e.
      learned_step zs os ts _ _ _ _ c.number_of.ensures c.args.takers next last l _ _ _ _ c.in-Some.is (rw c.in-Some-from.is at p) e c.note.ensures;
  stands = stands_numbered _ _ _ (Some c.in-Some.to) (rw c.in-Some.is at c.number_of.ensures.number);
}

pub returns-in_default-from : goal.returns-in_default-from
returns-in_default-from c = record {
  learned = λ zs os ts next last l p e. learned_numbered zs os ts _ _ _ _ c.number_of.ensures c.args.takers next last l;
  stands = stands_numbered _ _ _ (Some c.in-Some.to) (rw c.in-Some.is at c.number_of.ensures.number);
}
