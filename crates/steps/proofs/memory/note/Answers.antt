-- `steps::memory::note` meets its contract.
use Rattle.steps.specs.Memo.{notes_way, notes_other}
use Rattle.steps.proofs.memory.note.Goals as goal

pub returns-then-claims : goal.returns-then-claims
returns-then-claims c = notes_way _ _ _ _ _ _ _ _ c.claims.ensures c.if-claims.true c.column_of-column.ensures c.requires.0

pub returns-else-claims : goal.returns-else-claims
returns-else-claims c = notes_other _ _ _ _ _ _ _ _ c.claims.ensures
