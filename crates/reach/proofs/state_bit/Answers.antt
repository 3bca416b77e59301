-- `reach::state_bit` meets its contract.
use Rattle.reach.specs.Reaching.{state-bit, state_none}
use Rattle.reach.proofs.state_bit.Goals as goal

pub returns-then-state-lt64 : goal.returns-then-state-lt64
returns-then-state-lt64 c = state-bit _ c.if-state-lt64.true

pub returns-else-state-lt64 : goal.returns-else-state-lt64
returns-else-state-lt64 c = state_none _ c.if-state-lt64.false
