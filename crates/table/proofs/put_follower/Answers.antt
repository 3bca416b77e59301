-- `table::put_follower` meets its contract.
use Rattle.table.specs.CellLaws.{follower_put}
use Rattle.table.proofs.put_follower.Goals as goal

pub returns : goal.returns
returns c = follower_put _ _ _ c.requires.0
