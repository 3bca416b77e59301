-- `table::table_of` meets its contract.
use Rattle.table.specs.CellLaws.{put-filled, filled_rooted, followed_holds}
use Rattle.table.proofs.table_of.Goals as goal

pub put_followers-requires : goal.put_followers-requires
put_followers-requires c = let lines = put-filled _ _ _ _ _ _ c.put_lines.ensures c.put_follower.ensures in
    (filled_rooted _ c.requires _ lines, lines.long, c.put_follower.ensures.stores.here)

pub returns : goal.returns
returns c = followed_holds _ c.requires _ (put-filled _ _ _ _ _ _ c.put_lines.ensures c.put_follower.ensures) _ c.put_followers.ensures
