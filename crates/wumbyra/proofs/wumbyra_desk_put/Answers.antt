-- `wumbyra::wumbyra_desk_put` meets its contract.
use Rattle.wumbyra.proofs.DeskLaws.{put-packed}
use Rattle.wumbyra.proofs.wumbyra_desk_put.Goals as goal

pub returns : goal.returns
returns c = put-packed _ _ c.pattern_of.ensures _ _ c.desk_of-held.ensures _ _ _ _ _ _ _ c.put-answer.ensures
    _ c.put_desk.ensures _ c.of_answer.ensures
