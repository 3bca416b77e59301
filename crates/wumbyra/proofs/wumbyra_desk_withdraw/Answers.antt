-- `wumbyra::wumbyra_desk_withdraw` meets its contract.
use Rattle.wumbyra.proofs.DeskLaws.{withdraw-packed}
use Rattle.wumbyra.proofs.wumbyra_desk_withdraw.Goals as goal

pub returns : goal.returns
returns c = withdraw-packed _ _ c.pattern_of.ensures _ _ c.desk_of-held.ensures _ _ _ c.withdraw-answer.ensures
    _ c.put_desk.ensures _ c.of_answer.ensures
