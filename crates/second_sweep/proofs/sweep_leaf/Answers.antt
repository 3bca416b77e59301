-- `second_sweep::sweep_leaf` meets its contract.
use Rattle.second_sweep.specs.SweepLaws.{leaf_nothing, leaf_letter, leaf_range}
use Rattle.second_sweep.proofs.sweep_leaf.Goals as goal

pub returns-in-Nothing : goal.returns-in-Nothing
returns-in-Nothing c = rw c.in-Nothing.is (leaf_nothing _ _ _ _)

pub returns-in-Letter : goal.returns-in-Letter
returns-in-Letter c = rw c.in-Letter.is (leaf_letter _ _ _ _ _)

pub returns-in-Range : goal.returns-in-Range
returns-in-Range c = let args = c.args in
    rw (c.in-Range.is, c.put_letter.ensures)
    (leaf_range args.tape.now args.i args.at args.code.now _ _)
