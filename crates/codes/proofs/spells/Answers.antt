-- `codes::spells` meets its contract.
use Rattle.std.proofs.Common.{refl, ◌∙◌, ne_eqb}
use Rattle.codes.specs.SpellLaws.{spells_no, spells_other, spells_same}
use Rattle.codes.proofs.spells.Goals as goal

pub returns-in_default : goal.returns-in_default
returns-in_default c = spells_no _ _ _ _ c.requires.l_bound.1 c.enter.ensures c.in_default.is

pub returns-then-letters-tape : goal.returns-then-letters-tape
returns-then-letters-tape c =
    spells_same _ _ _ _ c.requires.l_bound.1 c.enter.ensures c.in-Some.is c.if-letters-tape.true refl _ c.starts_with.ensures.value

pub returns-else-letters-tape : goal.returns-else-letters-tape
returns-else-letters-tape c =
    ne_eqb _ _ c.if-letters-tape.false ∙ spells_other _ _ _ _ c.requires.l_bound.1 c.enter.ensures c.in-Some.is c.if-letters-tape.false
