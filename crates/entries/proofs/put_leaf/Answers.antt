-- `entries::put_leaf` meets its contract.
use Rattle.entries.specs.Entries.{entries-nothing, entries_letter}
use Rattle.entries.specs.Entering.{none_entered, one_entered}
use Rattle.entries.proofs.put_leaf.Goals as goal

pub returns-in-Nothing : goal.returns-in-Nothing
returns-in-Nothing c = none_entered _ _ c.requires.few (entries-nothing _ _ _ _ c.in-Nothing.is c.requires.within)

pub returns-in-Letter : goal.returns-in-Letter
returns-in-Letter c = one_entered (entries_letter _ _ _ _ _ c.in-Letter.is c.requires.within)
    c.put_entry.ensures.0 c.put_entry.ensures.1 c.put_entry.ensures.2
