-- `syntax::naming::names_of` meets its contract.
use Rattle.std.proofs.Common.{sym, ◌∙◌}
use Rattle.std.proofs.lemmas.Option.{none-some}
use Rattle.syntax.specs.Names.{names_start, names_wrong, names_on}
use Rattle.syntax.proofs.naming.names_of.Goals.{then-p-i, else-p-i+in_default}
use Rattle.syntax.proofs.naming.names_of.Goals as goal

pub loop-i-init : goal.loop-i-init
loop-i-init c = names_start _

pub loop-i-preserved : goal.loop-i-preserved
loop-i-preserved c = names_on _ _ _ c.loop-i.invariant c.if-p-i.false c.requires _ (sym c.name_parts.ensures ∙ c.in-Some.is)

pub returns-in-Some-fault : goal.returns-in-Some-fault
returns-in-Some-fault c = elim c.if-p-i.branch [
  | then-p-i w ↦ absurd (none-some _ (sym w.fault-is ∙ c.in-Some-fault.is))
  | else-p-i+in_default w ↦
      names_wrong _ _ _ c.loop-i.invariant w.if-p-i.false c.requires (sym w.name_parts.ensures ∙ w.in_default.is) ∙ (sym w.fault-is ∙ c.in-Some-fault.is)
]
