-- `terms::selection::select_term` meets its contract.
use Rattle.terms.specs.Selection.{Selecting}
use Rattle.terms.proofs.selection.select_term.Given as goal

abbrev pub invariant-loop-i : goal.invariant-loop-i
invariant-loop-i l = Selecting l.initial.day.date l.term l.initial.letters l.initial.accounts l.letters l.accounts l.day l.n l.kept l.i
