-- `entries::gather` meets its contract.
use Rattle.entries.specs.GatherLaws.{reads-root, gather_bad, gather_not, gather_long, gather_done}
use Rattle.table.specs.CellLaws.{holds_good}
use Rattle.syntax.specs.TreeLaws.{obeys_iff}
use mathlib.Core.Path.{sym, ◌∙◌}
use native.Mathlib.Omega.{arith}
use Rattle.refusals.specs.declared.Refusal.TheVariants.{NotACode}
use Rattle.std.proofs.lemmas.Result.{err_from_is_err_and}
use Rattle.entries.specs.Measures.{unmeasured}
use Rattle.entries.proofs.gather.Goals as goal

pub returns-then-not-obeys_rules : goal.returns-then-not-obeys_rules
returns-then-not-obeys_rules c = gather_bad _ _ _ _ _ (sym c.obeys_rules.ensures ∙ c.if-not-obeys_rules.true)

pub table_of-table-requires : goal.table_of-table-requires
table_of-table-requires c = (obeys_iff _).0 (sym c.obeys_rules.ensures ∙ c.if-not-obeys_rules.false)

pub overflow_sub-root : goal.overflow_sub-root
overflow_sub-root c =
    let o = sym c.obeys_rules.ensures ∙ c.if-not-obeys_rules.false in
    omega (arith, ((obeys_iff _).0 o).one)

pub enter-measured-requires-clause-good : goal.enter-measured-requires-clause-good
enter-measured-requires-clause-good c =
    let o = sym c.obeys_rules.ensures ∙ c.if-not-obeys_rules.false in
    let r = (obeys_iff _).0 o in
    (holds_good _ _ o c.table_of-table.ensures, omega (arith, r.one, r.few))

pub returns-in_err-n : goal.returns-in_err-n
returns-in_err-n c =
    let o = sym c.obeys_rules.ensures ∙ c.if-not-obeys_rules.false in
    let read = reads-root _ _ o c.table_of-table.ensures c.enter-measured.ensures in
    let none = unmeasured _ NotACode _ c.in_err-n.ensures.value in
    let p = err_from_is_err_and c.from_residual.result c.from_residual.ensures.1 in
    rw (p.1, p.2, none.1) (gather_not _ _ _ o read none.0)

pub returns-then-n-gt-MAX_LETTERS : goal.returns-then-n-gt-MAX_LETTERS
returns-then-n-gt-MAX_LETTERS c =
    let o = sym c.obeys_rules.ensures ∙ c.if-not-obeys_rules.false in
    let read = reads-root _ _ o c.table_of-table.ensures c.enter-measured.ensures in
    gather_long _ _ _ o read c.in_ok-n.ensures.ok_part c.if-n-gt-MAX_LETTERS.true

pub returns : goal.returns
returns c =
    let pre = c.requires in
    let o = sym c.obeys_rules.ensures ∙ c.if-not-obeys_rules.false in
    let read = reads-root _ _ o c.table_of-table.ensures c.enter-measured.ensures in
    gather_done _ _ _ o read c.in_ok-n.ensures.ok_part c.if-n-gt-MAX_LETTERS.false pre.0 pre.1
