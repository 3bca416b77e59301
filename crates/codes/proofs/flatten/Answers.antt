-- `codes::flatten` meets its contract.
use Rattle.std.proofs.lemmas.Result.{err_from_is_err_and}
use Rattle.syntax.specs.TreeLaws.{obeys_iff}
use Rattle.table.specs.CellLaws.{holds_good}
use Rattle.entries.specs.Measures.{unmeasured}
use Rattle.entries.specs.GatherLaws.{reads-root}
use Rattle.codes.specs.FlattenLaws.{flatten_bad, flatten_not, flatten_long, flatten_short, flatten_done}
use Rattle.std.proofs.Common.{refl, sym, ◌∙◌, arith}
use Rattle.codes.proofs.flatten.Goals as goal

pub returns-then-not-obeys_rules : goal.returns-then-not-obeys_rules
returns-then-not-obeys_rules c = flatten_bad _ _ _ _ (sym c.obeys_rules.ensures ∙ c.if-not-obeys_rules.true)

pub table_of-table-requires : goal.table_of-table-requires
table_of-table-requires c = (obeys_iff _).0 (sym c.obeys_rules.ensures ∙ c.if-not-obeys_rules.false)

pub overflow_sub-root : goal.overflow_sub-root
overflow_sub-root c = omega (arith, ((obeys_iff _).0 (sym c.obeys_rules.ensures ∙ c.if-not-obeys_rules.false)).one)

pub enter-measured-requires-clause-good : goal.enter-measured-requires-clause-good
enter-measured-requires-clause-good c =
    let o = sym c.obeys_rules.ensures ∙ c.if-not-obeys_rules.false in
    let r = (obeys_iff _).0 o in
    (holds_good _ _ o c.table_of-table.ensures, omega (arith, r.one, r.few))

pub returns-in_err-letters : goal.returns-in_err-letters
returns-in_err-letters c =
    let o = sym c.obeys_rules.ensures ∙ c.if-not-obeys_rules.false in
    let read = reads-root _ _ o c.table_of-table.ensures c.enter-measured.ensures in
    let none = unmeasured _ _ _ c.in_err-letters.ensures.value in
    let p = err_from_is_err_and c.from_residual.result c.from_residual.ensures.1 in
    rw (p.1, p.2, none.1) (flatten_not _ _ _ _ o read none.0)

pub returns-then-n-gt-MAX_LETTERS : goal.returns-then-n-gt-MAX_LETTERS
returns-then-n-gt-MAX_LETTERS c =
    let o = sym c.obeys_rules.ensures ∙ c.if-not-obeys_rules.false in
    let read = reads-root _ _ o c.table_of-table.ensures c.enter-measured.ensures in
    flatten_long _ _ _ _ o read c.in_ok-letters.ensures.ok_part c.if-n-gt-MAX_LETTERS.true

pub returns-then-tape-n : goal.returns-then-tape-n
returns-then-tape-n c =
    let o = sym c.obeys_rules.ensures ∙ c.if-not-obeys_rules.false in
    let read = reads-root _ _ o c.table_of-table.ensures c.enter-measured.ensures in
    flatten_short _ _ _ _ o read c.in_ok-letters.ensures.ok_part c.if-n-gt-MAX_LETTERS.false c.if-tape-n.true

pub returns : goal.returns
returns c =
    let o = sym c.obeys_rules.ensures ∙ c.if-not-obeys_rules.false in
    let read = reads-root _ _ o c.table_of-table.ensures c.enter-measured.ensures in
    flatten_done _ _ _ _ o read c.in_ok-letters.ensures.ok_part c.if-n-gt-MAX_LETTERS.false c.if-tape-n.false refl
    _ c.copy_from_slice.ensures.after
