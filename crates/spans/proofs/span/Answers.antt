-- `spans::span` meets its contract.
use Rattle.std.proofs.Common.{◌≡◌, Err, sym, ◌∙◌, arith, rules}
use Rattle.std.specs.ControlFlow.{break_value}
use Rattle.std.specs.Option.{ok_or}
use Rattle.syntax.specs.TreeLaws.{obeys_iff}
use Rattle.refusals.specs.declared.Refusal.TheVariants.{NoSuchVisit}
use Rattle.refusals.specs.CheckLaws.{first_more}
use Rattle.checks.specs.TapeLaws.{is_taken}
use Rattle.table.specs.CellLaws.{holds_good}
use Rattle.spans.specs.SpanLaws.{span_refused, tape-root, tape_bits, seek_ready, found_root, span_not, span_found}
use Rattle.spans.proofs.span.Goals as goal

pub returns-in_err-check_tape : goal.returns-in_err-check_tape
returns-in_err-check_tape c =
    let why : c.from_residual.result ≡ Err c.in_err-check_tape.field-0.0 = search rules in
    rw why (span_refused _ _ _ _ _ _ _ (first_more _ (c.check_tape.ensures.refuses _ c.in_err-check_tape.was)))

pub table_of-table-requires : goal.table_of-table-requires
table_of-table-requires c = (obeys_iff _).0 (is_taken _ _ _ c.check_tape.ensures c.in_ok-check_tape.was).good

pub overflow_sub-root : goal.overflow_sub-root
overflow_sub-root c = ((obeys_iff _).0 (is_taken _ _ _ c.check_tape.ensures c.in_ok-check_tape.was).good).one

pub spells-requires : goal.spells-requires
spells-requires c =
    let t = is_taken _ _ _ c.check_tape.ensures c.in_ok-check_tape.was in
    let r = (obeys_iff _).0 t.good in
    record { good = holds_good _ _ t.good c.table_of-table.ensures; l_bound = (omega (arith, r.one, r.few), t.few) }

pub returns-then-not-spells : goal.returns-then-not-spells
returns-then-not-spells c =
    let t = is_taken _ _ _ c.check_tape.ensures c.in_ok-check_tape.was in
    span_not _ _ _ _ _ _ t (tape-root _ _ t.good c.table_of-table.ensures _ _ _ _ c.spells.ensures ∙ c.if-not-spells.true)

pub find-found-requires : goal.find-found-requires
find-found-requires c =
    let t = is_taken _ _ _ c.check_tape.ensures c.in_ok-check_tape.was in
    let r = (obeys_iff _).0 t.good in
    let w = sym c.spells.ensures ∙ c.if-not-spells.false in
    let h = tape_bits _ _ _ _ w in
    record {
      good = holds_good _ _ t.good c.table_of-table.ensures;
      l_bound = omega (arith, r.one, r.few, h);
      seeking = seek_ready _ _ _ _ w t.few;
    }

pub returns : goal.returns
returns c =
    let t = is_taken _ _ _ c.check_tape.ensures c.in_ok-check_tape.was in
    let w = tape-root _ _ t.good c.table_of-table.ensures _ _ _ _ c.spells.ensures ∙ c.if-not-spells.false in
    let r = found_root _ _ t.good c.table_of-table.ensures _ _ _ _ _ c.find-found.ensures in
    let e : c.ok_or.result ≡ ok_or (break_value c.find-found.result) NoSuchVisit = search rules in
    rw e (span_found _ _ _ _ _ _ t w _ r)
