-- Totals within a term by patterns of 01's accounts: "the old ten followed by zeros" (02, Job 7), as for all of a tape.
use Rattle.std.specs.Prelude.{◌≡◌, cond, List, ◌++◌, ℕ, ◌+◌, ◌<◌, eqb, replicate, Result}
use Rattle.std.proofs.Common.{sym, subst, ◌∙◌, eqb-true}
use Rattle.syntax.specs.declared.Pattern.{Pattern}
use Rattle.syntax.specs.Table.{one_digit_limit}
use Rattle.syntax.specs.Trees.{root}
use Rattle.refusals.specs.Refusals.{answer}
use Rattle.refusals.specs.Checks.{wrapped}
use Rattle.refusals.specs.CheckLaws.{clear_parts, wrapped_clear, zero-said}
use Rattle.calendar.specs.declared.Date.{Date}
use Rattle.semantics.specs.Accounts.{totals_to}
use Rattle.semantics.specs.Every.{All}
use Rattle.entries.specs.CodeOrder.{code_order, clear_sound}
use Rattle.entries.specs.Gather.{entries_of}
use Rattle.totals.specs.OldTotals.{OldAccounts, new_accounts, old_entries, old_or_none}
use Rattle.terms.specs.declared.Term.{Term}
use Rattle.terms.specs.declared.TermRefusal.{TermRefusal}
use Rattle.terms.specs.declared.TermRefusal.TheVariants.{Base}
use Rattle.terms.specs.Terms.{dated, within, term_refused, dates_order, terms_order, terms_answer, terms_litres, term_litres, TermTotals}
use Rattle.terms.specs.Unique.{term_number_positive}
use Rattle.terms.specs.Along.{dated-entries}
use Rattle.terms.specs.TermLaws.{within_all}

-- the ten totals of before, all 0 where totalling within a term refuses
unfoldable pub old_term_litres : Pattern → (code : List ℕ) → (count : ℕ) → (start : Date) → Term → List ℕ
old_term_litres p code count start term =
    cond (eqb (terms_answer p code count start term).number 0)
    (totals_to (one_digit_limit + 1) (within term (dated start (entries_of (root p) code count)))) (replicate (one_digit_limit + 1) 0)

pub term_litres_old : (p : Pattern) (code : List ℕ) (count : ℕ) (start : Date) (term : Term) → OldAccounts p
    → terms_litres p code count start term ≡ old_term_litres p code count start term ++ new_accounts
unfolding terms_answer terms_litres old_term_litres
term_litres_old p code count start term h =
    let es = entries_of (root p) code count in
    old_or_none (eqb (terms_answer p code count start term).number 0) (within term (dated start es))
    (λ e. let c = zero-said term_refused term_number_positive (terms_order p code count start term) (answer 0 0)
    (eqb-true (terms_answer p code count start term).number 0 e) in
    let code_clear = wrapped_clear Base (code_order p code count)
    (clear_parts (wrapped Base (code_order p code count)) (dates_order start term es) c).0 in
    within_all (λ x. x.1 < one_digit_limit + 1) term (dated start es)
    (subst (All (λ x. x.1 < one_digit_limit + 1)) (sym (dated-entries es start)) (old_entries p (clear_sound p code count code_clear).good h code count)))

pub terms_old_accounts : (p : Pattern) (code : List ℕ) (count : ℕ) (start : Date) (term : Term) → OldAccounts p → (r : Result (List ℕ) TermRefusal)
    → TermTotals p code count start term r → term_litres r ≡ old_term_litres p code count start term ++ new_accounts
terms_old_accounts p code count start term h r t = t.gives ∙ term_litres_old p code count start term h
