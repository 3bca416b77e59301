-- 02, Job 7: "An old pattern text loads to the same nodes with the same accounts, and its totals are the old ten followed by zeros." Said of a text that
-- loads by 01's rule of accounts, for the services on its table and for the calls from C. The old ten are by the table of before.
use Rattle.std.specs.Prelude.{◌≡◌, refl, List, ◌++◌, ℕ, ◌+◌, ◌-◌, ◌≤◌, length, get_or, Result}
use Rattle.std.proofs.Common.{sym, ◌∙◌, arith, length-append}
use Rattle.std.proofs.Math.Path.{ap}
use Rattle.std.proofs.lemmas.List.{length-replicate}
use Rattle.syntax.specs.declared.Pattern.{Pattern}
use Rattle.refusals.specs.declared.Refusal.{Refusal}
use Rattle.refusals.specs.Refusals.{Answer, answer}
use Rattle.syntax.specs.Table.{account_limit, one_digit_limit}
use Rattle.loading.specs.Load.{load_table}
use Rattle.loading.specs.LoadForms.{forms_answer, forms_table}
use Rattle.loading.specs.OldAccounts.{old_forms}
use Rattle.loading.specs.OldTexts.{old_table, old_accounts}
use Rattle.totals.specs.Totals.{totals_answer, totals_litres, totalled_litres, Totals}
use Rattle.totals.specs.TotalsLaws.{litres_many}
use Rattle.totals.specs.OldTotals.{old_litres, new_accounts, litres_old}
use Rattle.calendar.specs.declared.Date.{Date}
use Rattle.calendar.specs.Dates.{date_of}
use Rattle.terms.specs.declared.Term.{Term}
use Rattle.terms.specs.declared.TermRefusal.{TermRefusal}
use Rattle.terms.specs.Terms.{term_of, terms_answer, terms_litres, term_litres, TermTotals}
use Rattle.terms.specs.TermLaws.{term_litres_many}
use Rattle.terms.specs.OldTerms.{old_term_litres, term_litres_old}
use Rattle.packing.specs.Packing.{unpacked, in_cells}
use Rattle.packing.specs.Cells.{Gives}
use Rattle.packing.specs.CellsLaws.{given_same, zeros_last, within_cells}
use Rattle.wumbyra.specs.Packed.{total_text, TotalsText, TermTotalsText}

module _ (text : List ℕ) (h : (forms_answer (old_forms text)).number ≡ 0) (code : List ℕ) (count : ℕ) where
  -- the table that the text gave before
  abbrev before : Pattern
  before = forms_table (old_forms text)

  text_litres : totals_litres (load_table text) code count ≡ old_litres before code count ++ new_accounts
  text_litres =
      litres_old (load_table text) code count (old_accounts text h) ∙ ap (λ p. old_litres p code count ++ new_accounts) (old_table text h)

  term_text_litres : (start : Date) (term : Term)
      → terms_litres (load_table text) code count start term ≡ old_term_litres before code count start term ++ new_accounts
  term_text_litres start term =
      term_litres_old (load_table text) code count start term (old_accounts text h)
      ∙ ap (λ p. old_term_litres p code count start term ++ new_accounts) (old_table text h)

  -- ── the services on the text's table ──
  pub old_text_totals : (r : Result (List ℕ) Refusal) → Totals (load_table text) code count r
      → totalled_litres r ≡ old_litres before code count ++ new_accounts
  old_text_totals r t = t.gives ∙ text_litres

  pub old_text_term_totals : (start : Date) (term : Term) (r : Result (List ℕ) TermRefusal) → TermTotals (load_table text) code count start term r
      → term_litres r ≡ old_term_litres before code count start term ++ new_accounts
  old_text_term_totals start term r t = t.gives ∙ term_text_litres start term

  -- ── the calls from C ──
  pub old_text_total : (a : ℕ) → total_text text code count a
      ≡ answer (totals_answer (load_table text) code count).number (get_or (old_litres before code count ++ new_accounts) a 0)
  unfolding total_text
  old_text_total a = ap (λ ls. answer (totals_answer (load_table text) code count).number (get_or ls a 0)) text_litres

  -- ten cells are enough: no account above 9 has litres, so the call answers what the service does, and the cells hold the old ten
  ten : (old : List ℕ) → length (old ++ new_accounts) ≡ account_limit + 1 → length old ≡ one_digit_limit + 1
  ten old e =
      omega (arith, length-append old new_accounts, length-replicate {A = ℕ} (account_limit - one_digit_limit) 0, e)

  in_ten : (a : Answer) (litres old cells cells_now : List ℕ) (r : ℕ) → litres ≡ old ++ new_accounts → length litres ≡ account_limit + 1
      → Gives a litres cells cells_now r → one_digit_limit + 1 ≤ length cells → (unpacked r ≡ a) × (cells_now ≡ in_cells (old ++ new_accounts) cells)
  in_ten a litres old cells cells_now r e n g h =
      within_cells (given_same refl e g)
      (zeros_last old (account_limit - one_digit_limit) (length cells) (omega (arith, ten old (ap length (sym e) ∙ n))))

  pub old_text_cells : (cells cells_now : List ℕ) (r : ℕ) → TotalsText text code count cells cells_now r → one_digit_limit + 1 ≤ length cells
      → (unpacked r ≡ totals_answer (load_table text) code count) × (cells_now ≡ in_cells (old_litres before code count ++ new_accounts) cells)
  old_text_cells cells cells_now r t h = in_ten _ _ (old_litres before code count) cells cells_now r text_litres (litres_many (load_table text) code count) t h

  pub old_text_term_cells : (start first last : ℕ) (cells cells_now : List ℕ) (r : ℕ) → TermTotalsText text code count start first last cells cells_now r
      → one_digit_limit + 1 ≤ length cells → (unpacked r ≡ terms_answer (load_table text) code count (date_of start) (term_of first last))
      × (cells_now ≡ in_cells (old_term_litres before code count (date_of start) (term_of first last) ++ new_accounts) cells)
  old_text_term_cells start first last cells cells_now r t h =
      in_ten _ _ (old_term_litres before code count (date_of start) (term_of first last)) cells cells_now r
      (term_text_litres (date_of start) (term_of first last))
      (term_litres_many (load_table text) code count (date_of start) (term_of first last)) t h
