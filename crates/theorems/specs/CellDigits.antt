-- NO LITRE IS LOST: where a call for totals answers 0, the lent cells add up to the digits, of the tape or of the letters within the term. 01: the
-- totals "add up to the tape's digits".
use Rattle.std.specs.Prelude.{◌≡◌, refl, cond, List, ℕ, ◌+◌, take, Ok}
use Rattle.std.proofs.Math.Path.{sym, ap}
use Rattle.std.proofs.Common.{◌∙◌, arith, eq-eqb}
use Rattle.syntax.specs.declared.Pattern.{Pattern}
use Rattle.syntax.specs.Table.{account_limit}
use Rattle.syntax.specs.Trees.{root}
use Rattle.refusals.specs.Refusals.{answer}
use Rattle.refusals.specs.CheckLaws.{zero-said, zero_clear, clear_said}
use Rattle.semantics.specs.Accounts.{totals, digits}
use Rattle.semantics.specs.Owned.{letters}
use Rattle.loading.specs.Load.{load_table}
use Rattle.walks.specs.Whole.{letters_of}
use Rattle.entries.specs.CodeOrder.{code_order, clear_sound}
use Rattle.entries.specs.Gather.{entries_of}
use Rattle.totals.specs.Totals.{totals_answer, totals_litres, no_litres}
use Rattle.totals.specs.TotalsLaws.{sum_list, totals_add_up}
use Rattle.calendar.specs.Dates.{date_of}
use Rattle.terms.specs.Terms.{term_of, within, term_refused, terms_order, terms_answer, terms_litres}
use Rattle.terms.specs.TermLaws.{tape_dated, term_digits}
use Rattle.terms.specs.Unique.{term_number_positive}
use Rattle.packing.specs.Packing.{unpacked}
use Rattle.packing.specs.CellsLaws.{given-totals}
use Rattle.wumbyra.specs.Packed.{TotalsText, TermTotalsText}
use Rattle.wumbyra.specs.CellLaws.{cells_sum, term_cells_sum}

not_20 : (n : ℕ) → n ≡ 0 → n ≡ 20 → ⊥
not_20 n e f = omega (arith, e, f)

module _ (text code : List ℕ) (count : ℕ) (cells cells_now : List ℕ) (r : ℕ) (zero : (unpacked r).number ≡ 0) where
  abbrev p : Pattern
  p = load_table text

  pub cells_digits : TotalsText text code count cells cells_now r
      → sum_list (take (account_limit + 1) cells_now) ≡ digits (letters_of (root p) code count)
  unfolding totals_answer totals_litres
  cells_digits t =
      let other = not_20 (unpacked r).number zero in
      let said : (totals_answer p code count).number ≡ 0 = sym (ap (λ a. a.number) (given-totals t other).0) ∙ zero in
      let sound = clear_sound p code count (zero_clear (code_order p code count) (answer 0 0) said) in
      cells_sum text code count cells cells_now r t other
      ∙ ap (λ b. sum_list (cond b (totals (entries_of (root p) code count)) no_litres)) (eq-eqb (totals_answer p code count).number 0 said)
      ∙ totals_add_up p code count sound.good sound.whole

  module _ (start first last : ℕ) where
    -- a term that is answered with 0 is answered so by the service
    added : (terms_answer p code count (date_of start) (term_of first last)).number ≡ 0
        → answer 0 0 ≡ terms_answer p code count (date_of start) (term_of first last)
    unfolding terms_answer
    added e =
        let order = terms_order p code count (date_of start) (term_of first last) in
        sym (clear_said term_refused order (answer 0 0) (zero-said term_refused term_number_positive order (answer 0 0) e))

    pub term_cells_digits : TermTotalsText text code count start first last cells cells_now r
        → sum_list (take (account_limit + 1) cells_now)
        ≡ digits (letters (within (term_of first last) (tape_dated p code count (date_of start))))
    term_cells_digits t =
        let other = not_20 (unpacked r).number zero in
        let said = sym (ap (λ a. a.number) (given-totals t other).0) ∙ zero in
        let litres = terms_litres p code count (date_of start) (term_of first last) in
        term_cells_sum text code count start first last cells cells_now r t other
        ∙ term_digits p code count (date_of start) (term_of first last) (Ok litres)
        (record { answers = added said; gives = refl }) refl
