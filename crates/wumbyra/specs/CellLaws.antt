-- What each lent cell holds after the call for all accounts.
use Rattle.std.specs.Prelude.{◌≡◌, Bool, true, false, cond, List, ◌++◌, ℕ, ◌+◌, ◌-◌, ◌≤◌, ◌<◌, length, take, drop, get_or}
use Rattle.std.proofs.Common.{sym, ap, ◌∙◌, arith, length-take, get_or-take, get_or-drop, get_or-append-add}
use Rattle.std.proofs.lemmas.List.{length-replicate}
use Rattle.std.proofs.Math.ListN.{get_or-append, get_or-eq_default}
use Rattle.bits.specs.Bits.{in_front}
use Rattle.syntax.specs.Table.{account_limit}
use Rattle.loading.specs.Load.{load_table}
use Rattle.totals.specs.Totals.{no_litres, totals_litres}
use Rattle.totals.specs.TotalsLaws.{litres_many, sum_list}
use Rattle.calendar.specs.Dates.{date_of}
use Rattle.terms.specs.Terms.{term_of, terms_litres}
use Rattle.terms.specs.TermLaws.{term_litres_many}
use Rattle.packing.specs.Packing.{unpacked, in_cells}
use Rattle.packing.specs.Cells.{beyond, cells_totals}
use Rattle.packing.specs.CellsLaws.{given-totals, given-sum}
use Rattle.wumbyra.specs.Packed.{total_text, TotalsText, TermTotalsText}

-- ── the call for all accounts and the call for one ──
cell_holds : (totals cells : List ℕ) (a : ℕ) → a < length totals → a < length cells → get_or (in_cells totals cells) a 0 ≡ get_or totals a 0
unfolding in_front
cell_holds totals cells a h k =
    get_or-append (take (length cells) totals) (drop (length (take (length cells) totals)) cells) 0 a
    (omega (arith, h, k, length-take (length cells) totals))
    ∙ get_or-take (length cells) totals a 0 k

cell_stays : (totals cells : List ℕ) (a : ℕ) → length totals ≤ a → get_or (in_cells totals cells) a 0 ≡ get_or cells a 0
unfolding in_front
cell_stays totals cells a h =
    let front = take (length cells) totals in
    let n : length front ≤ a = omega (arith, length-take (length cells) totals) in
    let e : a ≡ length front + (a - length front) = omega arith in
    ap (λ i. get_or (front ++ drop (length front) cells) i 0) e ∙ get_or-append-add front (drop (length front) cells) (a - length front) 0
    ∙ get_or-drop (length front) cells (a - length front) 0 ∙ ap (λ i. get_or cells i 0) (sym e)

-- a cell holds the litres that the call for its account answers, unless the answer is 20
pub cell-total :
    (text code : List ℕ) (count : ℕ) (cells cells_now : List ℕ) (r a : ℕ) → TotalsText text code count cells cells_now r
    → ((unpacked r).number ≡ 20 → ⊥) → a ≤ account_limit → a < length cells → get_or cells_now a 0 ≡ (total_text text code count a).value
unfolding total_text
cell-total text code count cells cells_now r a t n h k =
    let p = load_table text in
    ap (λ xs. get_or xs a 0) (given-totals t n).1 ∙ cell_holds (totals_litres p code count) cells a (omega (arith, h, litres_many p code count)) k

-- NO LITRE IS LOST: unless the answer is 20, the cells add up to all totals, so to the tape's digits where the code is taken
pub cells_sum : (text code : List ℕ) (count : ℕ) (cells cells_now : List ℕ) (r : ℕ) → TotalsText text code count cells cells_now r
    → ((unpacked r).number ≡ 20 → ⊥) → sum_list (take (account_limit + 1) cells_now) ≡ sum_list (totals_litres (load_table text) code count)
cells_sum text code count cells cells_now r t n =
    ap (λ k. sum_list (take k cells_now)) (sym (litres_many (load_table text) code count)) ∙ given-sum t n

pub term_cells_sum : (text code : List ℕ) (count start first last : ℕ) (cells cells_now : List ℕ) (r : ℕ)
    → TermTotalsText text code count start first last cells cells_now r → ((unpacked r).number ≡ 20 → ⊥)
    → sum_list (take (account_limit + 1) cells_now) ≡ sum_list (terms_litres (load_table text) code count (date_of start) (term_of first last))
term_cells_sum text code count start first last cells cells_now r t n =
    ap (λ k. sum_list (take k cells_now)) (sym (term_litres_many (load_table text) code count (date_of start) (term_of first last)))
    ∙ given-sum t n

-- no cell behind that of account 200 is written, however many are lent: for all totals
given_many : (totals : List ℕ) (n : ℕ) → length totals ≡ account_limit + 1 → length (cells_totals totals n) ≡ account_limit + 1
unfolding cells_totals
given_many totals n e = go (beyond totals n)
  where
    go : (b : Bool) → length (cond b no_litres totals) ≡ account_limit + 1
    go true = length-replicate {A = ℕ} (account_limit + 1) 0
    go false = e

pub cell-behind :
    (text code : List ℕ) (count : ℕ) (cells cells_now : List ℕ) (r a : ℕ) → TotalsText text code count cells cells_now r → account_limit < a
    → get_or cells_now a 0 ≡ get_or cells a 0
cell-behind text code count cells cells_now r a t h =
    let all = totals_litres (load_table text) code count in
    ap (λ xs. get_or xs a 0) t.leaves
    ∙ cell_stays (cells_totals all (length cells)) cells a (omega (arith, given_many all (length cells) (litres_many (load_table text) code count)))

-- and for those of a term
pub term-cell-behind :
    (text code : List ℕ) (count start first last : ℕ) (cells cells_now : List ℕ) (r a : ℕ)
    → TermTotalsText text code count start first last cells cells_now r → account_limit < a → get_or cells_now a 0 ≡ get_or cells a 0
term-cell-behind text code count start first last cells cells_now r a t h =
    let all = terms_litres (load_table text) code count (date_of start) (term_of first last) in
    ap (λ xs. get_or xs a 0) t.leaves
    ∙ cell_stays (cells_totals all (length cells)) cells a
    (omega (arith, given_many all (length cells) (term_litres_many (load_table text) code count (date_of start) (term_of first last))))

-- an account that there is not has no litres
pub total-above : (text code : List ℕ) (count a : ℕ) → account_limit < a → (total_text text code count a).value ≡ 0
unfolding total_text
total-above text code count a h =
    let p = load_table text in get_or-eq_default (totals_litres p code count) 0 (omega (arith, litres_many p code count))
