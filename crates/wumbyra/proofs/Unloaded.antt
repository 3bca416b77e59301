-- A text that does not load has a table of no lines, and every service on it answers 2 and 0.
use Rattle.std.specs.Prelude.{◌≡◌, false, List, ℕ, ◌+◌, ◌≤◌}
use Rattle.std.proofs.Math.Path.{refl, ap}
use Rattle.std.proofs.Common.{◌∙◌, arith}
use Rattle.refusals.specs.Refusals.{Answer, answer}
use Rattle.syntax.specs.Table.{no_lines, obeys, account_limit}
use Rattle.loading.specs.Load.{load_answer, load_table}
use Rattle.loading.specs.LoadLaws.{refused-no_lines}
use Rattle.codes.specs.Flatten.{flatten_answer}
use Rattle.totals.specs.Totals.{no_litres, totals_answer, totals_litres}
use Rattle.spans.specs.Spans.{span_answer, span_shown}
use Rattle.parser.specs.Parse.{early}
use Rattle.packing.specs.Packing.{unpacked, in_cells}
use Rattle.packing.specs.CellsLaws.{refused-given}
use Rattle.terms.specs.Terms.{terms_answer, terms_litres}
use Rattle.desk.specs.Desks.{put_answer, withdraw_answer}
use Rattle.reach.specs.Locate.{locate_refusal}
use Rattle.wumbyra.specs.Packed.{span_text, total_text, TotalsText, TermTotalsText, LocatesText}
use Rattle.wumbyra.specs.Packed.{desk_open_answer, DeskOpensText, DeskPutsText, DeskWithdrawsText}
use Rattle.wumbyra.specs.PackedLaws.{zeros}
use Rattle.wumbyra.proofs.DeskRefused.{opens-refused, puts_refused, withdraws_refused}

refused_2 : (a : Answer) → a ≡ answer 2 0 → 1 ≤ a.number
refused_2 a e = let n : a.number ≡ 2 = ap (λ x. x.number) e in omega (arith, n)

module _ (text : List ℕ) (h : 1 ≤ (load_answer text).number) where
  pub no_table : load_table text ≡ no_lines
  no_table = refused-no_lines text (λ z. omega (arith, h, z))

  pub not-obeyed : obeys (load_table text) ≡ false
  unfolding obeys no_lines
  not-obeyed = ap obeys no_table

  pub early_unloaded : (tape : List ℕ) (n : ℕ) → early (load_table text) tape n ≡ answer 2 0
  unfolding early
  early_unloaded tape n = rw not-obeyed

  pub flatten_unloaded : (code : List ℕ) (count size : ℕ) → flatten_answer (load_table text) code count size ≡ answer 2 0
  unfolding flatten_answer
  flatten_unloaded code count size = rw not-obeyed

  pub span_unloaded : (tape code : List ℕ) (count l k : ℕ) → span_text text tape code count l k ≡ answer 2 0
  unfolding span_text span_answer span_shown
  span_unloaded tape code count l k = rw not-obeyed

  pub locate_unloaded : (tape : List ℕ) (r : ℕ) → LocatesText text tape r → unpacked r ≡ answer 2 0
  unfolding locate_refusal
  locate_unloaded tape r t =
      let said : locate_refusal (load_table text) tape ≡ answer 2 0 = rw not-obeyed refl in
      t.answers ∙ t.locates.refuses (refused_2 (locate_refusal (load_table text) tape) said) ∙ said

  pub total_unloaded : (code : List ℕ) (count a : ℕ) → total_text text code count a ≡ answer 2 0
  unfolding total_text totals_answer totals_litres
  total_unloaded code count a = rw (not-obeyed, zeros (account_limit + 1) a)

  -- and every total that is lent is 0
  pub totals_unloaded : (code : List ℕ) (count : ℕ) (cells cells_now : List ℕ) (r : ℕ) → TotalsText text code count cells cells_now r
      → (unpacked r ≡ answer 2 0) × (cells_now ≡ in_cells no_litres cells)
  unfolding totals_answer totals_litres
  totals_unloaded code count cells cells_now r t = refused-given t (rw not-obeyed refl) (rw not-obeyed refl)

  pub term_totals_unloaded : (code : List ℕ) (count start first last : ℕ) (cells cells_now : List ℕ) (r : ℕ)
      → TermTotalsText text code count start first last cells cells_now r → (unpacked r ≡ answer 2 0) × (cells_now ≡ in_cells no_litres cells)
  unfolding terms_answer terms_litres
  term_totals_unloaded code count start first last cells cells_now r t = refused-given t (rw not-obeyed refl) (rw not-obeyed refl)

  -- desk, letters and words are as they were
  pub desk_opens_unloaded : (desk desk_now words words_now : List ℕ) (r : ℕ) → DeskOpensText text desk desk_now words words_now r
      → (unpacked r ≡ answer 2 0) × (desk_now ≡ desk) × (words_now ≡ words)
  unfolding desk_open_answer
  desk_opens_unloaded desk desk_now words words_now r t =
      let said : unpacked r ≡ answer 2 0 = t.answers ∙ rw not-obeyed refl in
      let k = opens-refused text desk desk_now words words_now r t (refused_2 (unpacked r) said) in
      (said, k.0, k.1)

  pub desk_puts_unloaded : (desk desk_now page letters letters_now words words_now : List ℕ) (r : ℕ)
      → DeskPutsText text desk desk_now page letters letters_now words words_now r
      → (unpacked r ≡ answer 2 0) × (desk_now ≡ desk) × (letters_now ≡ letters) × (words_now ≡ words)
  unfolding put_answer
  desk_puts_unloaded desk desk_now page letters letters_now words words_now r t =
      let said : unpacked r ≡ answer 2 0 = t.answers ∙ t.puts.answers ∙ rw not-obeyed refl in
      let k = puts_refused text desk desk_now page letters letters_now words words_now r t (refused_2 (unpacked r) said) in
      (said, k.0, k.1, k.2)

  pub desk_withdraws_unloaded : (desk desk_now letters : List ℕ) (r : ℕ) → DeskWithdrawsText text desk desk_now letters r
      → (unpacked r ≡ answer 2 0) × (desk_now ≡ desk)
  unfolding withdraw_answer
  desk_withdraws_unloaded desk desk_now letters r t =
      let said : unpacked r ≡ answer 2 0 = t.answers ∙ t.withdraws.answers ∙ rw not-obeyed refl in
      (said, withdraws_refused text desk desk_now letters r t (refused_2 (unpacked r) said))
