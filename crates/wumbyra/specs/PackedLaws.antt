-- Laws of packed answers: one for each way of the code.
use Rattle.std.specs.Prelude.{◌≡◌, List, ℕ, zero, suc, replicate, ◌+◌, ◌*◌, ◌≤◌, length, get_or, Result, Ok, Err, refl}
use Rattle.std.proofs.Math.Path.{sym, ap, ap₂, subst}
use Rattle.std.proofs.Common.{◌∙◌, arith}
use Rattle.std.proofs.Math.Bool.{false, cond}
use Rattle.std.proofs.Math.Option.{none, some}
use borrow.Author.Tests.{ltb-false, ne_eqb}
use Rattle.std.proofs.Math.Dec.{eqb}
use Rattle.syntax.specs.declared.Pattern.{Pattern}
use Rattle.refusals.specs.declared.Refusal.{Refusal}
use Rattle.syntax.specs.Letter.{letter_limit}
use Rattle.refusals.specs.Refusals.{answer, refused, number}
use Rattle.refusals.specs.RefusalLaws.{number_positive}
use Rattle.refusals.specs.Checks.{Clear}
use Rattle.refusals.specs.CheckLaws.{zero_clear}
use Rattle.loading.specs.Load.{load_table, load_answer, loaded_answer, Loads}
use Rattle.loading.specs.LoadLaws.{loaded-obeys}
use Rattle.syntax.specs.TreeLaws.{obeys_iff}
use Rattle.semantics.specs.Visits.{Visit}
use Rattle.codes.specs.Flatten.{flattened_answer, Flattens}
use Rattle.totals.specs.Totals.{totals_outcome, totalled_litres, Totals}
use Rattle.calendar.specs.declared.Date.{Date}
use Rattle.calendar.specs.Dates.{date_of}
use Rattle.terms.specs.Terms.{term_refused, term_outcome, term_litres, TermTotals}
use Rattle.terms.specs.declared.TermRefusal.{TermRefusal}
use Rattle.spans.specs.declared.find.Span.{Span}
use Rattle.spans.specs.Spans.{span_visit, span_order, span_answer, start_of, size_of, span_shown, span_outcome, span_given, Spans}
use Rattle.spans.specs.SpanLaws.{visited}
use Rattle.spans.specs.Pieces.{part}
use Rattle.parser.specs.Parse.{parsed_answer, Parses}
use Rattle.canonical.specs.Canonicalize.{canonicalized_answer, Canonicalizes}
use Rattle.reach.specs.declared.Positions.{Positions}
use Rattle.reach.specs.Locate.{located_answer, Locates}
use Rattle.packing.specs.Packing.{unpacked}
use Rattle.packing.specs.Cells.{outcome_by, litres_by, Gives}
use Rattle.packing.specs.CellsLaws.{given_same}
use Rattle.wumbyra.specs.Packed.{ParsesText, FlattensText, CanonicalizesText, shown_answer, span_text, total_text, TotalsText}
use Rattle.wumbyra.specs.Packed.{TermTotalsText, LocatesText}

-- ── loading ──
module _ (text : List ℕ) (l : Result Pattern Refusal) (h : Loads text l) where
  pub load_packed : (r : ℕ) → unpacked r ≡ loaded_answer l → unpacked r ≡ load_answer text
  load_packed r e = e ∙ h.answers

-- a table that is loaded has few lines
pub load_small : (text : List ℕ) (p : Pattern) → Loads text (Ok p) → p.count ≤ 64
load_small text p h =
    let rules = (obeys_iff (load_table text)).0 (loaded-obeys text (sym (ap (λ a. a.number) h.answers))) in
    omega (arith, ap (λ q. q.count) h.gives, rules.few)

-- refused, every total is 0
pub zeros : (n i : ℕ) → ◌≡◌ {A = ℕ} (get_or (replicate n 0) i 0) 0
zeros zero i = refl
zeros (suc n) zero = refl
zeros (suc n) (suc i) = zeros n i

-- what totalling answered is what the cells are filled by
totals_said : (a : Result (List ℕ) Refusal) → outcome_by refused a ≡ totals_outcome a
totals_said (Ok sums) = refl
totals_said (Err why) = refl

totals-given : (a : Result (List ℕ) Refusal) → litres_by a ≡ totalled_litres a
totals-given (Ok sums) = refl
totals-given (Err why) = refl

term_said : (a : Result (List ℕ) TermRefusal) → outcome_by term_refused a ≡ term_outcome a
term_said (Ok sums) = refl
term_said (Err why) = refl

term-given : (a : Result (List ℕ) TermRefusal) → litres_by a ≡ term_litres a
term-given (Ok sums) = refl
term-given (Err why) = refl

-- ── a service's promise on the loaded table ──
module _ (text : List ℕ) (p : Pattern) (g : p ≡ load_table text) where
  pub parse_packed : (tape ws us xs ys : List ℕ) (a : Result ℕ Refusal) → Parses p tape ws us xs ys a → (r : ℕ) → unpacked r ≡ parsed_answer a
      → ParsesText text tape ws us xs ys r
  parse_packed tape ws us xs ys a h r e = record {
    parsed = a;
    answers = e;
    parses = subst (λ t. Parses t tape ws us xs ys a) g h;
  }

  pub flatten_packed : (code : List ℕ) (count : ℕ) (ts us : List ℕ) (a : Result ℕ Refusal) → Flattens p code count ts us a → (r : ℕ)
      → unpacked r ≡ flattened_answer a → FlattensText text code count ts us r
  flatten_packed code count ts us a h r e =
      let q = subst (λ t. Flattens t code count ts us a) g h in
      record { answers = e ∙ q.answers; leaves = q.leaves }

  pub canonicalize-packed :
      (code : List ℕ) (count : ℕ) (ts us ws vs xs ys : List ℕ) (a : Result ℕ Refusal) → Canonicalizes p code count ts us ws vs xs ys a
      → (r : ℕ) → unpacked r ≡ canonicalized_answer a → CanonicalizesText text code count ts us ws vs xs ys r
  canonicalize-packed code count ts us ws vs xs ys a h r e = record {
    canonicalized = a;
    answers = e;
    canonicalizes = subst (λ t. Canonicalizes t code count ts us ws vs xs ys a) g h;
  }

  pub locate_packed : (tape : List ℕ) (a : Result Positions Refusal) → Locates p tape a → (r : ℕ) → unpacked r ≡ located_answer a
      → LocatesText text tape r
  locate_packed tape a h r e = record { located = a; answers = e; locates = subst (λ t. Locates t tape a) g h }

  pub total-packed :
      (code : List ℕ) (count account : ℕ) (a : Result (List ℕ) Refusal) → Totals p code count a
      → (r : ℕ) → unpacked r ≡ answer (totals_outcome a).number (get_or (totalled_litres a) account 0) → unpacked r ≡ total_text text code count account
  unfolding total_text
  total-packed code count account a h r e =
      let q = subst (λ t. Totals t code count a) g h in
      e ∙ ap₂ (λ x y. answer x.number (get_or y account 0)) q.answers q.gives

  pub totals-packed :
      (code : List ℕ) (count : ℕ) (a : Result (List ℕ) Refusal) → Totals p code count a → (cells cells_now : List ℕ) (r : ℕ)
      → Gives (outcome_by refused a) (litres_by a) cells cells_now r → TotalsText text code count cells cells_now r
  totals-packed code count a h cells cells_now r e =
      let q = subst (λ t. Totals t code count a) g h in
      given_same (totals_said a ∙ q.answers) (totals-given a ∙ q.gives) e

  module _ (code : List ℕ) (count start first last : ℕ) (s f t : Date) (es : s ≡ date_of start) (ef : f ≡ date_of first) (et : t ≡ date_of last) where
    pub term-totals-packed :
        (a : Result (List ℕ) TermRefusal) → TermTotals p code count s (record { first = f; last = t }) a → (cells cells_now : List ℕ) (r : ℕ)
        → Gives (outcome_by term_refused a) (litres_by a) cells cells_now r → TermTotalsText text code count start first last cells cells_now r
    term-totals-packed a h cells cells_now r e =
        let table = subst (λ u. TermTotals u code count s (record { first = f; last = t }) a) g h in
        let from = subst (λ d. TermTotals (load_table text) code count d (record { first = f; last = t }) a) es table in
        let within = subst (λ d. TermTotals (load_table text) code count (date_of start) (record { first = d; last = t }) a) ef from in
        let q = subst (λ d. TermTotals (load_table text) code count (date_of start) (record { first = date_of first; last = d }) a) et within in
        given_same (term_said a ∙ q.answers) (term-given a ∙ q.gives) e

-- ── spans ──
module _ (p : Pattern) (tape code : List ℕ) (count l k : ℕ) (a : Result Span Refusal) (h : Spans p tape code count l k a) where
  module _ (s : Span) (e : a ≡ Ok s) where
    shown_zero : (span_answer p tape code count l k).number ≡ 0
    shown_zero = sym (ap (λ x. x.number) h.answers) ∙ ap (λ o. (span_outcome o).number) e

    -- so no cause holds
    shown_clear : Clear (span_order p tape code count l k)
    unfolding span_answer
    shown_clear = zero_clear (span_order p tape code count l k) (answer 0 0) shown_zero

    -- start and length fit 16 bits each
    pub shown_small : s.start + s.length ≤ letter_limit
    shown_small =
        omega (arith, (part p tape code count l k a s (sym (ap span_given e)) h).fits, ltb-false letter_limit (length tape) shown_clear.1.0)

    span_some : (x : Visit) × (span_shown p tape code count l k ≡ some x)
    unfolding span_shown
    span_some =
        let (x, q) = visited (span_visit p code count l k) shown_clear.1.1.1.1.0 in
        (x, ap (λ n. cond (eqb n 0) (span_visit p code count l k) none) shown_zero ∙ q)

    span_shows : answer 0 (s.start * 65536 + s.length) ≡ shown_answer (span_answer p tape code count l k) (span_shown p tape code count l k)
    span_shows =
        let (x, q) = span_some in
        ap₂ (λ i n. answer 0 (i * 65536 + n)) (ap (λ z. (span_given z).start) (sym e) ∙ h.starts ∙ ap start_of q)
        (ap (λ z. (span_given z).length) (sym e) ∙ h.lengths ∙ ap size_of q)
        ∙ ap (λ n. answer n (x.start * 65536 + x.size)) (sym shown_zero) ∙ sym (ap (shown_answer (span_answer p tape code count l k)) q)

  span_refuses : (why : Refusal) → a ≡ Err why → refused why ≡ shown_answer (span_answer p tape code count l k) (span_shown p tape code count l k)
  unfolding span_shown
  span_refuses why e =
      let said : refused why ≡ span_answer p tape code count l k = sym (ap span_outcome e) ∙ h.answers in
      let n : eqb (span_answer p tape code count l k).number 0 ≡ false =
      sym (ap (λ x. eqb x.number 0) said) ∙ ne_eqb (number why) 0 (λ z. omega (arith, number_positive why)) in
      said ∙ sym (ap (λ b. shown_answer (span_answer p tape code count l k) (cond b (span_visit p code count l k) none)) n)

module _ (text : List ℕ) (p : Pattern) (g : p ≡ load_table text) (tape code : List ℕ) (count l k : ℕ) (a : Result Span Refusal)
    (h : Spans p tape code count l k a) (r : ℕ) where
  moved : Spans (load_table text) tape code count l k a
  moved = subst (λ t. Spans t tape code count l k a) g h

  pub span_packed : (s : Span) → a ≡ Ok s → unpacked r ≡ answer 0 (s.start * 65536 + s.length) → unpacked r ≡ span_text text tape code count l k
  unfolding span_text
  span_packed s e q = q ∙ span_shows (load_table text) tape code count l k a moved s e

  pub span_refused : (why : Refusal) → a ≡ Err why → unpacked r ≡ refused why → unpacked r ≡ span_text text tape code count l k
  unfolding span_text
  span_refused why e q = q ∙ span_refuses (load_table text) tape code count l k a moved why e
