-- Totalling within a term: the first cause that holds is answered, whatever later causes hold, and all totals are 0.
use Rattle.std.specs.Prelude.{◌≡◌, true, false, not, List, [], ◌∷◌, ℕ, Err, Ok, Result}
use Rattle.std.proofs.Math.Path.{refl, ap}
use Rattle.std.proofs.Common.{sym, ◌∙◌}
use Rattle.std.proofs.lemmas.Bool.{not-false, false≢true}
use Rattle.std.specs.Result.{IsOk}
use Rattle.syntax.specs.declared.Pattern.{Pattern}
use Rattle.syntax.specs.Trees.{root}
use Rattle.refusals.specs.Refusals.{answer}
use Rattle.refusals.specs.Checks.{numbers_of, wrapped, First, here, past, Clear}
use Rattle.refusals.specs.CheckLaws.{first_behind, clear_parts, clear_wrapped, wrapped_clear, zero-said, said_first}
use Rattle.calendar.specs.declared.Date.{Date}
use Rattle.semantics.specs.Accounts.{totals}
use Rattle.entries.specs.Entries.{Entries}
use Rattle.entries.specs.CodeOrder.{code_order}
use Rattle.entries.specs.Gather.{entries_of}
use Rattle.totals.specs.Totals.{no_litres}
use Rattle.terms.specs.declared.Term.{Term}
use Rattle.terms.specs.declared.TermRefusal.{TermRefusal}
use Rattle.terms.specs.declared.TermRefusal.TheVariants.{Base, TapeUndated, NotATerm}
use Rattle.terms.specs.Terms.{term_refused, dated, within, dates_good, is_term, dates_order, terms_order, terms_answer, term_outcome}
use Rattle.terms.specs.Terms.{term_litres, TermTotals}
use Rattle.terms.specs.TermWays.{dates-added, refused-answer, refused-litres, term_totals-dated}
use Rattle.terms.specs.Unique.{term_refused_same, term_number_positive, term_outcome_refused, term_totals_one}

-- what is added up is answered so
added-answer : (r : Result (List ℕ) TermRefusal) → IsOk r → term_outcome r ≡ answer 0 0
added-answer (Ok sums) e = refl
added-answer (Err why) e = absurd (false≢true e)

module _ (p : Pattern) (code : List ℕ) (count : ℕ) (start : Date) (term : Term) where
  abbrev entries : Entries
  entries = entries_of (root p) code count

  -- 02: "after 2, 8 and 3, [..] with 11, then [..] with 12"
  pub terms_numbers : numbers_of term_refused (terms_order p code count start term) ≡ 2 ∷ 8 ∷ 3 ∷ 11 ∷ 12 ∷ []
  terms_numbers = refl

  -- ── 11 and 12, behind the causes of a code ──
  module _ (c : Clear (code_order p code count)) where
    pub first_11 : dates_good start entries ≡ false → First TapeUndated (terms_order p code count start term)
    first_11 e = first_behind (wrapped Base (code_order p code count)) (clear_wrapped Base (code_order p code count) c) (here (ap not e))

    module _ (e : dates_good start entries ≡ true) where
      pub first_12 : is_term term ≡ false → First NotATerm (terms_order p code count start term)
      first_12 f =
          first_behind (wrapped Base (code_order p code count)) (clear_wrapped Base (code_order p code count) c) (past (ap not e) (here (ap not f)))

  -- no cause holds
  pub record SoundTerm : Type 0 where
    pub clear : Clear (code_order p code count)
    pub dates : dates_good start entries ≡ true
    pub is_one : is_term term ≡ true

  sound_term : Clear (terms_order p code count start term) → SoundTerm
  sound_term c =
      let (d, e) = clear_parts (wrapped Base (code_order p code count)) (dates_order start term entries) c in
      record {
        clear = wrapped_clear Base (code_order p code count) d;
        dates = not-false (dates_good start entries) e.0;
        is_one = not-false (is_term term) e.1.0;
      }

  module _ (r : Result (List ℕ) TermRefusal) (h : TermTotals p code count start term r) where
    -- 01: "A number is returned if its cause holds and none before it in the service's order does,
    pub terms_only : (why : TermRefusal) → First why (terms_order p code count start term) → (r ≡ Err why) × (term_litres r ≡ no_litres)
    terms_only why f =
        (term_outcome_refused r why (h.answers ∙ refused-answer p code count start term why f), h.gives ∙ refused-litres p code count start term why f)

    -- and never otherwise."
    pub terms_first : (why : TermRefusal) → r ≡ Err why → First why (terms_order p code count start term)
    unfolding terms_answer
    terms_first why e =
        said_first term_refused term_number_positive term_refused_same (terms_order p code count start term) (answer 0 0) refl why
        (sym h.answers ∙ ap term_outcome e)

    pub terms_none : IsOk r → SoundTerm
    unfolding terms_answer
    terms_none e =
        sound_term (zero-said term_refused term_number_positive (terms_order p code count start term) (answer 0 0)
        (ap (λ a. a.number) (sym h.answers ∙ added-answer r e)))

    -- where no cause holds, the litres of the term are added up
    pub terms_added : SoundTerm → r ≡ Ok (totals (within term (dated start entries)))
    terms_added s =
        let sums = totals (within term (dated start entries)) in
        term_totals_one p code count start term r (Ok sums) h
        (term_totals-dated p code count start term s.clear entries refl (Ok sums) (dates-added start term entries s.dates s.is_one sums refl))
