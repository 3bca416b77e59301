-- Showing a piece: the first cause that holds is answered, whatever later causes hold, and the piece is empty.
use Rattle.std.specs.Prelude.{◌≡◌, true, false, not, List, [], ◌∷◌, ℕ, ◌≤◌, Err, Result}
use Rattle.std.proofs.Math.Path.{refl, ap}
use Rattle.std.proofs.Common.{sym, ◌∙◌}
use Rattle.std.proofs.Math.Option.{none}
use Rattle.syntax.specs.declared.Pattern.{Pattern}
use Rattle.syntax.specs.Trees.{root}
use Rattle.refusals.specs.declared.Refusal.{Refusal}
use Rattle.refusals.specs.declared.Refusal.TheVariants.{NotACode, NoSuchVisit}
use Rattle.refusals.specs.Refusals.{answer}
use Rattle.refusals.specs.Checks.{numbers, First, here, past}
use Rattle.refusals.specs.CheckLaws.{first_more, refused_first}
use Rattle.checks.specs.TapeOrder.{tape_order}
use Rattle.checks.specs.TapeLaws.{IsTaken}
use Rattle.codes.specs.Spells.{code_of_tape}
use Rattle.spans.specs.declared.find.Span.{Span}
use Rattle.spans.specs.Spans.{span_visit, unvisited, span_order, span_answer, span_outcome, span_given, Spans}
use Rattle.spans.specs.SpanLaws.{span_refused, behind-tape}
use Rattle.spans.specs.Unique.{spans_one}
use Rattle.spans.specs.Outside.{outside_none}

-- 01: "Showing the piece [..]: 2, 3, 4, 8, 10."
pub span_numbers : (p : Pattern) (tape code : List ℕ) (count l k : ℕ)
    → numbers (span_order p tape code count l k) ≡ 2 ∷ 3 ∷ 4 ∷ 8 ∷ 10 ∷ []
span_numbers p tape code count l k = refl

module _ (p : Pattern) (tape code : List ℕ) (count l k : ℕ) (r : Result Span Refusal) (h : Spans p tape code count l k r) where
  abbrev Only : Refusal → Type 0
  Only why = (r ≡ Err why) × ((span_given r).start ≡ 0) × ((span_given r).length ≡ 0)

  pub only : (why : Refusal) → First why (span_order p tape code count l k) → Only why
  only why f =
      let e = spans_one p tape code count l k r (Err why) h (span_refused p tape code count l k why f) in
      (e, ap (λ z. (span_given z).start) e, ap (λ z. (span_given z).length) e)

  -- "and never otherwise"
  pub only_first : (why : Refusal) → r ≡ Err why → First why (span_order p tape code count l k)
  unfolding span_answer
  only_first why e = refused_first (span_order p tape code count l k) (answer 0 0) refl why (sym h.answers ∙ ap span_outcome e)

  -- 2, 3 and 4 are `tape_2`, `tape_3` and `tape_4` of crate checks, handed on
  pub only_tape : (why : Refusal) → First why (tape_order p tape) → Only why
  only_tape why f = only why (first_more _ f)

  module _ (t : IsTaken p tape) where
    -- whatever node and visit are asked for: 8 before 10
    pub only_8 : code_of_tape (root p) tape code count ≡ false → Only NotACode
    only_8 c = only NotACode (behind-tape p tape code count l k t (here (ap not c)))

    module _ (c : code_of_tape (root p) tape code count ≡ true) where
      pub only_10 : span_visit p code count l k ≡ none → Only NoSuchVisit
      only_10 v = only NoSuchVisit (behind-tape p tape code count l k t (past (ap not c) (here (ap unvisited v))))

      -- "node outside the table"
      pub only_10_outside : p.count ≤ l → Only NoSuchVisit
      only_10_outside g = only_10 (outside_none p t.good code count l k g)
