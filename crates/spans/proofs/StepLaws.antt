-- What single steps of showing a piece come to: that a visit not found is refused, and that the piece cut out is the visit's. No answer needs these
-- laws, since the check finds them where `ok_or` and the slice stand.
use Rattle.std.specs.Prelude.{◌≡◌, List, ℕ, ◌+◌, ◌-◌, take, drop, Result, Ok, Err, ⊤}
use Rattle.std.proofs.Common.{refl, ap, subst, ◌∙◌, arith}
use Rattle.std.proofs.Math.Bool.{true}
use Rattle.std.specs.Borrow.{Bor}
use Rattle.std.specs.ControlFlow.{break_value}
use Rattle.std.specs.Option.{ok_or}
use Rattle.std.specs.declared.ops.ControlFlow.TheVariants.{Continue}
use Rattle.syntax.specs.declared.Pattern.{Pattern}
use Rattle.syntax.specs.Trees.{root}
use Rattle.refusals.specs.declared.Refusal.{Refusal}
use Rattle.refusals.specs.declared.Refusal.TheVariants.{NoSuchVisit}
use Rattle.refusals.specs.Refusals.{refused}
use Rattle.refusals.specs.RefusalLaws.{refused_same, number_positive}
use Rattle.checks.specs.TapeLaws.{IsTaken}
use Rattle.codes.specs.Spells.{code_of_tape}
use Rattle.spans.specs.declared.find.Span.{Span}
use Rattle.spans.specs.declared.find.Passed.{Passed}
use Rattle.spans.specs.Spans.{span_shown, span_outcome, span_given, Spans}
use Rattle.spans.specs.Parts.{Part-of-tape}
use Rattle.spans.specs.Pieces.{part}
use Rattle.spans.specs.Traces.{Found, trace_at}
use Rattle.spans.specs.Seeks.{Finds}
use Rattle.spans.specs.SpanLaws.{span_found}

-- a refusal shows no span
abbrev pub refused_span : Refusal → Result Span Refusal
refused_span why = Err why

-- the node was passed, and its visit is not there
pub span_none : (p : Pattern) (tape code : List ℕ) (count l k : ℕ) (t : IsTaken p tape) (w : code_of_tape (root p) tape code count ≡ true) (r : Found)
    → Finds (trace_at code count (root p) 0) 0 l k r → (at : Passed) → r ≡ Continue at → Spans p tape code count l k (Err NoSuchVisit)
span_none p tape code count l k t w r fi at e =
    subst (λ x. Spans p tape code count l k (ok_or (break_value x) NoSuchVisit)) e (span_found p tape code count l k t w r fi)

-- the part of the tape from the start that is shown, as long as is shown
pub part_of_tape : (p : Pattern) (lent piece : Bor (List ℕ)) (code : List ℕ) (count l k : ℕ) (r : Result Span Refusal) → Spans p lent.now code count l k r
    → piece.now ≡ take (((span_given r).start + (span_given r).length) - (span_given r).start) (drop (span_given r).start lent.now)
    → piece.ref_ptr ≡ (lent.ref_ptr.0, (span_given r).start + lent.ref_ptr.1)
    → Part-of-tape (span_shown p lent.now code count l k) lent piece
part_of_tape p lent piece code count l k r s letters place = record {
  letters = letters ∙ (part p lent.now code count l k r (span_given r) refl s).is;
  block = ap (λ x. x.0) place;
  offset = ap (λ x. x.1) place ∙ ap (λ i. i + lent.ref_ptr.1) s.starts;
}

-- what was answered, without the span
abbrev pub outcome : Result Span Refusal → Result ⊤ Refusal
outcome (Ok span) = Ok tt
outcome (Err why) = Err why

-- number and value fix it
pub outcome_same : (r s : Result Span Refusal) → span_outcome r ≡ span_outcome s → outcome r ≡ outcome s
outcome_same (Ok a) (Ok b) e = refl
outcome_same (Ok a) (Err s) e = let z : 0 ≡ (refused s).number = ap (λ x. x.number) e in absurd (omega (arith, number_positive s))
outcome_same (Err r) (Ok b) e = let z : (refused r).number ≡ 0 = ap (λ x. x.number) e in absurd (omega (arith, number_positive r))
outcome_same (Err r) (Err s) e = ap Err (refused_same r s e)
