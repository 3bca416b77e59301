-- The promise of spans fixes the answer: two results that it allows on one input are the same.
use Rattle.std.specs.Prelude.{◌≡◌, List, ℕ, Err, Ok, Result}
use Rattle.std.proofs.Common.{sym, ap, ap₂, ◌∙◌, arith}
use Rattle.syntax.specs.declared.Pattern.{Pattern}
use Rattle.refusals.specs.declared.Refusal.{Refusal}
use Rattle.refusals.specs.Refusals.{refused}
use Rattle.refusals.specs.RefusalLaws.{refused_same, number_positive}
use Rattle.spans.specs.declared.find.Span.{Span}
use Rattle.spans.specs.Spans.{span_outcome, span_given, Spans}

-- number and value fix the cause
pub outcome_refused : (r : Result Span Refusal) (why : Refusal) → span_outcome r ≡ refused why → r ≡ Err why
outcome_refused (Ok x) s e = let z : 0 ≡ (refused s).number = ap (λ a. a.number) e in absurd (omega (arith, number_positive s))
outcome_refused (Err r) s e = ap Err (refused_same r s e)

-- and with start and length the whole answer
span_same : (r s : Result Span Refusal) → span_outcome r ≡ span_outcome s → (span_given r).start ≡ (span_given s).start
    → (span_given r).length ≡ (span_given s).length → r ≡ s
span_same (Ok x) (Ok y) e f g = ap₂ (λ a n. Ok (record { start = a; length = n })) f g
span_same r (Err s) e f g = outcome_refused r s e
span_same (Err r) (Ok y) e f g = sym (outcome_refused (Ok y) r (sym e))

pub spans_one : (p : Pattern) (tape code : List ℕ) (count l k : ℕ) (r s : Result Span Refusal)
    → Spans p tape code count l k r → Spans p tape code count l k s → r ≡ s
spans_one p tape code count l k r s f g =
    span_same r s (f.answers ∙ sym g.answers) (f.starts ∙ sym g.starts) (f.lengths ∙ sym g.lengths)
