-- Start and length can be read off the value of a span that is shown.
use Rattle.std.specs.Prelude.{◌≡◌, refl, Result, Ok, List, ℕ, ◌+◌, ◌*◌, ◌/◌, ◌%◌, ◌≤◌, length}
use Rattle.std.proofs.Math.Path.{sym}
use Rattle.std.proofs.Common.{ap, arith, ltb-false}
use Rattle.std.proofs.Math.Option.{some}
use Rattle.syntax.specs.declared.Pattern.{Pattern}
use Rattle.syntax.specs.Letter.{letter_limit}
use Rattle.refusals.specs.Refusals.{answer}
use Rattle.refusals.specs.CheckLaws.{clear_success}
use Rattle.bits.specs.Fields.{splits_back}
use Rattle.semantics.specs.Visits.{Visit}
use Rattle.refusals.specs.declared.Refusal.{Refusal}
use Rattle.spans.specs.declared.find.Span.{Span}
use Rattle.spans.specs.Spans.{span_order, span_answer, start_of, size_of, span_shown, Spans}
use Rattle.spans.specs.SpanLaws.{shown_clear}
use Rattle.spans.specs.Pieces.{part}

module _ (p : Pattern) (tape code : List ℕ) (count l k : ℕ) (x : Visit) (e : span_shown p tape code count l k ≡ some x) where
  abbrev shown : Span
  shown = record { start = x.start; length = x.size }

  given : Result Span Refusal
  given = Ok shown

  shown_is : (length tape ≤ letter_limit) × (span_answer p tape code count l k ≡ answer 0 0)
  unfolding span_answer
  shown_is =
      let (c, q) = shown_clear p tape code count l k x e in
      (ltb-false letter_limit (length tape) c.1.0, clear_success (span_order p tape code count l k) (answer 0 0) c)

  shown_spans : Spans p tape code count l k given
  unfolding given
  shown_spans = record {
    answers = sym shown_is.1;
    starts = sym (ap start_of e);
    lengths = sym (ap size_of e);
  }

  pub shown_within : x.start + x.size ≤ letter_limit
  unfolding given
  shown_within = omega (arith, (part p tape code count l k given shown refl shown_spans).fits, shown_is.0)

  pub span_splits : ((x.start * 65536 + x.size) / 65536 ≡ x.start) × ((x.start * 65536 + x.size) % 65536 ≡ x.size)
  span_splits = splits_back 16 x.start x.size (omega (arith, shown_within))
