-- The part of the tape that a visit covers: it lies in the tape, and is what the definition gives.
use Rattle.std.specs.Prelude.{◌≡◌, refl, List, ℕ, ◌+◌, ◌-◌, ◌≤◌, take, drop, Result}
use Rattle.std.proofs.Common.{sym, ap₂, ◌∙◌, arith}
use Rattle.std.proofs.Math.Path.{ap}
use Rattle.std.proofs.Math.Option.{Option, none, some}
use borrow.Author.Tests.{not-false}
use Rattle.std.proofs.Math.ListN.{length}
use Rattle.syntax.specs.declared.Pattern.{Pattern}
use Rattle.syntax.specs.Trees.{root}
use Rattle.semantics.specs.Visits.{Visit}
use Rattle.semantics.proofs.VisitLaws.{visit_shows}
use Rattle.codes.specs.Spells.{code_of_tape}
use Rattle.refusals.specs.declared.Refusal.{Refusal}
use Rattle.spans.specs.declared.find.Span.{Span}
use Rattle.walks.specs.WholeLaws.{whole-handed, whole-value, spells}
use Rattle.spans.specs.Spans.{visit_by, span_visit, start_of, size_of, span_shown, piece_of, span_given, Spans}
use Rattle.spans.specs.SpanLaws.{tape-whole, tape-letters, shown_clear}

module _ (p : Pattern) (tape code : List ℕ) (count l k : ℕ) where
  pub record Part (r : Span) : Type 0 where
    pub fits : r.start + r.length ≤ length tape
    pub is : take ((r.start + r.length) - r.start) (drop r.start tape) ≡ piece_of (span_shown p tape code count l k) tape

  shown_fits : (x : Visit) → span_shown p tape code count l k ≡ some x → x.start + x.size ≤ length tape
  unfolding span_visit
  shown_fits x e =
      let (clear, q) = shown_clear p tape code count l k x e in
      let w = not-false (code_of_tape (root p) tape code count) clear.1.1.1.0 in
      let c = tape-whole (root p) tape code count w in
      let (v, g) = whole-value (root p) code count c in
      let s = spells (root p) code count (whole-handed (root p) code count c) v g in
      let f = (visit_shows (root p) v l k x (sym (ap (visit_by (root p) l k) g) ∙ q)).0.fits in
      omega (arith, f, ap length s, tape-letters (root p) tape code count w)

  part_at : (r : Span) (x : Option Visit) → span_shown p tape code count l k ≡ x → r.start ≡ start_of x → r.length ≡ size_of x → Part r
  part_at r none e a b = record {
    fits = omega (arith, a, b);
    is = ap₂ (λ n i. take ((i + n) - i) (drop i tape)) b a ∙ sym (ap (λ z. piece_of z tape) e);
  }
  part_at r (some x) e a b =
      let m : (r.start + r.length) - r.start ≡ x.size = omega (arith, a, b) in
      record {
        fits = omega (arith, a, b, shown_fits x e);
        is = ap₂ (λ n i. take n (drop i tape)) m a ∙ sym (ap (λ z. piece_of z tape) e);
      }

  pub part : (r : Result Span Refusal) (s : Span) → s ≡ span_given r → Spans p tape code count l k r → Part s
  part r s e promise =
      part_at s (span_shown p tape code count l k) refl (ap (λ x. x.start) e ∙ promise.starts) (ap (λ x. x.length) e ∙ promise.lengths)
