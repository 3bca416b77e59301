-- Showing the piece of a visit: the answer, start and length, for every input. Definitions only.
use Rattle.std.specs.Prelude.{◌≡◌, Bool, true, false, not, cond, List, [], ◌∷◌, ◌++◌, ℕ, eqb, take, drop, Err, Ok, Result}
use Rattle.std.proofs.Math.Option.{Option, none, some}
use Rattle.syntax.specs.declared.Pattern.{Pattern}
use Rattle.refusals.specs.declared.Refusal.{Refusal}
use Rattle.refusals.specs.declared.Refusal.TheVariants.{NotACode, NoSuchVisit}
use Rattle.syntax.specs.Tree.{Tree}
use Rattle.syntax.specs.Trees.{root}
use Rattle.checks.specs.TapeOrder.{tape_order}
use Rattle.refusals.specs.Refusals.{Answer, answer, refused}
use Rattle.refusals.specs.Checks.{Check, first_cause}
use Rattle.bits.specs.Bits.{held}
use Rattle.semantics.specs.Value.{Value}
use Rattle.semantics.specs.Visits.{Visit, visit}
use Rattle.semantics.specs.Decode.{value_of}
use Rattle.spans.specs.declared.find.Span.{Span}
use Rattle.codes.specs.Spells.{code_of_tape}

abbrev pub visit_by : (t : Tree) → (node k : ℕ) → Option (Value t) → Option Visit
visit_by t l k none = none
visit_by t l k (some v) = visit t v l k

-- 01: "visit k of a node"; a node outside the table has no visit
unfoldable pub span_visit : Pattern → (code : List ℕ) → (count node k : ℕ) → Option Visit
span_visit p code count l k = visit_by (root p) l k (value_of (root p) (held 8 code count))

-- 01, cause 10: "node outside the table or visited at most k times"
abbrev pub unvisited : Option Visit → Bool
unvisited none = true
unvisited (some x) = false

-- 01: "Showing the piece [..]: 2, 3, 4, 8, 10.": the causes of a tape, and behind them those of the code and the visit
abbrev pub visit_order : Pattern → (tape code : List ℕ) → (count node k : ℕ) → List Check
visit_order p tape code count l k =
    (not (code_of_tape (root p) tape code count), NotACode) ∷ (unvisited (span_visit p code count l k), NoSuchVisit) ∷ []

abbrev pub span_order : Pattern → (tape code : List ℕ) → (count node k : ℕ) → List Check
span_order p tape code count l k = tape_order p tape ++ visit_order p tape code count l k

unfoldable pub span_answer : Pattern → (tape code : List ℕ) → (count node k : ℕ) → Answer
span_answer p tape code count l k = first_cause (span_order p tape code count l k) (answer 0 0)

abbrev pub start_of : Option Visit → ℕ
start_of none = 0
start_of (some x) = x.start

abbrev pub size_of : Option Visit → ℕ
size_of none = 0
size_of (some x) = x.size

-- the visit shown; none if refused
unfoldable pub span_shown : Pattern → (tape code : List ℕ) → (count node k : ℕ) → Option Visit
span_shown p tape code count l k = cond (eqb (span_answer p tape code count l k).number 0) (span_visit p code count l k) none

abbrev pub span_outcome : Result Span Refusal → Answer
span_outcome (Ok s) = answer 0 0
span_outcome (Err why) = refused why

-- the span of the piece; refused, it is the empty one at the tape's start
abbrev pub span_given : Result Span Refusal → Span
span_given (Ok s) = s
span_given (Err why) = record { start = 0; length = 0 }

-- THE PROMISE of spans, for every input
pub record Spans (p : Pattern) (tape code : List ℕ) (count node k : ℕ) (r : Result Span Refusal) : Type 0 where
  pub answers : span_outcome r ≡ span_answer p tape code count node k
  pub starts : (span_given r).start ≡ start_of (span_shown p tape code count node k)
  pub lengths : (span_given r).length ≡ size_of (span_shown p tape code count node k)

-- 01: "The piece is a part of the caller's tape"; "a refused piece is empty"
abbrev pub piece_of : Option Visit → List ℕ → List ℕ
piece_of none tape = []
piece_of (some x) tape = take x.size (drop x.start tape)
