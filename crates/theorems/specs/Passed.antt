-- A whole code of a pattern that obeys the rules, of letters within the limit: no cause of spelling, totalling or showing a piece refuses it
-- but a buffer that is too short or a visit that is not there. The one place of this crate that looks into the order of the checks.
use Rattle.std.specs.Prelude.{◌≡◌, true, List, [], ◌∷◌, ℕ, ◌≤◌, eqb}
use Rattle.std.proofs.Math.Path.{refl, ap, subst}
use Rattle.std.proofs.Common.{◌∙◌, le-ltb, eq-eqb}
use Rattle.std.proofs.Math.Bool.{cond}
use Rattle.std.proofs.Math.Option.{Option, none, some}
use Rattle.std.proofs.Math.ListN.{length}
use Rattle.syntax.specs.declared.Pattern.{Pattern}
use Rattle.refusals.specs.declared.Refusal.TheVariants.{NoSuchVisit}
use Rattle.refusals.specs.Refusals.{Answer, answer, refused}
use Rattle.refusals.specs.CheckLaws.{clear_success}
use Rattle.syntax.specs.Letter.{first_bad, letter_limit}
use Rattle.syntax.specs.Table.{obeys}
use Rattle.syntax.specs.Trees.{root}
use Rattle.bits.specs.Bits.{in_front}
use Rattle.semantics.specs.Accounts.{totals}
use Rattle.semantics.specs.Visits.{Visit}
use Rattle.walks.specs.Whole.{whole_code, letters_of}
use Rattle.codes.specs.Flatten.{flatten_order, flatten_answer, flatten_tape}
use Rattle.codes.specs.FlattenLaws.{flatten_clear}
use Rattle.entries.specs.CodeOrder.{code_order, Sound, sound_clear}
use Rattle.entries.specs.Gather.{entries_of}
use Rattle.totals.specs.Totals.{no_litres, totals_answer, totals_litres}
use Rattle.codes.specs.Spells.{same, code_of_tape}
use Rattle.spans.specs.Spans.{span_visit, span_answer, span_shown}

-- 01, cause 10: "node outside the table or visited at most k times"
abbrev pub visit_answer : Option Visit → Answer
visit_answer none = refused NoSuchVisit
visit_answer (some x) = answer 0 0

same_self : (xs : List ℕ) → same xs xs ≡ true
same_self [] = refl
same_self (x ∷ xs) = rw (eq-eqb x x refl) (same_self xs)

module _ (p : Pattern) (code : List ℕ) (count : ℕ) (good : obeys p ≡ true) (whole : whole_code (root p) code count ≡ true)
    (few : length (letters_of (root p) code count) ≤ letter_limit) where
  abbrev own : List ℕ
  own = letters_of (root p) code count

  sound : Sound p code count
  sound = record { good = good; whole = whole; few = few }

  module _ (tape : List ℕ) (room : length (letters_of (root p) code count) ≤ length tape) where
    pub flatten_answers : flatten_answer p code count (length tape) ≡ answer 0 (length (letters_of (root p) code count))
    unfolding flatten_answer
    flatten_answers =
        clear_success (flatten_order p code count (length tape)) (answer 0 (length own)) (flatten_clear p code count sound (length tape) room)

    pub flatten_writes : flatten_tape p code count tape ≡ in_front (letters_of (root p) code count) tape
    unfolding flatten_tape
    flatten_writes = ap (λ a. cond (eqb a.number 0) (in_front own tape) tape) flatten_answers

  pub totals_answers : totals_answer p code count ≡ answer 0 0
  unfolding totals_answer
  totals_answers = clear_success (code_order p code count) (answer 0 0) (sound_clear p code count sound)

  pub totals_adds : totals_litres p code count ≡ totals (entries_of (root p) code count)
  unfolding totals_litres
  totals_adds = ap (λ a. cond (eqb a.number 0) (totals (entries_of (root p) code count)) no_litres) totals_answers

  module _ (tape : List ℕ) (e : letters_of (root p) code count ≡ tape) (letters : length tape ≤ first_bad tape) (l k : ℕ) where
    of_tape : code_of_tape (root p) tape code count ≡ true
    unfolding code_of_tape
    of_tape = rw (whole, e) (same_self tape)

    pub span_answers : span_answer p tape code count l k ≡ visit_answer (span_visit p code count l k)
    unfolding span_answer
    span_answers = go (span_visit p code count l k) refl
      where
        short : length tape ≤ letter_limit
        short = subst (λ w. length w ≤ letter_limit) e few

        go : (x : Option Visit) → span_visit p code count l k ≡ x → span_answer p tape code count l k ≡ visit_answer x
        go none q =
            simp (
              good,
              le-ltb letter_limit (length tape) short,
              le-ltb (first_bad tape) (length tape) letters,
              of_tape,
              q,
            )
        go (some x) q =
            simp (
              good,
              le-ltb letter_limit (length tape) short,
              le-ltb (first_bad tape) (length tape) letters,
              of_tape,
              q,
            )

    pub span_shows : span_shown p tape code count l k ≡ span_visit p code count l k
    unfolding span_shown
    span_shows =
        ap (λ a. cond (eqb a.number 0) (span_visit p code count l k) none) span_answers ∙ there (span_visit p code count l k)
      where
        there : (x : Option Visit) → cond (eqb (visit_answer x).number 0) x none ≡ x
        there none = refl
        there (some x) = refl
