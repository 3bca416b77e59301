-- Spans of a whole code: one law for each way of the service.
use Rattle.std.specs.Prelude.{◌≡◌, Bool, List, ◌++◌, ℕ, ◌+◌, ◌*◌, ◌-◌, ◌≤◌, Err}
use Rattle.std.proofs.Math.Path.{refl, sym, ap}
use Rattle.std.proofs.Common.{subst, ◌∙◌, true≢false, arith}
use Rattle.std.proofs.Math.Bool.{true, false, not, cond}
use Rattle.std.proofs.Math.Option.{Option, none, some, none-ne-some}
use Rattle.std.proofs.Math.Dec.{eqb}
use borrow.Author.Tests.{eqb-true, ne_eqb}
use Rattle.std.proofs.Math.ListN.{length}
use Rattle.syntax.specs.declared.Pattern.{Pattern}
use Rattle.refusals.specs.declared.Refusal.{Refusal}
use Rattle.refusals.specs.declared.Refusal.TheVariants.{NotACode, NoSuchVisit}
use Rattle.refusals.specs.Refusals.{answer, number}
use Rattle.refusals.specs.RefusalLaws.{number_positive}
use Rattle.refusals.specs.Checks.{Check, First, here, past, Clear}
use Rattle.refusals.specs.CheckLaws.{first_behind, clear_both, first_answered, clear_success, zero_clear}
use Rattle.syntax.specs.Bools.{and_fst, and_snd}
use Rattle.syntax.specs.Letter.{letter_limit}
use Rattle.syntax.specs.Tree.{Tree}
use Rattle.syntax.specs.Trees.{root}
use Rattle.syntax.specs.Table.{obeys}
use Rattle.bits.specs.Bits.{held}
use Rattle.bits.specs.Handed.{handed_fit, handed_count}
use Rattle.semantics.specs.Value.{flat}
use Rattle.semantics.specs.Visits.{Visit, visits, visits_at, visit}
use Rattle.semantics.specs.Code.{code_limit}
use Rattle.table.specs.Cells.{tree_in, Holds}
use Rattle.table.specs.CellLaws.{holds_tree}
use Rattle.walks.specs.Looks.{same_seen}
use Rattle.walks.specs.Whole.{whole_code, letters_of}
use Rattle.walks.specs.WholeLaws.{value_see, whole-handed, whole-value, spells}
use Rattle.codes.specs.Spells.{same, code_of_tape}
use Rattle.codes.specs.SpellLaws.{same_length}
use Rattle.checks.specs.TapeOrder.{tape_order}
use Rattle.checks.specs.TapeLaws.{IsTaken, taken_clear}
use Rattle.std.specs.ControlFlow.{break_value}
use Rattle.std.specs.Option.{ok_or}
use Rattle.spans.specs.Spans.{visit_by, span_visit, unvisited, visit_order, span_order, span_answer}
use Rattle.spans.specs.Spans.{start_of, size_of, span_shown, Spans}
use Rattle.spans.specs.Traces.{Found, trace, trace-visits, trace_at, found_by, found_in}
use Rattle.spans.specs.Seeks.{Seeking, Finds}

-- ── what is known of a code of the tape ──
module _ (t : Tree) (tape code : List ℕ) (count : ℕ) (w : code_of_tape t tape code count ≡ true) where
  pub tape-whole : whole_code t code count ≡ true
  unfolding code_of_tape
  tape-whole = and_fst (whole_code t code count) (same (letters_of t code count) tape) w

  pub tape-letters : length (letters_of t code count) ≡ length tape
  unfolding code_of_tape
  tape-letters = same_length (letters_of t code count) tape (and_snd (whole_code t code count) (same (letters_of t code count) tape) w)

  pub tape_bits : (count ≤ length code * 8) × (count ≤ code_limit)
  tape_bits = let g = whole-handed t code count tape-whole in (handed_fit code count g, handed_count code count g)

  -- the walk that looks for a visit may start
  pub seek_ready : length tape ≤ letter_limit → Seeking (trace_at code count t 0) 0
  unfolding trace_at
  seek_ready h =
      let (v, e) = whole-value t code count tape-whole in
      let s = spells t code count (whole-handed t code count tape-whole) v e in
      record {
        trace = trace t v;
        stop = length (held 8 code count);
        is = value_see t code count (trace t) v e;
        room = omega (arith, ap (λ z. z.1) (trace-visits t v 0), ap length s, tape-letters);
      }

pub visited : (v : Option Visit) → unvisited v ≡ false → (x : Visit) × (v ≡ some x)
visited none e = absurd (true≢false e)
visited (some x) e = (x, refl)

-- ── at the last line of a table that holds the pattern ──
module _ (p : Pattern) (table : List ℕ) (o : obeys p ≡ true) (h : Holds p table) (code : List ℕ) (count : ℕ) where
  pub tape-root : (tape : List ℕ) (b : Bool) → b ≡ code_of_tape (tree_in table (p.count - 1)) tape code count → code_of_tape (root p) tape code count ≡ b
  tape-root tape b e = sym (e ∙ ap (λ t. code_of_tape t tape code count) (holds_tree p table o h))

  pub found_root : (node k : ℕ) (r : Found) → Finds (trace_at code count (tree_in table (p.count - 1)) 0) 0 node k r
      → Finds (trace_at code count (root p) 0) 0 node k r
  found_root node k r w = subst (λ t. Finds (trace_at code count t 0) 0 node k r) (holds_tree p table o h) w

-- ── one law for each way of the service ──
module _ (p : Pattern) (tape code : List ℕ) (count l k : ℕ) where
  abbrev Refuses : Refusal → Type 0
  Refuses why = Spans p tape code count l k (Err why)

  -- the first cause that holds is answered, and the piece is empty
  pub span_refused : (why : Refusal) → First why (span_order p tape code count l k) → Refuses why
  unfolding span_answer span_shown
  span_refused why f =
      let e = first_answered f (answer 0 0) in
      let z = ne_eqb (number why) 0 (λ q. omega (arith, q, number_positive why)) in
      let q = ap (λ b. cond b (span_visit p code count l k) none) (ap (λ x. eqb x.number 0) e ∙ z) in
      record {
        answers = sym e;
        starts = sym (ap start_of q);
        lengths = sym (ap size_of q);
      }

  shown_at : (x : Visit) → span_answer p tape code count l k ≡ answer 0 0 → span_visit p code count l k ≡ some x
      → span_shown p tape code count l k ≡ some x
  unfolding span_shown
  shown_at x a e = ap (λ y. cond (eqb y.number 0) (span_visit p code count l k) none) a ∙ e

  -- a visit is shown only where no cause holds
  pub shown_clear : (x : Visit) → span_shown p tape code count l k ≡ some x
      → Clear (span_order p tape code count l k) × (span_visit p code count l k ≡ some x)
  unfolding span_shown span_answer
  shown_clear x e = go (eqb (span_answer p tape code count l k).number 0) refl e
    where
      go : (b : Bool) → eqb (span_answer p tape code count l k).number 0 ≡ b → cond b (span_visit p code count l k) none ≡ some x
          → Clear (span_order p tape code count l k) × (span_visit p code count l k ≡ some x)
      go true z q = (zero_clear (span_order p tape code count l k) (answer 0 0) (eqb-true (span_answer p tape code count l k).number 0 z), q)
      go false z q = absurd (none-ne-some x q)

  module _ (t : IsTaken p tape) where
    -- behind the causes of the tape
    pub behind-tape : {why : Refusal} {more : List Check} → First why more → First why (tape_order p tape ++ more)
    behind-tape f = first_behind (tape_order p tape) (taken_clear p tape t) f

    pub span_not : code_of_tape (root p) tape code count ≡ false → Refuses NotACode
    span_not c = span_refused NotACode (behind-tape (here (ap not c)))

    module _ (w : code_of_tape (root p) tape code count ≡ true) where
      given : (x : Visit) → span_visit p code count l k ≡ some x → span_answer p tape code count l k ≡ answer 0 0
      unfolding span_answer
      given x e =
          clear_success (span_order p tape code count l k) (answer 0 0)
          (clear_both (tape_order p tape) (visit_order p tape code count l k) (taken_clear p tape t) (ap not w, (ap unvisited e, tt)))

      module _ (r : Found) (fi : Finds (trace_at code count (root p) 0) 0 l k r) where
        -- what was found is the visit of layer 1
        found_visit : (j : ℕ) × (n : ℕ) × (i : ℕ) × (r ≡ found_by n j i (span_visit p code count l k))
        unfolding span_visit visit trace_at found_in
        found_visit =
            let (v, e) = whole-value (root p) code count (tape-whole (root p) tape code count w) in
            let (f, _) = same_seen (sym fi.is ∙ value_see (root p) code count (trace (root p)) v e) in
            let j = fi.stop in
            let n = k - length (visits_at l (visits (root p) v 0)) in
            let i = 0 + length (flat (root p) v) in (
              j,
              n,
              i,
              fi.result ∙ ap (λ z. found_in l k j (z 0)) f ∙ ap (found_in l k j) (trace-visits (root p) v 0)
                  ∙ ap (λ z. found_by n j i (visit_by (root p) l k z)) (sym e),
            )

        -- the visit that was found is shown, and where none was, there is none
        pub span_found : Spans p tape code count l k (ok_or (break_value r) NoSuchVisit)
        span_found = go (span_visit p code count l k) refl
          where
            go : (x : Option Visit) → span_visit p code count l k ≡ x → Spans p tape code count l k (ok_or (break_value r) NoSuchVisit)
            go none e =
                let (j, n, i, q) = found_visit in
                rw (q ∙ ap (found_by n j i) e) (span_refused NoSuchVisit (behind-tape (past (ap not w) (here (ap unvisited e)))))
            go (some x) e =
                let (j, n, i, q) = found_visit in
                let a = given x e in
                let s = shown_at x a e in
                rw (q ∙ ap (found_by n j i) e) (record { answers = sym a; starts = sym (ap start_of s); lengths = sym (ap size_of s) })
