-- WHAT READING ANSWERS AND LEAVES, handed on: spelling gives back the tape, settling the same code, totals and pieces are those of the greedy
-- value. Over the promises of the services: for every pattern, tape, lent buffers and answers that they allow.
use Rattle.std.specs.Prelude.{◌≡◌, refl, Bool, List, ℕ, ◌+◌, ◌*◌, ◌≤◌, length, take, Err, Ok, Result}
use Rattle.std.proofs.Math.Path.{sym, ap}
use Rattle.std.proofs.Common.{ap₂, subst, ◌∙◌, arith, take_all}
use Rattle.std.proofs.Math.Option.{some}
use Rattle.refusals.specs.declared.Refusal.{Refusal}
use Rattle.syntax.specs.declared.Pattern.{Pattern}
use Rattle.refusals.specs.Refusals.{answer, number}
use Rattle.refusals.specs.RefusalLaws.{number_positive}
use Rattle.syntax.specs.Letter.{letter_limit}
use Rattle.syntax.specs.Trees.{root}
use Rattle.bits.specs.Bits.{cell_count, pack, held, in_front}
use Rattle.bits.specs.Packing.{length-pack}
use Rattle.bits.specs.Writing.{take-in_front}
use Rattle.bits.specs.Handed.{held-pack}
use Rattle.semantics.specs.Value.{Value}
use Rattle.semantics.specs.Order.{Greedy}
use Rattle.semantics.specs.Code.{code}
use Rattle.semantics.specs.Accounts.{accounts, totals}
use Rattle.semantics.specs.Visits.{visit}
use Rattle.semantics.specs.Decode.{value_of}
use Rattle.semantics.specs.Sweeps.{greedy}
use Rattle.semantics.proofs.CodeLaws.{value_of-code}
use Rattle.semantics.proofs.GreedyLaws.{canonical_greedy}
use Rattle.steps.specs.StateSets.{words}
use Rattle.codes.specs.Flatten.{flattened_answer, Flattens}
use Rattle.entries.specs.Gather.{entries_by, entries_of}
use Rattle.totals.specs.Totals.{Totals}
use Rattle.totals.specs.Unique.{totals_one}
use Rattle.spans.specs.declared.Span.{Span}
use Rattle.spans.specs.Spans.{visit_by, span_visit, span_answer, start_of, size_of, span_shown, span_outcome, span_given, Spans}
use Rattle.parser.specs.Parse.{Parses}
use Rattle.canonical.specs.Canonicalize.{Canonicalizes}
use Rattle.canonical.specs.CanonicalLaws.{laid, settle_read}
use Rattle.canonical.specs.Unique.{canonicalizes_one}
use Rattle.canonical.specs.Demand.{tape_of, Earliest}
use Rattle.canonical.proofs.Demanded.{greedy-spells, greedy_earliest}
use Rattle.theorems.specs.Read.{Read, read, read_greedily}
use Rattle.theorems.specs.Passed.{visit_answer, flatten_answers, flatten_writes, totals_answers, totals_adds, span_answers, span_shows}

-- 01: "A code is given as bytes and a bit count; the bytes are exactly enough". So of the buffer that reading left the bytes that it wrote
-- are handed on, not the cells past them.
abbrev pub written : (count : ℕ) → (code_now : List ℕ) → List ℕ
written n ys = take (cell_count 8 n) ys

-- a buffer of just so many bytes is handed on as it is
pub written_all : (n : ℕ) (ys : List ℕ) → length ys ≤ cell_count 8 n → written n ys ≡ ys
written_all n ys h = take_all (cell_count 8 n) ys h

-- number 0 is the answer of what is given, not of a refusal
letters-given : (r : Result ℕ Refusal) (n : ℕ) → flattened_answer r ≡ answer 0 n → r ≡ Ok n
letters-given (Ok m) n e = ap (λ a. Ok a.value) e
letters-given (Err why) n e = let z : number why ≡ 0 = ap (λ a. a.number) e in absurd (omega (arith, number_positive why))

module _ (p : Pattern) (tape ws us xs ys : List ℕ) (n : ℕ) (h : Parses p tape ws us xs ys (Ok n)) where
  abbrev best : List Bool
  best = greedy (root p) tape

  is_read : Read p tape ws us xs ys n
  is_read = read p tape ws us xs ys n h

  bytes_are : written n ys ≡ pack 8 best
  bytes_are =
      let r = is_read in
      ap₂ (λ k l. take (cell_count 8 k) l) r.count_is r.code_is ∙ ap (λ k. take k (in_front (pack 8 best) xs)) (sym (length-pack 8 best))
      ∙ take-in_front (pack 8 best) xs

  pub of_best : (F : List ℕ → ℕ → Type 0) → F (pack 8 best) (length best) → F (written n ys) n
  of_best F f = subst (λ k. F (written n ys) k) (sym is_read.count_is) (subst (λ l. F l (length best)) (sym bytes_are) f)

  -- it is a whole code of the pattern, and the earliest code of the tape
  pub parsed_earliest : Earliest p tape (written n ys) n
  parsed_earliest = let r = is_read in of_best (Earliest p tape) (greedy_earliest p r.good tape r.few r.reads)

  pub parsed_spells : tape_of p (written n ys) n ≡ tape
  parsed_spells = let r = is_read in of_best (λ l k. tape_of p l k ≡ tape) (greedy-spells p r.good tape r.few r.reads)

  few_spelled : length (tape_of p (written n ys) n) ≤ letter_limit
  few_spelled = subst (λ w. length w ≤ letter_limit) (sym parsed_spells) is_read.few

  -- THE ROUND TRIP: spelling gives back the tape
  module _ (cells : List ℕ) (room : length tape ≤ length cells) where
    enough : length (tape_of p (written n ys) n) ≤ length cells
    enough = subst (λ w. length w ≤ length cells) (sym parsed_spells) room

    pub flattens_back : Flattens p (written n ys) n cells (in_front tape cells) (Ok (length tape))
    flattens_back =
        let r = is_read in
        let whole = parsed_earliest.is.whole in
        record {
          answers = sym (flatten_answers p (written n ys) n r.good whole few_spelled cells enough ∙ ap (λ w. answer 0 (length w)) parsed_spells);
          leaves = sym (flatten_writes p (written n ys) n r.good whole few_spelled cells enough ∙ ap (λ w. in_front w cells) parsed_spells);
        }

    pub parse_flatten : (after : List ℕ) (r : Result ℕ Refusal) → Flattens p (written n ys) n cells after r
        → (r ≡ Ok (length tape)) × (after ≡ in_front tape cells)
    parse_flatten after r f = let s = flattens_back in (letters-given r (length tape) (f.answers ∙ sym s.answers), f.leaves ∙ sym s.leaves)

  -- settling gives the same code, and leaves tape and words as reading does
  module _ (ts ts_now vs vs_now zs zs_now : List ℕ) (r : Result ℕ Refusal) (c : Canonicalizes p (written n ys) n ts ts_now vs vs_now zs zs_now r) where
    pub parse_canonicalize : length tape ≤ length ts → 2 * (length tape + 1) ≤ length vs → cell_count 8 n ≤ length zs
        → (r ≡ Ok n) × (ts_now ≡ in_front tape ts) × (vs_now ≡ in_front (words p tape) vs) × (zs_now ≡ in_front (written n ys) zs)
    parse_canonicalize tape-room word_room code-room =
        let d = is_read in
        let k = read_greedily p tape vs (record { good = d.good; few = d.few; letters = d.letters; room = word_room }) d.reads zs
        (subst (λ m. cell_count 8 m ≤ length zs) d.count_is code-room) in
        let l = laid p (written n ys) n ts (in_front tape ts) (Ok (length tape)) (flattens_back ts tape-room) (length tape) refl in
        let w = subst (λ x. Parses p x vs (in_front (words p tape) vs) zs (in_front (pack 8 best) zs) (Ok (length best)))
        (sym (l.front_is ∙ parsed_spells)) k in
        let s = settle_read p (written n ys) n ts (in_front tape ts) (length tape) l vs (in_front (words p tape) vs) zs (in_front (pack 8 best) zs)
        (Ok (length best)) w (Ok (length best)) refl in
        let q = canonicalizes_one p (written n ys) n ts ts_now (in_front tape ts) vs vs_now (in_front (words p tape) vs) zs zs_now
        (in_front (pack 8 best) zs) r (Ok (length best)) c s in
        (q.0 ∙ ap Ok (sym d.count_is), q.1, q.2, q.3 ∙ ap (λ b. in_front b zs) (sym bytes_are))

  -- totals and pieces are those of the greedy value
  module _ (v : Value (root p)) (g : Greedy (root p) tape v) where
    value_is : value_of (root p) (held 8 (written n ys) n) ≡ some v
    value_is =
        let e = (canonical_greedy (root p) tape (code (root p) v) (record { value = v; greedy = g; written = refl })).1 in
        of_best (λ l k. value_of (root p) (held 8 l k) ≡ some v)
        (ap (value_of (root p)) (held-pack 8 (omega arith) best ∙ e) ∙ value_of-code (root p) v)

    pub totals-greedy : Totals p (written n ys) n (Ok (totals (accounts (root p) v)))
    unfolding entries_of
    totals-greedy =
        let d = is_read in
        let whole = parsed_earliest.is.whole in
        record {
          answers = sym (totals_answers p (written n ys) n d.good whole few_spelled);
          gives = sym (totals_adds p (written n ys) n d.good whole few_spelled ∙ ap (λ o. totals (entries_by (root p) o)) value_is);
        }

    pub parse_totals : (r : Result (List ℕ) Refusal) → Totals p (written n ys) n r → r ≡ Ok (totals (accounts (root p) v))
    parse_totals r t = totals_one p (written n ys) n r (Ok (totals (accounts (root p) v))) t totals-greedy

    module _ (l k : ℕ) where
      visit_is : span_visit p (written n ys) n l k ≡ visit (root p) v l k
      unfolding span_visit
      visit_is = ap (visit_by (root p) l k) value_is

      pub span_greedy : (span_answer p tape (written n ys) n l k ≡ visit_answer (visit (root p) v l k))
          × (span_shown p tape (written n ys) n l k ≡ visit (root p) v l k)
      span_greedy =
          let d = is_read in
          let whole = parsed_earliest.is.whole in (
            span_answers p (written n ys) n d.good whole few_spelled tape parsed_spells d.letters l k ∙ ap visit_answer visit_is,
            span_shows p (written n ys) n d.good whole few_spelled tape parsed_spells d.letters l k ∙ visit_is,
          )

      pub parse_spans : (r : Result Span Refusal) → Spans p tape (written n ys) n l k r
          → (span_outcome r ≡ visit_answer (visit (root p) v l k)) × ((span_given r).start ≡ start_of (visit (root p) v l k))
          × ((span_given r).length ≡ size_of (visit (root p) v l k))
      parse_spans r s =
          let g = span_greedy in
          (s.answers ∙ g.0, s.starts ∙ ap start_of g.1, s.lengths ∙ ap size_of g.1)
