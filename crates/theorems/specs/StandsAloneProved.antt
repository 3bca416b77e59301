-- Every piece stands by itself: from the promises and the theory only.
use Rattle.std.specs.Prelude.{◌≡◌, Bool, true, List, [], ◌∷◌, ℕ, ◌+◌, ◌≤◌, length, take, drop, Ok, Result}
use Rattle.std.proofs.Math.Path.{refl, sym, ap}
use Rattle.std.proofs.Common.{subst, ◌∙◌, arith, length-take, length-drop}
use Rattle.std.proofs.Math.Option.{Option, map, none, some}
use Rattle.refusals.specs.declared.Refusal.{Refusal}
use Rattle.syntax.specs.declared.Pattern.{Pattern}
use Rattle.syntax.specs.Letter.{first_bad, letter_limit}
use Rattle.syntax.specs.Table.{obeys}
use Rattle.syntax.specs.Trees.{root}
use Rattle.syntax.specs.Subpattern.{sub_pattern}
use Rattle.syntax.proofs.SubpatternCases.{fourth}
use Rattle.bits.specs.Bits.{pack}
use Rattle.bits.specs.Handed.{held-pack}
use Rattle.semantics.specs.Value.{Value}
use Rattle.semantics.specs.Code.{Canonical}
use Rattle.semantics.specs.Cuts.{Cut, cut_by, code_cut, piece, bits_cut}
use Rattle.semantics.specs.Decode.{value_of}
use Rattle.semantics.specs.Cuts.{seen}
use Rattle.semantics.proofs.CutLaws.{cut-visit}
use Rattle.semantics.proofs.AlikeLaws.{alike_canonical}
use Rattle.semantics.proofs.PieceLaws.{piece-stands}
use Rattle.semantics.proofs.PieceExamples.{whole, unsettled_cut, unsettled_falls}
use Rattle.parser.specs.ParseLaws.{tested_zero}
use Rattle.parser.specs.Unique.{parsed_same}
use Rattle.canonical.specs.CanonicalLaws.{spelled, letters_good, settles}
use Rattle.canonical.specs.RoundTrip.{canonical_whole, canonical_spells}
use Rattle.canonical.specs.Unique.{canonicalized_same}
use Rattle.canonical.specs.Demand.{tape_of, spells}
use Rattle.spans.specs.declared.Span.{Span}
use Rattle.spans.specs.Spans.{visit_by, span_visit, span_answer, start_of, size_of, span_shown, span_outcome, span_given, Spans}
use Rattle.theorems.specs.Passed.{visit_answer, flatten_answers, span_answers, span_shows}
use Rattle.theorems.specs.StandsAlone.{ShowsCut, HasCode, CutAlone, AloneAt, StandsAlone}

-- ── the canonical code of a tape is what reading and settling give ──
module _ (q : Pattern) (good : obeys q ≡ true) (w : List ℕ) (few : length w ≤ letter_limit) (bs : List Bool) (c : Canonical (root q) w bs) where
  abbrev own : tape_of q (pack 8 bs) (length bs) ≡ w
  own = canonical_spells q good w few bs c

  short : length (tape_of q (pack 8 bs) (length bs)) ≤ letter_limit
  short = subst (λ x. length x ≤ letter_limit) (sym own) few

  -- what is spelled is letters
  letters : length w ≤ first_bad w
  letters =
      let e = flatten_answers q (pack 8 bs) (length bs) good (canonical_whole q good w few bs c) short (tape_of q (pack 8 bs) (length bs)) (omega arith) in
      subst (λ x. length x ≤ first_bad x) own
      (letters_good q (pack 8 bs) (length bs) (length (tape_of q (pack 8 bs) (length bs)))
      (spelled q (pack 8 bs) (length bs) (length (tape_of q (pack 8 bs) (length bs))) (ap (λ a. a.number) e)))

  pub canonical_code : HasCode q w bs
  canonical_code = record {
    read = λ words words_now code code_now r h wide long.
        let f = (h.reads (tested_zero {ws = words} (record { good = good; few = few; letters = letters; room = wide }))).1.fits bs c long in
        (parsed_same r (Ok (length bs)) f.0, f.1);
    settled = λ x e y.
        let d : Canonical (root q) (spells x) bs = subst (λ z. Canonical (root q) z bs) (sym e) c in
        let s = settles q x.bytes x.count y.tape y.tape_now y.words y.words_now y.out y.out_now y.result y.kept good
        x.is.whole x.few y.tape-room y.word_room in
        let f = s.2.1.fits bs d (y.code-room bs d) in
        (canonicalized_same y.result (Ok (length bs)) f.0, f.1);
  }

  -- ── the cut of a visit is of the visit that is shown ──
  module _ (l k : ℕ) where
    cut_shown : span_visit q (pack 8 bs) (length bs) l k ≡ map seen (code_cut (root q) bs l k)
    unfolding span_visit code_cut
    cut_shown =
        ap (λ x. visit_by (root q) l k (value_of (root q) x)) (held-pack 8 (omega arith) bs) ∙ sym (go (value_of (root q) bs))
      where
        go : (o : Option (Value (root q))) → map seen (cut_by (root q) l k o) ≡ visit_by (root q) l k o
        go none = refl
        go (some v) = cut-visit (root q) v l k

    pub span_cut : (span_answer q w (pack 8 bs) (length bs) l k ≡ visit_answer (map seen (code_cut (root q) bs l k)))
        × (span_shown q w (pack 8 bs) (length bs) l k ≡ map seen (code_cut (root q) bs l k))
    span_cut =
        let whole = canonical_whole q good w few bs c in (
          span_answers q (pack 8 bs) (length bs) good whole short w own letters l k ∙ ap visit_answer cut_shown,
          span_shows q (pack 8 bs) (length bs) good whole short w own letters l k ∙ cut_shown,
        )

    shows : (r : Result Span Refusal) → Spans q w (pack 8 bs) (length bs) l k r → ShowsCut (code_cut (root q) bs l k) r
    shows r s =
        let (a, v) = span_cut in
        go (code_cut (root q) bs l k) (s.answers ∙ a) (s.starts ∙ ap start_of v) (s.lengths ∙ ap size_of v)
      where
        go : (o : Option Cut) → span_outcome r ≡ visit_answer (map seen o) → (span_given r).start ≡ start_of (map seen o)
            → (span_given r).length ≡ size_of (map seen o) → ShowsCut o r
        go none e f g = e
        go (some x) e f g = (e, f, g)

-- ── a part has the length that is asked ──
part_length : {A : Type 0} (xs : List A) (i n : ℕ) → i + n ≤ length xs → length (take n (drop i xs)) ≡ n
part_length xs i n h = simp (length-take, length-drop) (omega arith)

-- EVERY PIECE STANDS BY ITSELF
pub stands_alone : StandsAlone
unfolding StandsAlone
stands_alone p good tape few bits c l k = record { shown = shows p good tape few bits c l k; cut = alone }
  where
    alone : (x : Cut) → code_cut (root p) bits l k ≡ some x → CutAlone p tape bits l x
    alone x e =
        let s = piece-stands p good tape bits c l k x e in
        let n = part_length tape x.visit.start x.visit.size s.in_tape in
        let short : length (piece tape x) ≤ letter_limit = omega (arith, n, s.in_tape) in
        record {
          stands = s;
          size = n;
          count = part_length bits x.from x.bits s.in_code;
          alone = canonical_code (sub_pattern p l) s.rules (piece tape x) short (bits_cut bits x) s.canonical;
          alike = λ q o a.
              canonical_code q o (piece tape x) short (bits_cut bits x) (alike_canonical a (piece tape x) (bits_cut bits x) s.canonical);
        }

-- it is said of settled codes only: of P4's code `11` it is false
pub unsettled_not_alone : AloneAt fourth (97 ∷ 98 ∷ []) (true ∷ true ∷ []) 8 0 → ⊥
unsettled_not_alone a = unsettled_falls (a.cut whole unsettled_cut).stands
