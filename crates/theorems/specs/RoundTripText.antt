-- The same for the calls from C: what `wumbyra_parse` answers and leaves, handed to the other calls with the same pattern text.
use Rattle.std.specs.Prelude.{◌≡◌, List, ℕ, ◌+◌, ◌*◌, ◌≤◌, length, get_or, Err, Ok, Result}
use Rattle.std.proofs.Common.{sym, ap, subst, ◌∙◌, arith}
use Rattle.std.proofs.Math.Path.{ap₂}
use Rattle.refusals.specs.declared.Refusal.{Refusal}
use Rattle.refusals.specs.Refusals.{answer, number}
use Rattle.refusals.specs.RefusalLaws.{number_positive}
use Rattle.syntax.specs.Trees.{root}
use Rattle.loading.specs.Load.{load_table}
use Rattle.bits.specs.Bits.{cell_count, in_front}
use Rattle.semantics.specs.Value.{Value}
use Rattle.semantics.specs.Order.{Greedy}
use Rattle.semantics.specs.Accounts.{accounts, totals}
use Rattle.semantics.specs.Visits.{visit}
use Rattle.steps.specs.StateSets.{words}
use Rattle.parser.specs.Parse.{parsed_answer, Parses}
use Rattle.canonical.specs.Canonicalize.{canonicalized_answer}
use Rattle.packing.specs.Packing.{unpacked}
use Rattle.packing.specs.Cells.{Gives}
use Rattle.packing.specs.CellsLaws.{given_same}
use Rattle.wumbyra.specs.Packed.{ParsesText, FlattensText, CanonicalizesText, shown_answer, span_text, total_text, TotalsText}
use Rattle.wumbyra.specs.Unique.{unpacked_same}
use Rattle.theorems.specs.Passed.{visit_answer}
use Rattle.theorems.specs.RoundTrip.{written, flattens_back, parse_canonicalize, totals-greedy, span_greedy}

-- `wumbyra_parse` answered r, which is number 0 and n bits
module _ (text tape ws us xs ys : List ℕ) (r n : ℕ) (h : ParsesText text tape ws us xs ys r) (bits : unpacked r ≡ answer 0 n) where
  by : (a : Result ℕ Refusal) → answer 0 n ≡ parsed_answer a → Parses (load_table text) tape ws us xs ys a → Parses (load_table text) tape ws us xs ys (Ok n)
  by (Ok m) e q = subst (λ k. Parses (load_table text) tape ws us xs ys (Ok k)) (sym (ap (λ a. a.value) e)) q
  by (Err why) e q = let z : 0 ≡ number why = ap (λ a. a.number) e in absurd (omega (arith, number_positive why))

  pub parsed_text : Parses (load_table text) tape ws us xs ys (Ok n)
  parsed_text = by h.parsed (sym bits ∙ h.answers) h.parses

  -- THE ROUND TRIP from C: `wumbyra_flatten` gives back the tape
  pub text_flatten : (cells after : List ℕ) (s : ℕ) → length tape ≤ length cells → FlattensText text (written n ys) n cells after s
      → (unpacked s ≡ answer 0 (length tape)) × (after ≡ in_front tape cells)
  text_flatten cells after s room f =
      let b = flattens_back (load_table text) tape ws us xs ys n parsed_text cells room in
      (f.answers ∙ sym b.answers, f.leaves ∙ sym b.leaves)

  -- `wumbyra_canonicalize` answers what `wumbyra_parse` did, and writes the same bytes
  pub text_canonicalize : (ts ts_now vs vs_now zs zs_now : List ℕ) (s : ℕ)
      → CanonicalizesText text (written n ys) n ts ts_now vs vs_now zs zs_now s
      → length tape ≤ length ts → 2 * (length tape + 1) ≤ length vs → cell_count 8 n ≤ length zs
      → (s ≡ r) × (ts_now ≡ in_front tape ts) × (vs_now ≡ in_front (words (load_table text) tape) vs) × (zs_now ≡ in_front (written n ys) zs)
  text_canonicalize ts ts_now vs vs_now zs zs_now s c tape-room word_room code-room =
      let q = parse_canonicalize (load_table text) tape ws us xs ys n parsed_text ts ts_now vs vs_now zs zs_now c.canonicalized c.canonicalizes
      tape-room word_room code-room in
      (unpacked_same s r (c.answers ∙ ap canonicalized_answer q.0 ∙ sym bits), q.1, q.2, q.3)

  -- totals and pieces are those of the greedy value
  module _ (v : Value (root (load_table text))) (g : Greedy (root (load_table text)) tape v) where
    pub text_totals : (cells after : List ℕ) (s : ℕ) → TotalsText text (written n ys) n cells after s
        → Gives (answer 0 0) (totals (accounts (root (load_table text)) v)) cells after s
    text_totals cells after s t =
        let b = totals-greedy (load_table text) tape ws us xs ys n parsed_text v g in
        given_same (sym b.answers) (sym b.gives) t

    pub text_total : (a : ℕ) → total_text text (written n ys) n a ≡ answer 0 (get_or (totals (accounts (root (load_table text)) v)) a 0)
    unfolding total_text
    text_total a =
        let b = totals-greedy (load_table text) tape ws us xs ys n parsed_text v g in
        ap₂ (λ x ls. answer x.number (get_or ls a 0)) (sym b.answers) (sym b.gives)

    pub text_span : (l k : ℕ) → span_text text tape (written n ys) n l k
        ≡ shown_answer (visit_answer (visit (root (load_table text)) v l k)) (visit (root (load_table text)) v l k)
    unfolding span_text
    text_span l k = let b = span_greedy (load_table text) tape ws us xs ys n parsed_text v g l k in ap₂ shown_answer b.0 b.1
