-- Every piece stands by itself, for texts and the calls from C: the theorem over tables, on the table of the text.
use Rattle.std.specs.Prelude.{◌≡◌, Bool, true, List, ℕ, ◌≤◌, length}
use Rattle.std.proofs.Math.Path.{refl, ap, ap₂}
use Rattle.std.proofs.Common.{sym, subst, ◌∙◌, arith}
use Rattle.std.proofs.Math.Option.{Option, map, none, some}
use Rattle.syntax.specs.Letter.{letter_limit}
use Rattle.syntax.specs.Table.{obeys}
use Rattle.syntax.specs.Trees.{root}
use Rattle.syntax.specs.Alike.{Alike}
use Rattle.syntax.specs.Subpattern.{sub_lines, sub_pattern}
use Rattle.loading.specs.Load.{load_table}
use Rattle.loading.specs.LoadLaws.{loaded-obeys}
use Rattle.bits.specs.Bits.{pack, held}
use Rattle.bits.specs.Handed.{held-pack}
use Rattle.semantics.specs.Code.{Canonical}
use Rattle.semantics.specs.Cuts.{Cut, code_cut, piece, bits_cut}
use Rattle.semantics.specs.Cuts.{seen}
use Rattle.semantics.specs.Sweeps.{greedy}
use Rattle.semantics.proofs.GreedyLaws.{greedy_canonical}
use Rattle.parser.specs.Parse.{parsed_answer}
use Rattle.canonical.specs.Canonicalize.{canonicalized_answer}
use Rattle.wumbyra.specs.Packed.{shown_answer, span_text}
use Rattle.theorems.specs.PatternTextLaws.{text_loads, text_table}
use Rattle.theorems.specs.Read.{read}
use Rattle.theorems.specs.RoundTrip.{of_best}
use Rattle.theorems.specs.RoundTripText.{parsed_text}
use Rattle.theorems.specs.ThirdDemanded.{run_of}
use Rattle.theorems.specs.Passed.{visit_answer}
use Rattle.theorems.specs.StandsAlone.{HasCode as TableCode, AloneAt as TableAlone, StandsAlone}
use Rattle.theorems.specs.StandsAloneProved.{stands_alone, span_cut}
use Rattle.theorems.specs.StandsAloneText.{sub_text, cut_answer, HasCode, CutAlone, AloneAt, StandsAloneText}

-- what the services give on the table of a text, the calls give on the text
has_code : (text letters : List ℕ) (bits : List Bool) → TableCode (load_table text) letters bits → HasCode text letters bits
has_code text letters bits s = record {
  read = λ words words_now code code_now r h wide long.
      let y = s.read words words_now code code_now h.parsed h.parses wide long in (h.answers ∙ ap parsed_answer y.0, y.1);
  settled = λ c e x.
      let y = s.settled c e (run_of text c x) in (x.kept.answers ∙ ap canonicalized_answer y.0, y.1);
}

module _ (text : List ℕ) (good : obeys (load_table text) ≡ true) (tape : List ℕ) (few : length tape ≤ letter_limit) (bits : List Bool)
    (c : Canonical (root (load_table text)) tape bits) (l k : ℕ) where
  abbrev at : TableAlone (load_table text) tape bits l k
  unfolding StandsAlone
  at = stands_alone (load_table text) good tape few bits c l k

  cut_alone : (x : Cut) → code_cut (root (load_table text)) bits l k ≡ some x → CutAlone text tape bits l x
  unfolding sub_pattern
  cut_alone x e =
      let d = at.cut x e in
      let s = d.stands in
      let t : load_table (sub_text text l) ≡ sub_pattern (load_table text) l = text_table (sub_lines (load_table text) l) s.rules in
      record {
        in_tape = s.in_tape;
        in_code = s.in_code;
        loads = ap (λ a. a.number) (text_loads (sub_lines (load_table text) l) s.rules);
        table_is = t;
        alone = has_code (sub_text text l) (piece tape x) (bits_cut bits x)
            (subst (λ q. TableCode q (piece tape x) (bits_cut bits x)) (sym t) d.alone);
        alike = λ other o a. has_code other (piece tape x) (bits_cut bits x)
            (d.alike (load_table other) (loaded-obeys other o) (subst (λ q. Alike (root q) (root (load_table other))) t a));
      }

  alone_packed : AloneAt text tape (pack 8 bits) (length bits) bits l k
  unfolding span_text
  alone_packed =
      let (a, v) = span_cut (load_table text) good tape few bits c l k in
      record { shown = λ r e. e ∙ ap₂ shown_answer a v ∙ same (code_cut (root (load_table text)) bits l k); cut = cut_alone }
    where
      same : (o : Option Cut) → shown_answer (visit_answer (map seen o)) (map seen o) ≡ cut_answer o
      same none = refl
      same (some x) = refl

-- EVERY PIECE STANDS BY ITSELF, for texts and the calls from C
pub stands_alone_text : StandsAloneText
unfolding StandsAloneText
stands_alone_text text tape ws us xs ys r n h e l k =
    let q = parsed_text text tape ws us xs ys r n h e in
    let d = read (load_table text) tape ws us xs ys n q in
    let best = greedy (root (load_table text)) tape in
    of_best (load_table text) tape ws us xs ys n q (λ code count. AloneAt text tape code count (held 8 code count) l k)
    (subst (λ bits. AloneAt text tape (pack 8 best) (length best) bits l k) (sym (held-pack 8 (omega arith) best))
    (alone_packed text d.good tape d.few best (greedy_canonical (root (load_table text)) tape d.reads) l k))
