-- The theorem: every row holds. The definitions are computed on each row, and the laws of the promises carry that to every outcome.
use Rattle.std.specs.Prelude.{◌≡◌, Bool, ◌&&◌, ℕ, ◌+◌, ◌*◌, ◌-◌, ◌≤◌, leb, length, get_or, Err, Result}
use Rattle.std.proofs.Math.Path.{refl, ap}
use Rattle.std.proofs.Common.{sym, subst, ◌∙◌, arith, leb-true}
use Rattle.std.proofs.Math.Bool.{true, false}
use mathlib.Core.List.{List, [], ◌∷◌, head-eq_of_cons-eq, map, tail-eq_of_cons-eq}
use Rattle.refusals.specs.declared.Refusal.{Refusal}
use Rattle.syntax.specs.declared.Pattern.{Pattern}
use Rattle.refusals.specs.declared.Refusal.TheVariants.{Unreadable}
use Rattle.refusals.specs.Refusals.{Answer, answer, refused}
use Rattle.syntax.specs.Bools.{and_fst, and_snd}
use Rattle.syntax.specs.Letter.{is_letter, in_range, first_bad, letter_limit}
use Rattle.syntax.specs.Table.{table, obeys, line_good, wrongly_names, unnamed, tree_fault}
use Rattle.syntax.specs.Tree.{Tree, index}
use Rattle.syntax.specs.Trees.{root, tree_of}
use Rattle.syntax.specs.TreeLaws.{obeys_iff}
use Rattle.bits.specs.Bits.{bit, bits_of, test_bit, cell_count, pack, in_front, held, exact, handed_good}
use Rattle.bits.specs.Packing.{length-pack}
use Rattle.fields.specs.Text.{
  rows as text_rows,
  digit,
  one_digit,
  two_digits,
  place,
  single,
  all_digits,
  decimal,
  account_number,
  account,
  node_of_none,
  node_of_one,
  range_of,
  parts_of,
  node_of_two,
  node_of,
  line_of,
  row_line,
  forms,
}
use Rattle.loading.specs.Load.{load_answer, load_table}
use Rattle.loading.specs.LoadLaws.{loaded-obeys}
use Rattle.semantics.specs.Automaton.{top}
use Rattle.semantics.specs.Decode.{value_of, is_code, spelled}
use Rattle.semantics.specs.Sweeps.{readable, greedy}
use Rattle.semantics.proofs.GreedyLaws.{greedy_canonical}
use Rattle.semantics.specs.Every.{All}
use Rattle.steps.specs.StateSets.{words}
use Rattle.steps.specs.StateLaws.{state_bit}
use Rattle.walks.specs.Whole.{whole_code, letters_of}
use Rattle.parser.specs.Parse.{parsed_answer, ReadsGreedily, Parses}
use Rattle.parser.specs.ParseLaws.{Tested, filled_at, root-index, parse_unreadable}
use Rattle.parser.specs.Rejected.{reads-greedy}
use Rattle.parser.specs.Unique.{parses_one}
use Rattle.canonical.specs.Canonicalize.{canonicalized_answer, Canonicalizes}
use Rattle.canonical.specs.CanonicalLaws.{settles}
use Rattle.canonical.specs.RoundTrip.{letters-readable}
use Rattle.worked_examples.specs.Texts.{P1, P2, P3, P4, P5, Listing, Z1, Z2, Z3, Z4, Z5, Z6, Z7, H1}
use Rattle.worked_examples.specs.Rows.{Asked, reading, settling, Row, Says, Holds, rows}

-- ── what is computed of a row ──
abbrev read_answer : (readable : Bool) → Tree → (tape : List ℕ) → Answer
read_answer true t tape = answer 0 (length (greedy t tape))
read_answer false t tape = refused Unreadable

abbrev read_bytes : (readable : Bool) → Tree → (tape : List ℕ) → List ℕ
read_bytes true t tape = pack 8 (greedy t tape)
read_bytes false t tape = []

-- the input passes the tests that stand before the row's answer
abbrev tested_by : Asked → Tree → (tape : List ℕ) → Bool
tested_by reading t tape = leb (length tape) letter_limit && leb (length tape) (first_bad tape)
tested_by (settling code count) t tape = whole_code t code count && leb (length tape) letter_limit

abbrev letters_by : Asked → Tree → (tape : List ℕ) → List ℕ
letters_by reading t tape = tape
letters_by (settling code count) t tape = letters_of t code count

-- a code is of some value, so what it spells can be read
abbrev readable_by : Asked → Tree → (tape : List ℕ) → Bool
readable_by reading t tape = readable t tape
readable_by (settling code count) t tape = true

record Seen : Type 0 where
  pub loaded : Answer
  pub tested : Bool
  pub tape : List ℕ
  pub answered : Answer
  pub written : List ℕ

abbrev seen_by : Row → Tree → Seen
seen_by r t = record {
  loaded = load_answer r.text;
  tested = tested_by r.asked t r.tape;
  tape = letters_by r.asked t r.tape;
  answered = read_answer (readable_by r.asked t r.tape) t r.tape;
  written = read_bytes (readable_by r.asked t r.tape) t r.tape;
}

abbrev seen : Row → Seen
seen r = seen_by r (root (load_table r.text))

abbrev expected : Row → Seen
expected r = record { loaded = answer 0 r.lines; tested = true; tape = r.tape; answered = r.answered; written = r.written }

-- ── on a text that loads, what is computed is what every outcome has ──
module _ (text : List ℕ) (loads : (load_answer text).number ≡ 0) where
  abbrev p : Pattern
  p = load_table text

  abbrev t : Tree
  t = root p

  good : obeys p ≡ true
  good = loaded-obeys text loads

  module _ (tape ws us xs ys : List ℕ) (r : Result ℕ Refusal) (h : Parses p tape ws us xs ys r) (few : length tape ≤ letter_limit)
      (letters : length tape ≤ first_bad tape) (room : 2 * (length tape + 1) ≤ length ws) where
    unread : readable t tape ≡ false → (parsed_answer r ≡ refused Unreadable) × (ys ≡ xs)
    unfolding readable
    unread none =
        let d : Tested p tape ws = record { good = good; few = few; letters = letters; room = room } in
        let off : test_bit (get_or (in_front (words p tape) ws) (2 * 0 + bit true) 0) (p.count - 1) ≡ false =
        ap (λ l. test_bit (get_or (in_front (words p tape) ws) (2 * 0 + bit true) 0) l) (sym (root-index p good))
        ∙ ap (λ x. test_bit x (index t)) (filled_at p tape ws 0 (omega arith) true) ∙ state_bit p ((obeys_iff p).0 good) true tape t top ∙ none in
        let q = parses_one p tape ws us (in_front (words p tape) ws) xs ys xs r (Err Unreadable) h (parse_unreadable d refl refl xs off) in
        (ap parsed_answer q.0, q.2)

    read : (b : Bool) → readable t tape ≡ b → length (read_bytes b t tape) ≤ length xs
        → (parsed_answer r ≡ read_answer b t tape) × (ys ≡ in_front (read_bytes b t tape) xs)
    unfolding in_front
    read true e fit =
        reads-greedy p tape ws us xs ys r h good few letters room e (rw (length-pack 8 (greedy t tape)) at fit)
    read false e fit = unread e

-- ── so a row holds if it is what is computed ──
module _ (text tape : List ℕ) (a : Answer) (bytes : List ℕ) (loads : (load_answer text).number ≡ 0) where
  abbrev u : Tree
  u = root (load_table text)

  -- the claim of each way of asking
  abbrev So : Asked → Type 0
  So q = tested_by q u tape ≡ true → letters_by q u tape ≡ tape → read_answer (readable_by q u tape) u tape ≡ a
      → read_bytes (readable_by q u tape) u tape ≡ bytes → Says q text tape a bytes

  reading_so : So reading
  reading_so tested same ea eb l g ws us xs ys r h room fit =
      let k : Parses (load_table text) tape ws us xs ys r = subst (λ p. Parses p tape ws us xs ys r) g.gives h in
      let few = leb-true (length tape) letter_limit (and_fst (leb (length tape) letter_limit) (leb (length tape) (first_bad tape)) tested) in
      let letters = leb-true (length tape) (first_bad tape) (and_snd (leb (length tape) letter_limit) (leb (length tape) (first_bad tape)) tested) in
      let w = read text loads tape ws us xs ys r k few letters room (readable u tape) refl (rw eb fit) in
      (w.0 ∙ ea, w.1 ∙ ap (λ c. in_front c xs) eb)

  settling_so : (code : List ℕ) (count : ℕ) → So (settling code count)
  settling_so code count tested same ea eb l g ts us ws vs xs ys r h cells room fit =
      let k : Canonicalizes (load_table text) code count ts us ws vs xs ys r =
      subst (λ p. Canonicalizes p code count ts us ws vs xs ys r) g.gives h in
      let whole = and_fst (whole_code u code count) (leb (length tape) letter_limit) tested in
      let few = leb-true (length tape) letter_limit (and_snd (whole_code u code count) (leb (length tape) letter_limit) tested) in
      let s = settles (load_table text) code count ts us ws vs xs ys r k (good text loads) whole (rw same few) (rw same cells) (rw same room) in
      let w =
      subst (λ ls. (us ≡ in_front ls ts) × (vs ≡ in_front (words (load_table text) ls) ws) × ReadsGreedily u ls xs ys (canonicalized_answer r))
      same s in
      let reads : readable u tape ≡ true = rw same at (letters-readable (load_table text) code count whole) in
      let fits : cell_count 8 (length (greedy u tape)) ≤ length xs = rw (← length-pack 8 (greedy u tape), eb) fit in
      let m = w.2.1.fits (greedy u tape) (greedy_canonical u tape reads) fits in
      (m.0 ∙ ea, w.0, m.1 ∙ ap (λ c. in_front c xs) eb)

  says : (q : Asked) → So q
  says reading = reading_so
  says (settling code count) = settling_so code count

holds : (r : Row) → seen r ≡ expected r → Holds r
holds r e = record {
  loads = λ l g. g.answers ∙ ap (λ s. s.loaded) e;
  says = says r.text r.tape r.answered r.written (ap (λ s. s.loaded.number) e) r.asked (ap (λ s. s.tested) e) (ap (λ s. s.tape) e)
      (ap (λ s. s.answered) e) (ap (λ s. s.written) e);
}

all_hold : (rs : List Row) → map seen rs ≡ map expected rs → All Holds rs
all_hold [] e = tt
all_hold (r ∷ rs) e = (holds r (head-eq_of_cons-eq e), all_hold rs (tail-eq_of_cons-eq e))

rows_compute : map seen rows ≡ map expected rows
unfolding rows P1 P2 P3 P4 P5 Listing Z1 Z2 Z3 Z4 Z5 Z6 Z7 H1 text_rows digit one_digit two_digits place single all_digits decimal account_number
    account node_of_none node_of_one range_of parts_of node_of_two node_of line_of row_line forms table load_answer load_table is_letter in_range
    first_bad line_good wrongly_names unnamed tree_fault root tree_of readable greedy is_code value_of spelled bits_of pack held exact handed_good
    whole_code letters_of
rows_compute = refl

-- 01: "C1 to C11 stand as a table and one theorem proves the definitions on every row." The rows for 02's kind `Z` and
-- letters of the hot side stand in the same table.
pub rows_hold : All Holds rows
rows_hold = all_hold rows rows_compute
