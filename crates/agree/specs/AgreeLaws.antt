-- Laws of running the third demand: what a call of settling that is not refused left, and one law for each way of the code.
use Rattle.std.specs.Prelude.{◌≡◌, refl, Bool, true, false, ◌↔◌, List, ℕ, ◌+◌, ◌*◌, ◌≤◌, ◌<◌, length, take, Err, Ok, Result}
use Rattle.std.proofs.Common.{sym, ap, ap₂, subst, ◌∙◌, arith}
use Rattle.std.proofs.lemmas.Bool.{false≢true, true≢false}
use Rattle.std.proofs.Math.Decide.{dec_le}
use Rattle.syntax.specs.declared.Pattern.{Pattern}
use Rattle.refusals.specs.declared.Refusal.{Refusal}
use Rattle.refusals.specs.declared.Refusal.TheVariants.{CodeTooShort}
use Rattle.refusals.specs.Refusals.{answer, refused}
use Rattle.refusals.specs.RefusalLaws.{ok≢err}
use Rattle.syntax.specs.Table.{obeys}
use Rattle.syntax.specs.Trees.{root}
use Rattle.bits.specs.Bits.{cell_count, pack, in_front}
use Rattle.bits.specs.Packing.{length-pack}
use Rattle.bits.specs.Writing.{take-in_front, length-in_front}
use Rattle.semantics.specs.Code.{Canonical}
use Rattle.semantics.specs.Sweeps.{greedy}
use Rattle.semantics.proofs.GreedyLaws.{greedy_canonical}
use Rattle.steps.specs.StateSets.{words}
use Rattle.first_sweep.specs.Meaning.{words-length}
use Rattle.walks.specs.Whole.{whole_code, letters_of}
use Rattle.codes.specs.FlattenLaws.{flatten_fills}
use Rattle.parser.specs.Parse.{ReadsGreedily}
use Rattle.canonical.specs.Canonicalize.{canonicalized_answer, settle_early, Canonicalizes}
use Rattle.canonical.specs.CanonicalLaws.{Spelled, spelled_clear, settle_passed, settles}
use Rattle.canonical.specs.Unique.{canonicalized_same}
use Rattle.canonical.specs.RoundTrip.{canonical_whole, canonical_spells, letters-readable}
use Rattle.canonical.specs.Demand.{tape_of, Code, spells, Run, Settled, Equal, ThirdDemand}
use Rattle.canonical.proofs.Demanded.{third_demand}
use Rattle.agree.specs.Agree.{IsSettled, Compares, Worked, worked, filled, written}
use Rattle.agree.specs.Agree.{SettlesAgain, ComesBack, front, Verdict, Suffice, OnRun, Agrees}

-- ── a call of settling that is not refused ──

-- the greedy code of what a code spells
abbrev best : Pattern → (code : List ℕ) → (count : ℕ) → List Bool
best p code count = greedy (root p) (tape_of p code count)

-- what it left: the settled code in front of the buffer
pub record Left (p : Pattern) (code : List ℕ) (count k : ℕ) (ts us ws vs xs ys : List ℕ) : Type 0 where
  pub it : Spelled p code count (length ts)
  pub words_enough : 2 * (length (tape_of p code count) + 1) ≤ length ws
  pub tape_is : us ≡ in_front (tape_of p code count) ts
  pub words_are : vs ≡ in_front (words p (tape_of p code count)) ws
  pub canonical : Canonical (root p) (tape_of p code count) (best p code count)
  pub count_is : k ≡ length (best p code count)
  pub room : cell_count 8 k ≤ length xs
  pub code_is : ys ≡ in_front (pack 8 (best p code count)) xs

module _ {p : Pattern} {code : List ℕ} {count k : ℕ} {ts us ws vs xs ys : List ℕ} {r : Result ℕ Refusal}
    (h : Canonicalizes p code count ts us ws vs xs ys r) (e : r ≡ Ok k) where
  -- it was not refused before the sweeps
  passed : (settle_early p code count (length ts) (length ws)).number ≡ 0
  passed = go (dec_le 1 (settle_early p code count (length ts) (length ws)).number)
    where
      go : Dec (1 ≤ (settle_early p code count (length ts) (length ws)).number) → (settle_early p code count (length ts) (length ws)).number ≡ 0
      go (yes m) = sym (ap (λ a. a.number) (h.refuses m).0) ∙ ap (λ a. (canonicalized_answer a).number) e
      go (no m) = omega arith

  pub left : Left p code count k ts us ws vs xs ys
  left =
      let (s, enough) = settle_passed p code count (length ts) (length ws) passed in
      let c = greedy_canonical (root p) (tape_of p code count) (letters-readable p code count s.whole) in
      fitting s enough c (dec_le (cell_count 8 (length (best p code count))) (length xs))
    where
      a_is : canonicalized_answer r ≡ answer 0 k
      a_is = ap canonicalized_answer e

      fitting : Spelled p code count (length ts) → 2 * (length (tape_of p code count) + 1) ≤ length ws
          → Canonical (root p) (tape_of p code count) (best p code count) → Dec (cell_count 8 (length (best p code count)) ≤ length xs)
          → Left p code count k ts us ws vs xs ys
      fitting s enough c (yes l) =
          let m = (h.reads passed).1.fits (best p code count) c l in
          let n : k ≡ length (best p code count) = ap (λ a. a.value) (sym a_is ∙ m.0) in
          record {
            it = s;
            words_enough = enough;
            tape_is = h.spells ∙ flatten_fills p code count ts (spelled_clear p code count (length ts) s);
            words_are = h.fills passed;
            canonical = c;
            count_is = n;
            room = subst (λ i. cell_count 8 i ≤ length xs) (sym n) l;
            code_is = m.1;
          }
      fitting s enough c (no l) =
          let m = (h.reads passed).1.short (best p code count) c (omega arith) in
          absurd (let z : ◌≡◌ {A = ℕ} 0 7 = ap (λ a. a.number) (sym a_is ∙ m.0) in omega arith)

  pub left-room : cell_count 8 k ≤ length ys
  left-room =
      let l = left in
      let f : length (pack 8 (best p code count)) ≡ cell_count 8 k = length-pack 8 _ ∙ ap (cell_count 8) (sym l.count_is) in
      let g = length-in_front (pack 8 (best p code count)) xs (subst (λ n. n ≤ length xs) (sym f) l.room) in
      subst (λ z. cell_count 8 k ≤ z) (sym (ap length l.code_is ∙ g)) l.room

  pub left_end : (i : ℕ) → i ≡ cell_count 8 k → i ≤ length ys
  left_end i f = subst (λ z. z ≤ length ys) (sym f) left-room

  pub left-front : front ys k ≡ pack 8 (best p code count)
  left-front =
      let l = left in
      ap₂ take (ap (cell_count 8) l.count_is ∙ sym (length-pack 8 (best p code count))) l.code_is
      ∙ take-in_front (pack 8 (best p code count)) xs

  pub left-settled : (nt nw : ℕ) → nt ≡ length ts → nw ≡ length ws → IsSettled p (front ys k) k nt nw
  left-settled nt nw et ew =
      let l = left in
      record {
        good = l.it.good;
        letters = tape_of p code count;
        few = l.it.few;
        bits = best p code count;
        earliest = l.canonical;
        bytes_are = left-front;
        count_is = l.count_is;
        tape-room = subst (λ n. length (tape_of p code count) ≤ n) (sym et) l.it.room;
        word_room = subst (λ n. 2 * (length (tape_of p code count) + 1) ≤ n) (sym ew) l.words_enough;
      }

  -- the lent buffers keep their lengths
  pub tape-length : length us ≡ length ts
  tape-length = let l = left in ap length l.tape_is ∙ length-in_front (tape_of p code count) ts l.it.room

  pub words-kept : length vs ≡ length ws
  words-kept =
      let l = left in
      ap length l.words_are ∙ length-in_front (words p (tape_of p code count)) ws (subst (λ n. n ≤ length ws)
      (sym (words-length p (tape_of p code count))) l.words_enough)

-- ── a settled code, settled again ──
record Back (p : Pattern) (code : List ℕ) (count : ℕ) (lent left : Worked) (r : Result ℕ Refusal) : Type 0 where
  short : length lent.again < length code → (r ≡ Err (CodeTooShort (length code))) × (left ≡ filled p code count lent)
  fits : length code ≤ length lent.again → (r ≡ Ok count) × (left ≡ written p code count lent)

all_worked : (a a' b b' c c' : List ℕ) → a ≡ a' → b ≡ b' → c ≡ c' → worked a b c ≡ worked a' b' c'
all_worked a a' b b' c c' e f g = ap (λ z. worked z b c) e ∙ ap (λ z. worked a' z c) f ∙ ap (worked a' b') g

back :
    {p : Pattern} {code : List ℕ} {count : ℕ} {ts us ws vs xs ys : List ℕ} {r : Result ℕ Refusal} → Canonicalizes p code count ts us ws vs xs ys r
    → IsSettled p code count (length ts) (length ws) → Back p code count (worked ts ws xs) (worked us vs ys) r
back {p} {code} {count} {ts} {us} {ws} {vs} {xs} {ys} {r} h s = record {
  short = λ l.
      let m = greedily.1.short s.bits s.earliest (subst (λ n. length xs < n) size l) in
      (canonicalized_same r (Err (CodeTooShort (length code))) (m.0 ∙ ap (λ n. refused (CodeTooShort n)) (sym size)), left_by xs m.1);
  fits = λ l.
      let m = greedily.1.fits s.bits s.earliest (subst (λ n. n ≤ length xs) size l) in (
        canonicalized_same r (Ok count) (m.0 ∙ ap (answer 0) (sym s.count_is)),
        left_by (in_front code xs) (m.1 ∙ ap (λ l. in_front l xs) (sym s.bytes_are)),
      );
}
  where
    whole : whole_code (root p) code count ≡ true
    whole = ap₂ (whole_code (root p)) s.bytes_are s.count_is ∙ canonical_whole p s.good s.letters s.few s.bits s.earliest

    letters_are : tape_of p code count ≡ s.letters
    letters_are = ap₂ (letters_of (root p)) s.bytes_are s.count_is ∙ canonical_spells p s.good s.letters s.few s.bits s.earliest

    size : length code ≡ cell_count 8 (length s.bits)
    size = ap length s.bytes_are ∙ length-pack 8 s.bits

    read : (us ≡ in_front (tape_of p code count) ts) × (vs ≡ in_front (words p (tape_of p code count)) ws)
        × ReadsGreedily (root p) (tape_of p code count) xs ys (canonicalized_answer r)
    read = settles p code count ts us ws vs xs ys r h s.good whole (rw letters_are s.few) (rw letters_are s.tape-room) (rw letters_are s.word_room)

    greedily : ReadsGreedily (root p) s.letters xs ys (canonicalized_answer r)
    greedily = subst (λ l. ReadsGreedily (root p) l xs ys (canonicalized_answer r)) letters_are read.2

    left_by : (again : List ℕ) → ys ≡ again
        → worked us vs ys ≡ worked (in_front (tape_of p code count) ts) (in_front (words p (tape_of p code count)) ws) again
    left_by again e =
        all_worked us (in_front (tape_of p code count) ts) vs (in_front (words p (tape_of p code count)) ws) ys again read.0 read.1 e

-- ── comparing ──
pub equal_counts : (one two : List ℕ) (n m : ℕ) → (n ≡ m → ⊥) → (false ≡ true) ↔ Equal one two n m
equal_counts one two n m f = (λ e. absurd (false≢true e), λ e. absurd (f e.0))

pub equal_bytes : (one two : List ℕ) (n m : ℕ) (b : Bool) → n ≡ m → (b ≡ true → one ≡ two) × (one ≡ two → b ≡ true) → (b ≡ true) ↔ Equal one two n m
equal_bytes one two n m b e h = (λ t. (e, h.0 t), λ f. h.1 f.1)

-- both came back, so the answer is that of the last comparison
concluded_by : (one two : List ℕ) (n m : ℕ) (b : Bool) → (b ≡ true) ↔ Equal one two n m → Compares one n two m (Ok b)
concluded_by one two n m true h = record {
  same = (λ e. h.0 refl, λ e. refl);
  different = (λ e. absurd (true≢false cc), λ f. absurd (f (h.0 refl)));
}
concluded_by one two n m false h = record {
  same = (λ e. absurd (false≢true cc), λ e. absurd (false≢true (h.1 e)));
  different = (λ e q. false≢true (h.1 q), λ f. refl);
}

-- the code that comes back is in front of the buffer
back_equal : (code : List ℕ) (count k i : ℕ) (xs ys : List ℕ) (b : Bool) → k ≡ count → i ≡ cell_count 8 k → length code ≡ cell_count 8 count
    → ys ≡ in_front code xs
    → (b ≡ true) ↔ Equal code (take i ys) count k → b ≡ true
back_equal code count k i xs ys b e f s g h =
    h.1 (sym e, sym (ap₂ take (f ∙ ap (cell_count 8) e ∙ sym s) g ∙ take-in_front code xs))

settled-size : (p : Pattern) (code : List ℕ) (count nt nw : ℕ) → IsSettled p code count nt nw → length code ≡ cell_count 8 count
settled-size p code count nt nw s = ap length s.bytes_are ∙ length-pack 8 s.bits ∙ ap (cell_count 8) (sym s.count_is)

-- ── settling two settled codes again ──
refused-not : (r : Result ℕ Refusal) (why : Refusal) (n : ℕ) → r ≡ Err why → r ≡ Ok n → ⊥
refused-not r why n e f = ok≢err (sym f ∙ e)

same_refusal : (r : Result ℕ Refusal) (v w : Refusal) → r ≡ Err v → r ≡ Err w → v ≡ w
same_refusal r v w e f = cc

same_bits : (r : Result ℕ Refusal) (n m : ℕ) → r ≡ Ok n → r ≡ Ok m → n ≡ m
same_bits r n m e f = cc

module _ (two : List ℕ) (m : ℕ) {p : Pattern} {one : List ℕ} {n : ℕ} {ts us ws vs gs hs : List ℕ} {third : Result ℕ Refusal}
    (h : Canonicalizes p one n ts us ws vs gs hs third) where
  pub again_first : (why : Refusal) → third ≡ Err why → ComesBack p one n two m (worked ts ws gs) (worked us vs hs) (Err why)
  again_first why e s t =
      let q = back h s in
      record {
        first_short = λ l. let a = q.short l in (ap Err (same_refusal third why (CodeTooShort (length one)) e a.0), a.1);
        second_short = λ l j. absurd (refused-not third why n e (q.fits l).0);
        compares = λ l j. absurd (refused-not third why n e (q.fits l).0);
      }

  module _ {k : ℕ} (e : third ≡ Ok k) {us' vs' is : List ℕ} {fourth : Result ℕ Refusal} (f : Canonicalizes p two m us us' vs vs' hs is fourth) where
    -- the first came back, so the second is settled again in buffers of the same lengths
    kept-length : IsSettled p one n (length ts) (length ws) → length hs ≡ length gs
    kept-length s = go (dec_le (length one) (length gs))
      where
        go : Dec (length one ≤ length gs) → length hs ≡ length gs
        go (yes l) = ap (λ z. length z.again) ((back h s).fits l).1 ∙ length-in_front one gs l
        go (no l) = ap (λ z. length z.again) ((back h s).short (omega arith)).1

    second_back : IsSettled p one n (length ts) (length ws) → IsSettled p two m (length ts) (length ws)
        → Back p two m (worked us vs hs) (worked us' vs' is) fourth
    second_back s t =
        let a : length us ≡ length ts = tape-length h e in
        let b : length vs ≡ length ws = words-kept h e in
        let t' : IsSettled p two m (length us) (length vs) = record {
          good = t.good;
          letters = t.letters;
          few = t.few;
          bits = t.bits;
          earliest = t.earliest;
          bytes_are = t.bytes_are;
          count_is = t.count_is;
          tape-room = subst (λ z. length t.letters ≤ z) (sym a) t.tape-room;
          word_room = subst (λ z. 2 * (length t.letters + 1) ≤ z) (sym b) t.word_room;
        } in
        back f t'

    pub again_second : (why : Refusal) → fourth ≡ Err why → ComesBack p one n two m (worked ts ws gs) (worked us' vs' is) (Err why)
    again_second why d s t =
        let q = back h s in
        let w = second_back s t in
        let same = kept-length s in
        record {
          first_short = λ l. absurd (refused-not third (CodeTooShort (length one)) k (q.short l).0 e);
          second_short = λ l j.
              let a = w.short (omega (arith, same, j)) in
              (ap Err (same_refusal fourth why (CodeTooShort (length two)) d a.0), a.1 ∙ ap (filled p two m) (q.fits l).1);
          compares = λ l j. absurd (refused-not fourth why m d (w.fits (omega (arith, same, j))).0);
        }

    pub again-both :
        {l i j : ℕ} → fourth ≡ Ok l → i ≡ cell_count 8 k → j ≡ cell_count 8 l → (x y r : Bool) → (x ≡ true) ↔ Equal one (take i hs) n k
        → (y ≡ true) ↔ Equal two (take j is) m l
        → (x ≡ true → y ≡ true → (r ≡ true) ↔ Equal one two n m) → ComesBack p one n two m (worked ts ws gs) (worked us' vs' is) (Ok r)
    again-both {l} {i} {j} d ei ej x y r ex ey er s t =
        let q = back h s in
        let w = second_back s t in
        let same = kept-length s in
        record {
          first_short = λ a. absurd (refused-not third (CodeTooShort (length one)) k (q.short a).0 e);
          second_short = λ a b. absurd (refused-not fourth (CodeTooShort (length two)) l (w.short (omega (arith, same, b))).0 d);
          compares = λ a b.
              let first = q.fits a in
              let second = w.fits (omega (arith, same, b)) in
              let tx : x ≡ true =
              back_equal one n k i gs hs x (same_bits third k n e first.0) ei (settled-size p one n (length ts) (length ws) s)
              (ap (λ v. v.again) first.1) ex in
              let ty : y ≡ true =
              back_equal two m l j hs is y (same_bits fourth l m d second.0) ej (settled-size p two m (length ts) (length ws) t)
              (ap (λ v. v.again) second.1) ey in
              (concluded_by one two n m r (er tx ty), second.1 ∙ ap (written p two m) first.1);
        }

-- ── the answer of a run ──
verdict-first :
    (first second : Result ℕ Refusal) (p : Pattern) (xs ys : List ℕ) (w : Worked) (why : Refusal) → first ≡ Err why
    → Verdict first second p xs ys w w (Err why)
verdict-first first second p xs ys w why e = record {
  first_refused = λ v q. (ap Err (same_refusal first why v e q), refl);
  second_refused = λ k v q d. absurd (refused-not first why k e q);
  both = λ k l q d. absurd (refused-not first why k e q);
}

verdict-second :
    (first second : Result ℕ Refusal) (p : Pattern) (xs ys : List ℕ) (w : Worked) (k : ℕ) (why : Refusal) → first ≡ Ok k → second ≡ Err why
    → Verdict first second p xs ys w w (Err why)
verdict-second first second p xs ys w k why e d = record {
  first_refused = λ v q. absurd (refused-not first v k q e);
  second_refused = λ j v q s. (ap Err (same_refusal second why v d s), refl);
  both = λ j l q s. absurd (refused-not second why l d s);
}

module _
    (p : Pattern)
    (one : List ℕ)
    (n : ℕ)
    (two : List ℕ)
    (m : ℕ)
    (ts us us' ws vs vs' os xs bs ys gs : List ℕ)
    (left_in : Worked)
    (first second : Result ℕ Refusal)
    (h : Canonicalizes p one n ts us ws vs os xs first)
    (f : Canonicalizes p two m us us' vs vs' bs ys second)
  where
    verdict-both :
        (k l i j : ℕ) → first ≡ Ok k → second ≡ Ok l → i ≡ cell_count 8 k → j ≡ cell_count 8 l → (r : Result Bool Refusal)
        → ComesBack p (take i xs) k (take j ys) l (worked us' vs' gs) left_in r → Verdict first second p xs ys (worked us' vs' gs) left_in r
    verdict-both k l i j e d ei ej r w =
        let a : length us ≡ length ts = tape-length h e in
        let b : length vs ≡ length ws = words-kept h e in
        let a' : length us' ≡ length us = tape-length f d in
        let b' : length vs' ≡ length vs = words-kept f d in
        let s = left-settled h e (length us') (length vs') (a' ∙ a) (b' ∙ b) in
        let t = left-settled f d (length us') (length vs') a' b' in
        let w' : ComesBack p (front xs k) k (front ys l) l (worked us' vs' gs) left_in r =
        subst (λ z. ComesBack p (take z xs) k (front ys l) l (worked us' vs' gs) left_in r) ei
        (subst (λ z. ComesBack p (take i xs) k (take z ys) l (worked us' vs' gs) left_in r) ej w) in
        record {
          first_refused = λ v q. absurd (refused-not first v k q e);
          second_refused = λ c v q g. absurd (refused-not second v l g d);
          both = λ c o q g.
              subst (λ z. SettlesAgain p (front xs z) z (front ys o) o (worked us' vs' gs) left_in r) (same_bits first k c e q)
              (subst (λ z. SettlesAgain p (front xs k) k (front ys z) z (worked us' vs' gs) left_in r) (same_bits second l o d g) (w' s t));
        }

-- ── the demand on a run ──
module _
    (p : Pattern)
    (good : obeys p ≡ true)
    (c d : Code p)
    (ts us us' ws vs vs' os xs bs ys gs : List ℕ)
    (left_in : Worked)
    (first second : Result ℕ Refusal)
    (h : Canonicalizes p c.bytes c.count ts us ws vs os xs first)
    (f : Canonicalizes p d.bytes d.count us us' vs vs' bs ys second)
    (r : Result Bool Refusal)
    (w : Verdict first second p xs ys (worked us' vs' gs) left_in r)
    (sc : Suffice p (spells c) (length ts) (length ws) (length os))
    (sd : Suffice p (spells d) (length ts) (length ws) (length bs))
    (gc : Suffice p (spells c) (length ts) (length ws) (length gs))
    (gd : Suffice p (spells d) (length ts) (length ws) (length gs))
  where
    abbrev run_c : Run p c
    run_c = record {
      tape = ts;
      tape_now = us;
      words = ws;
      words_now = vs;
      out = os;
      out_now = xs;
      result = first;
      kept = h;
      tape-room = sc.tape-room;
      word_room = sc.word_room;
      code-room = sc.code-room;
    }

    settled_c : Settled run_c
    unfolding ThirdDemand
    settled_c = (third_demand p good c c run_c run_c).one.settled

    first_is : first ≡ Ok settled_c.count
    first_is = canonicalized_same first (Ok settled_c.count) settled_c.answers

    abbrev run_d : Run p d
    run_d = record {
      tape = us;
      tape_now = us';
      words = vs;
      words_now = vs';
      out = bs;
      out_now = ys;
      result = second;
      kept = f;
      tape-room =
          subst (λ z. length (spells d) ≤ z) (sym (tape-length h first_is)) sd.tape-room;
      word_room =
          subst (λ z. 2 * (length (spells d) + 1) ≤ z)
          (sym (words-kept h first_is)) sd.word_room;
      code-room = sd.code-room;
    }

    compared : (k l : ℕ) → first ≡ Ok k → second ≡ Ok l → Compares (front xs k) k (front ys l) l r
    compared k l e q =
        let a = left h e in
        let b = left f q in
        let x : length (front xs k) ≤ length gs =
        subst (λ z. z ≤ length gs) (sym (ap length (left-front h e)
        ∙ length-pack 8 (greedy (root p) (spells c)))) (gc.code-room (greedy (root p) (spells c)) a.canonical) in
        let y : length (front ys l) ≤ length gs =
        subst (λ z. z ≤ length gs) (sym (ap length (left-front f q)
        ∙ length-pack 8 (greedy (root p) (spells d)))) (gd.code-room (greedy (root p) (spells d)) b.canonical) in
        ((w.both k l e q).compares x y).0

    pub on_run : OnRun p c d xs ys r
    unfolding ThirdDemand
    on_run =
        let q = third_demand p good c d run_c run_d in
        let v =
        compared q.one.settled.count q.two.settled.count (canonicalized_same first (Ok q.one.settled.count) q.one.settled.answers)
        (canonicalized_same second (Ok q.two.settled.count) q.two.settled.answers) in
        record {
          x = run_c;
          y = run_d;
          x_left = refl;
          y_left = refl;
          demand = q;
          same = (λ e. q.equal.0 (v.same.0 e), λ e. v.same.1 (q.equal.1 e));
          different = (λ e s. v.different.0 e (q.equal.1 s), λ n. v.different.1 (λ s. n (q.equal.0 s)));
        }

-- THE PROMISE, from the two calls and the answer
agrees :
    (p : Pattern) (one : List ℕ) (n : ℕ) (two : List ℕ) (m : ℕ) (ts us us' ws vs vs' os xs bs ys gs : List ℕ) (left_in : Worked) (first second : Result ℕ Refusal)
    → Canonicalizes p one n ts us ws vs os xs first → Canonicalizes p two m us us' vs vs' bs ys second → (r : Result Bool Refusal)
    → Verdict first second p xs ys (worked us' vs' gs) left_in r
    → Agrees p one n two m (worked ts ws gs) left_in os xs bs ys r
agrees p one n two m ts us us' ws vs vs' os xs bs ys gs left_in first second h f r w = record {
  first = record { result = first; tape_now = us; words_now = vs; kept = h };
  second = record { result = second; tape_now = us'; words_now = vs'; kept = f };
  answers = w;
  demands = λ good c d e1 e2 e3 e4 sc sd gc gd.
      on_run p good c d ts us us' ws vs vs' os xs bs ys gs left_in first second
      (subst (λ z. Canonicalizes p z c.count ts us ws vs os xs first) (sym e1) (subst (λ z. Canonicalizes p one z ts us ws vs os xs first) (sym e2) h))
      (subst (λ z. Canonicalizes p z d.count us us' vs vs' bs ys second) (sym e3)
      (subst (λ z. Canonicalizes p two z us us' vs vs' bs ys second) (sym e4) f))
      r w sc sd gc gd;
}

-- one law for each way of the code
module _ {p : Pattern} {one : List ℕ} {n : ℕ} {two : List ℕ} {m : ℕ} {ts us us' ws vs vs' os xs bs ys gs : List ℕ} {first second : Result ℕ Refusal}
    (h : Canonicalizes p one n ts us ws vs os xs first) (f : Canonicalizes p two m us us' vs vs' bs ys second) where
  pub agrees_first : (why : Refusal) → first ≡ Err why → Agrees p one n two m (worked ts ws gs) (worked us' vs' gs) os xs bs ys (Err why)
  agrees_first why e =
      agrees p one n two m ts us us' ws vs vs' os xs bs ys gs (worked us' vs' gs) first second h f (Err why)
      (verdict-first first second p xs ys (worked us' vs' gs) why e)

  pub agrees-second :
      (k : ℕ) (why : Refusal) → first ≡ Ok k → second ≡ Err why
      → Agrees p one n two m (worked ts ws gs) (worked us' vs' gs) os xs bs ys (Err why)
  agrees-second k why e d =
      agrees p one n two m ts us us' ws vs vs' os xs bs ys gs (worked us' vs' gs) first second h f (Err why)
      (verdict-second first second p xs ys (worked us' vs' gs) k why e d)

  pub agrees-both :
      (left_in : Worked) (k l i j : ℕ) → first ≡ Ok k → second ≡ Ok l → i ≡ cell_count 8 k → j ≡ cell_count 8 l → (r : Result Bool Refusal)
      → ComesBack p (take i xs) k (take j ys) l (worked us' vs' gs) left_in r → Agrees p one n two m (worked ts ws gs) left_in os xs bs ys r
  agrees-both left_in k l i j e d ei ej r w =
      agrees p one n two m ts us us' ws vs vs' os xs bs ys gs left_in first second h f r
      (verdict-both p one n two m ts us us' ws vs vs' os xs bs ys gs left_in first second h f k l i j e d ei ej r w)
