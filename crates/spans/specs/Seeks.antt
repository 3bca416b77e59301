-- Looking for a visit along a walk: what a call asks and what it answers, and the steps of the walk, each as one law.
use Rattle.std.specs.Prelude.{◌≡◌, refl, Bool, true, false, cond, ◌&&◌, List, [], ℕ, ◌+◌, ◌*◌, ◌-◌, ◌≤◌, ◌<◌, eqb, length}
use Rattle.std.proofs.Common.{sym, ap, ap₂, ◌∙◌, arith, eqb-true}
use Rattle.std.proofs.lemmas.Bool.{false≢true}
use Rattle.std.proofs.Math.Option.{none, some, none-ne-some}
use Rattle.syntax.specs.declared.Leaf.{Leaf}
use Rattle.syntax.specs.declared.Node.TheVariants.{Leaf as LeafNode}
use Rattle.syntax.specs.Letter.{letter_limit}
use Rattle.syntax.specs.Tree.{Label, Tree, seq, alt, star, index}
use Rattle.syntax.specs.Trees.{made}
use Rattle.bits.specs.Bits.{bit_at}
use Rattle.semantics.specs.Visits.{visits_at}
use Rattle.semantics.specs.Positions.{Seen, and_then}
use Rattle.std.specs.declared.ops.ControlFlow.TheVariants.{Continue, Break}
use Rattle.spans.specs.declared.find.Passed.{Passed}
use Rattle.spans.specs.declared.find.Span.{Span}
use Rattle.spans.specs.declared.find.Step.{Step}
use Rattle.walks.specs.Looks.{stops, same_seen, then_some}
use Rattle.spans.specs.Traces.{Trace, Found, passed, letters_trace, trace_then, own, inside, trace_at, inside_at, own_seen, found_in, ended, end_of}
use Rattle.spans.specs.Traces.{found_first, found_second, found_own, found_inside, found_end}
use Rattle.spans.specs.TraceLaws.{not_none, trace-inside, inside-value, inside_grows, trace_grows, trace_stays, inside_seq, inside_alt_none}
use Rattle.spans.specs.TraceLaws.{rounds_none, rounds_stop, rounds_more, step_of, inside_leaf}
use Rattle.spans.specs.Apart.{NoneInside}

-- ── what a call asks, and what it answers ──
-- there is something to see, and its letters stay on the tape
pub record Seeking (o : Seen Trace) (position : ℕ) : Type 0 where
  pub trace : Trace
  pub stop : ℕ
  pub is : o ≡ some (trace, stop)
  pub room : (trace position).1 ≤ letter_limit

pub record Finds (o : Seen Trace) (position node k : ℕ) (r : Found) : Type 0 where
  pub trace : Trace
  pub stop : ℕ
  pub is : o ≡ some (trace, stop)
  pub result : r ≡ found_in node k stop (trace position)

-- what is seen is another node's, where the two are the same
pub seeking_same : {o a : Seen Trace} {i : ℕ} → o ≡ a → Seeking o i → Seeking a i
seeking_same e r = record { trace = r.trace; stop = r.stop; is = sym e ∙ r.is; room = r.room }

pub found_same : {o a : Seen Trace} {i node k : ℕ} {r : Found} → o ≡ a → Finds a i node k r → Finds o i node k r
found_same e w = record { trace = w.trace; stop = w.stop; is = e ∙ w.is; result = w.result }

as_found : {o : Seen Trace} {i node k : ℕ} {r x : Found} → r ≡ x → Finds o i node k x → Finds o i node k r
as_found e w = record { trace = w.trace; stop = w.stop; is = w.is; result = e ∙ w.result }

-- a search that is told to go on ends where the trace ends
passed_stop : {o : Seen Trace} {i node k : ℕ} {r : Found} (w : Finds o i node k r) (p : Passed) → r ≡ Continue p → (p.at ≡ w.stop) × (p.letter ≡ (w.trace i).1)
passed_stop {o} {i} {node} {k} w p t =
    let (x, y, _) = found_second node k (w.trace i).0 [] w.stop 0 (w.trace i).1 0 p (sym t ∙ w.result) in
    (x, y)

-- ── one after the other: parts of a pair, or a round and the rounds behind it ──
-- a walk never goes back on the tape
abbrev pub Grows : (ℕ → Seen Trace) → Type 0
Grows f = (i : ℕ) (y : Trace) (j : ℕ) → f i ≡ some (y, j) → (x : ℕ) → x ≤ (y x).1

pub record Runs (o a : Seen Trace) (f : ℕ → Seen Trace) : Type 0 where
  pub is : o ≡ and_then trace_then a f
  pub grows : Grows f

module _ {o a : Seen Trace} {f : ℕ → Seen Trace} (e : Runs o a f) {i : ℕ} (r : Seeking o i) where
  parts : (x : Trace) × (s : ℕ) × (y : Trace) × (a ≡ some (x, s)) × (f s ≡ some (y, r.stop)) × (trace_then x y ≡ r.trace)
  parts = then_some trace_then a f r.trace r.stop (sym e.is ∙ r.is)

  pub first_seeking : Seeking a i
  first_seeking =
      let (x, s, y, g, h, k) = parts in
      let q = e.grows s y r.stop h (x i).1 in
      record { trace = x; stop = s; is = g; room = omega (arith, r.room, ap (λ z. (z i).1) k) }

  module _ {node k : ℕ} {one : Found} (w : Finds a i node k one) where
    pub first_found : {s : Span} → one ≡ Break s → Finds o i node k one
    first_found {s = found} t =
        let (x, s, y, g, h, q) = parts in
        let (p, _) = same_seen (sym w.is ∙ g) in
        let m = (x i).1 in
        let z = sym t ∙ w.result ∙ ap (λ z. found_in node k w.stop (z i)) p in
        record {
          trace = r.trace;
          stop = r.stop;
          is = r.is;
          result = t ∙ found_first node k (x i).0 (y m).0 w.stop r.stop m (y m).1 found z ∙ ap (λ z. found_in node k r.stop (z i)) q;
        }

    module _ {next : Passed} (t : one ≡ Continue next) where
      pub second_seeking : Seeking (f next.at) next.letter
      second_seeking =
          let (x, s, y, g, h, q) = parts in
          let (p, j) = same_seen (sym w.is ∙ g) in
          let (b, c) = passed_stop w next t in
          record {
            trace = y;
            stop = r.stop;
            is = ap f (b ∙ j) ∙ h;
            room = omega (arith, r.room, ap (λ z. (z i).1) q, ap (λ n. (y n).1) (c ∙ ap (λ z. (z i).1) p));
          }

      -- what is found in the second part, as what is found in both
      result_second : (x y : Trace) → w.trace ≡ x → trace_then x y ≡ r.trace
          → found_in node next.left r.stop (y next.letter) ≡ found_in node k r.stop (r.trace i)
      result_second x y p q =
          let m = (x i).1 in
          let z = sym t ∙ w.result ∙ ap (λ z. found_in node k w.stop (z i)) p in
          let (_, c, d) = found_second node k (x i).0 (y m).0 w.stop r.stop m (y m).1 next z in
          ap (λ n. found_in node next.left r.stop (y n)) c ∙ d ∙ ap (λ z. found_in node k r.stop (z i)) q

      pub second_found : {two : Found} → Finds (f next.at) next.letter node next.left two → Finds o i node k two
      second_found {two} v =
          let (x, s, y, g, h, q) = parts in
          let (p, j) = same_seen (sym w.is ∙ g) in
          let (b, _) = passed_stop w next t in
          let (u, l) = same_seen (sym v.is ∙ ap f (b ∙ j) ∙ h) in
          record {
            trace = r.trace;
            stop = r.stop;
            is = r.is;
            result = v.result ∙ ap₂ (λ z n. found_in node next.left n (z next.letter)) u l ∙ result_second x y p q;
          }

-- ── a node and what is inside it ──
here_is : (l node k : ℕ) → (eqb l node && eqb k 0) ≡ true → (l ≡ node) × (k ≡ 0)
here_is l node k e = go (eqb l node) refl (eqb k 0) refl e
  where
    go : (a : Bool) → eqb l node ≡ a → (b : Bool) → eqb k 0 ≡ b → (a && b) ≡ true → (l ≡ node) × (k ≡ 0)
    go true p true q h = (eqb-true l node p, eqb-true k 0 q)
    go true p false q h = absurd (false≢true h)
    go false p b q h = absurd (false≢true h)

own-parts : (l : ℕ) (o : Seen Trace) (z : Trace) (j : ℕ) → own_seen l o ≡ some (z, j) → (g : Trace) × (o ≡ some (g, j)) × (own l g ≡ z)
own-parts l none z j e = absurd (none-ne-some (z, j) e)
own-parts l (some p) z j e = let (f, g) = same_seen e in (p.0, ap (λ n. some (p.0, n)) g, f)

module _ (code : List ℕ) (count : ℕ) (t : Tree) (at : ℕ) {i : ℕ} where
  pub inside_seeking : Seeking (trace_at code count t at) i → Seeking (inside_at code count t at) i
  inside_seeking r =
      let (g, h, q) = own-parts (index t) (inside_at code count t at) r.trace r.stop (sym (trace-inside code count t at) ∙ r.is) in
      record { trace = g; stop = r.stop; is = h; room = omega (arith, r.room, ap (λ z. (z i).1) q) }

  module _ {node left : ℕ} {r : Found} (w : Finds (inside_at code count t at) i node left r) where
    -- a search inside ends no further left than it started
    pub inside_end : i ≤ end_of i r
    inside_end =
        let h = inside_grows code count t at w.trace w.stop w.is i in
        rw w.result (found_end node left w.stop (index t) i (w.trace i).0 (w.trace i).1 h)

    module _ {l : ℕ} (el : index t ≡ l) {k : ℕ} where
      as_own : (z : Found) → z ≡ found_in node k w.stop (own (index t) w.trace i) → Finds (trace_at code count t at) i node k z
      as_own z e = record { trace = own (index t) w.trace; stop = w.stop; is = trace-inside code count t at ∙ ap (own_seen (index t)) w.is; result = e }

      -- another node, or its own visit is passed
      pub inside_found : (eqb l node && eqb k 0) ≡ false → left ≡ cond (eqb l node) (k - 1) k → Finds (trace_at code count t at) i node k r
      inside_found other is =
          let x = w.trace i in
          as_own r
          (w.result
          ∙ found_inside node k w.stop (index t) i x.0 x.1 (ap (λ z. eqb z node && eqb k 0) el ∙ other) left
          (is ∙ ap (λ z. cond (eqb z node) (k - 1) k) (sym el)))

      -- its own visit is the one looked for: none inside is, so that the search inside tells where it ends
      pub own_found : (eqb l node && eqb k 0) ≡ true → NoneInside l t → {z : Found} → z ≡ ended i r → Finds (trace_at code count t at) i node k z
      own_found en apart {z} ez =
          let (a, b) = here_is l node k en in
          let (v, g) = inside-value code count t at w.trace w.stop w.is in
          let none_inside = ap (λ f. visits_at node (f i).0) (sym g) ∙ ap (λ n. visits_at n (inside t v i).0) (sym a) ∙ apart v i in
          let x = w.trace i in
          as_own z (ez ∙ ap (ended i) w.result ∙ found_own node k w.stop (index t) i x.0 x.1 (el ∙ a) b none_inside left)

-- ── leaves and stops: nothing is found, and so many visits are left ──
missed : {o : Seen Trace} (i n j node k : ℕ) → o ≡ some (letters_trace n, j) → Finds o i node k (passed j (i + n) k)
unfolding found_in
missed i n j node k e = let z : k ≡ k - 0 = omega arith in record { trace = letters_trace n; stop = j; is = e; result = ap (passed j (i + n)) z }

module _ (code : List ℕ) (count : ℕ) (fit : count ≤ length code * 8) where
  -- a leaf that is there: its bits are in the code, its letters on the tape
  module _ {t : Tree} (m : Label) (g : ℕ → Tree) (x : Leaf) (e : t ≡ made m g (LeafNode x)) {at i : ℕ} (le : at ≤ count)
      (r : Seeking (inside_at code count t at) i) {s : Step} (es : s ≡ step_of x) where
    passes : (at + s.bits ≤ count) × (inside_at code count t at ≡ some (letters_trace s.letters, at + s.bits))
    passes = rw es (inside_leaf code count fit m g at le x e r.trace r.stop r.is)

    pub leaf_bits : at + s.bits ≤ count
    leaf_bits = passes.0

    pub leaf_letters : i + s.letters ≤ letter_limit
    leaf_letters = omega (arith, r.room, ap (λ z. (z i).1) (same_seen (sym r.is ∙ passes.1)).0)

    pub leaf_missed : {node k : ℕ} → Finds (inside_at code count t at) i node k (passed (at + s.bits) (i + s.letters) k)
    leaf_missed {node} {k} = missed i s.letters (at + s.bits) node k passes.1

  -- a pair is its first part and then its second
  pub pair_runs : {t u v : Tree} {m : Label} → t ≡ seq m u v → {at : ℕ} → at ≤ count
      → Runs (inside_at code count t at) (trace_at code count u at) (trace_at code count v)
  pair_runs {t} {u} {v} e {at} le = record { is = inside_seq code count fit e at le; grows = trace_grows code count v }

  -- an alternative that is there has its bit
  pub alt_in : {t u v : Tree} {m : Label} → t ≡ alt m u v → (at : ℕ) {i : ℕ} → Seeking (inside_at code count t at) i → at < count
  alt_in {t} {u} {v} {m} e at r =
      let h : count ≤ at → ⊥ = λ h. not_none r.is (inside_alt_none code count fit e at h) in
      omega arith

  pub found_stays : (t : Tree) {at i node k : ℕ} {r : Found} → Finds (trace_at code count t at) i node k r → at ≤ count → {p : Passed} → r ≡ Continue p
      → (at ≤ p.at) × (p.at ≤ count)
  found_stays t {at} w le {p} h =
      let (e, _) = passed_stop w p h in
      let s = trace_stays code count fit t at le w.trace w.stop w.is in
      (omega arith, omega arith)

-- ── rounds: what is left to do from `here` does what was to be done at the star, whichever bit means another round ──
pub record Turns (code : List ℕ) (count : ℕ) (t : Tree) (at i node k here position left : ℕ) : Type 0 where
  pub low : at ≤ here
  pub high : here ≤ count
  pub ready : Seeking (inside_at code count t here) position
  pub finish : (r : Found) → Finds (inside_at code count t here) position node left r → Finds (inside_at code count t at) i node k r

pub turns_start : {code : List ℕ} {count : ℕ} {t : Tree} {at i node k : ℕ} → at ≤ count → Seeking (inside_at code count t at) i
    → Turns code count t at i node k at i k
turns_start le r = record { low = omega arith; high = le; ready = r; finish = λ r w. w }

module _ {code : List ℕ} {count : ℕ} (fit : count ≤ length code * 8) {t u : Tree} {m : Label} {again : Bool} (e : t ≡ star m again u)
    {at i node k here position left : ℕ} (z : Turns code count t at i node k here position left) where
  pub turns_in : here < count
  turns_in =
      let h : count ≤ here → ⊥ = λ h. not_none z.ready.is (rounds_none code count fit e here h) in
      omega arith

  module _ {s : Bool} (es : s ≡ stops again (bit_at 8 code here)) where
    pub turns_stop : s ≡ true → Finds (inside_at code count t at) i node k (passed (here + 1) position left)
    turns_stop f =
        let same : position + 0 ≡ position = omega arith in
        z.finish (passed (here + 1) position left)
        (as_found (ap (λ n. passed (here + 1) n left) (sym same))
        (missed position 0 (here + 1) node left (rounds_stop code count fit e here turns_in s es f)))

    module _ (on : s ≡ false) where
      next : Runs (inside_at code count t here) (trace_at code count u (here + 1)) (inside_at code count t)
      next = record { is = rounds_more code count fit e here turns_in s es on; grows = inside_grows code count t }

      pub turns_round : Seeking (trace_at code count u (here + 1)) position
      turns_round = first_seeking next z.ready

      module _ {one : Found} (w : Finds (trace_at code count u (here + 1)) position node left one) where
        pub turns_found : {s : Span} → one ≡ Break s → Finds (inside_at code count t at) i node k one
        turns_found h = z.finish one (first_found next z.ready w h)

        module _ {p : Passed} (h : one ≡ Continue p) where
          pub turns_less : (here + 1 ≤ p.at) × (p.at ≤ count)
          turns_less = let l = turns_in in found_stays code count fit u w (omega arith) h

          pub turns_more : Turns code count t at i node k p.at p.letter p.left
          turns_more =
              let l = turns_less in
              record {
                low = omega (arith, z.low);
                high = l.1;
                ready = second_seeking next z.ready w h;
                finish = λ r v. z.finish r (second_found next z.ready w h v);
              }
