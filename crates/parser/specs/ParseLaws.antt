-- Laws of reading a tape: one for each way of the code.
use Rattle.std.specs.Prelude.{◌≡◌, Bool, false, ◌&&◌, ◌||◌, ◌↔◌, ℕ, zero, suc, ◌+◌, ◌*◌, ◌-◌, ◌/◌, ◌≤◌, ◌<◌, eqb, ltb, length, drop, Err, Ok, Result, Option, Some, None}
use Rattle.std.proofs.Math.Path.{refl, sym, ap, ap₂}
use Rattle.std.proofs.Common.{subst, ◌∙◌, true≢false, length-append, length-drop}
use Rattle.std.proofs.Math.Bool.{true, not, cond}
use Rattle.std.proofs.lemmas.Bool.{false≢true}
use mathlib.Core.List.{List, [], ◌∷◌, ◌++◌, append-nil}
use native.Mathlib.Omega.{arith}
use Rattle.std.proofs.Math.Decide.{dec_le, dec_lt}
use borrow.Author.Tests.{lt-ltb, le-ltb, eq-eqb, ne_eqb}
use Rattle.std.proofs.Math.ListN.{get_or, get_or-append}
use Rattle.std.specs.Bool.{then_some}
use Rattle.std.proofs.lemmas.Option.{none-some}
use Rattle.syntax.specs.declared.Pattern.{Pattern}
use Rattle.refusals.specs.declared.Refusal.{Refusal}
use Rattle.refusals.specs.declared.Refusal.TheVariants.{Unreadable, WordsTooShort, CodeTooShort}
use Rattle.syntax.specs.Letter.{first_bad, letter_limit}
use Rattle.refusals.specs.Refusals.{answer, refused}
use Rattle.refusals.specs.Checks.{First, here}
use Rattle.refusals.specs.CheckLaws.{first_behind, first_answered, first_positive, clear_success}
use Rattle.syntax.specs.Table.{obeys, line_at}
use Rattle.syntax.specs.Tree.{Tree, nothing, letter, range, seq, alt, star, index}
use Rattle.syntax.specs.Trees.{root, tree_of}
use Rattle.syntax.specs.TreeLaws.{Rules, obeys_iff, weight, sum_to, root-weight, tree-line, made-index}
use Rattle.syntax.specs.LetterLaws.{all_letters}
use Rattle.bits.specs.Bits.{bit, test_bit, cell_count, in_front, byte_limit}
use Rattle.bits.specs.Writing.{write-start}
use Rattle.table.specs.Cells.{follower_in, loops_in, Holds}
use Rattle.table.specs.CellLaws.{holds_tree}
use Rattle.semantics.specs.Value.{Value, flat}
use Rattle.semantics.specs.Code.{Canonical, code, choices, code_limit}
use Rattle.semantics.specs.Automaton.{Location, top, fst, snd, lft, rgt, rnd}
use Rattle.semantics.specs.Sweeps.{at_end, readable, greedy}
use Rattle.semantics.specs.Passing.{after}
use Rattle.semantics.specs.Owned.{nodes}
use Rattle.semantics.proofs.BoundLaws.{choices-nodes, code_fits, bits_bound}
use Rattle.semantics.proofs.SecondSweepLaws.{wrote}
use Rattle.semantics.proofs.GreedyLaws.{greedy_canonical, canonical_greedy, readable_iff}
use Rattle.steps.specs.StateSets.{state_set, words}
use Rattle.steps.specs.StateLaws.{state_bit}
use Rattle.steps.specs.Steps.{next-node, place_lt}
use Rattle.first_sweep.specs.Meaning.{words-length, words_at}
use Rattle.first_sweep.specs.Fill.{Fillable}
use Rattle.second_sweep.specs.declared.Swept.{Swept}
use Rattle.second_sweep.specs.Parts.{Sweeps}
use Rattle.second_sweep.specs.Sweeping.{Own, may_stop, Behind, Knows, Wrote}
use Rattle.checks.specs.TapeOrder.{tape_order}
use Rattle.checks.specs.TapeLaws.{IsTaken, taken_clear}
use Rattle.parser.specs.Parse.{parsed_answer, early_order, early, ReadsGreedily, Parses}
use Rattle.parser.specs.Writing.{FirstSwept, missing, Writable, Writes}

-- ── the state sets of a position ──
pub filled_at : (p : Pattern) (tape ws : List ℕ) (i : ℕ) → i ≤ length tape → (b : Bool) →
    get_or (in_front (words p tape) ws) (2 * i + bit b) 0 ≡ state_set p b (drop i tape)
unfolding in_front
filled_at p tape ws i l b = get_or-append (words p tape) (drop (length (words p tape)) ws) 0 (2 * i + bit b) (below b) ∙ words_at p tape i b l
  where
    below : (b : Bool) → 2 * i + bit b < length (words p tape)
    below true = omega (arith, words-length p tape)
    below false = omega (arith, words-length p tape)

in_front_long : (p : Pattern) (tape ws : List ℕ) → 2 * (length tape + 1) ≤ length ws → length (in_front (words p tape) ws) ≡ length ws
unfolding in_front
in_front_long p tape ws h = simp (length-append, length-drop) (omega (arith, words-length p tape))

-- ── bounds of an accepted pattern ──
-- the nodes of the root's tree are the lines of the table
as_weight : (t : Tree) → nodes t ≡ weight (λ i. 1) t
as_weight (nothing m) = refl
as_weight (letter m c) = refl
as_weight (range m a b) = refl
as_weight (seq m t u) = omega (arith, as_weight t, as_weight u)
as_weight (alt m t u) = omega (arith, as_weight t, as_weight u)
as_weight (star m again t) = omega (arith, as_weight t)

pub root-nodes : (p : Pattern) → Rules p → nodes (root p) ≡ p.count
root-nodes p r = as_weight (root p) ∙ root-weight p r (λ i. 1) ∙ ones p.count
  where
    ones : (n : ℕ) → sum_to n (λ i. 1) ≡ n
    ones zero = refl
    ones (suc n) = omega (arith, ones n)

-- 01: "The last line is the root."
pub root-index : (p : Pattern) → obeys p ≡ true → index (root p) ≡ p.count - 1
unfolding root
root-index p good =
    let r = (obeys_iff p).0 good in
    let one = r.one in
    ap index (tree-line (line_at p) (p.count - 1) (r.lower (p.count - 1) (omega arith)))
    ∙ made-index _ (tree_of (line_at p)) (line_at p (p.count - 1)).node

pub root-choices : (p : Pattern) → obeys p ≡ true → choices (root p) ≤ 64
root-choices p h = let r = (obeys_iff p).0 h in omega (arith, choices-nodes (root p), root-nodes p r, r.few)

-- no code of a tape within the limit passes 65,536 bytes
pub greedy_few : (p : Pattern) → obeys p ≡ true → (tape : List ℕ) → length tape ≤ letter_limit → readable (root p) tape ≡ true →
    length (greedy (root p) tape) ≤ code_limit
greedy_few p h tape few reads =
    let c = greedy_canonical (root p) tape reads in
    rw c.written at (code_fits (root p) c.value (root-choices p h) c.greedy.solid (rw c.greedy.spells few))

-- 01's bound on codes, for 64 choices
pub greedy_bound : (p : Pattern) → obeys p ≡ true → (tape : List ℕ) → readable (root p) tape ≡ true → length (greedy (root p) tape) ≤ 136 * length tape + 64
greedy_bound p h tape reads =
    let c = greedy_canonical (root p) tape reads in
    rw c.written at (rw c.greedy.spells at (bits_bound (root p) c.value (root-choices p h) c.greedy.solid))

-- ── what is missing in a code buffer ──
module _ {table words tape : List ℕ} {l : ℕ} (s : Writable table words tape l) (size : ℕ) where
  abbrev pub needed_bits : ℕ
  needed_bits = length s.ready.it.bits

  pub missing_none : 17 * length tape + 8 ≤ size → None ≡ missing needed_bits size
  missing_none h = let b = s.bound in rw (le-ltb size (cell_count 8 needed_bits) (omega arith)) refl

  pub missing_counted : (at : ℕ) → at ≡ 0 + needed_bits → (m : ℕ) → m ≡ cell_count 8 at → (r : Option ℕ) → r ≡ then_some (ltb size m) m
      → r ≡ missing needed_bits size
  missing_counted at e m f r g = let q : at ≡ needed_bits = omega arith in g ∙ ap (λ n. then_some (ltb size n) n) (f ∙ ap (cell_count 8) q)

-- a number is given exactly where it is more than the other
given : (a c m : ℕ) → Some m ≡ then_some (ltb a c) c → (a < c) × (m ≡ c)
given a c m e = go (dec_lt a c)
  where
    go : Dec (a < c) → (a < c) × (m ≡ c)
    go (yes l) = let q : Some m ≡ Some c = rw (lt-ltb a c l) at e in (l, cc)
    go (no l) = let q : Some m ≡ None = rw (le-ltb a c (omega arith)) at e in absurd (none-some m (sym q))

given_none : (a c : ℕ) → None ≡ then_some (ltb a c) c → c ≤ a
given_none a c e = go (dec_lt a c)
  where
    go : Dec (a < c) → c ≤ a
    go (yes l) = let q : None ≡ Some c = rw (lt-ltb a c l) at e in absurd (none-some c q)
    go (no l) = omega arith

-- ── the ways of writing ──
module _ {table words tape : List ℕ} {l : ℕ} (s : Writable table words tape l) (xs : List ℕ) where
  pub write_short : {needed : ℕ} → Some needed ≡ missing (length s.ready.it.bits) (length xs)
      → Writes s.ready.it.bits xs xs (Err (CodeTooShort needed)) × (needed ≤ byte_limit)
  write_short e =
      let q = given (length xs) (cell_count 8 (length s.ready.it.bits)) _ e in (
        record { fits = λ f. absurd (omega (arith, q.0)); short = λ f. (ap (λ n. Err (CodeTooShort n)) q.1, refl) },
        omega (arith, q.1, s.ready.it.few),
      )

  pub write_fits : {ys : List ℕ} {r : Swept} → None ≡ missing (length s.ready.it.bits) (length xs) → Wrote 0 0 s.ready.it.letters s.ready.it.bits xs ys r →
      Writes s.ready.it.bits xs ys (Ok r.at)
  write_fits {r = r} e v =
      let a : r.at ≡ length s.ready.it.bits = omega (arith, v.at_is) in
      let q = given_none (length xs) (cell_count 8 (length s.ready.it.bits)) e in
      record {
        fits = λ f. (ap Ok a, v.written (omega (arith, q)) ∙ write-start 8 (omega arith) xs s.ready.it.bits);
        short = λ f. absurd (omega (arith, q));
      }

-- ── what the sweep needs to know ──
module _ (p : Pattern) (tape ws : List ℕ) (h : FirstSwept p tape ws) where
  rules : Rules p
  rules = (obeys_iff p).0 h.good

  own : (t : Tree) (s : Location (root p) t) → Own ws tape t (after s)
  own t s i l b = ap (λ x. test_bit x (index t)) (h.filled i l b) ∙ state_bit p rules b (drop i tape) t s

  -- the end accepts behind the last letter
  ended : (b : Bool) (i : ℕ) → i ≤ length tape → (b && eqb i (length tape)) ≡ at_end b (drop i tape)
  ended b i l = go (drop i tape) (simp length-drop refl)
    where
      last : (b : Bool) → (b && true) ≡ b
      last true = refl
      last false = refl

      before : (b : Bool) → (b && false) ≡ false
      before true = refl
      before false = refl

      go : (w : List ℕ) → length tape - i ≡ length w → (b && eqb i (length tape)) ≡ at_end b w
      go [] e = ap (λ z. b && z) (eq-eqb i (length tape) (omega arith)) ∙ last b
      go (c ∷ w) e = ap (λ z. b && z) (ne_eqb i (length tape) (λ q. omega arith)) ∙ before b

  module _ (table : List ℕ) (held : Holds p table) where
    -- the follower in the table says what may come behind a node
    behind : (t : Tree) (s : Location (root p) t) → Behind table ws tape (index t) (after s)
    unfolding may_stop
    behind t s i l b =
        ap₂ (λ x y. (not (loops_in table (index t)) || b) && cond (ltb (follower_in table (index t)) 64) (test_bit x (follower_in table (index t))) y)
        (h.filled i l b) (ended b i l)
        ∙ next-node p rules b (drop i tape) (follower_in table (index t)) (loops_in table (index t)) t s (held.follows (index t) (place_lt p rules s))

    pub knows : (t : Tree) (s : Location (root p) t) → Knows table ws tape t (after s)
    knows (nothing m) s = tt
    knows (letter m c) s = tt
    knows (range m a b) s = tt
    knows (seq m t u) s = (knows t (fst s), knows u (snd s))
    knows (alt m t u) s = (own t (lft s), (knows t (lft s), knows u (rgt s)))
    knows (star m again t) s = (own t (rnd s), (behind (star m again t) s, knows t (rnd s)))

  -- the greedy value spells the tape
  pub swept : Sweeps (root p) at_end true tape tape (greedy (root p) tape)
  unfolding readable greedy
  swept =
      let w = wrote (root p) at_end true tape h.reads in
      let v = w.0.it in
      record {
        best = w.0;
        spells = sym
            (w.0.spells ∙ ap (λ r. flat (root p) v ++ r) (nothing_left true w.0.rest w.0.goes) ∙ append-nil (flat (root p) v));
        writes = sym (w.1 (λ b x. []) ∙ append-nil (code (root p) v));
      }
    where
      nothing_left : (b : Bool) (r : List ℕ) → at_end b r ≡ true → r ≡ []
      nothing_left b [] e = refl
      nothing_left b (x ∷ r) e = absurd (false≢true e)

  abbrev pub root_writable : (table : List ℕ) → Holds p table → Writable table ws tape (p.count - 1)
  root_writable table hc =
      let e = holds_tree p table h.good hc in
      record {
        ready = record {
          it = record {
            after = at_end;
            letters = tape;
            bits = greedy (root p) tape;
            knows = rw e (knows table hc (root p) top);
            sweeps = rw e swept;
            within = omega arith;
            limited = h.few;
            few = omega (arith, greedy_few p h.good tape h.few h.reads);
          };
          enough = h.room;
        };
        bound = greedy_bound p h.good tape h.reads;
      }

  -- the code of the greedy value, written or not, is what reading promises
  pub reads_greedily : {xs ys : List ℕ} {r : Result ℕ Refusal} → Writes (greedy (root p) tape) xs ys r →
      ReadsGreedily (root p) tape xs ys (parsed_answer r)
  reads_greedily {xs} {ys} {r} w = (
    record { unreadable = λ f. let q = (readable_iff (root p) tape).0 h.reads in absurd (f q.0 q.1) },
    record {
      fits = λ bits k l. let (a, b) = (of bits k).fits l in (ap parsed_answer a, b);
      short = λ bits k l. let (a, b) = (of bits k).short l in (ap parsed_answer a, b);
    },
  )
    where
      of : (bits : List Bool) → Canonical (root p) tape bits → Writes bits xs ys r
      of bits k = subst (λ b. Writes b xs ys r) (canonical_greedy (root p) tape bits k).1 w

-- ── the ways of reading ──
module _ (p : Pattern) (tape ws xs : List ℕ) where
  -- the first cause that holds before the sweeps is answered, and everything is left as it was
  pub parse_refused : (why : Refusal) → First why (early_order p tape (length ws)) → Parses p tape ws ws xs xs (Err why)
  unfolding early
  parse_refused why f =
      let n = first_positive f (answer 0 0) in
      record {
        refuses = λ _. (sym (first_answered f (answer 0 0)), refl, refl);
        fills = λ z. absurd (omega (arith, z, n));
        reads = λ z. absurd (omega (arith, z, n));
      }

  pub parse_words : IsTaken p tape → (needed : ℕ) → needed ≡ 2 * (length tape + 1) → length ws < needed
      → Parses p tape ws ws xs xs (Err (WordsTooShort needed))
  parse_words t needed e h =
      subst (λ n. Parses p tape ws ws xs xs (Err (WordsTooShort n))) (sym e)
      (parse_refused (WordsTooShort (2 * (length tape + 1)))
      (first_behind (tape_order p tape) (taken_clear p tape t) (here (lt-ltb (length ws) (2 * (length tape + 1)) (omega (arith, e, h))))))

-- the tests in front of the first sweep are passed
pub record Tested (p : Pattern) (tape ws : List ℕ) : Type 0 where
  pub good : obeys p ≡ true
  pub few : length tape ≤ letter_limit
  pub letters : length tape ≤ first_bad tape
  pub room : 2 * (length tape + 1) ≤ length ws

pub tested : {p : Pattern} {tape ws : List ℕ} → IsTaken p tape → 2 * (length tape + 1) ≤ length ws → Tested p tape ws
tested t w = record { good = t.good; few = t.few; letters = t.letters; room = w }

module _ {p : Pattern} {tape ws : List ℕ} (d : Tested p tape ws) where
  pub fillable : Fillable p tape ws
  fillable = record { rules = (obeys_iff p).0 d.good; few = d.few; letters = all_letters tape d.letters; room = d.room }

  -- no cause before the sweeps holds
  pub tested_zero : (early p tape (length ws)).number ≡ 0
  unfolding early
  tested_zero =
      ap (λ a. a.number)
      (clear_success (early_order p tape (length ws)) (answer 0 0) (
        ap not d.good,
        (
          le-ltb letter_limit (length tape) d.few,
          (
            le-ltb (first_bad tape) (length tape) d.letters,
            (le-ltb (length ws) (2 * (length tape + 1)) d.room, tt),
          ),
        ),
      ))

  on : (us xs ys : List ℕ) (a : Result ℕ Refusal) → us ≡ in_front (words p tape) ws → ReadsGreedily (root p) tape xs ys (parsed_answer a) →
      Parses p tape ws us xs ys a
  on us xs ys a e r =
      let z = tested_zero in
      record { refuses = λ n. absurd (omega (arith, z, n)); fills = λ _. e; reads = λ _. r }

  module _ {us : List ℕ} (filled : us ≡ in_front (words p tape) ws) where
    pub filled_long : length us ≡ length ws
    filled_long = ap length filled ∙ in_front_long p tape ws d.room

    module _ {o : Bool} (eo : o ≡ test_bit (get_or us (2 * 0 + bit true) 0) (p.count - 1)) where
      -- the root's bit says whether the tape is readable
      marked : o ≡ readable (root p) tape
      unfolding readable
      marked =
          eo ∙ ap (λ l. test_bit (get_or us (2 * 0 + bit true) 0) l) (sym (root-index p d.good))
          ∙ ap (λ x. test_bit x (index (root p))) (ap (λ v. get_or v (2 * 0 + bit true) 0) filled ∙ filled_at p tape ws 0 (omega arith) true)
          ∙ state_bit p ((obeys_iff p).0 d.good) true tape (root p) top

      pub parse_unreadable : (xs : List ℕ) → o ≡ false → Parses p tape ws us xs xs (Err Unreadable)
      parse_unreadable xs f =
          let none : (bits : List Bool) → Canonical (root p) tape bits → ⊥ =
          λ bits k. true≢false (sym (canonical_greedy (root p) tape bits k).0 ∙ sym marked ∙ f) in
          on us xs xs (Err Unreadable) filled (
            record { unreadable = λ n. (refl, refl) },
            record { fits = λ bits k l. absurd (none bits k); short = λ bits k l. absurd (none bits k) },
          )

      pub first_swept : o ≡ true → FirstSwept p tape us
      first_swept f =
          let long = filled_long in
          let room = d.room in
          record {
            good = d.good;
            few = d.few;
            room = omega arith;
            filled = λ i l b. ap (λ v. get_or v (2 * i + bit b) 0) filled ∙ filled_at p tape ws i l b;
            reads = sym marked ∙ f;
          }

      pub parse_done : {xs ys : List ℕ} {r : Result ℕ Refusal} → o ≡ true → Writes (greedy (root p) tape) xs ys r → Parses p tape ws us xs ys r
      parse_done {xs} {ys} {r} f w = on us xs ys r filled (reads_greedily p tape us (first_swept f) w)

pub obeys_few : (p : Pattern) → obeys p ≡ true → (1 ≤ p.count) × (p.count ≤ 64)
obeys_few p h = let r = (obeys_iff p).0 h in (r.one, r.few)

-- ── laws of the promise ──
module _ (p : Pattern) (tape ws us xs ys : List ℕ) (r : Result ℕ Refusal) (h : Parses p tape ws us xs ys r) where
  -- 5 is answered exactly if the checks before it pass and no value of the pattern, with or without an empty round, spells the tape
  pub unreadable_iff : (early p tape (length ws)).number ≡ 0 → (parsed_answer r ≡ refused Unreadable) ↔ ((v : Value (root p)) → flat (root p) v ≡ tape → ⊥)
  unreadable_iff e = (λ a v f. other (h.reads e) a v f, λ n. ((h.reads e).0.unreadable n).0)
    where
      other : ReadsGreedily (root p) tape xs ys (parsed_answer r) → parsed_answer r ≡ refused Unreadable →
          (v : Value (root p)) → flat (root p) v ≡ tape → ⊥
      other g a v f = fit (dec_le (cell_count 8 (length (greedy (root p) tape))) (length xs))
        where
          fit : Dec (cell_count 8 (length (greedy (root p) tape)) ≤ length xs) → ⊥
          fit (yes l) =
              let k = greedy_canonical (root p) tape ((readable_iff (root p) tape).1 (v, f)) in
              let z = ap (λ x. x.number) (sym (g.1.fits (greedy (root p) tape) k l).0 ∙ a) in
              omega arith
          fit (no l) =
              let k = greedy_canonical (root p) tape ((readable_iff (root p) tape).1 (v, f)) in
              let z = ap (λ x. x.number) (sym (g.1.short (greedy (root p) tape) k (omega arith)).0 ∙ a) in
              omega arith
