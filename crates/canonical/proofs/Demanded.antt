-- The third demand is met: from the contract of `canonicalize` and the theory only.
use Rattle.std.specs.Prelude.{◌≡◌, refl, Bool, true, ◌↔◌, List, ℕ, ◌≤◌, take}
use Rattle.std.proofs.Common.{sym, ap₂, subst, ◌∙◌, arith}
use Rattle.std.proofs.Math.Path.{ap}
use Rattle.std.proofs.Math.ListN.{length}
use Rattle.syntax.specs.declared.Pattern.{Pattern}
use Rattle.syntax.specs.Letter.{letter_limit}
use Rattle.syntax.specs.Bools.{and_fst, and_snd}
use Rattle.syntax.specs.Table.{obeys}
use Rattle.syntax.specs.Tree.{Tree}
use Rattle.syntax.specs.Trees.{root}
use Rattle.bits.specs.Bits.{cell_count, pack, held, in_front, handed_good}
use Rattle.bits.specs.Packing.{length-pack, pack_small}
use Rattle.bits.specs.Writing.{take-in_front}
use Rattle.bits.specs.Handed.{held-pack, handed_iff}
use Rattle.semantics.specs.Code.{Spells, NoEmptyRound, Canonical}
use Rattle.semantics.specs.Decode.{is_code}
use Rattle.semantics.proofs.CodeLaws.{is_code_iff, spells_iff, solid_iff}
use Rattle.semantics.specs.Sweeps.{readable, greedy}
use Rattle.semantics.proofs.GreedyLaws.{greedy_canonical, hollow-greedy}
use Rattle.semantics.proofs.Promised.{greedy-code_iff}
use Rattle.walks.specs.Whole.{whole_code, letters_of}
use Rattle.parser.specs.ParseLaws.{root-choices}
use Rattle.canonical.specs.CanonicalLaws.{settles}
use Rattle.canonical.specs.RoundTrip.{canonical_code, canonical_whole, canonical_spells, letters-readable}
use Rattle.canonical.specs.Demand.{IsCode, tape_of, Code, spells, Run, Settled, bytes_of, Equal, Earliest, SettlesWell, ThirdDemand}

-- what a whole code spells, by decoding and by its value
module _ (p : Pattern) (bytes : List ℕ) (count : ℕ) (i : IsCode p bytes count) (tape : List ℕ) where
  coded : is_code (root p) (held 8 bytes count) ≡ true
  unfolding whole_code
  coded = and_snd (handed_good bytes count) (is_code (root p) (held 8 bytes count)) i.whole

  pub spells_same : (tape_of p bytes count ≡ tape) ↔ Spells (root p) (held 8 bytes count) tape
  unfolding letters_of
  spells_same = let q = spells_iff (root p) (held 8 bytes count) tape in (λ e. q.0 (coded, e), λ s. (q.1 s).1)

module _ (p : Pattern) (good : obeys p ≡ true) where
  abbrev t : Tree
  t = root p

  -- ── the greedy code of a tape, as bytes, is the earliest code of that tape ──
  module _ (tape : List ℕ) (few : length tape ≤ letter_limit) (reads : readable t tape ≡ true) where
    abbrev best : List Bool
    best = greedy t tape

    canonical_best : Canonical t tape best
    canonical_best = greedy_canonical t tape reads

    pub greedy_is : IsCode p (pack 8 (greedy (root p) tape)) (length (greedy (root p) tape))
    greedy_is = record { small = pack_small 8 best; whole = canonical_whole p good tape few best canonical_best }

    pub greedy-spells : tape_of p (pack 8 (greedy (root p) tape)) (length (greedy (root p) tape)) ≡ tape
    greedy-spells = canonical_spells p good tape few best canonical_best

    pub greedy_earliest : Earliest p tape (pack 8 (greedy (root p) tape)) (length (greedy (root p) tape))
    greedy_earliest = record {
      is = greedy_is;
      spells_it = (spells_same p (pack 8 best) (length best) greedy_is tape).0 greedy-spells;
      solid =
          rw (held-pack 8 (omega arith) best) ((solid_iff t best).0
          ((is_code_iff t best).1 (canonical_code p good tape few best canonical_best), hollow-greedy t tape reads));
      first = λ xs n d s e other.
          let q = (greedy-code_iff t tape (root-choices p good) few best).1 canonical_best in
          let k = (spells_iff t (held 8 xs n) tape).1 s in
          rw (held-pack 8 (omega arith) best)
          (q.first (held 8 xs n) k.0 k.1 ((solid_iff t (held 8 xs n)).1 e).1 (λ i. other (same_bytes xs n d i)));
    }
      where
        same_bytes : (xs : List ℕ) (n : ℕ) → IsCode p xs n → held 8 xs n ≡ best → Equal xs (pack 8 best) n (length best)
        same_bytes xs n d i =
            let h = (handed_iff xs n d.small).0 (unfold whole_code in and_fst (handed_good xs n) (is_code t (held 8 xs n)) d.whole) in
            (sym h.1 ∙ ap length i, h.0 ∙ ap (pack 8) i)

  module _ (c : Code p) where
    abbrev g : List Bool
    g = greedy t (spells c)

    readable-tape : readable t (spells c) ≡ true
    readable-tape = letters-readable p c.bytes c.count c.is.whole

    canonical_tape : Canonical t (spells c) g
    canonical_tape = greedy_canonical t (spells c) readable-tape

    -- what a run leaves
    module _ (x : Run p c) where
      pub record Ran : Type 0 where
        pub settled : Settled x
        pub count_is : settled.count ≡ length g
        pub bytes_are : bytes_of x settled ≡ pack 8 g

      ran : Ran
      ran =
          let s =
          settles p c.bytes c.count x.tape x.tape_now x.words x.words_now x.out x.out_now x.result x.kept good
          c.is.whole c.few x.tape-room x.word_room in
          let m = s.2.1.fits g canonical_tape (x.code-room g canonical_tape) in
          record {
            settled = record { count = length g; answers = m.0 };
            count_is = refl;
            bytes_are =
                ap (take (cell_count 8 (length g))) m.1 ∙ ap (λ k. take k (in_front (pack 8 g) x.out)) (sym (length-pack 8 g))
                ∙ take-in_front (pack 8 g) x.out;
          }

  module _ (c : Code p) (x : Run p c) where
    abbrev well : SettlesWell p c x
    well =
        let r = ran c x in
        record {
          settled = r.settled;
          earliest =
              subst (λ k. Earliest p (spells c) (bytes_of x r.settled) k) (sym r.count_is)
              (subst (λ l. Earliest p (spells c) l (length (g c))) (sym r.bytes_are)
              (greedy_earliest (spells c) c.few (readable-tape c)));
          again = λ d eb en y.
              let q = ran d y in
              let e : spells d ≡ spells c = ap₂ (tape_of p) (eb ∙ r.bytes_are) (en ∙ r.count_is)
              ∙ greedy-spells (spells c) c.few (readable-tape c) in (
                q.settled,
                (
                  q.count_is ∙ ap (λ w. length (greedy t w)) e ∙ sym r.count_is,
                  q.bytes_are ∙ ap (λ w. pack 8 (greedy t w)) e ∙ sym r.bytes_are,
                ),
              );
        }

-- the settled code spells the tape, by decoding
tape_is : (p : Pattern) (c : Code p) (x : Run p c) (w : SettlesWell p c x) → tape_of p (bytes_of x w.settled) w.settled.count ≡ spells c
tape_is p c x w = (spells_same p (bytes_of x w.settled) w.settled.count w.earliest.is (spells c)).1 w.earliest.spells_it

-- THE THIRD DEMAND
pub third_demand : ThirdDemand
unfolding ThirdDemand
third_demand p good a b x y =
    let r = ran p good a x in
    let q = ran p good b y in
    let one = well p good a x in
    let two = well p good b y in
    record {
      one = one;
      two = two;
      equal = (
        λ e. sym (tape_is p a x one) ∙ ap₂ (tape_of p) e.1 e.0 ∙ tape_is p b y two,
        λ e. (
          r.count_is ∙ ap (λ w. length (greedy (root p) w)) e ∙ sym q.count_is,
          r.bytes_are ∙ ap (λ w. pack 8 (greedy (root p) w)) e ∙ sym q.bytes_are,
        ),
      );
    }

-- 01, the bodies to try: "Settling that hands its code back (demand 3)". A run that does so was given the earliest code of its tape,
pub handed-back :
    (p : Pattern) → obeys p ≡ true → (c : Code p) (x : Run p c) (s : Settled x) → Equal (bytes_of x s) c.bytes s.count c.count
    → Earliest p (spells c) c.bytes c.count
handed-back p good c x s e =
    let w = well p good c x in
    let k : w.settled.count ≡ s.count = ap (λ a. a.value) (sym w.settled.answers ∙ s.answers) in
    subst (λ n. Earliest p (spells c) c.bytes n) e.0
    (subst (λ l. Earliest p (spells c) l s.count) e.1 (subst (λ n. Earliest p (spells c) (take (cell_count 8 n) x.out_now) n) k w.earliest))

-- so no run keeps an empty round
pub empty-round-kept :
    (p : Pattern) → obeys p ≡ true → (c : Code p) (x : Run p c) (s : Settled x) → (NoEmptyRound (root p) (held 8 c.bytes c.count) → ⊥)
    → Equal (bytes_of x s) c.bytes s.count c.count → ⊥
empty-round-kept p good c x s hollow-one e = hollow-one (handed-back p good c x s e).solid

-- 01, the bodies to try: "One code for all tapes (2, 3)". Codes of two tapes settle to two codes.
pub codes-differ :
    (p : Pattern) → obeys p ≡ true → (a b : Code p) (x : Run p a) (y : Run p b) (s : Settled x) (t : Settled y) → (spells a ≡ spells b → ⊥)
    → Equal (bytes_of x s) (bytes_of y t) s.count t.count → ⊥
unfolding ThirdDemand
codes-differ p good a b x y s t other e =
    let d = third_demand p good a b x y in
    let k : d.one.settled.count ≡ s.count = ap (λ z. z.value) (sym d.one.settled.answers ∙ s.answers) in
    let l : d.two.settled.count ≡ t.count = ap (λ z. z.value) (sym d.two.settled.answers ∙ t.answers) in
    other
    (d.equal.0 (k ∙ e.0 ∙ sym l, ap (λ n. take (cell_count 8 n) x.out_now) k ∙ e.1 ∙ sym (ap (λ n. take (cell_count 8 n) y.out_now) l)))
