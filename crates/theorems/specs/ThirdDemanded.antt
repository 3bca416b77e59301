-- The third demand for pattern texts and the call from C is met: canonical's theorem, on the table of the text.
use Rattle.std.specs.Prelude.{◌≡◌, refl, List, ℕ, ◌≤◌, length, take}
use Rattle.std.proofs.Common.{sym, ap, subst, ◌∙◌}
use Rattle.syntax.specs.Letter.{letter_limit}
use Rattle.refusals.specs.Refusals.{answer}
use Rattle.loading.specs.Load.{load_table}
use Rattle.loading.specs.LoadLaws.{loaded-obeys}
use Rattle.bits.specs.Bits.{cell_count}
use Rattle.canonical.specs.Demand.{spells, Run, Settled, Earliest, SettlesWell as SettlesRun, ThirdDemand as OfTables}
use Rattle.canonical.proofs.Demanded.{spells_same, third_demand}
use Rattle.packing.specs.Packing.{unpacked}
use Rattle.wumbyra.specs.Unique.{unpacked_same}
use Rattle.theorems.specs.ThirdDemand.{CodeOf, Call, count_of, bytes_of, SettlesWell, ThirdDemand}

module _ (text : List ℕ) where
  -- a call from C is a run of the service on the table of the text
  abbrev pub run_of : (c : CodeOf text) → Call text c → Run (load_table text) c
  run_of c x = record {
    tape = x.tape;
    tape_now = x.tape_now;
    words = x.words;
    words_now = x.words_now;
    out = x.out;
    out_now = x.out_now;
    result = x.kept.canonicalized;
    kept = x.kept.canonicalizes;
    tape-room = x.tape-room;
    word_room = x.word_room;
    code-room = x.code-room;
  }

  answered : (c : CodeOf text) (x : Call text c) (s : Settled (run_of c x)) → unpacked x.result ≡ answer 0 s.count
  answered c x s = x.kept.answers ∙ s.answers

  count_is : (c : CodeOf text) (x : Call text c) (s : Settled (run_of c x)) → count_of x ≡ s.count
  count_is c x s = ap (λ a. a.value) (answered c x s)

  bytes_are : (c : CodeOf text) (x : Call text c) (s : Settled (run_of c x)) → bytes_of x ≡ take (cell_count 8 s.count) x.out_now
  bytes_are c x s = ap (λ k. take (cell_count 8 k) x.out_now) (count_is c x s)

  well : (c : CodeOf text) (x : Call text c) → SettlesRun (load_table text) c (run_of c x) → SettlesWell text c x
  well c x w =
      let s = w.settled in
      record {
        settled = ap (λ a. a.number) (answered c x s);
        earliest = subst (λ k. Earliest (load_table text) (spells c) (take (cell_count 8 k) x.out_now) k) (sym (count_is c x s)) w.earliest;
        again = λ d eb en y.
            let (q, e) = w.again d (eb ∙ bytes_are c x s) (en ∙ count_is c x s) (run_of d y) in (
              unpacked_same y.result x.result (answered d y q ∙ ap (answer 0) e.0 ∙ sym (answered c x s)),
              (count_is d y q ∙ e.0 ∙ sym (count_is c x s), bytes_are d y q ∙ e.1 ∙ sym (bytes_are c x s)),
            );
      }

-- THE THIRD DEMAND, for texts and the call from C
pub third_demand_text : ThirdDemand
unfolding ThirdDemand OfTables
third_demand_text text ok a b x y =
    let d = third_demand (load_table text) (loaded-obeys text ok) a b (run_of text a x) (run_of text b y) in
    let s = d.one.settled in
    let q = d.two.settled in
    record {
      one = well text a x d.one;
      two = well text b y d.two;
      equal = (
        λ e. d.equal.0
            (sym (count_is text a x s) ∙ e.0 ∙ count_is text b y q, sym (bytes_are text a x s) ∙ e.1 ∙ bytes_are text b y q),
        λ e.
            let z = d.equal.1 e in
            (count_is text a x s ∙ z.0 ∙ sym (count_is text b y q), bytes_are text a x s ∙ z.1 ∙ sym (bytes_are text b y q)),
      );
      answers = (
        λ e. ap (λ r. (unpacked r).value) e,
        λ e. unpacked_same x.result y.result
            (answered text a x s ∙ ap (answer 0) (sym (count_is text a x s) ∙ e ∙ count_is text b y q) ∙ sym (answered text b y q)),
      );
    }

-- there is a code to settle again: the settled one, of the same tape
pub settled-code : (text : List ℕ) (c : CodeOf text) (x : Call text c) → SettlesWell text c x
    → (d : CodeOf text) × (d.bytes ≡ bytes_of x) × (d.count ≡ count_of x) × (spells d ≡ spells c)
settled-code text c x w =
    let e = (spells_same (load_table text) (bytes_of x) (count_of x) w.earliest.is (spells c)).1 w.earliest.spells_it in (
      record { bytes = bytes_of x; count = count_of x; is = w.earliest.is; few = subst (λ l. length l ≤ letter_limit) (sym e) c.few },
      refl,
      refl,
      e,
    )
