-- The proofs of `Promise`, and that the greedy code of 03 is the code of the greedy value.
use Rattle.std.proofs.Common.{◌∙◌, ap, subst, sym, inl, inr, ⊎_elim, arith}
use Rattle.std.specs.Prelude.{◌≡◌, refl, Bool, not, true, ◌↔◌, ◌⊎◌, ◌++◌, List, ◌≤◌, ℕ, length}
use Rattle.syntax.specs.Letter.{letter_limit}
use Rattle.syntax.specs.Tree.{Tree}
use Rattle.semantics.specs.Value.{Value, flat, nonproblematic}
use Rattle.semantics.specs.Order.{less, Greedy}
use Rattle.semantics.specs.Code.{code, IsCode, NoEmptyRound, before, Canonical, choices}
use Rattle.semantics.specs.Automaton.{at}
use Rattle.semantics.specs.Decode.{spelled}
use Rattle.semantics.specs.Sweeps.{readable, greedy}
use Rattle.semantics.specs.Promise.{GreedyCode, node_limit, Settles, SettledEqual, SettledAgain, CodesPart, FewBits, MarksRight}
use Rattle.semantics.proofs.BeforeLaws.{before_irrefl, before_asym}
use Rattle.semantics.proofs.OrderLaws.{Compared, same, above, beneath, less_iff_before}
use Rattle.semantics.proofs.CodeLaws.{is_code_iff, spelled-code, hollow-code, spelled_is, solid_iff, code_compare, codes_compare, codes_part}
use Rattle.semantics.proofs.GreedyLaws.{greedy_canonical, code-readable}
use Rattle.semantics.proofs.AutomatonLaws.{accepts_iff_readable}
use Rattle.semantics.proofs.BoundLaws.{few_bits_none, few_bits_some, code_fits}

-- ── the greedy code is the code of the greedy value ──
module _ (t : Tree) (w : List ℕ) (few : choices t ≤ node_limit) (short : length w ≤ letter_limit) where
  -- a value of the tape without empty iterations has a code within the limit
  tape-code : (v : Value t) → flat t v ≡ w → nonproblematic t v ≡ true → IsCode t (code t v)
  tape-code v e ok = record { value = v; written = refl; within = code_fits t v few ok (omega (arith, ap length e)) }

  canonical_first : (v : Value t) → Greedy t w v → GreedyCode t w (code t v)
  canonical_first v g = record {
    code = (is_code_iff t (code t v)).1 (tape-code v g.spells g.solid);
    spells = spelled-code t v ∙ g.spells;
    solid = hollow-code t v ∙ ap not g.solid;
    first = λ cs c e o d.
        let n = (solid_iff t cs).0 (c, o) in
        let x = n.whole.value in
        let ex : flat t x ≡ w = sym (spelled_is t cs n.whole) ∙ e in
        ⊎_elim (λ p. absurd (d (sym n.whole.written ∙ ap (code t) p)))
        (λ l. subst (λ z. before (code t v) z ≡ true) n.whole.written ((less_iff_before t v x (g.spells ∙ sym ex)).0 l))
        (g.greatest x ex n.solid);
  }

  first_canonical : (bits : List Bool) → GreedyCode t w bits → Canonical t w bits
  first_canonical bits g = record { value = v; greedy = record { spells = ev; solid = n.solid; greatest = greatest }; written = n.whole.written }
    where
      n : NoEmptyRound t bits
      n = (solid_iff t bits).0 (g.code, g.solid)

      v : Value t
      v = n.whole.value

      ev : flat t v ≡ w
      ev = sym (spelled_is t bits n.whole) ∙ g.spells

      greatest : (x : Value t) → flat t x ≡ w → nonproblematic t x ≡ true → (x ≡ v) ⊎ less t x v
      greatest x ex ok = go (code_compare t v x)
        where
          go : Compared (v ≡ x) (before (code t v) (code t x) ≡ true) (before (code t x) (code t v) ≡ true) → (x ≡ v) ⊎ less t x v
          go (same e) = inl (sym e)
          go (above h) = inr ((less_iff_before t v x (ev ∙ sym ex)).1 h)
          go (beneath h) =
              let d : code t x ≡ bits → ⊥ = λ e. before_irrefl (code t v) (subst (λ z. before z (code t v) ≡ true) (e ∙ sym n.whole.written) h) in
              let b = g.first (code t x) ((is_code_iff t (code t x)).1 (tape-code x ex ok)) (spelled-code t x ∙ ex) (hollow-code t x ∙ ap not ok) d in
              absurd (before_asym (code t x) (code t v) h (subst (λ z. before z (code t x) ≡ true) (sym n.whole.written) b))

  -- the greedy code of 03 is the code of the greedy value
  pub greedy-code_iff : (bits : List Bool) → GreedyCode t w bits ↔ Canonical t w bits
  greedy-code_iff bits = (first_canonical bits, λ c. subst (GreedyCode t w) c.written (canonical_first c.value c.greedy))

  -- so what the second sweep writes is the greedy code of a readable tape, and within the limit
  pub greedy_first : readable t w ≡ true → GreedyCode t w (greedy t w)
  greedy_first h = (greedy-code_iff (greedy t w)).1 (greedy_canonical t w h)

-- there is one greedy code
pub greedy-code_unique : (t : Tree) (w : List ℕ) (gs hs : List Bool) → GreedyCode t w gs → GreedyCode t w hs → gs ≡ hs
greedy-code_unique t w gs hs g h = go (codes_compare t gs hs ((is_code_iff t gs).0 g.code) ((is_code_iff t hs).0 h.code))
  where
    go : Compared (gs ≡ hs) (before gs hs ≡ true) (before hs gs ≡ true) → gs ≡ hs
    go (same e) = e
    go (above b) = absurd (before_asym gs hs b (h.first gs g.code g.spells g.solid (λ e. before_irrefl hs (subst (λ z. before z hs ≡ true) e b))))
    go (beneath b) = absurd (before_asym hs gs b (g.first hs h.code h.spells h.solid (λ e. before_irrefl gs (subst (λ z. before z gs ≡ true) e b))))

-- ── the statements ──
pub settles : Settles
unfolding Settles
settles t bs few c short =
    (greedy t (spelled t bs), greedy_first t (spelled t bs) few short (code-readable t bs ((is_code_iff t bs).0 c)))

pub settled_equal : SettledEqual
unfolding SettledEqual
settled_equal t bs cs gs hs c d g h = (
  λ e. sym g.spells ∙ ap (spelled t) e ∙ h.spells,
  λ e. greedy-code_unique t (spelled t cs) gs hs (subst (λ w. GreedyCode t w gs) e g) h,
)

pub settled_again : SettledAgain
unfolding SettledAgain
settled_again t w gs hs g h = greedy-code_unique t w hs gs (subst (λ x. GreedyCode t x hs) g.spells h) g

pub codes_part_promised : CodesPart
unfolding CodesPart
codes_part_promised t bs cs c d = codes_part t bs cs ((is_code_iff t bs).0 c) ((is_code_iff t (bs ++ cs)).0 d)

pub few_bits : FewBits
unfolding FewBits
few_bits t bs c o =
    let n = (solid_iff t bs).0 (c, o) in
    let v = n.whole.value in
    let e : spelled t bs ≡ flat t v = spelled_is t bs n.whole in
    let l : length (code t v) ≡ length bs = ap length n.whole.written in (
      λ h. omega (arith, few_bits_none t v n.solid (sym e ∙ h)),
      λ h. rw e (omega (arith, few_bits_some t v n.solid (rw e at h))),
    )

pub marks-right : MarksRight
unfolding MarksRight
marks-right t cs few short = (
  λ a. let c = greedy_first t cs few short ((accepts_iff_readable t cs).0 a) in (greedy t cs, c.code, c.spells),
  λ bs c e. (accepts_iff_readable t cs).1 (ap (readable t) (sym e) ∙ code-readable t bs ((is_code_iff t bs).0 c)),
)
