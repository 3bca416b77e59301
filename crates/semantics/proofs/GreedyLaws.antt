-- LAWS of the greedy value: every readable tape has one, the second sweep's bits are its code, and two values spell the same exactly if
-- their greedy codes are equal.
use Rattle.std.proofs.Common.{◌∙◌, ap, sym, inl, inr, ⊎_elim, append-nil}
use Rattle.std.specs.Prelude.{◌≡◌, refl, Bool, false, not, true, ◌↔◌, ◌⊎◌, ◌++◌, ◌∷◌, List, [], ℕ}
use Rattle.std.proofs.lemmas.Bool.{false≢true}
use Rattle.syntax.specs.Tree.{Tree}
use Rattle.semantics.specs.Value.{Value, flat, nonproblematic}
use Rattle.semantics.specs.Order.{less, Greedy}
use Rattle.semantics.specs.Code.{code, IsCode, Canonical}
use Rattle.semantics.specs.Automaton.{top}
use Rattle.semantics.specs.Decode.{spelled, hollow}
use Rattle.semantics.specs.Sweeps.{at_end, readable, greedy}
use Rattle.semantics.specs.Strip.{strip}
use Rattle.semantics.proofs.DecodeLaws.{code_injective}
use Rattle.semantics.proofs.OrderLaws.{less_iff_before, less_asym}
use Rattle.semantics.proofs.CodeLaws.{spelled-code, hollow-code, spelled_is}
use Rattle.semantics.proofs.CompleteLaws.{complete}
use Rattle.semantics.specs.Greatest.{BestOf}
use Rattle.semantics.proofs.SecondSweepLaws.{wrote}
use Rattle.semantics.proofs.StripLaws.{strip-flat, strip-nonproblematic}

end_only : (b : Bool) (z : List ℕ) → at_end b z ≡ true → z ≡ []
end_only b [] h = refl
end_only b (x ∷ z) h = absurd (false≢true h)

-- what any value spells, with empty iterations or without, is readable
pub readable-flat : (t : Tree) (v : Value t) → readable t (flat t v) ≡ true
unfolding readable
readable-flat t v =
    rw (← strip-flat t v, ← append-nil (flat t (strip t v))) (complete t (strip t v) at_end true [] (strip-nonproblematic t v) refl)

-- 001, corollary 3: the bits of the second sweep are the code of the greatest value
pub greedy_canonical : (t : Tree) (w : List ℕ) → readable t w ≡ true → Canonical t w (greedy t w)
unfolding readable greedy
greedy_canonical t w h = record {
  value = p.it;
  greedy = record { spells = sp; solid = p.solid; greatest = greatest };
  written = sym ((wrote t at_end true w h).1 (λ b x. []) ∙ append-nil (code t p.it));
}
  where
    p : BestOf t at_end true w
    p = (wrote t at_end true w h).0

    sp : flat t p.it ≡ w
    sp = sym (p.spells ∙ ap (λ z. flat t p.it ++ z) (end_only true p.rest p.goes) ∙ append-nil (flat t p.it))

    greatest : (x : Value t) → flat t x ≡ w → nonproblematic t x ≡ true → (x ≡ p.it) ⊎ less t x p.it
    greatest x ex ok = ⊎_elim (λ e. inl (sym e)) (λ l. inr ((less_iff_before t p.it x (sp ∙ sym ex)).1 l))
        (p.top x [] ok (sym ex ∙ sym (append-nil (flat t x))) refl)

-- there is one greedy value, and so one canonical code
pub greedy_unique : (t : Tree) (w : List ℕ) (v x : Value t) → Greedy t w v → Greedy t w x → v ≡ x
greedy_unique t w v x g h = go (h.greatest v g.spells g.solid) (g.greatest x h.spells h.solid)
  where
    go : (v ≡ x) ⊎ less t v x → (x ≡ v) ⊎ less t x v → v ≡ x
    go (inl e) n = e
    go (inr l) (inl e) = sym e
    go (inr l) (inr m) = absurd (less_asym t v x (g.spells ∙ sym h.spells) l m)

pub canonical_unique : (t : Tree) (w : List ℕ) (bs cs : List Bool) → Canonical t w bs → Canonical t w cs → bs ≡ cs
canonical_unique t w bs cs c d = sym c.written ∙ ap (code t) (greedy_unique t w c.value d.value c.greedy d.greedy) ∙ d.written

-- so whatever is canonical is what the second sweep writes
pub canonical_greedy : (t : Tree) (w : List ℕ) (bs : List Bool) → Canonical t w bs → (readable t w ≡ true) × (greedy t w ≡ bs)
canonical_greedy t w bs c =
    let h : readable t w ≡ true = ap (readable t) (sym c.greedy.spells) ∙ readable-flat t c.value in
    (h, canonical_unique t w (greedy t w) bs (greedy_canonical t w h) c)

-- readable: some value spells the tape (any, or one without an empty iteration: that is the same)
pub readable_iff : (t : Tree) (w : List ℕ) → (readable t w ≡ true) ↔ ((v : Value t) × (flat t v ≡ w))
readable_iff t w = (λ h. let c = greedy_canonical t w h in (c.value, c.greedy.spells), λ p. ap (readable t) (sym p.1) ∙ readable-flat t p.0)

pub readable_solid_iff : (t : Tree) (w : List ℕ) → (readable t w ≡ true) ↔ ((v : Value t) × (flat t v ≡ w) × (nonproblematic t v ≡ true))
readable_solid_iff t w = (
  λ h. let c = greedy_canonical t w h in (c.value, c.greedy.spells, c.greedy.solid),
  λ p. ap (readable t) (sym p.1)
      ∙ readable-flat t p.0,
)

-- two values are of one tape exactly if their greedy codes are equal
pub same_tape_iff : (t : Tree) (v x : Value t) → (flat t v ≡ flat t x) ↔ (greedy t (flat t v) ≡ greedy t (flat t x))
same_tape_iff t v x = (
  λ e. ap (greedy t) e,
  λ e.
      let c = greedy_canonical t (flat t v) (readable-flat t v) in
      let d = greedy_canonical t (flat t x) (readable-flat t x) in
      sym c.greedy.spells ∙ ap (flat t) (code_injective t c.value d.value (c.written ∙ e ∙ sym d.written)) ∙ d.greedy.spells,
)

-- ── the greedy code, by the computed forms ──
pub spelled-greedy : (t : Tree) (w : List ℕ) → readable t w ≡ true → spelled t (greedy t w) ≡ w
spelled-greedy t w h =
    let c = greedy_canonical t w h in
    ap (spelled t) (sym c.written) ∙ spelled-code t c.value ∙ c.greedy.spells

pub hollow-greedy : (t : Tree) (w : List ℕ) → readable t w ≡ true → hollow t (greedy t w) ≡ false
hollow-greedy t w h =
    let c = greedy_canonical t w h in
    ap (hollow t) (sym c.written) ∙ hollow-code t c.value ∙ ap not c.greedy.solid

-- what a code spells is readable, so there is a canonical code to settle it to
pub code-readable : (t : Tree) (bs : List Bool) → IsCode t bs → readable t (spelled t bs) ≡ true
code-readable t bs c = ap (readable t) (spelled_is t bs c) ∙ readable-flat t c.value
