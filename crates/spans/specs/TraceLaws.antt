-- What is seen inside a node from a position of a code on, in terms of the parts' traces: one equation for each way of the walk that looks for a visit.
use Rattle.std.specs.Prelude.{◌≡◌, Bool, cond, List, ℕ, ◌+◌, ◌*◌, ◌≤◌, ◌<◌, length, drop}
use Rattle.std.proofs.Math.Path.{refl, ap}
use Rattle.std.proofs.Common.{sym, ◌∙◌}
use Rattle.std.proofs.Math.Bool.{true, false}
use Rattle.std.proofs.Math.Option.{none, some, none-ne-some}
use native.Mathlib.Omega.{arith}
use Rattle.syntax.specs.declared.Leaf.{Leaf}
use Rattle.syntax.specs.declared.Leaf.TheVariants.{Nothing, Letter, Range}
use Rattle.syntax.specs.declared.Node.TheVariants.{Leaf as LeafNode}
use Rattle.syntax.specs.Letter.{in_range}
use Rattle.syntax.specs.Tree.{Label, Tree, nothing, letter, range, seq, alt, star, index}
use Rattle.syntax.specs.Trees.{made}
use Rattle.bits.specs.Bits.{bit_at, number_at, held}
use Rattle.semantics.specs.Value.{Value}
use Rattle.semantics.specs.Decode.{Read, read}
use Rattle.semantics.specs.Positions.{Seen, see, seen, and_then}
use Rattle.semantics.proofs.PositionLaws.{see_as}
use Rattle.spans.specs.declared.find.Step.{Step}
use Rattle.walks.specs.Looks.{same_seen, look_stays, look-nothing, look_letter, look_short, look_range, look_outside, look_seq, look_alt_none, look-left}
use Rattle.walks.specs.Looks.{stops, look-right, look_star_none, look_stop, look-round}
use Rattle.spans.specs.Traces.{Trace, letters_trace, trace_then, own, trace, inside, trace-own, trace-visits, trace_at, inside_at, own_seen}

-- what is seen is there
pub not_none : {X : Type 0} {o : Seen X} {x : X × ℕ} → o ≡ some x → o ≡ none → ⊥
not_none {X} {o} {x} e f = none-ne-some x (sym f ∙ e)

-- ── leaves ──
abbrev pub step_of : Leaf → Step
step_of Nothing = record { bits = 0; letters = 0 }
step_of (Letter c) = record { bits = 0; letters = 1 }
step_of (Range a b) = record { bits = 8; letters = 1 }

-- ── a node's own visit in front of what is seen inside it ──
own_elim : (l : ℕ) (o : Seen Trace) → elim o [ none ↦ none | some p ↦ some (own l p.0, p.1) ] ≡ own_seen l o
own_elim l none = refl
own_elim l (some p) = refl

module _ (code : List ℕ) (count : ℕ) (t : Tree) (at : ℕ) where
  pub trace-inside : trace_at code count t at ≡ own_seen (index t) (inside_at code count t at)
  unfolding trace_at inside_at
  trace-inside =
      see_as (held 8 code count) t (inside t) (trace t) (own (index t)) (trace-own t) at ∙ own_elim (index t) (see (held 8 code count) t (inside t) at)

  module _ (f : Trace) (j : ℕ) (e : inside_at code count t at ≡ some (f, j)) where
    -- what is seen inside is inside a value
    pub inside-value : (v : Value t) × (inside t v ≡ f)
    unfolding inside_at see
    inside-value = go (read t (drop at (held 8 code count))) e
      where
        go : (o : Read t) → seen (length (held 8 code count)) t (inside t) o ≡ some (f, j) → (v : Value t) × (inside t v ≡ f)
        go none h = absurd (none-ne-some (f, j) h)
        go (some p) h = (p.0, (same_seen h).0)

    -- a walk never goes back on the tape
    pub inside_grows : (i : ℕ) → i ≤ (f i).1
    inside_grows i =
        let (v, g) = inside-value in
        omega (arith, ap (λ z. (z i).1) (trace-own t v), ap (λ z. z.1) (trace-visits t v i), ap (λ z. (z i).1) g)

  pub trace_grows : (f : Trace) (j : ℕ) → trace_at code count t at ≡ some (f, j) → (i : ℕ) → i ≤ (f i).1
  trace_grows f j e i = go (inside_at code count t at) refl (sym trace-inside ∙ e)
    where
      go : (o : Seen Trace) → inside_at code count t at ≡ o → own_seen (index t) o ≡ some (f, j) → i ≤ (f i).1
      go none q h = absurd (none-ne-some (f, j) h)
      go (some p) q h = omega (arith, inside_grows p.0 p.1 q i, ap (λ z. (z i).1) (same_seen h).0)

module _ (code : List ℕ) (count : ℕ) (fit : count ≤ length code * 8) where
  abbrev bs : List Bool
  bs = held 8 code count

  pub trace_stays : (t : Tree) (at : ℕ) → at ≤ count → (f : Trace) (j : ℕ) → trace_at code count t at ≡ some (f, j) → (at ≤ j) × (j ≤ count)
  unfolding trace_at
  trace_stays t at le f j e = look_stays code count fit t (trace t) at le f j e

  pub inside_seq : {t u v : Tree} {m : Label} → t ≡ seq m u v → (at : ℕ) → at ≤ count
      → inside_at code count t at ≡ and_then trace_then (trace_at code count u at) (trace_at code count v)
  unfolding inside_at trace_at
  inside_seq {t} {u} {v} {m} e at le =
      ap (λ z. inside_at code count z at) e ∙ look_seq code count fit trace_then m u v (inside (seq m u v)) (trace u) (trace v) (λ x y. refl) at le

  module _ {t u v : Tree} {m : Label} (e : t ≡ alt m u v) (at : ℕ) where
    pub inside_alt_none : count ≤ at → inside_at code count t at ≡ none
    unfolding inside_at
    inside_alt_none h = ap (λ z. inside_at code count z at) e ∙ look_alt_none code count fit m u v (inside (alt m u v)) at h

    pub inside_side : at < count → inside_at code count t at ≡ trace_at code count (cond (bit_at 8 code at) v u) (at + 1)
    unfolding inside_at trace_at
    inside_side h = ap (λ z. inside_at code count z at) e ∙ go (bit_at 8 code at) refl
      where
        go : (b : Bool) → bit_at 8 code at ≡ b → see bs (alt m u v) (inside (alt m u v)) at ≡ see bs (cond b v u) (trace (cond b v u)) (at + 1)
        go true q = look-right code count fit m u v (inside (alt m u v)) at h q
        go false q = look-left code count fit m u v (inside (alt m u v)) at h q

  -- rounds, whichever bit means another one
  module _ {t u : Tree} {m : Label} {again : Bool} (e : t ≡ star m again u) (at : ℕ) where
    as_star : inside_at code count t at ≡ inside_at code count (star m again u) at
    as_star = ap (λ z. inside_at code count z at) e

    pub rounds_none : count ≤ at → inside_at code count t at ≡ none
    unfolding inside_at
    rounds_none h = as_star ∙ look_star_none code count fit m again u (inside (star m again u)) at h

    pub rounds_stop : at < count → (s : Bool) → s ≡ stops again (bit_at 8 code at) → s ≡ true → inside_at code count t at ≡ some (letters_trace 0, at + 1)
    unfolding inside_at
    rounds_stop h s es z = as_star ∙ look_stop code count fit m again u (inside (star m again u)) at h (sym es ∙ z)

    pub rounds_more : at < count → (s : Bool) → s ≡ stops again (bit_at 8 code at) → s ≡ false
        → inside_at code count t at ≡ and_then trace_then (trace_at code count u (at + 1)) (inside_at code count t)
    unfolding inside_at trace_at
    rounds_more h s es z =
        as_star
        ∙ look-round code count fit m again u (inside (star m again u)) at trace_then (trace u) (inside (star m again u)) (λ v vs. refl) h (sym es ∙ z)
        ∙ ap (λ z. and_then trace_then (trace_at code count u (at + 1)) (inside_at code count z)) (sym e)

  -- a leaf that is there takes its bits and spells its letters
  module _ (m : Label) (g : ℕ → Tree) (at : ℕ) (le : at ≤ count) where
    abbrev Steps : Leaf → Type 0
    Steps x = (at + (step_of x).bits ≤ count)
        × (inside_at code count (made m g (LeafNode x)) at ≡ some (letters_trace (step_of x).letters, at + (step_of x).bits))

    leaf_steps : (x : Leaf) → (inside_at code count (made m g (LeafNode x)) at ≡ none → ⊥) → Steps x
    unfolding inside_at
    leaf_steps Nothing there =
        let z : at ≡ at + 0 = omega arith in
        (omega arith, look-nothing code count fit m at (inside (nothing m)) le ∙ ap (λ j. some (letters_trace 0, j)) z)
    leaf_steps (Letter c) there =
        let z : at ≡ at + 0 = omega arith in
        (omega arith, look_letter code count fit m at c (inside (letter m c)) le ∙ ap (λ j. some (letters_trace 1, j)) z)
    leaf_steps (Range a b) there = (long, go (in_range a b (number_at 8 code at 8)) refl)
      where
        long : at + 8 ≤ count
        long =
            let h : count < at + 8 → ⊥ = λ h. there (look_short code count fit m a b (inside (range m a b)) at h) in
            omega arith

        go : (b' : Bool) → in_range a b (number_at 8 code at 8) ≡ b'
            → see bs (range m a b) (inside (range m a b)) at ≡ some (letters_trace 1, at + 8)
        go true q = look_range code count fit m a b (inside (range m a b)) at (number_at 8 code at 8) long refl q
        go false q = absurd (there (look_outside code count fit m a b (inside (range m a b)) at (number_at 8 code at 8) long refl q))

    pub inside_leaf : {t : Tree} (x : Leaf) → t ≡ made m g (LeafNode x) → (f : Trace) (j : ℕ) → inside_at code count t at ≡ some (f, j)
        → (at + (step_of x).bits ≤ count) × (inside_at code count t at ≡ some (letters_trace (step_of x).letters, at + (step_of x).bits))
    inside_leaf {t} x e f j s =
        let same = ap (λ z. inside_at code count z at) e in
        let h = leaf_steps x (λ z. not_none s (same ∙ z)) in
        (h.0, same ∙ h.1)
