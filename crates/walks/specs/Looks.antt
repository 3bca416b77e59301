-- What a walk makes of a code's bits from a position on, for any function of the value: one law for each way of a walk, in terms of the
-- bytes handed in. The letters, the entries and the visits of a code are instances.
use Rattle.std.specs.Prelude.{◌≡◌, refl, Bool, true, false, not, List, [], ◌∷◌, ℕ, ◌+◌, ◌*◌, ◌≤◌, ◌<◌, length}
use Rattle.std.proofs.Common.{sym, ap, subst, ◌∙◌, inl, inr, arith}
use Rattle.std.proofs.Math.Bool.{Bool-set}
use Rattle.std.proofs.Math.Option.{none, some, none-ne-some, some-injective}
use Rattle.syntax.specs.Letter.{in_range}
use Rattle.syntax.specs.Tree.{Label, Tree, nothing, letter, range, seq, alt, star}
use Rattle.bits.specs.Bits.{bit_at, number_at, held}
use Rattle.bits.specs.Reading.{held-length, held-bit}
use Rattle.semantics.specs.Value.{Value}
use Rattle.semantics.specs.Positions.{Seen, see, joined, and_then}
use Rattle.semantics.proofs.PositionLaws.{see_stays, see_nothing, see_letter, see_short, see_range, see_outside, see_seq, see_alt_none, see_left, see_right}
use Rattle.semantics.proofs.PositionLaws.{see_star_none, see_stop, see_round}
use Rattle.walks.specs.Handed.{held_number}

-- 01: "`K` writes 0 and a round, again and again, then 1"; 02: "`Z` [..] writes 0 to stop and 1 before a round". A star that takes another
-- round for the bit `again` stops at the other one.
abbrev pub stops : (again bit : Bool) → Bool
stops false b = b
stops true b = not b

module _ {again b c : Bool} where
  pub stops-greedy : again ≡ false → c ≡ b → c ≡ stops again b
  stops-greedy h e = rw h e

  pub stops-lazy : again ≡ true → c ≡ b → not c ≡ stops again b
  stops-lazy h e = rw h (ap not e)

-- two walks that see the same, and what a walk followed by another tells of both
pub same_seen : {X : Type 0} {x y : X} {i j : ℕ} → ◌≡◌ {A = Seen X} (some (x, i)) (some (y, j)) → (x ≡ y) × (i ≡ j)
same_seen {X} {x} {y} {i} {j} e = let f = some-injective (x, i) (y, j) e in (ap (λ z. z.0) f, ap (λ z. z.1) f)

pub then_some : {X Y Z : Type 0} (op : X → Y → Z) (a : Seen X) (f : ℕ → Seen Y) (z : Z) (j : ℕ) → and_then op a f ≡ some (z, j)
    → (x : X) × (i : ℕ) × (y : Y) × (a ≡ some (x, i)) × (f i ≡ some (y, j)) × (op x y ≡ z)
then_some op none f z j e = absurd (none-ne-some (z, j) e)
then_some {X} {Y} {Z} op (some p) f z j e = go (f p.1) refl e
  where
    go : (q : Seen Y) → f p.1 ≡ q → joined op p.0 q ≡ some (z, j)
        → (x : X) × (i : ℕ) × (y : Y) × (◌≡◌ {A = Seen X} (some p) (some (x, i))) × (f i ≡ some (y, j)) × (op x y ≡ z)
    go none g h = absurd (none-ne-some (z, j) h)
    go (some q) g h = let (u, k) = same_seen h in (p.0, p.1, q.0, refl, g ∙ ap (λ n. some (q.0, n)) k, u)

stop_bit : (again b : Bool) → stops again b ≡ true → b ≡ not again
stop_bit false b e = e
stop_bit true false e = refl
stop_bit true true e = sym e

round-bit : (again b : Bool) → stops again b ≡ false → b ≡ again
round-bit false b e = e
round-bit true true e = refl
round-bit true false e = sym e

module _ (code : List ℕ) (count : ℕ) (fit : count ≤ length code * 8) where
  many : length (held 8 code count) ≡ count
  many = held-length 8 code count fit

  pub look_stays : {X : Type 0} (t : Tree) (f : Value t → X) (at : ℕ) → at ≤ count → (x : X) (j : ℕ)
      → see (held 8 code count) t f at ≡ some (x, j) → (at ≤ j) × (j ≤ count)
  look_stays t f at le x j e = let m = many in let h = see_stays (held 8 code count) t f at (omega arith) x j e in (h.0, omega arith)

  module _ {X : Type 0} (m : Label) (at : ℕ) where
    pub look-nothing : (f : Value (nothing m) → X) → at ≤ count → see (held 8 code count) (nothing m) f at ≡ some (f tt, at)
    look-nothing f le = let k = many in see_nothing (held 8 code count) m at f (omega arith)

    pub look_letter : (c : ℕ) (f : Value (letter m c) → X) → at ≤ count → see (held 8 code count) (letter m c) f at ≡ some (f tt, at)
    look_letter c f le = let k = many in see_letter (held 8 code count) m at c f (omega arith)

  module _ {X : Type 0} (m : Label) (low high : ℕ) (f : Value (range m low high) → X) (at : ℕ) where
    pub look_short : count < at + 8 → see (held 8 code count) (range m low high) f at ≡ none
    look_short h = let k = many in see_short (held 8 code count) m low high f at (omega arith)

    module _ (c : ℕ) (h : at + 8 ≤ count) (e : c ≡ number_at 8 code at 8) where
      pub look_range : (q : in_range low high c ≡ true) → see (held 8 code count) (range m low high) f at ≡ some (f (c, q), at + 8)
      look_range q =
          let k = many in
          let n = held_number 8 code count fit at 8 h ∙ sym e in
          see_range (held 8 code count) m low high f at (omega arith) (ap (in_range low high) n ∙ q) ∙ go _ (sym n) (ap (in_range low high) n ∙ q)
        where
          go : (d : ℕ) → c ≡ d → (p : in_range low high d ≡ true) → ◌≡◌ {A = Seen X} (some (f (d, p), at + 8)) (some (f (c, q), at + 8))
          go d g =
              subst (λ x. (p : in_range low high x ≡ true) → ◌≡◌ {A = Seen X} (some (f (x, p), at + 8)) (some (f (c, q), at + 8))) g
              (λ p. ap (λ z. some (f (c, z), at + 8)) (Bool-set _ _ p q))

      pub look_outside : in_range low high c ≡ false → see (held 8 code count) (range m low high) f at ≡ none
      look_outside q =
          let k = many in
          see_outside (held 8 code count) m low high f at (omega arith) (ap (in_range low high) (held_number 8 code count fit at 8 h ∙ sym e) ∙ q)

  pub look_seq : {X Y Z : Type 0} (op : X → Y → Z) (m : Label) (t u : Tree) (f : Value (seq m t u) → Z) (g : Value t → X) (h : Value u → Y)
      → ((v : Value t) (x : Value u) → f (v, x) ≡ op (g v) (h x)) → (at : ℕ) → at ≤ count
      → see (held 8 code count) (seq m t u) f at ≡ and_then op (see (held 8 code count) t g at) (see (held 8 code count) u h)
  look_seq op m t u f g h s at le = let k = many in see_seq (held 8 code count) op m t u f g h s at (omega arith)

  module _ {X : Type 0} (m : Label) (t u : Tree) (f : Value (alt m t u) → X) (at : ℕ) where
    pub look_alt_none : count ≤ at → see (held 8 code count) (alt m t u) f at ≡ none
    look_alt_none h = let k = many in see_alt_none (held 8 code count) m t u f at (omega arith)

    pub look-left : at < count → bit_at 8 code at ≡ false
        → see (held 8 code count) (alt m t u) f at ≡ see (held 8 code count) t (λ v. f (inl v)) (at + 1)
    look-left h z = let k = many in see_left (held 8 code count) m t u f at (omega arith) (held-bit 8 code count fit (omega arith) at h ∙ z)

    pub look-right : at < count → bit_at 8 code at ≡ true
        → see (held 8 code count) (alt m t u) f at ≡ see (held 8 code count) u (λ v. f (inr v)) (at + 1)
    look-right h z = let k = many in see_right (held 8 code count) m t u f at (omega arith) (held-bit 8 code count fit (omega arith) at h ∙ z)

  -- a star, whichever bit means another round
  module _ {Z : Type 0} (m : Label) (again : Bool) (t : Tree) (f : Value (star m again t) → Z) (at : ℕ) where
    pub look_star_none : count ≤ at → see (held 8 code count) (star m again t) f at ≡ none
    look_star_none h = let k = many in see_star_none (held 8 code count) m again t f at (omega arith)

    pub look_stop : at < count → stops again (bit_at 8 code at) ≡ true → see (held 8 code count) (star m again t) f at ≡ some (f [], at + 1)
    look_stop h z =
        let k = many in
        see_stop (held 8 code count) m again t f at (omega arith) (held-bit 8 code count fit (omega arith) at h ∙ stop_bit again (bit_at 8 code at) z)

    pub look-round : {X Y : Type 0} (op : X → Y → Z) (g : Value t → X) (h : Value (star m again t) → Y)
        → ((v : Value t) (vs : Value (star m again t)) → f (v ∷ vs) ≡ op (g v) (h vs)) → at < count → stops again (bit_at 8 code at) ≡ false
        → see (held 8 code count) (star m again t) f at
        ≡ and_then op (see (held 8 code count) t g (at + 1)) (see (held 8 code count) (star m again t) h)
    look-round op g h s lt z =
        let k = many in
        see_round (held 8 code count) m again t f at op g h s (omega arith)
        (held-bit 8 code count fit (omega arith) at lt ∙ round-bit again (bit_at 8 code at) z)
