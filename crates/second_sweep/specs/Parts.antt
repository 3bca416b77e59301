-- The second sweep at a node, told in letters and bits: what the best value of the node spells and writes, and how that falls into parts.
use Rattle.std.specs.Prelude.{◌≡◌, refl, Bool, true, false, ◌||◌, not, cond, List, [], ◌∷◌, ◌++◌, ℕ, ◌≤◌, length, drop}
use Rattle.std.proofs.Common.{sym, ap, ◌∙◌, arith, length-append, drop_at}
use Rattle.syntax.specs.Tree.{Label, Tree, nothing, letter, range, seq, alt, star}
use Rattle.semantics.specs.Value.{nonempty, flat}
use Rattle.bits.specs.Bits.{bits_of}
use Rattle.semantics.specs.Code.{code}
use Rattle.semantics.specs.Sweeps.{After, after_round, can}
use Rattle.semantics.specs.Greatest.{BestOf}
use Rattle.semantics.specs.Greatest.{goes_on}
use Rattle.semantics.proofs.PartLaws.{seq_parts, left-part, right-part, round-parts, stop_part}

-- the best value of a tree from letters w on, where k says what may follow: the letters that it spells and the bits that it writes
pub record Sweeps (t : Tree) (k : After) (b : Bool) (w letters : List ℕ) (bits : List Bool) : Type 0 where
  pub best : BestOf t k b w
  pub spells : flat t best.it ≡ letters
  pub writes : code t best.it ≡ bits

module _ {t : Tree} {k : After} {b : Bool} {w letters : List ℕ} {bits : List Bool} (s : Sweeps t k b w letters bits) where
  pub whole : w ≡ letters ++ s.best.rest
  whole = s.best.spells ∙ ap (λ x. x ++ s.best.rest) s.spells

  pub short : length letters ≤ length w
  short = omega (arith, simp length-append at (ap length whole))

  pub behind : drop (length letters) w ≡ s.best.rest
  behind = ap (drop (length letters)) whole ∙ drop_at letters s.best.rest (length letters) refl

-- ── leaves ──
module _ {k : After} {b : Bool} {w ls : List ℕ} {cs : List Bool} where
  pub nothing_sweeps : {m : Label} → Sweeps (nothing m) k b w ls cs → (ls ≡ []) × (cs ≡ [])
  nothing_sweeps s = (sym s.spells, sym s.writes)

  pub letter_sweeps : {m : Label} {c : ℕ} → Sweeps (letter m c) k b w ls cs → (ls ≡ c ∷ []) × (cs ≡ [])
  letter_sweeps s = (sym s.spells, sym s.writes)

  pub range_sweeps : {m : Label} {low high : ℕ} → Sweeps (range m low high) k b w ls cs → (x : ℕ) × (ls ≡ x ∷ []) × (cs ≡ bits_of 8 x)
  range_sweeps s = (s.best.it.0, sym s.spells, sym s.writes)

-- ── parts ──
module _ (m : Label) (t u : Tree) (k : After) (b : Bool) (w ls : List ℕ) (cs : List Bool) where
  pub record Both : Type 0 where
    pub letters : List ℕ
    pub bits : List Bool
    pub letters2 : List ℕ
    pub bits2 : List Bool
    pub one : Sweeps t (can u k) b w letters bits
    pub two : Sweeps u k (b || nonempty letters) (drop (length letters) w) letters2 bits2
    pub letters_are : ls ≡ letters ++ letters2
    pub bits_are : cs ≡ bits ++ bits2

  pub seq_sweeps : Sweeps (seq m t u) k b w ls cs → Both
  seq_sweeps s =
      let q = seq_parts m t u k b w s.best in
      let one : Sweeps t (can u k) b w (flat t q.one.it) (code t q.one.it) =
      record { best = q.one; spells = refl; writes = refl } in
      record {
        letters = flat t q.one.it;
        bits = code t q.one.it;
        letters2 = flat u q.two.it;
        bits2 = code u q.two.it;
        one = one;
        two = rw (behind one) (record { best = q.two; spells = refl; writes = refl });
        letters_are = sym s.spells ∙ ap (flat (seq m t u)) q.it;
        bits_are = sym s.writes ∙ ap (code (seq m t u)) q.it;
      }

  pub record Side (v : Tree) (bit : Bool) : Type 0 where
    pub bits : List Bool
    pub one : Sweeps v k b w ls bits
    pub bits_are : cs ≡ bit ∷ bits

  -- the left side where it can be read
  pub side_sweeps : (left : Bool) → can t k b w ≡ left → Sweeps (alt m t u) k b w ls cs → Side (cond left t u) (not left)
  side_sweeps true h s =
      let (p, e, r) = left-part m t u k b w s.best h in
      record {
        bits = code t p.it;
        one = record { best = p; spells = sym (ap (flat (alt m t u)) e) ∙ s.spells; writes = refl };
        bits_are = sym s.writes ∙ ap (code (alt m t u)) e;
      }
  side_sweeps false h s =
      let (p, e, r) = right-part m t u k b w s.best h in
      record {
        bits = code u p.it;
        one = record { best = p; spells = sym (ap (flat (alt m t u)) e) ∙ s.spells; writes = refl };
        bits_are = sym s.writes ∙ ap (code (alt m t u)) e;
      }

-- a star that takes another round for the bit `again`, where `goes_on` says so
module _ (m : Label) (again : Bool) (t : Tree) (k : After) (b : Bool) (w ls : List ℕ) (cs : List Bool) where
  pub record Round : Type 0 where
    pub letters : List ℕ
    pub bits : List Bool
    pub letters2 : List ℕ
    pub bits2 : List Bool
    pub one : Sweeps t (after_round (can (star m again t) k)) false w letters bits
    pub full : nonempty letters ≡ true
    pub more : Sweeps (star m again t) k true (drop (length letters) w) letters2 bits2
    pub letters_are : ls ≡ letters ++ letters2
    pub bits_are : cs ≡ again ∷ (bits ++ bits2)

  pub round_sweeps : Sweeps (star m again t) k b w ls cs → goes_on m again t k b w ≡ true → Round
  round_sweeps s h =
      let q = round-parts m again t k b w s.best h in
      let one : Sweeps t (after_round (can (star m again t) k)) false w (flat t q.one.it) (code t q.one.it) =
      record { best = q.one; spells = refl; writes = refl } in
      record {
        letters = flat t q.one.it;
        bits = code t q.one.it;
        letters2 = flat (star m again t) q.more.it;
        bits2 = code (star m again t) q.more.it;
        one = one;
        full = q.full;
        more = rw (behind one) (record { best = q.more; spells = refl; writes = refl });
        letters_are = sym s.spells ∙ ap (flat (star m again t)) q.it;
        bits_are = sym s.writes ∙ ap (code (star m again t)) q.it;
      }

  pub stop_sweeps : Sweeps (star m again t) k b w ls cs → goes_on m again t k b w ≡ false → (ls ≡ []) × (cs ≡ not again ∷ [])
  stop_sweeps s h =
      let (e, r) = stop_part m again t k b w s.best h in
      (sym s.spells ∙ ap (flat (star m again t)) e, sym s.writes ∙ ap (code (star m again t)) e)
