-- LAWS of the first sweep, one half: where a value without an empty iteration spells a front of the letters and what follows is allowed, the sweep says yes.
use Rattle.std.specs.Prelude.{◌≡◌, ◌&&◌, ◌||◌, Bool, false, true, ◌++◌, ◌∷◌, List, [], ◌≤◌, suc, zero, ℕ, length}
use Rattle.std.proofs.Math.Bool.{or_assoc, or-false, or-true}
use Rattle.std.proofs.Common.{inl, inr, append_assoc, arith, length-append}
use Rattle.syntax.specs.Tree.{Tree, nothing, letter, range, seq, alt, star}
use Rattle.semantics.specs.Value.{nonempty, flat_rounds, nonproblematic_rounds, flat, nonproblematic}
use Rattle.semantics.specs.Sweeps.{After, after_round, can_rounds, can}
use Rattle.semantics.proofs.Basics.{and_fst, and_snd, and_intro, or_left, or_right, eqb_self, nonempty_pos, nonempty-append}

-- a list of rounds without an empty iteration: its first round spells something, has no empty iteration inside it, and the others are such a list
pub record Full {A : Type 0} (f : A → List ℕ) (s : A → Bool) (v : A) (vs : List A) : Type 0 where
  pub full : nonempty (f v) ≡ true
  pub solid : s v ≡ true
  pub others : nonproblematic_rounds f s vs ≡ true

pub full_round : {A : Type 0} (f : A → List ℕ) (s : A → Bool) (v : A) (vs : List A) → nonproblematic_rounds f s (v ∷ vs) ≡ true → Full f s v vs
full_round f s v vs ok =
    let p : (nonempty (f v) && s v) ≡ true = and_fst (nonempty (f v) && s v) (nonproblematic_rounds f s vs) ok in
    record {
      full = and_fst (nonempty (f v)) (s v) p;
      solid = and_snd (nonempty (f v)) (s v) p;
      others = and_snd (nonempty (f v) && s v) (nonproblematic_rounds f s vs) ok;
    }

-- behind a round: it has taken a letter, and the star goes on with flag 1
pub after_round_full : (k : After) (b : Bool) (w : List ℕ) → after_round k b w ≡ true → b ≡ true
after_round_full k b w h = and_fst b (k true w) h

pub after_round_on : (k : After) (b : Bool) (w : List ℕ) → after_round k b w ≡ true → k true w ≡ true
after_round_on k b w h = and_snd b (k true w) h

pub after_round_yes : (k : After) (b : Bool) (w : List ℕ) → b ≡ true → k true w ≡ true → after_round k b w ≡ true
after_round_yes k b w p q = and_intro p q

-- c says yes wherever a value that spells a front leaves letters that k allows
abbrev pub Complete : {A : Type 0} → (A → List ℕ) → (A → Bool) → (After → After) → Type 0
Complete {A} f s c = (v : A) (k : After) (b : Bool) (w : List ℕ) → s v ≡ true → k (b || nonempty (f v)) w ≡ true → c k b (f v ++ w) ≡ true

module _ {A : Type 0} (f : A → List ℕ) (s : A → Bool) (c : After → After) (one : Complete f s c) where
  pub rounds_complete : (n : ℕ) (vs : List A) (k : After) (b : Bool) (w : List ℕ) → length (flat_rounds f vs ++ w) ≤ n
      → nonproblematic_rounds f s vs ≡ true → k (b || nonempty (flat_rounds f vs)) w ≡ true → can_rounds c n k b (flat_rounds f vs ++ w) ≡ true
  rounds_complete zero [] k b w le ok h = rw or-false at h
  rounds_complete (suc n) [] k b w le ok h = or_right (c (after_round (can_rounds c n k)) false w) (rw or-false at h)
  rounds_complete zero (v ∷ vs) k b w le ok h =
      absurd (omega (arith, nonempty_pos (f v) (full_round f s v vs ok).full, simp length-append at le))
  rounds_complete (suc n) (v ∷ vs) k b w le ok h =
      let o = full_round f s v vs ok in
      let p : nonempty (f v) ≡ true = o.full in
      rw append_assoc (or_left _ (one v (after_round (can_rounds c n k)) false (flat_rounds f vs ++ w) o.solid
      (after_round_yes (can_rounds c n k) (nonempty (f v)) (flat_rounds f vs ++ w) p
      (rounds_complete n vs k true w (simp length-append (omega (arith, nonempty_pos (f v) p, simp length-append at le))) o.others
      (simp (nonempty-append, p, or-true) at h)))))

pub complete : (t : Tree) → Complete (flat t) (nonproblematic t) (can t)
complete (nothing m) v k b w ok h = rw or-false at h
complete (letter m c) v k b w ok h = and_intro (eqb_self c) (rw or-true at h)
complete (range m low high) v k b w ok h = and_intro v.1 (rw or-true at h)
complete (seq m t u) v k b w ok h =
    rw append_assoc (complete t v.0 (can u k) b (flat u v.1 ++ w) (and_fst (nonproblematic t v.0) _ ok)
    (complete u v.1 k (b || nonempty (flat t v.0)) w (and_snd (nonproblematic t v.0) _ ok) (simp (nonempty-append, ← or_assoc) at h)))
complete (alt m t u) (inl v) k b w ok h = or_left _ (complete t v k b w ok h)
complete (alt m t u) (inr v) k b w ok h = or_right (can t k b (flat u v ++ w)) (complete u v k b w ok h)
complete (star m again t) vs k b w ok h = rounds_complete (flat t) (nonproblematic t) (can t) (complete t)
    (suc (length (flat_rounds (flat t) vs ++ w))) vs k b w (omega arith) ok h
