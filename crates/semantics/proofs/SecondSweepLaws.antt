-- LAWS of the second sweep: it writes the code of a value without an empty iteration, and of all that fit the one whose code comes first (001, proposition 4).
use Rattle.std.proofs.Common.{◌∙◌, sym, true≢false, inl, inr, ⊎_elim, arith}
use Rattle.std.specs.Prelude.{◌≡◌, ◌&&◌, ◌||◌, Bool, not, eqb}
use Rattle.std.proofs.Math.Path.{ap, refl}
use Rattle.std.proofs.Math.Bool.{Bool-set, cond, false, or-false, or-true, true}
use Rattle.std.proofs.lemmas.Bool.{false≢true}
use mathlib.Core.HLevel.{Σ_prop_path}
use mathlib.Core.List.{◌++◌, ◌∷◌, List, [], append_assoc, head-eq_of_cons-eq}
use Prim.Native.Nat.{◌<◌, ◌≤◌, suc, zero, ℕ}
use Rattle.std.proofs.Math.ListN.{length, length-append}
use Rattle.syntax.specs.Letter.{in_range}
use Rattle.syntax.specs.Tree.{Label, Tree, nothing, letter, range, seq, alt, star}
use Rattle.semantics.specs.Greatest.{Best, BestOf}
use Rattle.semantics.specs.Value.{nonempty, flat_rounds, nonproblematic_rounds, flat, nonproblematic}
use Rattle.semantics.specs.Code.{code_rounds, code}
use Rattle.semantics.specs.Automaton.{top}
use Rattle.semantics.specs.Sweeps.{After, after_round, can_rounds, can, BitsAfter, another, write_rounds, write}
use Rattle.semantics.proofs.Basics.{and_fst, and_snd, and_intro, not-both, eqb_eq, nonempty_pos, nonempty-append, glue, flag_join, same_rest}
use Rattle.semantics.specs.Greatest.{Top}
use Rattle.semantics.proofs.BeforeLaws.{before_same, two_top, before_asym, stop_before, round-before}
use Rattle.semantics.proofs.CompleteLaws.{full_round, after_round_full, after_round_on, after_round_yes, Complete, rounds_complete, complete}

-- there is one best
pub best_unique : {A : Type 0} {f : A → List ℕ} {s : A → Bool} {c : A → List Bool} {k : After} {b : Bool} {w : List ℕ} (p q : Best f s c k b w) → p.it ≡ q.it
best_unique {A} {f} {s} {c} {k} {b} {w} p q = go (p.top q.it q.rest q.solid q.spells q.goes)
    (q.top p.it p.rest p.solid p.spells p.goes)
  where
    go : Top c p.it q.it → Top c q.it p.it → p.it ≡ q.it
    go (inl e) n = e
    go (inr l) (inl e) = sym e
    go (inr l) (inr m) = absurd (before_asym (c p.it) (c q.it) l m)

-- ── the parts ──
module _ (m : Label) (t u : Tree) (k : After) (b : Bool) (w : List ℕ) where
  unfoldable pub seq_best : (p : BestOf t (can u k) b w) → BestOf u k (b || nonempty (flat t p.it)) p.rest → BestOf (seq m t u) k b w
  seq_best p q = record {
    it = (p.it, q.it);
    rest = q.rest;
    solid = and_intro p.solid q.solid;
    spells = glue (flat t p.it) (flat u q.it) q.rest p.spells q.spells;
    goes = rw (flag_join b (flat t p.it) (flat u q.it)) q.goes;
    top = λ x z ok ex hx.
        let ey : w ≡ flat t x.0 ++ (flat u x.1 ++ z) = ex ∙ append_assoc (flat t x.0) (flat u x.1) z in
        let hy : k ((b || nonempty (flat t x.0)) || nonempty (flat u x.1)) z ≡ true = rw (flag_join b (flat t x.0) (flat u x.1)) at hx in
        let s₀ : nonproblematic t x.0 ≡ true = and_fst (nonproblematic t x.0) (nonproblematic u x.1) ok in
        let s₁ : nonproblematic u x.1 ≡ true = and_snd (nonproblematic t x.0) (nonproblematic u x.1) ok in
        ⊎_elim (λ e. inl (λ i. (e.0 i, e.1 i))) inr
        (two_top (code t) (code u) p.it x.0 q.it x.1
        (p.top x.0 (flat u x.1 ++ z) s₀ ey (complete u x.1 k (b || nonempty (flat t x.0)) z s₁ hy))
        (λ e. q.top x.1 z s₁ (same_rest (flat t) p.it x.0 w p.rest (flat u x.1 ++ z) p.spells ey e)
        (ap (λ y. k ((b || nonempty (flat t y)) || nonempty (flat u x.1)) z) e ∙ hy)));
  }

  unfoldable pub left_best : BestOf t k b w → BestOf (alt m t u) k b w
  left_best p = record {
    it = inl p.it;
    rest = p.rest;
    solid = p.solid;
    spells = p.spells;
    goes = p.goes;
    top = elim [ inl x ↦ λ z ok ex hx. ⊎_elim (λ q. inl (ap inl q)) inr (p.top x z ok ex hx) | inr x ↦ λ z ok ex hx. inr refl ];
  }

  unfoldable pub right_best : can t k b w ≡ false → BestOf u k b w → BestOf (alt m t u) k b w
  right_best e p = record {
    it = inr p.it;
    rest = p.rest;
    solid = p.solid;
    spells = p.spells;
    goes = p.goes;
    top = elim [
      | inl x ↦ λ z ok ex hx. absurd (not-both (ap (can t k b) ex ∙ complete t x k b z ok hx) e)
      | inr x ↦ λ z ok ex hx. ⊎_elim (λ q. inl (ap inr q)) inr (p.top x z ok ex hx)
    ];
  }

unfoldable pub nothing_best : (m : Label) (k : After) (b : Bool) (w : List ℕ) → k b w ≡ true → BestOf (nothing m) k b w
nothing_best m k b w h = record { it = tt; rest = w; solid = refl; spells = refl; goes = rw or-false h; top = λ y z ok ex hx. inl refl }

unfoldable pub letter_best : (m : Label) (c : ℕ) (k : After) (b : Bool) (x : ℕ) (w : List ℕ) → (eqb c x && k true w) ≡ true → BestOf (letter m c) k b (x ∷ w)
letter_best m c k b x w h = record {
  it = tt;
  rest = w;
  solid = refl;
  spells = ap (λ y. y ∷ w) (sym (eqb_eq c x (and_fst (eqb c x) (k true w) h)));
  goes = rw or-true (and_snd (eqb c x) (k true w) h);
  top = λ y z ok ex hx. inl refl;
}

unfoldable pub range_best : (m : Label) (low high : ℕ) (k : After) (b : Bool) (x : ℕ) (w : List ℕ) → (in_range low high x && k true w) ≡ true
    → BestOf (range m low high) k b (x ∷ w)
range_best m low high k b x w h = record {
  it = (x, and_fst (in_range low high x) (k true w) h);
  rest = w;
  solid = refl;
  spells = refl;
  goes = rw or-true (and_snd (in_range low high x) (k true w) h);
  top = λ y z ok ex hx. inl (Σ_prop_path (λ v. Bool-set (in_range low high v) true) (head-eq_of_cons-eq ex));
}

-- the rounds: j is what the sweep says behind a round, and says yes wherever more rounds fit
module _ {A : Type 0} (again : Bool) (f : A → List ℕ) (s : A → Bool) (d : A → List Bool) (c : After → After) (one : Complete f s c) where
  abbrev pub Rounds : After → Bool → List ℕ → Type 0
  Rounds k b w = Best (flat_rounds f) (nonproblematic_rounds f s) (code_rounds again d) k b w

  -- the stop, where 0 means another round only if none fits
  unfoldable pub stop_best : (k : After) (b : Bool) (w : List ℕ) → k b w ≡ true
      → (again ≡ false → (x : A) (xs : List A) (z : List ℕ) → nonproblematic_rounds f s (x ∷ xs) ≡ true → w ≡ (f x ++ flat_rounds f xs) ++ z
      → k (b || nonempty (f x ++ flat_rounds f xs)) z ≡ true → ⊥)
      → Rounds k b w
  stop_best k b w h no-fit = record {
    it = [];
    rest = w;
    solid = refl;
    spells = refl;
    goes = rw or-false h;
    top = elim [
      | [] ↦ λ z ok ex hx. inl refl
      | x ∷ xs ↦ λ z ok ex hx. inr
          (stop_before again [] (d x ++ code_rounds again d xs) (λ e. no-fit e x xs z ok ex hx))
    ];
  }

  module _ (k : After) (b : Bool) (w : List ℕ) (j : After)
      (more : (xs : List A) (z : List ℕ) → length (flat_rounds f xs ++ z) < length w → nonproblematic_rounds f s xs ≡ true → k true z ≡ true
      → j true (flat_rounds f xs ++ z) ≡ true) where
    -- what is known of the first round x and the others xs of a list that fits, with z behind it
    pub record Entered (x : A) (xs : List A) (z : List ℕ) : Type 0 where
      pub solid : s x ≡ true
      pub others : nonproblematic_rounds f s xs ≡ true
      pub spells : w ≡ f x ++ (flat_rounds f xs ++ z)
      pub ends : k true z ≡ true
      pub behind : after_round j (nonempty (f x)) (flat_rounds f xs ++ z) ≡ true

    pub enter : (x : A) (xs : List A) (z : List ℕ) → nonproblematic_rounds f s (x ∷ xs) ≡ true → w ≡ (f x ++ flat_rounds f xs) ++ z
        → k (b || nonempty (f x ++ flat_rounds f xs)) z ≡ true → Entered x xs z
    enter x xs z ok ex hx =
        let o = full_round f s x xs ok in
        let p : nonempty (f x) ≡ true = o.full in
        let hy : k true z ≡ true = simp (nonempty-append, p, or-true) at hx in
        record {
          solid = o.solid;
          others = o.others;
          spells = ex ∙ append_assoc (f x) (flat_rounds f xs) z;
          ends = hy;
          behind = after_round_yes j (nonempty (f x)) (flat_rounds f xs ++ z) p
              (more xs z (simp length-append (omega (arith, nonempty_pos (f x) p, simp length-append at (ap length ex)))) o.others hy);
        }

    unfoldable pub no_round : (again ≡ false → c (after_round j) false w ≡ false) → k b w ≡ true → Rounds k b w
    no_round o h = stop_best k b w h (λ e x xs z ok ex hx.
        let m = enter x xs z ok ex hx in
        not-both (ap (c (after_round j) false) m.spells ∙ one x (after_round j) false (flat_rounds f xs ++ z) m.solid m.behind) (o e))

    -- another round, where 1 means it only if the star cannot stop here
    unfoldable pub round_best : (again ≡ true → k b w ≡ false) → (p : Best f s d (after_round j) false w) → Rounds k true p.rest → Rounds k b w
    round_best o p q = record {
      it = p.it ∷ q.it;
      rest = q.rest;
      solid = and_intro (and_intro full p.solid) q.solid;
      spells = glue (f p.it) (flat_rounds f q.it) q.rest p.spells q.spells;
      goes = rw flag q.goes;
      top = elim [
        | [] ↦ λ z ok ex hx. inr (round-before again (d p.it ++ code_rounds again d q.it) [] (λ e. not-both (ap (k b) ex ∙ (rw or-false at hx)) (o e)))
        | x ∷ xs ↦ λ z ok ex hx.
            let m = enter x xs z ok ex hx in
            ⊎_elim (λ o. inl (λ i. o.0 i ∷ o.1 i))
            (λ l. inr (before_same again (d p.it ++ code_rounds again d q.it) (d x ++ code_rounds again d xs) ∙ l))
            (two_top d (code_rounds again d) p.it x q.it xs (p.top x (flat_rounds f xs ++ z) m.solid m.spells m.behind)
            (λ o. q.top xs z m.others (same_rest f p.it x w p.rest (flat_rounds f xs ++ z) p.spells m.spells o) m.ends))
      ];
    }
      where
        full : nonempty (f p.it) ≡ true
        full = after_round_full j (nonempty (f p.it)) p.rest p.goes

        flag : (b || nonempty (f p.it ++ flat_rounds f q.it)) ≡ true
        flag = simp (nonempty-append, full, or-true)

-- ── the second sweep ──
-- what the choice between another round and the stop must keep, for either meaning of the bit: a round only if one can be read, a stop only if it is allowed,
-- and the first of the two in the order of codes wherever both are
pub record Choice (again more stop onto : Bool) : Type 0 where
  pub round : onto ≡ true → more ≡ true
  pub halt : onto ≡ false → stop ≡ true
  pub late : onto ≡ true → again ≡ true → stop ≡ false
  pub no_more : onto ≡ false → again ≡ false → more ≡ false

pub choice : (again more stop : Bool) → (more || stop) ≡ true → Choice again more stop (another again more stop)
choice false true stop h = record { round = λ e. refl; halt = λ e. absurd (true≢false e); late = λ e o. absurd (false≢true o); no_more = λ e o. e }
choice false false stop h = record { round = λ e. e; halt = λ e. h; late = λ e o. absurd (false≢true o); no_more = λ e o. refl }
choice true more true h = record {
  round = λ e. absurd (false≢true e);
  halt = λ e. refl;
  late = λ e o. absurd (false≢true e);
  no_more = λ e o. absurd (true≢false o);
}
choice true more false h = record {
  round = λ e. (rw or-false at h);
  halt = λ e. absurd (true≢false e);
  late = λ e o. refl;
  no_more = λ e o. absurd (true≢false o);
}

-- what is written, whatever r writes behind it, is the code of the best
abbrev pub Wrote : {A : Type 0} (f : A → List ℕ) (s : A → Bool) (c : A → List Bool) (e : After → BitsAfter → BitsAfter) → After → Bool → List ℕ → Type 0
Wrote f s c e k b w = (p : Best f s c k b w) × ((r : BitsAfter) → e k r b w ≡ c p.it ++ r (b || nonempty (f p.it)) p.rest)

module _ {A : Type 0} (again : Bool) (f : A → List ℕ) (s : A → Bool) (d : A → List Bool) (c : After → After) (e : After → BitsAfter → BitsAfter)
    (one : Complete f s c) where
  behind : (n : ℕ) (k : After) (w : List ℕ) → length w ≤ suc n → (xs : List A) (z : List ℕ) → length (flat_rounds f xs ++ z) < length w
      → nonproblematic_rounds f s xs ≡ true → k true z ≡ true
      → can_rounds c n k true (flat_rounds f xs ++ z) ≡ true
  behind n k w le xs z lt ok h = rounds_complete f s c one n xs k true z (omega arith) ok h

  rounds_wrote : ((k : After) (b : Bool) (w : List ℕ) → c k b w ≡ true → Wrote f s d e k b w)
      → (n : ℕ) (k : After) (b : Bool) (w : List ℕ) → length w ≤ n → can_rounds c n k b w ≡ true
      → Wrote (flat_rounds f) (nonproblematic_rounds f s) (code_rounds again d) (write_rounds again c e n) k b w
  unfolding stop_best no_round round_best
  rounds_wrote best zero k b w le h = (
    stop_best again f s d c one k b w h (λ g x xs z ok ex hx.
        omega (arith, nonempty_pos (f x) (full_round f s x xs ok).full, simp length-append at (ap length ex))),
    λ r. rw or-false refl,
  )
  rounds_wrote best (suc n) k b w le h =
      go (rounds_wrote best n) (another again (c (after_round (can_rounds c n k)) false w) (k b w))
      (choice again (c (after_round (can_rounds c n k)) false w) (k b w) h)
    where
      go : ((k : After) (b : Bool) (w : List ℕ) → length w ≤ n → can_rounds c n k b w ≡ true
          → Wrote (flat_rounds f) (nonproblematic_rounds f s) (code_rounds again d) (write_rounds again c e n) k b w)
          → (a : Bool) → Choice again (c (after_round (can_rounds c n k)) false w) (k b w) a
          → (p : Best (flat_rounds f) (nonproblematic_rounds f s) (code_rounds again d) k b w) × ((r : BitsAfter) →
          cond a (again ∷ e (after_round (can_rounds c n k)) (λ g x. write_rounds again c e n k r true x) false w)
          (not again ∷ r b w) ≡ code_rounds again d p.it ++ r (b || nonempty (flat_rounds f p.it)) p.rest)
      go ih true o =
          let (p, pb) = best (after_round (can_rounds c n k)) false w (o.round refl) in
          let full : nonempty (f p.it) ≡ true = after_round_full (can_rounds c n k) (nonempty (f p.it)) p.rest p.goes in
          let (q, qb) = ih k true p.rest (omega (arith, nonempty_pos (f p.it) full, simp length-append at (ap length p.spells)))
          (after_round_on (can_rounds c n k) (nonempty (f p.it)) p.rest p.goes) in
          let flag : (b || nonempty (f p.it ++ flat_rounds f q.it)) ≡ true = simp (nonempty-append, full, or-true) in (
            round_best again f s d c one k b w (can_rounds c n k) (behind n k w le) (o.late refl) p q,
            λ r. ap (λ l. again ∷ l) (rw flag
                (glue (d p.it) (code_rounds again d q.it) (r true q.rest) (pb (λ g x. write_rounds again c e n k r true x)) (qb r))),
          )
      go ih false o = (no_round again f s d c one k b w (can_rounds c n k) (behind n k w le) (o.no_more refl) (o.halt refl), λ r. rw or-false refl)

pub wrote : (t : Tree) (k : After) (b : Bool) (w : List ℕ) → can t k b w ≡ true → Wrote (flat t) (nonproblematic t) (code t) (write t) k b w
unfolding nothing_best letter_best range_best seq_best right_best left_best
wrote (nothing m) k b w h = (nothing_best m k b w h, λ r. rw or-false refl)
wrote (letter m c) k b [] h = absurd (false≢true h)
wrote (letter m c) k b (x ∷ w) h = (letter_best m c k b x w h, λ r. rw or-true refl)
wrote (range m low high) k b [] h = absurd (false≢true h)
wrote (range m low high) k b (x ∷ w) h = (range_best m low high k b x w h, λ r. rw or-true refl)
wrote (seq m t u) k b w h =
    let (p, pb) = wrote t (can u k) b w h in
    let (q, qb) = wrote u k (b || nonempty (flat t p.it)) p.rest p.goes in (
      seq_best m t u k b w p q,
      λ r. rw (flag_join b (flat t p.it) (flat u q.it))
          (glue (code t p.it) (code u q.it) (r ((b || nonempty (flat t p.it)) || nonempty (flat u q.it)) q.rest) (pb (write u k r)) (qb r)),
    )
wrote (alt l t u) k b w h = go (wrote t k b w) (wrote u k b w) (can t k b w) refl h
  where
    go : (can t k b w ≡ true → Wrote (flat t) (nonproblematic t) (code t) (write t) k b w)
        → (can u k b w ≡ true → Wrote (flat u) (nonproblematic u) (code u) (write u) k b w)
        → (a : Bool) → can t k b w ≡ a → (a || can u k b w) ≡ true
        → (p : BestOf (alt l t u) k b w) × ((r : BitsAfter)
        → cond a (false ∷ write t k r b w) (true ∷ write u k r b w) ≡ code (alt l t u) p.it ++ r (b || nonempty (flat (alt l t u) p.it)) p.rest)
    go m n true e h = let (p, pb) = m e in (left_best l t u k b w p, λ r. ap (λ z. false ∷ z) (pb r))
    go m n false e h = let (p, pb) = n h in (right_best l t u k b w e p, λ r. ap (λ z. true ∷ z) (pb r))
wrote (star m again t) k b w h = rounds_wrote again (flat t) (nonproblematic t) (code t) (can t) (write t) (complete t) (wrote t)
    (suc (length w)) k b w (omega arith) h

pub best : (t : Tree) (k : After) (b : Bool) (w : List ℕ) → can t k b w ≡ true → BestOf t k b w
best t k b w h = (wrote t k b w h).0

-- ── a round and the stop with no fuel in them ──
module _ (m : Label) (again : Bool) (t : Tree) (k : After) (b : Bool) (w : List ℕ) where
  unfoldable pub star_round : (again ≡ true → k b w ≡ false) → (p : BestOf t (after_round (can (star m again t) k)) false w)
      → BestOf (star m again t) k true p.rest → BestOf (star m again t) k b w
  star_round o p q = round_best again (flat t) (nonproblematic t) (code t) (can t) (complete t) k b w (can (star m again t) k)
      (λ xs z lt ok h. complete (star m again t) xs k true z ok h) o p q

  unfoldable pub star_stop : (again ≡ false → can t (after_round (can (star m again t) k)) false w ≡ false) → k b w ≡ true → BestOf (star m again t) k b w
  star_stop o h = no_round again (flat t) (nonproblematic t) (code t) (can t) (complete t) k b w (can (star m again t) k)
      (λ xs z lt ok h. complete (star m again t) xs k true z ok h) o h
