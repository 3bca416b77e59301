-- LAWS of the automaton: the first sweep decides its language, at every node and flag; what the second sweep writes at a node is the greatest value there.
use Rattle.std.proofs.Common.{◌∙◌, ap, subst, sym, inl, inr, ⊎_elim, append_assoc, arith}
use Rattle.std.specs.Prelude.{◌≡◌, refl, ◌&&◌, ◌||◌, Bool, false, not, true, ◌↔◌, ◌⊎◌, ◌++◌, ◌∷◌, List, [], ◌<◌, ◌≤◌, suc, ℕ}
use Rattle.std.proofs.lemmas.Bool.{false≢true}
use Rattle.std.proofs.Math.Bool.{or-false, or-true}
use Rattle.syntax.specs.Tree.{Label, Tree, nothing, letter, range, seq, alt, star}
use Rattle.semantics.specs.Passing.{loops, Passes, after, can_from}
use Rattle.semantics.specs.Value.{Value, nonempty, flat_rounds, flat, nonproblematic}
use Rattle.semantics.specs.Order.{less}
use Rattle.semantics.specs.Code.{code}
use Rattle.semantics.specs.Automaton.{Location, top, fst, snd, lft, rgt, rnd, State, end, at, follower, Above, Guarded, Reads, letter_leaf}
use Rattle.semantics.specs.Automaton.{range_leaf, Moves, to_first, to_left, to_right, to_round, skip, leave, Accepts, done, reads, moves}
use Rattle.semantics.specs.Sweeps.{After, after_round, can, BitsAfter, write, at_end, readable}
use Rattle.semantics.proofs.Basics.{and_fst, and_snd, and_intro, or_left, or_right, eqb_self, nonempty-append, flag_join}
use Rattle.semantics.proofs.OrderLaws.{less_iff_before-along}
use Rattle.semantics.proofs.CompleteLaws.{full_round, after_round_full, after_round_on}
use Rattle.semantics.specs.Greatest.{BestOf}
use Rattle.semantics.proofs.SecondSweepLaws.{wrote, best}
use Rattle.semantics.proofs.FirstSweepLaws.{can_iff, can_flag, can_star}

guard : (l b : Bool) → (l ≡ true → b ≡ true) → (not l || b) ≡ true
guard true b f = f refl
guard false b f = refl

-- ── whether the follower is a star above, computed ──
module _ {root : Tree} where
  pub loops-above : {t : Tree} (s : Location root t) → loops s ≡ true → Above (follower s) s
  loops-above top h = false≢true h
  loops-above (fst s) h = absurd (false≢true h)
  loops-above (snd s) h = inr (loops-above s h)
  loops-above (lft s) h = inr (loops-above s h)
  loops-above (rgt s) h = inr (loops-above s h)
  loops-above (rnd s) h = inl refl

  -- how far below the end a state is: a node is further down than what is above it
  abbrev depth_of : {t : Tree} → Location root t → ℕ
  depth_of top = 1
  depth_of (fst s) = suc (depth_of s)
  depth_of (snd s) = suc (depth_of s)
  depth_of (lft s) = suc (depth_of s)
  depth_of (rgt s) = suc (depth_of s)
  depth_of (rnd s) = suc (depth_of s)

  abbrev depth : State root → ℕ
  depth end = 0
  depth (at t s) = depth_of s

  abbrev is_first : {t : Tree} → Location root t → Bool
  is_first top = false
  is_first (fst s) = true
  is_first (snd s) = false
  is_first (lft s) = false
  is_first (rgt s) = false
  is_first (rnd s) = false

  abbrev first_part : State root → Bool
  first_part end = false
  first_part (at t s) = is_first s

  step_up : (q p : State root) (d : ℕ) → depth p ≡ d → (q ≡ p) ⊎ (depth q < d) → depth q < suc d
  step_up q p d e (inl f) = omega (arith, ap depth f)
  step_up q p d e (inr h) = omega arith

  above_depth : (q : State root) {t : Tree} (s : Location root t) → Above q s → depth q < depth_of s
  above_depth q top a = absurd a
  above_depth q (fst {l = l} {t = t} {u = u} s) a = step_up q (at (seq l t u) s) (depth_of s) refl (⊎_elim inl (λ b. inr (above_depth q s b)) a)
  above_depth q (snd {l = l} {t = t} {u = u} s) a = step_up q (at (seq l t u) s) (depth_of s) refl (⊎_elim inl (λ b. inr (above_depth q s b)) a)
  above_depth q (lft {l = l} {t = t} {u = u} s) a = step_up q (at (alt l t u) s) (depth_of s) refl (⊎_elim inl (λ b. inr (above_depth q s b)) a)
  above_depth q (rgt {l = l} {t = t} {u = u} s) a = step_up q (at (alt l t u) s) (depth_of s) refl (⊎_elim inl (λ b. inr (above_depth q s b)) a)
  above_depth q (rnd {l = l} {again = again} {t = t} s) a = step_up q (at (star l again t) s) (depth_of s) refl (⊎_elim inl (λ b. inr (above_depth q s b)) a)

  follower-depth : {t : Tree} (s : Location root t) → depth (follower s) ≤ depth_of s
  follower-depth top = omega arith
  follower-depth (fst s) = omega arith
  follower-depth (snd s) = omega (arith, follower-depth s)
  follower-depth (lft s) = omega (arith, follower-depth s)
  follower-depth (rgt s) = omega (arith, follower-depth s)
  follower-depth (rnd s) = omega arith

  -- no node is its own follower
  follower_other : {t : Tree} (s : Location root t) → follower s ≡ at t s → ⊥
  follower_other top e = omega (arith, ap depth e)
  follower_other (fst s) e = false≢true (ap first_part e)
  follower_other (snd s) e = omega (arith, follower-depth s, ap depth e)
  follower_other (lft s) e = omega (arith, follower-depth s, ap depth e)
  follower_other (rgt s) e = omega (arith, follower-depth s, ap depth e)
  follower_other (rnd s) e = omega (arith, ap depth e)

  pub above-loops : {t : Tree} (s : Location root t) → Above (follower s) s → loops s ≡ true
  above-loops top a = absurd a
  above-loops (fst {t = t} {u = u} s) a = absurd (omega (arith, above_depth (at u (snd s)) (fst {t = t} s) a))
  above-loops (snd s) a = ⊎_elim (λ e. absurd (follower_other s e)) (λ b. above-loops s b) a
  above-loops (lft s) a = ⊎_elim (λ e. absurd (follower_other s e)) (λ b. above-loops s b) a
  above-loops (rgt s) a = ⊎_elim (λ e. absurd (follower_other s e)) (λ b. above-loops s b) a
  above-loops (rnd s) a = refl

  pub guarded_iff : {t : Tree} (s : Location root t) (b : Bool) → Guarded s b ↔ Passes s b
  guarded_iff s b = (λ f e. f (loops-above s e), λ f a. f (above-loops s a))

module _ {root : Tree} where
  -- by the follower: 001's guard where that is a star above
  pub after-follower : {t : Tree} (s : Location root t) (b : Bool) (w : List ℕ) → after s b w ≡ ((not (loops s) || b) && can_from (follower s) b w)
  after-follower top b w = refl
  after-follower (fst s) b w = refl
  after-follower (snd s) b w = after-follower s b w
  after-follower (lft s) b w = after-follower s b w
  after-follower (rgt s) b w = after-follower s b w
  after-follower (rnd s) true w = refl
  after-follower (rnd s) false w = refl

  follows : {t : Tree} (s : Location root t) (b : Bool) (w : List ℕ) → Guarded s b → can_from (follower s) b w ≡ true → after s b w ≡ true
  follows s b w f h = after-follower s b w ∙ and_intro (guard (loops s) b ((guarded_iff s b).0 f)) h

  -- a value without an empty iteration is a path through its node to the follower
  rounds_accept : (l : Label) (again : Bool) (t : Tree) (s : Location root (star l again t))
      → ((v : Value t) (b : Bool) (w : List ℕ) → nonproblematic t v ≡ true → Passes (rnd s) (b || nonempty (flat t v))
      → Accepts root (at (star l again t) s) (b || nonempty (flat t v)) w → Accepts root (at t (rnd s)) b (flat t v ++ w))
      → (vs : List (Value t)) (b : Bool) (w : List ℕ) → nonproblematic (star l again t) vs ≡ true → Passes s (b || nonempty (flat (star l again t) vs))
      → Accepts root (follower s) (b || nonempty (flat (star l again t) vs)) w → Accepts root (at (star l again t) s) b (flat (star l again t) vs ++ w)
  rounds_accept l again t s one [] b w ok f r = moves (leave ((guarded_iff s b).1 (rw or-false at f))) (rw or-false at r)
  rounds_accept l again t s one (v ∷ vs) b w ok f r =
      let o = full_round (flat t) (nonproblematic t) v vs ok in
      let m : nonempty (flat t v) ≡ true = o.full in
      rw append_assoc (moves to_round (one v false (flat_rounds (flat t) vs ++ w) o.solid (λ e. m)
      (rw m (rounds_accept l again t s one vs true w o.others (λ e. refl) (simp (nonempty-append, m, or-true) at r)))))

  value_accept : (t : Tree) (s : Location root t) (v : Value t) (b : Bool) (w : List ℕ) → nonproblematic t v ≡ true → Passes s (b || nonempty (flat t v))
      → Accepts root (follower s) (b || nonempty (flat t v)) w → Accepts root (at t s) b (flat t v ++ w)
  value_accept (nothing l) s v b w ok f r = moves (skip ((guarded_iff s b).1 (rw or-false at f))) (rw or-false at r)
  value_accept (letter l c) s v b w ok f r = reads letter_leaf (rw or-true at r)
  value_accept (range l low high) s v b w ok f r = reads (range_leaf v.1) (rw or-true at r)
  value_accept (seq l t u) s v b w ok f r =
      rw append_assoc (moves to_first
      (value_accept t (fst s) v.0 b (flat u v.1 ++ w) (and_fst (nonproblematic t v.0) (nonproblematic u v.1) ok) (λ e. absurd (false≢true e))
      (value_accept u (snd s) v.1 (b || nonempty (flat t v.0)) w (and_snd (nonproblematic t v.0) (nonproblematic u v.1) ok)
      (rw (flag_join b (flat t v.0) (flat u v.1)) at f) (rw (flag_join b (flat t v.0) (flat u v.1)) at r))))
  value_accept (alt l t u) s (inl v) b w ok f r = moves to_left (value_accept t (lft s) v b w ok f r)
  value_accept (alt l t u) s (inr v) b w ok f r = moves to_right (value_accept u (rgt s) v b w ok f r)
  value_accept (star l again t) s vs b w ok f r = rounds_accept l again t s (value_accept t (rnd s)) vs b w ok f r

  end_accept : (g : Bool) (w : List ℕ) → at_end g w ≡ true → Accepts root end g w
  end_accept true [] h = done
  end_accept false [] h = absurd (false≢true h)
  end_accept g (x ∷ w) h = absurd (false≢true h)

  fits_accept : (t : Tree) (s : Location root t) (b : Bool) (w : List ℕ)
      → ((g : Bool) (x : List ℕ) → after s g x ≡ true → Accepts root (follower s) g x × Passes s g)
      → can t (after s) b w ≡ true → Accepts root (at t s) b w
  fits_accept t s b w k h =
      let p = (can_iff t (after s) b w).0 h in
      let (r, f) = k (b || nonempty (flat t p.it)) p.rest p.goes in
      subst (Accepts root (at t s) b) (sym p.spells) (value_accept t s p.it b p.rest p.solid f r)

  after_accept : {t : Tree} (s : Location root t) (g : Bool) (w : List ℕ) → after s g w ≡ true → Accepts root (follower s) g w × Passes s g
  after_accept top g w h = (end_accept g w h, λ e. absurd (false≢true e))
  after_accept (fst {u = u} s) g w h = (fits_accept u (snd s) g w (λ g x h. after_accept s g x h) h, λ e. absurd (false≢true e))
  after_accept (snd s) g w h = after_accept s g w h
  after_accept (lft s) g w h = after_accept s g w h
  after_accept (rgt s) g w h = after_accept s g w h
  after_accept (rnd {l = l} {again = again} {t = t} s) g w h =
      let e : g ≡ true = after_round_full (can (star l again t) (after s)) g w h in
      (rw e (fits_accept (star l again t) s true w (λ g x h. after_accept s g x h) (after_round_on (can (star l again t) (after s)) g w h)), λ _. e)

  -- and back: each step of the automaton keeps what the first sweep says
  moves_can : {q r : State root} {b g : Bool} (w : List ℕ) → Moves root q b r g → can_from r g w ≡ true → can_from q b w ≡ true
  moves_can w to_first h = h
  moves_can w (to_left {t = t} {u = u} {s = s} {b = b}) h = or_left (can u (after s) b w) h
  moves_can w (to_right {t = t} {u = u} {s = s} {b = b}) h = or_right (can t (after s) b w) h
  moves_can w (to_round {l = l} {again = again} {t = t} {s = s} {b = b}) h = can_star l again t (after s) b w ∙ or_left (after s b w) h
  moves_can w (skip {s = s} {b = b} f) h = follows s b w f h
  moves_can w (leave {l = l} {again = again} {t = t} {s = s} {b = b} f) h =
      can_star l again t (after s) b w ∙ or_right (can t (after_round (can (star l again t) (after s))) false w) (follows s b w f h)

  reads-can : {q r : State root} {c : ℕ} (b : Bool) (w : List ℕ) → Reads root q c r → can_from r true w ≡ true → can_from q b (c ∷ w) ≡ true
  reads-can b w (letter_leaf {c = c} {s = s}) h = and_intro (eqb_self c) (follows s true w (λ e. refl) h)
  reads-can b w (range_leaf {s = s} e) h = and_intro e (follows s true w (λ e. refl) h)

  accepts_can : {q : State root} {b : Bool} {w : List ℕ} → Accepts root q b w → can_from q b w ≡ true
  accepts_can done = refl
  accepts_can (reads {b = b} {w = w} x r) = reads-can b w x (accepts_can r)
  accepts_can (moves {w = w} x r) = moves_can w x (accepts_can r)

  -- at every node and flag: the first sweep says yes exactly if the letters are in the language of the node with that flag
  pub can_iff_accepts : (t : Tree) (s : Location root t) (b : Bool) (w : List ℕ) → (can t (after s) b w ≡ true) ↔ Accepts root (at t s) b w
  can_iff_accepts t s b w = (fits_accept t s b w (after_accept s), accepts_can)

  -- the same for every state, the end among them
  pub can_from_iff : (q : State root) (b : Bool) (w : List ℕ) → (can_from q b w ≡ true) ↔ Accepts root q b w
  can_from_iff end b w = (end_accept b w, accepts_can)
  can_from_iff (at t s) b w = can_iff_accepts t s b w

  -- 001, lemma 2: the language of a node, by what its values without an empty iteration spell and by the language of its follower
  pub record Through (t : Tree) (s : Location root t) (b : Bool) (w : List ℕ) : Type 0 where
    pub it : Value t
    pub rest : List ℕ
    pub solid : nonproblematic t it ≡ true
    pub spells : w ≡ flat t it ++ rest
    pub guarded : Guarded s (b || nonempty (flat t it))
    pub goes : Accepts root (follower s) (b || nonempty (flat t it)) rest

  pub accepts_iff_through : (t : Tree) (s : Location root t) (b : Bool) (w : List ℕ) → Accepts root (at t s) b w ↔ Through t s b w
  accepts_iff_through t s b w = (
    λ r.
        let p = (can_iff t (after s) b w).0 (accepts_can r) in
        let (g, f) = after_accept s (b || nonempty (flat t p.it)) p.rest p.goes in
        record { it = p.it; rest = p.rest; solid = p.solid; spells = p.spells; guarded = (guarded_iff s (b || nonempty (flat t p.it))).1 f; goes = g },
    λ p. subst (Accepts root (at t s) b) (sym p.spells)
        (value_accept t s p.it b p.rest p.solid ((guarded_iff s (b || nonempty (flat t p.it))).0 p.guarded) p.goes),
  )

  -- 001, proposition 4: where the letters are in the language of a node with a flag, the second sweep writes there the code of the greatest of the values
  -- without an empty iteration that lead through the node, and goes on behind it with what is left
  pub record Greatest (t : Tree) (s : Location root t) (b : Bool) (w : List ℕ) : Type 0 where
    pub best : Through t s b w
    pub greatest : (x : Through t s b w) → (x.it ≡ best.it) ⊎ less t x.it best.it
    pub bits : (r : BitsAfter) → write t (after s) r b w ≡ code t best.it ++ r (b || nonempty (flat t best.it)) best.rest

  pub write_greatest : (t : Tree) (s : Location root t) (b : Bool) (w : List ℕ) → Accepts root (at t s) b w → Greatest t s b w
  write_greatest t s b w a = record {
    best = record {
      it = p.it;
      rest = p.rest;
      solid = p.solid;
      spells = p.spells;
      guarded = (guarded_iff s (b || nonempty (flat t p.it))).1 g.1;
      goes = g.0;
    };
    greatest = λ x. ⊎_elim (λ e. inl (sym e)) (λ l. inr ((less_iff_before-along t p.it x.it p.rest x.rest (sym p.spells ∙ x.spells)).1 l))
        (p.top x.it x.rest x.solid x.spells (follows s (b || nonempty (flat t x.it)) x.rest x.guarded (accepts_can x.goes)));
    bits = (wrote t (after s) b w (accepts_can a)).1;
  }
    where
      p : BestOf t (after s) b w
      p = (wrote t (after s) b w (accepts_can a)).0

      g : Accepts root (follower s) (b || nonempty (flat t p.it)) p.rest × Passes s (b || nonempty (flat t p.it))
      g = after_accept s (b || nonempty (flat t p.it)) p.rest p.goes

  -- 001: monotonic in the flag. What is in the language of a node with flag 0 is in that with flag 1.
  after_flag : {t : Tree} (s : Location root t) (w : List ℕ) → after s false w ≡ true → after s true w ≡ true
  after_flag top [] h = refl
  after_flag top (c ∷ w) h = h
  after_flag (fst {u = u} s) w h = can_flag u (after s) (λ x e. after_flag s x e) w h
  after_flag (snd s) w h = after_flag s w h
  after_flag (lft s) w h = after_flag s w h
  after_flag (rgt s) w h = after_flag s w h
  after_flag (rnd s) w h = absurd (false≢true h)

  pub accepts_flag : (t : Tree) (s : Location root t) (w : List ℕ) → Accepts root (at t s) false w → Accepts root (at t s) true w
  accepts_flag t s w a = (can_iff_accepts t s true w).0 (can_flag t (after s) (after_flag s) w (accepts_can a))

-- at the root with flag 1: some value spells the tape
pub accepts_iff_readable : (t : Tree) (w : List ℕ) → Accepts t (at t top) true w ↔ (readable t w ≡ true)
unfolding readable
accepts_iff_readable t w = ((can_iff_accepts t top true w).1, (can_iff_accepts t top true w).0)
