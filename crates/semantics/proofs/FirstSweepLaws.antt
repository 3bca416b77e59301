-- LAWS of the first sweep: it says yes exactly if a value without an empty iteration spells a front of the letters and what follows accepts
-- the rest (001, lemma 2);
-- and its equation at a star, with no count of rounds in it.
use Rattle.std.proofs.Common.{◌∙◌, ap, sym, inl, inr, append_assoc, arith, length-append}
use Rattle.std.specs.Prelude.{◌≡◌, refl, ◌||◌, Bool, false, true, ◌↔◌, ◌⊎◌, ◌++◌, ◌∷◌, List, [], ◌≤◌, ℕ, length}
use Rattle.std.proofs.Math.Bool.{or-false, or-true}
use Rattle.syntax.specs.Tree.{Label, Tree, star}
use Rattle.semantics.specs.Value.{Value, nonempty, flat_rounds, flat, nonproblematic}
use Rattle.semantics.specs.Sweeps.{After, after_round, can}
use Rattle.semantics.proofs.Basics.{and_intro, or_left, or_right, or_cases, nonempty-append, glue}
use Rattle.semantics.proofs.CompleteLaws.{full_round, after_round_full, after_round_on, after_round_yes, complete}
use Rattle.semantics.proofs.SecondSweepLaws.{best}

pub bool_ext : (a b : Bool) → (a ≡ true → b ≡ true) → (b ≡ true → a ≡ true) → a ≡ b
bool_ext true b f g = sym (f refl)
bool_ext false true f g = g refl
bool_ext false false f g = refl

-- a value without an empty iteration spells a front of the letters, and what follows is allowed behind it
pub record Fits (t : Tree) (k : After) (b : Bool) (w : List ℕ) : Type 0 where
  pub it : Value t
  pub rest : List ℕ
  pub solid : nonproblematic t it ≡ true
  pub spells : w ≡ flat t it ++ rest
  pub goes : k (b || nonempty (flat t it)) rest ≡ true

pub can_iff : (t : Tree) (k : After) (b : Bool) (w : List ℕ) → (can t k b w ≡ true) ↔ Fits t k b w
can_iff t k b w = (
  λ h. let p = best t k b w h in record { it = p.it; rest = p.rest; solid = p.solid; spells = p.spells; goes = p.goes },
  λ p. ap (can t k b) p.spells ∙ complete t p.it k b p.rest p.solid p.goes,
)

-- of what may follow, only what it says of letters no more than these counts
pub can_mono : (t : Tree) (k j : After) (b : Bool) (w : List ℕ) → ((g : Bool) (x : List ℕ) → length x ≤ length w → k g x ≡ true → j g x ≡ true)
    → can t k b w ≡ true → can t j b w ≡ true
can_mono t k j b w m h =
    let p = (can_iff t k b w).0 h in
    (can_iff t j b w).1 (record {
      it = p.it;
      rest = p.rest;
      solid = p.solid;
      spells = p.spells;
      goes = m (b || nonempty (flat t p.it)) p.rest (omega (arith, simp length-append at (ap length p.spells))) p.goes;
    })

pub can_cong : (t : Tree) (k j : After) (b : Bool) (w : List ℕ) → ((g : Bool) (x : List ℕ) → length x ≤ length w → k g x ≡ j g x) → can t k b w ≡ can t j b w
can_cong t k j b w m = bool_ext (can t k b w) (can t j b w)
    (can_mono t k j b w (λ g x l h. sym (m g x l) ∙ h)) (can_mono t j k b w (λ g x l h. m g x l ∙ h))

-- with flag 1 the sweep says yes wherever it does with flag 0, if what follows does so too
pub can_flag : (t : Tree) (k : After) → ((w : List ℕ) → k false w ≡ true → k true w ≡ true) → (w : List ℕ) → can t k false w ≡ true → can t k true w ≡ true
can_flag t k m w h =
    let p = (can_iff t k false w).0 h in
    (can_iff t k true w).1 (record {
      it = p.it;
      rest = p.rest;
      solid = p.solid;
      spells = p.spells;
      goes = go (nonempty (flat t p.it)) p.rest p.goes;
    })
  where
    go : (b : Bool) (z : List ℕ) → k b z ≡ true → k true z ≡ true
    go true z e = e
    go false z e = m z e

-- at a star: another round, behind which the star goes on if the round has taken a letter, or the stop
pub can_star : (l : Label) (again : Bool) (t : Tree) (k : After) (b : Bool) (w : List ℕ)
    → can (star l again t) k b w ≡ (can t (after_round (can (star l again t) k)) false w || k b w)
can_star l again t k b w = bool_ext (can (star l again t) k b w) (can t (after_round (can (star l again t) k)) false w || k b w)
    (λ h. to ((can_iff (star l again t) k b w).0 h)) (λ h. from (or_cases (can t (after_round (can (star l again t) k)) false w) (k b w) h))
  where
    from_fit : (vs : List (Value t)) (r : List ℕ) → nonproblematic (star l again t) vs ≡ true → w ≡ flat (star l again t) vs ++ r
        → k (b || nonempty (flat (star l again t) vs)) r ≡ true → (can t (after_round (can (star l again t) k)) false w || k b w) ≡ true
    from_fit [] r ok e h = or_right (can t (after_round (can (star l again t) k)) false w) (ap (k b) e ∙ (rw or-false at h))
    from_fit (v ∷ vs) r ok e h =
        let o = full_round (flat t) (nonproblematic t) v vs ok in
        let m : nonempty (flat t v) ≡ true = o.full in
        or_left (k b w) (ap (can t (after_round (can (star l again t) k)) false) (e ∙ append_assoc (flat t v) (flat_rounds (flat t) vs) r)
        ∙ complete t v (after_round (can (star l again t) k)) false (flat_rounds (flat t) vs ++ r) o.solid
        (after_round_yes (can (star l again t) k) (nonempty (flat t v)) (flat_rounds (flat t) vs ++ r) m
        (complete (star l again t) vs k true r o.others (simp (nonempty-append, m, or-true) at h))))

    to : Fits (star l again t) k b w → (can t (after_round (can (star l again t) k)) false w || k b w) ≡ true
    to p = from_fit p.it p.rest p.solid p.spells p.goes

    from : (can t (after_round (can (star l again t) k)) false w ≡ true) ⊎
        ((can t (after_round (can (star l again t) k)) false w ≡ false) × (k b w ≡ true)) → can (star l again t) k b w ≡ true
    from (inl h) =
        let p = (can_iff t (after_round (can (star l again t) k)) false w).0 h in
        let m : nonempty (flat t p.it) ≡ true = after_round_full (can (star l again t) k) (nonempty (flat t p.it)) p.rest p.goes in
        let q = (can_iff (star l again t) k true p.rest).0 (after_round_on (can (star l again t) k) (nonempty (flat t p.it)) p.rest p.goes) in
        (can_iff (star l again t) k b w).1 (record {
          it = p.it ∷ q.it;
          rest = q.rest;
          solid = and_intro (and_intro m p.solid) q.solid;
          spells = glue (flat t p.it) (flat_rounds (flat t) q.it) q.rest p.spells q.spells;
          goes = simp (nonempty-append, m, or-true) q.goes;
        })
    from (inr h) = (can_iff (star l again t) k b w).1 (record { it = []; rest = w; solid = refl; spells = refl; goes = rw or-false h.1 })
