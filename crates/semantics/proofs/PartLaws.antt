-- LAWS of the second sweep by parts: from the best value of a node, those of its parts. What a function that writes by recursion into parts leans on.
use Rattle.std.proofs.Common.{◌∙◌, ap, sym, inl, inr}
use Rattle.std.specs.Prelude.{◌≡◌, ◌||◌, Bool, ◌∷◌, List, [], ℕ}
use Rattle.std.proofs.Math.Bool.{false, true}
use Rattle.syntax.specs.Tree.{Label, Tree, seq, alt, star}
use Rattle.semantics.specs.Greatest.{goes_on}
use Rattle.semantics.specs.Value.{nonempty, flat}
use Rattle.semantics.specs.Sweeps.{After, after_round, can, another}
use Rattle.semantics.proofs.Basics.{and_fst, and_snd, same_rest}
use Rattle.semantics.proofs.CompleteLaws.{complete}
use Rattle.semantics.proofs.FirstSweepLaws.{can_star}
use Rattle.semantics.specs.Greatest.{Best, BestOf}
use Rattle.semantics.proofs.SecondSweepLaws.{best, best_unique, seq_best, left_best, right_best, star_round, star_stop, round_best}
use Rattle.semantics.proofs.SecondSweepLaws.{no_round, stop_best, Choice, choice}

-- all bests leave the same letters
pub best-rest : {A : Type 0} {f : A → List ℕ} {s : A → Bool} {c : A → List Bool} {k : After} {b : Bool} {w : List ℕ} (p q : Best f s c k b w)
    → p.rest ≡ q.rest
best-rest {f = f} {w = w} p q = same_rest f p.it q.it w p.rest q.rest p.spells q.spells (best_unique p q)

pub best-can : (t : Tree) (k : After) (b : Bool) (w : List ℕ) → BestOf t k b w → can t k b w ≡ true
best-can t k b w p = ap (can t k b) p.spells ∙ complete t p.it k b p.rest p.solid p.goes

module _ (m : Label) (t u : Tree) (k : After) (b : Bool) (w : List ℕ) where
  -- `S`: the best of the first part, then the best of the second from there on
  pub record SeqParts (P : BestOf (seq m t u) k b w) : Type 0 where
    pub one : BestOf t (can u k) b w
    pub two : BestOf u k (b || nonempty (flat t one.it)) one.rest
    pub it : P.it ≡ (one.it, two.it)
    pub rest : P.rest ≡ two.rest

  pub seq_parts : (P : BestOf (seq m t u) k b w) → SeqParts P
  seq_parts P =
      let p = best t (can u k) b w (best-can (seq m t u) k b w P) in
      let q = best u k (b || nonempty (flat t p.it)) p.rest p.goes in
      record {
        one = p;
        two = q;
        it = unfold seq_best in best_unique P (seq_best m t u k b w p q);
        rest = unfold seq_best in best-rest P (seq_best m t u k b w p q);
      }

  -- `A`: the left side where it can be read
  pub left-part : (P : BestOf (alt m t u) k b w) → can t k b w ≡ true → (p : BestOf t k b w) × (P.it ≡ inl p.it) × (P.rest ≡ p.rest)
  unfolding left_best
  left-part P h = let p = best t k b w h in (p, best_unique P (left_best m t u k b w p), best-rest P (left_best m t u k b w p))

  pub right-part : (P : BestOf (alt m t u) k b w) → can t k b w ≡ false → (p : BestOf u k b w) × (P.it ≡ inr p.it) × (P.rest ≡ p.rest)
  unfolding right_best
  right-part P h =
      let p = best u k b w (rw h at (best-can (alt m t u) k b w P)) in
      (p, best_unique P (right_best m t u k b w h p), best-rest P (right_best m t u k b w h p))

-- another round exactly if `another` says so, by what the state sets say of a round and of the stop
module _ (m : Label) (again : Bool) (t : Tree) (k : After) (b : Bool) (w : List ℕ) where
  chosen : BestOf (star m again t) k b w → Choice again (can t (after_round (can (star m again t) k)) false w) (k b w) (goes_on m again t k b w)
  chosen P = choice again (can t (after_round (can (star m again t) k)) false w) (k b w) (sym (can_star m again t k b w) ∙ best-can (star m again t) k b w P)

  pub record RoundParts (P : BestOf (star m again t) k b w) : Type 0 where
    pub one : BestOf t (after_round (can (star m again t) k)) false w
    pub full : nonempty (flat t one.it) ≡ true
    pub more : BestOf (star m again t) k true one.rest
    pub it : P.it ≡ one.it ∷ more.it
    pub rest : P.rest ≡ more.rest

  pub round-parts : (P : BestOf (star m again t) k b w) → goes_on m again t k b w ≡ true → RoundParts P
  unfolding star_round round_best
  round-parts P h =
      let p = best t (after_round (can (star m again t) k)) false w ((chosen P).round h) in
      let q = best (star m again t) k true p.rest (and_snd (nonempty (flat t p.it)) (can (star m again t) k true p.rest) p.goes) in
      let r = star_round m again t k b w ((chosen P).late h) p q in
      record {
        one = p;
        full = and_fst (nonempty (flat t p.it)) (can (star m again t) k true p.rest) p.goes;
        more = q;
        it = best_unique P r;
        rest = best-rest P r;
      }

  pub stop_part : (P : BestOf (star m again t) k b w) → goes_on m again t k b w ≡ false → (P.it ≡ []) × (P.rest ≡ w)
  unfolding star_stop no_round stop_best
  stop_part P h = let r = star_stop m again t k b w ((chosen P).no_more h) ((chosen P).halt h) in (best_unique P r, best-rest P r)
