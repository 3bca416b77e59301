-- WHERE A TAPE RESUMES: the letters from a position on end some tape exactly if its state sets are not empty. The tape's end is left out: no letters
-- always end a tape, and its state set may be empty.
use Rattle.std.specs.Prelude.{◌≡◌, refl, Bool, true, false, cond, ◌↔◌, List, [], ◌∷◌, ℕ, zero, suc, ◌≤◌, ◌<◌, length, drop}
use Rattle.std.proofs.Common.{sym, ap, ◌∙◌, arith}
use Rattle.std.proofs.Math.Decide.{dec_lt}
use Rattle.syntax.specs.declared.Pattern.{Pattern}
use Rattle.syntax.specs.Tree.{index}
use Rattle.syntax.specs.Trees.{root}
use Rattle.syntax.specs.TreeLaws.{Rules}
use Rattle.bits.specs.Bits.{test_bit}
use Rattle.semantics.proofs.Basics.{not-both}
use Rattle.semantics.specs.Begins.{Ends, Resumes}
use Rattle.semantics.proofs.BeginLaws.{root_stocked}
use Rattle.semantics.specs.Passing.{OpenNode}
use Rattle.semantics.proofs.EndLaws.{ends_none, ends_open_iff}
use Rattle.table.specs.Cells.{NodeAt}
use Rattle.masks.specs.Nodes.{node_at}
use Rattle.masks.specs.Planting.{root_planted}
use Rattle.steps.specs.StateSets.{state_set}
use Rattle.steps.specs.StateLaws.{state_bit, state_fits, state_set_is}
use Rattle.steps.specs.Steps.{place_lt}
use Rattle.reach.specs.FrontWords.{has_any}
use Rattle.reach.specs.FrontWordLaws.{any_in, any_out, any-bit}

module _ (p : Pattern) (r : Rules p) where
  -- a state set is not empty exactly if some node is open
  pub state_open_iff : (b : Bool) (w : List ℕ) → (has_any (state_set p b w) ≡ true) ↔ OpenNode (root p) b w
  state_open_iff b w = (
    λ h. to (any_out 64 (test_bit (state_set p b w)) (sym (any-bit (state_set p b w) (state_fits p r b w)) ∙ h)),
    λ n.
        let few = r.few in
        any-bit (state_set p b w) (state_fits p r b w)
        ∙ any_in 64 (test_bit (state_set p b w)) (index n.tree) (omega (arith, place_lt p r n.place))
        (state_bit p r b w n.tree n.place ∙ n.goes),
  )
    where
      found : (y : ℕ) → test_bit (state_set p b w) y ≡ true → NodeAt (root p) y → OpenNode (root p) b w
      found y f q = record {
        tree = q.tree;
        place = q.place;
        goes = sym (state_bit p r b w q.tree q.place) ∙ ap (test_bit (state_set p b w)) q.is ∙ f;
      }

      to : (y : ℕ) × (y < 64) × (test_bit (state_set p b w) y ≡ true) → OpenNode (root p) b w
      to (y, l, f) = go (dec_lt y p.count)
        where
          go : Dec (y < p.count) → OpenNode (root p) b w
          go (yes k) = found y f (node_at (root_planted p r) y k)
          go (no k) = absurd (not-both f ((state_set_is p r b w).past y (omega arith)))

  -- LETTERS, AT LEAST ONE, END A TAPE EXACTLY IF THEIR STATE SET IS NOT EMPTY, with either flag
  pub state_ends_iff : (b : Bool) (c : ℕ) (w : List ℕ) → (has_any (state_set p b (c ∷ w)) ≡ true) ↔ Ends (root p) (c ∷ w)
  state_ends_iff b c w =
      let s = state_open_iff b (c ∷ w) in
      let o = ends_open_iff (root_stocked p r) b c w in
      (λ h. o.1 (s.0 h), λ e. s.1 (o.0 e))

-- the first position whose flag 1 state set is not empty, the tape's end if there is none before it
unfoldable pub resume_of : Pattern → (tape : List ℕ) → ℕ
resume_of p [] = 0
resume_of p (c ∷ w) = cond (has_any (state_set p true (c ∷ w))) 0 (suc (resume_of p w))

-- it is where the tape resumes
pub resume_of_resumes : (p : Pattern) → Rules p → (tape : List ℕ) → Resumes (root p) tape (resume_of p tape)
unfolding resume_of
resume_of_resumes p r [] = record { within = omega arith; ends = ends_none (root p) (root_stocked p r); first = λ j h e. omega arith }
resume_of_resumes p r (c ∷ w) = go (has_any (state_set p true (c ∷ w))) refl (resume_of_resumes p r w)
  where
    later : (i : ℕ) → Resumes (root p) w i → has_any (state_set p true (c ∷ w)) ≡ false → (j : ℕ) → j ≤ suc (length w)
        → Ends (root p) (drop j (c ∷ w)) → suc i ≤ j
    later i q h zero l e = absurd (not-both ((state_ends_iff p r true c w).1 e) h)
    later i q h (suc j) l e = omega (arith, q.first j (omega arith) e)

    go : (b : Bool) → has_any (state_set p true (c ∷ w)) ≡ b → Resumes (root p) w (resume_of p w)
        → Resumes (root p) (c ∷ w) (cond b 0 (suc (resume_of p w)))
    go true h q = record { within = omega arith; ends = (state_ends_iff p r true c w).0 h; first = λ j l e. omega arith }
    go false h q = record { within = omega (arith, q.within); ends = q.ends; first = later (resume_of p w) q h }
