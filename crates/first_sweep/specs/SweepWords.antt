-- The words of all positions in order, each from the next; over the masks of a pattern they are the words of the definition.
use Rattle.std.specs.Prelude.{◌≡◌, refl, true, false, List, [], ◌∷◌, ℕ, ◌+◌, ◌*◌, length, get_or}
use Rattle.std.proofs.Common.{sym, ap, ap₂, ◌∙◌, arith}
use Rattle.syntax.specs.declared.Pattern.{Pattern}
use Rattle.syntax.specs.Letter.{is_letter}
use Rattle.syntax.specs.Trees.{root}
use Rattle.syntax.specs.TreeLaws.{Rules}
use Rattle.semantics.specs.Sweeps.{at_end}
use Rattle.table.specs.Cells.{Holds}
use Rattle.masks.specs.Leaves.{entry}
use Rattle.masks.specs.Masks.{MasksOf}
use Rattle.steps.specs.StateSets.{state_set, words}
use Rattle.steps.specs.Steps.{state_end, stepped-right, step_of, step-stepped}
use Rattle.first_sweep.specs.Sweep.{put}

-- the flag 1 word of the first position
abbrev pub first_one : List ℕ → ℕ
first_one ws = get_or ws 1 0

-- over masks as they are stored. takers: by the letter; end: the flag 1 word of the tape's end
abbrev pub sweep_of : (zero one table takers : List ℕ) → (end : ℕ) → (tape : List ℕ) → List ℕ
sweep_of zs os ts ks e [] = 0 ∷ e ∷ []
sweep_of zs os ts ks e (c ∷ w) = put (step_of zs os ts (entry ks c) (first_one (sweep_of zs os ts ks e w)) (at_end true w)) (sweep_of zs os ts ks e w)

pub sweep_length : (zs os ts ks : List ℕ) (e : ℕ) (w : List ℕ) → length (sweep_of zs os ts ks e w) ≡ 2 * (length w + 1)
sweep_length zs os ts ks e [] = refl
sweep_length zs os ts ks e (c ∷ w) = omega (arith, sweep_length zs os ts ks e w)

-- every letter of a tape is one
abbrev pub AllLetters : List ℕ → Type 0
AllLetters [] = Unit {0}
AllLetters (c ∷ w) = (is_letter c ≡ true) × AllLetters w

pub first_word : (p : Pattern) (w : List ℕ) → first_one (words p w) ≡ state_set p true w
first_word p [] = refl
first_word p (c ∷ w) = refl

module _ (p : Pattern) (r : Rules p) (zs os ts ks : List ℕ) (e : ℕ) (held : Holds p ts) (good : MasksOf (root p) p.count zs os ks e) where
  -- one position from the next, over the stored masks: the step from a state set
  pub step_words : (c : ℕ) (w : List ℕ) → is_letter c ≡ true
      → step_of zs os ts (entry ks c) (state_set p true w) (at_end true w) ≡ record { zero = state_set p false (c ∷ w); one = state_set p true (c ∷ w) }
  step_words c w h =
      step-stepped p r zs os ts ks e held good c (state_set p true w) (at_end true w) h
      ∙ ap₂ (λ x y. record { zero = x; one = y }) (stepped-right p r false c w) (stepped-right p r true c w)

  -- THE FILL over the masks of a pattern is the words of the definition
  pub sweep_words : (w : List ℕ) → AllLetters w → sweep_of zs os ts ks e w ≡ words p w
  sweep_words [] h = ap₂ (λ x y. x ∷ y ∷ []) (sym (state_end p r false)) (good.leaves.ends ∙ sym (state_end p r true))
  sweep_words (c ∷ w) h =
      ap (λ ws. put (step_of zs os ts (entry ks c) (first_one ws) (at_end true w)) ws) (sweep_words w h.1)
      ∙ ap (λ k. put (step_of zs os ts (entry ks c) k (at_end true w)) (words p w)) (first_word p w)
      ∙ ap (λ s. put s (words p w)) (step_words c w h.0)
