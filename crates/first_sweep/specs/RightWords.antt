-- WORDS THAT ARE RIGHT STAY SO. 02, Job 6: "If before a call the marks are those of the joined letters under its table, they are so after it".
-- One law for each way in which the letters held change: none are held, a page is put before them, the last page put is withdrawn.
use Rattle.std.specs.Prelude.{◌≡◌, refl, true, List, [], ◌∷◌, ◌++◌, ℕ, suc, ◌+◌, ◌-◌, ◌*◌, ◌≤◌, eqb, length, get_or, take, drop}
use Rattle.std.proofs.Common.{sym, ap₂, ◌∙◌, arith, ne_eqb, length-append, length-take-le, take_at, take-take, get_or-take}
use Rattle.std.proofs.Math.Path.{ap}
use Rattle.std.proofs.lemmas.List.Edits.{sets, sets-eq}
use Rattle.syntax.specs.declared.Pattern.{Pattern}
use Rattle.syntax.specs.TreeLaws.{Rules}
use Rattle.bits.specs.Bits.{in_front}
use Rattle.semantics.specs.Sweeps.{at_end}
use Rattle.steps.specs.StateSets.{state_set}
use Rattle.first_sweep.specs.Tail.{tail_words, tail_at, tail_front}
use Rattle.first_sweep.specs.Grow.{step_by, grown, grown-length, tail_grown}

-- a buffer's first words are those of the letters held; what stands behind them does not matter
abbrev pub RightWords : Pattern → (held words : List ℕ) → Type 0
RightWords p w words = take (2 * (length w + 1)) words ≡ tail_words p w

module _ (p : Pattern) where
  pub end_right : (old new : List ℕ) → new ≡ in_front (tail_words p []) old → RightWords p [] new
  unfolding in_front
  end_right old new e = ap (take 2) e

  pub withdrawn_right : (page w words : List ℕ) → RightWords p (page ++ w) words → RightWords p w words
  withdrawn_right page w words right =
      sym (take-take (2 * (length w + 1)) (2 * (length (page ++ w) + 1)) words (omega (arith, length-append page w)))
      ∙ ap (take (2 * (length w + 1))) right ∙ tail_front p page w

  -- the flag 1 word of the letters held stands where a page looks for it
  pub right_one : (w words : List ℕ) → RightWords p w words → get_or words (2 * length w + 1) 0 ≡ state_set p true w
  right_one w words right =
      let e : length w - length w ≡ 0 = omega arith in
      sym (get_or-take (2 * (length w + 1)) words (2 * length w + 1) 0 (omega arith)) ∙ ap (λ ws. get_or ws (2 * length w + 1) 0) right
      ∙ tail_at p w (length w) true (omega arith) ∙ ap (λ n. state_set p true (drop n w)) e

-- the tape's end lies behind a page exactly if no letter is held
pub none_held : (w : List ℕ) → eqb (length w) 0 ≡ at_end true w
none_held [] = refl
none_held (c ∷ w) = ne_eqb (suc (length w)) 0 (λ e. omega arith)

pub grown-right :
    (p : Pattern) → Rules p → (page w old new : List ℕ) → 2 * (length w + length page + 1) ≤ length old → RightWords p w old
    → new ≡ sets old (2 * (length w + 1)) (grown p (get_or old (2 * length w + 1) 0) (eqb (length w) 0) page) → RightWords p (page ++ w) new
grown-right p r page w old new room right e =
    ap (take (2 * (length (page ++ w) + 1))) (e ∙ sets-eq more old (2 * (length w + 1)) (omega (arith, long)))
    ∙ take_at (take (2 * (length w + 1)) old ++ more) (drop (2 * (length w + 1) + length more) old) (2 * (length (page ++ w) + 1))
    (length-append (take (2 * (length w + 1)) old) more
    ∙ omega (arith, long, length-append page w, length-take-le (2 * (length w + 1)) old (omega arith)))
    ∙ ap₂ (λ xs ys. xs ++ ys) right (ap₂ (λ k x. grown p k x page) (right_one p w old right) (none_held w))
    ∙ sym (tail_grown p r w page)
  where
    more : List ℕ
    more = grown p (get_or old (2 * length w + 1) 0) (eqb (length w) 0) page

    long : length more ≡ 2 * length page
    long = grown-length (step_by p) (get_or old (2 * length w + 1) 0) (eqb (length w) 0) page
