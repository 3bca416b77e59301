-- GROWING: the words of a page that is put before letters whose words stand already, as Tail counts them. It starts from the flag 1 word of
-- those letters as it stands, right or wrong; from right words it gives right ones.
use Rattle.std.specs.Prelude.{◌≡◌, refl, Bool, true, false, List, [], ◌∷◌, ◌++◌, ℕ, ◌+◌, ◌*◌, length}
use Rattle.std.proofs.Common.{sym, ap, ap₂, ◌∙◌, append-nil, append_assoc, arith, length-append}
use Rattle.syntax.specs.declared.Pattern.{Pattern}
use Rattle.syntax.specs.Letter.{is_letter}
use Rattle.syntax.specs.Trees.{root}
use Rattle.syntax.specs.TreeLaws.{Rules}
use Rattle.semantics.specs.Sweeps.{at_end}
use Rattle.table.specs.Cells.{Holds}
use Rattle.masks.specs.Masks.{MasksOf}
use Rattle.steps.specs.StateSets.{state_set}
use Rattle.steps.specs.Steps.{stepped, stepped-right, step-stepped}
use Rattle.first_sweep.specs.Sweep.{Step, stored_step, next_of, put, end_append}
use Rattle.first_sweep.specs.SweepWords.{AllLetters}
use Rattle.first_sweep.specs.Tail.{tail_words}

-- the words of a page's letters, those of its last letter first
abbrev pub grown_by : Step → (next : ℕ) → (last : Bool) → (page : List ℕ) → List ℕ
grown_by f next last [] = []
grown_by f next last (c ∷ w) = grown_by f next last w ++ put (f c (next_of f next last w) (at_end last w)) []

-- by the pattern's tree: what a put writes
abbrev pub step_by : Pattern → Step
step_by p c next last = record { zero = stepped p false c next last; one = stepped p true c next last }

abbrev pub grown : Pattern → (next : ℕ) → (last : Bool) → (page : List ℕ) → List ℕ
grown p = grown_by (step_by p)

pub grown-length : (f : Step) (next : ℕ) (last : Bool) (page : List ℕ) → length (grown_by f next last page) ≡ 2 * length page
grown-length f next last [] = refl
grown-length f next last (c ∷ w) =
    length-append (grown_by f next last w) (put (f c (next_of f next last w) (at_end last w)) []) ∙ omega (arith, grown-length f next last w)

-- ---- steps that agree on letters give the same words
module _ (f g : Step) (same : (c : ℕ) → is_letter c ≡ true → (next : ℕ) (last : Bool) → f c next last ≡ g c next last) (next : ℕ) (last : Bool) where
  next_same : (page : List ℕ) → AllLetters page → next_of f next last page ≡ next_of g next last page
  next_same [] h = refl
  next_same (c ∷ w) h =
      ap (λ r. r.one) (same c h.0 (next_of f next last w) (at_end last w) ∙ ap (λ k. g c k (at_end last w)) (next_same w h.1))

  pub grown_same : (page : List ℕ) → AllLetters page → grown_by f next last page ≡ grown_by g next last page
  grown_same [] h = refl
  grown_same (c ∷ w) h =
      ap₂ (λ ws r. ws ++ put r []) (grown_same w h.1)
      (same c h.0 (next_of f next last w) (at_end last w) ∙ ap (λ k. g c k (at_end last w)) (next_same w h.1))

module _ (p : Pattern) (r : Rules p) where
  -- over the masks of a pattern, the words by its tree
  pub grown-stored :
      (zs os ts ks : List ℕ) (e : ℕ) → Holds p ts → MasksOf (root p) p.count zs os ks e
      → (next : ℕ) (last : Bool) (page : List ℕ) → AllLetters page → grown_by (stored_step zs os ts ks) next last page ≡ grown p next last page
  grown-stored zs os ts ks e held good next last page h =
      grown_same (stored_step zs os ts ks) (step_by p) (λ c l n x. step-stepped p r zs os ts ks e held good c n x l) next last page h

  -- ---- grown from right is right
  module _ (w : List ℕ) where
    pub step_right : (b : Bool) (c : ℕ) (page : List ℕ) (k : ℕ) → k ≡ state_set p true (page ++ w)
        → stepped p b c k (at_end (at_end true w) page) ≡ state_set p b (c ∷ (page ++ w))
    step_right b c page k e = ap₂ (stepped p b c) e (sym (end_append true page w)) ∙ stepped-right p r b c (page ++ w)

    pub next_right : (page : List ℕ) → next_of (step_by p) (state_set p true w) (at_end true w) page ≡ state_set p true (page ++ w)
    next_right [] = refl
    next_right (c ∷ page) = step_right true c page (next_of (step_by p) (state_set p true w) (at_end true w) page) (next_right page)

    -- 02, Job 6: "If before a call the marks are those of the joined letters under its table, they are so after it": a page put before letters
    pub tail_grown : (page : List ℕ) → tail_words p (page ++ w) ≡ tail_words p w ++ grown p (state_set p true w) (at_end true w) page
    tail_grown [] = sym (append-nil (tail_words p w))
    tail_grown (c ∷ page) =
        ap₂ (λ xs ys. xs ++ ys) (tail_grown page)
        (sym (ap₂ (λ x y. x ∷ y ∷ []) (step_right false c page next (next_right page)) (step_right true c page next (next_right page))))
        ∙ append_assoc (tail_words p w) (grown p (state_set p true w) (at_end true w) page) (put (step_by p c next (at_end (at_end true w) page)) [])
      where
        next : ℕ
        next = next_of (step_by p) (state_set p true w) (at_end true w) page
