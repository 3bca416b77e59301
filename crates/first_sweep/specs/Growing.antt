-- Writing the words of a page: what is asked of a caller, and that a sweep which counts from the tape's end writes them.
use Rattle.std.specs.Prelude.{◌≡◌, refl, Bool, true, false, List, [], ◌∷◌, ◌++◌, ℕ, suc, ◌+◌, ◌-◌, ◌*◌, ◌≤◌, ◌<◌, eqb, length, get_or, set}
use Rattle.std.proofs.Common.{sym, ap, ap₂, ◌∙◌, add-one, add-zero, arith}
use Rattle.std.proofs.lemmas.List.Edits.{sets}
use Rattle.syntax.specs.declared.Pattern.{Pattern}
use Rattle.syntax.specs.Letter.{is_letter, letter_limit}
use Rattle.syntax.specs.Trees.{root, tree_of}
use Rattle.syntax.specs.TreeLaws.{Rules, obeys_iff}
use Rattle.bits.specs.Bits.{in_front}
use Rattle.semantics.specs.Sweeps.{at_end}
use Rattle.table.specs.Cells.{line_in, tree_in, Holds}
use Rattle.table.specs.CellLaws.{holds_tree}
use Rattle.masks.specs.Closure.{end_mask}
use Rattle.masks.specs.Masks.{LeafMasks, MasksOf}
use Rattle.steps.specs.declared.Words.{Words}
use Rattle.steps.specs.StateSets.{state_set}
use Rattle.steps.specs.Steps.{state_end}
use Rattle.first_sweep.specs.Fill.{all_letters}
use Rattle.first_sweep.specs.Sweep.{Step, stored_step, next_of, put, put_at, PutsWords, laid, Sweeps}
use Rattle.first_sweep.specs.Tail.{tail_words}
use Rattle.first_sweep.specs.Grow.{grown_by, grown, grown-length, grown-stored}

-- a tested table and letters, as `Fillable` asks of a tape; 02, Job 6: marks enough "for the letters after the put"
pub record Growable (p : Pattern) (page : List ℕ) (held : ℕ) (words : List ℕ) : Type 0 where
  pub rules : Rules p
  pub few : held + length page ≤ letter_limit
  pub letters : (i : ℕ) → i < length page → is_letter (get_or page i 0) ≡ true
  pub room : 2 * (held + length page + 1) ≤ length words

sets-append : (xs ys l : List ℕ) (i : ℕ) → sets l i (xs ++ ys) ≡ sets (sets l i xs) (i + length xs) ys
sets-append [] ys l i = ap (λ k. sets l k ys) (sym (add-zero i))
sets-append (x ∷ xs) ys l i =
    let e : suc i + length xs ≡ i + suc (length xs) = omega arith in
    sets-append xs ys (set l i x) (suc i) ∙ ap (λ k. sets (sets (set l i x) (suc i) xs) k ys) e

-- counted from the tape's end: the words of letters from position k on, those of the last letter first, after those of the letters held
laid_grows : (f : Step) (next : ℕ) (last : Bool) (held count k : ℕ) (w old : List ℕ) → count ≡ held + (k + length w)
    → laid f count true next last k w old ≡ sets old (2 * (held + 1)) (grown_by f next last w)
laid_grows f next last held count k [] old e = refl
laid_grows f next last held count k (c ∷ w) old e =
    let at : 2 * (count - k) ≡ 2 * (held + 1) + length done = omega (arith, grown-length f next last w) in
    ap₂ (λ m ws. put_at there m ws) at (laid_grows f next last held count (suc k) w old (omega arith))
    ∙ ap (λ m. set (set (sets old (2 * (held + 1)) done) (2 * (held + 1) + length done) there.zero) m there.one)
    (add-one (2 * (held + 1) + length done))
    ∙ sym (sets-append done (put there []) old (2 * (held + 1)))
  where
    there : Words
    there = f c (next_of f next last w) (at_end last w)

    done : List ℕ
    done = grown_by f next last w

-- so that the buffer holds the words of the definition, from the flag 1 word of the letters held
pub grown-words :
    (p : Pattern) (next held count : ℕ) (last : Bool) (notes : ℕ) (page old new zs os ts ks : List ℕ) (e : ℕ) → Growable p page held old → Holds p ts
    → MasksOf (root p) p.count zs os ks e
    → Sweeps (stored_step zs os ts ks) (record { next = next; last = last; count = count; turned = true; notes = notes }) page old new
    → count ≡ held + length page → next ≡ get_or old (2 * held + 1) 0 → last ≡ eqb held 0
    → new ≡ sets old (2 * (held + 1)) (grown p (get_or old (2 * held + 1) 0) (eqb held 0) page)
grown-words p next held count last notes page old new zs os ts ks e g h m w k n l =
    w.is ∙ laid_grows (stored_step zs os ts ks) next last held count 0 page old (omega arith)
    ∙ ap (sets old (2 * (held + 1)))
    (ap₂ (λ x y. grown_by (stored_step zs os ts ks) x y page) n l
    ∙ grown-stored p g.rules zs os ts ks e h m (get_or old (2 * held + 1) 0) (eqb held 0) page (all_letters page g.letters))

-- the two words of the end; z and o are what is written
pub end-words :
    (p : Pattern) (r : Rules p) (zs os ts old new : List ℕ) (e z o : ℕ) → Holds p ts
    → LeafMasks (tree_of (line_in ts) (p.count - 1)) p.count zs os e → 2 ≤ length old
    → PutsWords z o 0 old new → z ≡ 0 → o ≡ e → new ≡ in_front (tail_words p []) old
unfolding in_front tree_in
end-words p r zs os ts old new e z o h m n w flag-0 flag-1 =
    w.is ∙ ap₂ (λ a b. set (set old 0 a) 1 b) (flag-0 ∙ sym (state_end p r false)) (flag-1 ∙ end_right) ∙ front old n
  where
    end_right : e ≡ state_set p true []
    end_right = m.ends ∙ ap (λ t. end_mask t p.count true) (holds_tree p ts ((obeys_iff p).1 r) h) ∙ sym (state_end p r true)

    front : (xs : List ℕ) → 2 ≤ length xs → set (set xs 0 (state_set p false [])) 1 (state_set p true []) ≡ in_front (tail_words p []) xs
    front [] k = absurd (omega arith)
    front (x ∷ []) k = absurd (omega arith)
    front (x ∷ (y ∷ xs)) k = refl
