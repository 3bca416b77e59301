-- What single steps of a sweep come to: that callers' letters and buffers are fit for it, that a position's cells lie in the buffer, and that the words of
-- letters in two parts are laid part by part. No answer needs these laws, since a sweep is one loop and the check itself finds that its calls are fit;
-- they say what a sweep does that another goes on with.
use Rattle.std.specs.Prelude.{◌≡◌, refl, Bool, true, false, List, [], ◌∷◌, ◌++◌, ℕ, suc, ◌+◌, ◌-◌, ◌≤◌, ◌<◌, length, get_or, take, drop}
use Rattle.std.proofs.Common.{sym, ap, ap₂, subst, ◌∙◌, add-zero, arith, take-append-drop, length-take-le, get_or-take}
use Rattle.syntax.specs.declared.Pattern.{Pattern}
use Rattle.syntax.specs.Letter.{is_letter}
use Rattle.semantics.specs.Sweeps.{at_end}
use Rattle.masks.specs.Leaves.{letter_cells, letter_cell}
use Rattle.first_sweep.specs.Sweep.{Step, next_of, cell_at, put_at, Sweepable, end_append, laid, laid-length, Sweeping}
use Rattle.first_sweep.specs.Fill.{Fillable}
use Rattle.first_sweep.specs.Growing.{Growable}

-- ── what is asked of callers is what a sweep needs ──
-- letters have cells in the table of letters
pub small_letters : (w : List ℕ) → ((i : ℕ) → i < length w → is_letter (get_or w i 0) ≡ true) → (i : ℕ) → i < length w → get_or w i 0 < letter_cells
small_letters w h i k = letter_cell (get_or w i 0) (h i k)

pub fill_sweepable : (p : Pattern) (tape old new : List ℕ) → Fillable p tape old → length new ≡ length old → Sweepable tape (length tape) new
fill_sweepable p tape old new f e = record { inside = omega arith; few = f.few; small = small_letters tape f.letters; room = omega (arith, f.room) }

pub grow_sweepable : (p : Pattern) (page : List ℕ) (held count : ℕ) (ws : List ℕ) → Growable p page held ws → count ≡ held + length page
    → Sweepable page count ws
grow_sweepable p page held count ws g e = record {
  inside = omega arith;
  few = omega (arith, g.few);
  small = small_letters page g.letters;
  room = omega (arith, g.room);
}

-- the letters up to some position
pub sweepable_front : (letters : List ℕ) (count : ℕ) (words words_now : List ℕ) (i : ℕ) → i ≤ length letters → length words_now ≡ length words
    → Sweepable letters count words → Sweepable (take i letters) count words_now
sweepable_front letters count words now i h e s =
    let k : length (take i letters) ≡ i = length-take-le i letters h in
    record {
      inside = omega (arith, s.inside);
      few = s.few;
      small = λ j l. subst (λ c. c < letter_cells) (sym (get_or-take i letters j 0 (omega arith))) (s.small j (omega arith));
      room = omega (arith, s.room);
    }

-- a position's cells lie in the buffer
cell_room : (letters : List ℕ) (count : ℕ) (words : List ℕ) (turned : Bool) (i : ℕ) → Sweepable letters count words
    → i < length letters → cell_at count turned i + 1 < length words
cell_room letters count words true i s h = omega (arith, s.room, s.inside)
cell_room letters count words false i s h = omega (arith, s.room, s.inside)

-- ── letters in two parts: first those of the second part, then, from the word of its first letter, those of the first ──
module _ (f : Step) (count : ℕ) (turned : Bool) where
  next_append : (next : ℕ) (last : Bool) (u v : List ℕ) → next_of f next last (u ++ v) ≡ next_of f (next_of f next last v) (at_end last v) u
  next_append next last [] v = refl
  next_append next last (c ∷ u) v = ap₂ (λ x y. (f c x y).one) (next_append next last u v) (end_append last u v)

  laid-append : (next : ℕ) (last : Bool) (i : ℕ) (u v old : List ℕ)
      → laid f count turned next last i (u ++ v) old
      ≡ laid f count turned (next_of f next last v) (at_end last v) i u (laid f count turned next last (i + length u) v old)
  laid-append next last i [] v old = ap (λ k. laid f count turned next last k v old) (sym (add-zero i))
  laid-append next last i (c ∷ u) v old =
      let e : suc i + length u ≡ i + suc (length u) = omega arith in
      ap₂ (λ r ws. put_at r (cell_at count turned i) ws) (ap₂ (f c) (next_append next last u v) (end_append last u v))
      (laid-append next last (suc i) u v old
      ∙ ap (λ k. laid f count turned (next_of f next last v) (at_end last v) (suc i) u (laid f count turned next last k v old)) e)

  -- ── on the way ──
  module _ (first : ℕ) (final : Bool) (letters old : List ℕ) where
    pub sweeping_same : (i next : ℕ) (last : Bool) (words : List ℕ) → Sweeping f count turned first final letters old i next last words
        → length words ≡ length old
    sweeping_same i next last words g = ap length g.wrote ∙ laid-length f count turned first final i (drop i letters) old

    pub sweeping_room : (i next at : ℕ) (last : Bool) (words : List ℕ) → Sweepable letters count old → 0 < i
        → Sweeping f count turned first final letters old i next last words → at ≡ cell_at count turned (i - 1) → at + 1 < length words
    sweeping_room i next at last words s h g a =
        omega (arith, cell_room letters count old turned (i - 1) s (omega (arith, g.inside)), sweeping_same i next last words g)

    -- what is left is laid from here
    pub sweeping_rest : (i next : ℕ) (last : Bool) (words now : List ℕ) → Sweeping f count turned first final letters old i next last words
        → now ≡ laid f count turned next last 0 (take i letters) words → now ≡ laid f count turned first final 0 letters old
    sweeping_rest i next last words now g e =
        let k : i ≡ 0 + length (take i letters) = omega (arith, length-take-le i letters g.inside) in
        e ∙ ap (λ ws. laid f count turned next last 0 (take i letters) ws) (g.wrote ∙ ap (λ j. laid f count turned first final j (drop i letters) old) k)
        ∙ ap₂ (λ x y. laid f count turned x y 0 (take i letters) (laid f count turned first final (0 + length (take i letters)) (drop i letters) old))
        g.ahead g.ends
        ∙ sym (laid-append first final 0 (take i letters) (drop i letters) old)
        ∙ ap (λ w. laid f count turned first final 0 w old) (take-append-drop i letters)
