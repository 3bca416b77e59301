-- THE FIRST SWEEP over masks as they are stored: the two words of each letter, from the last letter to the first, into the cells of its position.
-- A fill counts positions from the tape's start, a page desk from the tape's end; all else is the same.
use Rattle.std.specs.Prelude.{◌≡◌, refl, Bool, false, cond, List, [], ◌∷◌, ◌++◌, ℕ, zero, suc, ◌+◌, ◌-◌, ◌*◌, ◌≤◌, ◌<◌, length, get_or, drop, set}
use Rattle.std.proofs.Common.{sym, ap, ap₂, ◌∙◌, arith, length-set, drop-cons}
use Rattle.std.proofs.Math.Seq.{drop-length}
use Rattle.syntax.specs.Letter.{letter_limit}
use Rattle.semantics.specs.Sweeps.{at_end}
use Rattle.steps.specs.declared.Words.{Words}
use Rattle.masks.specs.Leaves.{letter_cells, entry}
use Rattle.steps.specs.Steps.{step_of}
use Rattle.first_sweep.specs.declared.Start.{Start}

-- a step: both words of a position, from its letter, the flag 1 word of the next position, and whether the tape's end lies there
abbrev pub Step : Type 0
Step = (letter next : ℕ) → (last : Bool) → Words

-- by the masks as they are stored; takers: by the letter
abbrev pub stored_step : (zero one table takers : List ℕ) → Step
stored_step zs os ts ks c = step_of zs os ts (entry ks c)

-- the flag 1 word of the first of some letters, and of no letter the word that stands after them. Only after the last of them can the tape's
-- end lie, and `last` says whether it does.
abbrev pub next_of : Step → (next : ℕ) → (last : Bool) → (letters : List ℕ) → ℕ
next_of f next last [] = next
next_of f next last (c ∷ w) = (f c (next_of f next last w) (at_end last w)).one

-- the two words of a position in front of others
abbrev pub put : Words → List ℕ → List ℕ
put r ws = r.zero ∷ r.one ∷ ws

-- the cell of a position's flag 0 word, for a tape of `count` letters. 01: "word 2 × i + b"; 02, Job 6: "the words for j letters from 2 × j on"
abbrev pub cell_at : (count : ℕ) → (turned : Bool) → (i : ℕ) → ℕ
cell_at count turned i = cond turned (2 * (count - i)) (2 * i)

abbrev pub put_at : Words → (at : ℕ) → List ℕ → List ℕ
put_at r at ws = set (set ws at r.zero) (at + 1) r.one

-- two words are written, from cell `at` on, that of flag 0 first
pub record PutsWords (zero one at : ℕ) (words words_now : List ℕ) : Type 0 where
  pub is : words_now ≡ put_at (record { zero = zero; one = one }) at words

pub puts_length : (z o at : ℕ) (words now : List ℕ) → PutsWords z o at words now → length now ≡ length words
puts_length z o at words now w = ap length w.is ∙ simp length-set refl

-- every letter has an entry in the table of letters, and the buffer is long enough. 01: "Tapes hold at most 3,600 letters"
pub record Sweepable (letters : List ℕ) (count : ℕ) (words : List ℕ) : Type 0 where
  pub inside : length letters ≤ count
  pub few : count ≤ letter_limit
  pub small : (i : ℕ) → i < length letters → get_or letters i 0 < letter_cells
  pub room : 2 * (count + 1) ≤ length words

-- letters in two parts: the tape's end lies after the first part only if the second has no letter
pub end_append : (last : Bool) (u v : List ℕ) → at_end last (u ++ v) ≡ at_end (at_end last v) u
end_append last [] v = refl
end_append last (c ∷ u) v = refl

module _ (f : Step) (count : ℕ) (turned : Bool) where
  -- the words of letters, the first of them at position i, laid into a buffer
  abbrev pub laid : (next : ℕ) → (last : Bool) → (i : ℕ) → (letters old : List ℕ) → List ℕ
  laid next last i [] old = old
  laid next last i (c ∷ w) old = put_at (f c (next_of f next last w) (at_end last w)) (cell_at count turned i) (laid next last (suc i) w old)

  pub laid-length : (next : ℕ) (last : Bool) (i : ℕ) (letters old : List ℕ) → length (laid next last i letters old) ≡ length old
  laid-length next last i [] old = refl
  laid-length next last i (c ∷ w) old = simp length-set (laid-length next last (suc i) w old)

  module _ (first : ℕ) (final : Bool) (letters old : List ℕ) where
    -- on the way, at position i: the words from there on are laid
    pub record Sweeping (i next : ℕ) (last : Bool) (words : List ℕ) : Type 0 where
      pub inside : i ≤ length letters
      pub wrote : words ≡ laid first final i (drop i letters) old
      pub ahead : next ≡ next_of f first final (drop i letters)
      pub ends : last ≡ at_end final (drop i letters)

    pub sweeping_start : Sweeping (length letters) first final old
    sweeping_start =
        let d : drop (length letters) letters ≡ [] = drop-length letters in
        record { inside = omega arith; wrote = rw d refl; ahead = rw d refl; ends = rw d refl }

    -- counting down; z and o are what is written
    pub sweeping_down : (i next c at : ℕ) (last : Bool) (words now : List ℕ) (r : Words) (z o : ℕ) → 0 < i → Sweeping i next last words
        → c ≡ get_or letters (i - 1) 0 → r ≡ f c next last → at ≡ cell_at count turned (i - 1) → PutsWords z o at words now
        → z ≡ r.zero → o ≡ r.one → Sweeping (i - 1) r.one false now
    sweeping_down i next c at last words now r z o h g e s a w flag-0 flag-1 =
        let k : suc (i - 1) ≡ i = omega arith in
        let b : i - 1 < length letters = omega (arith, g.inside) in
        let d : drop (i - 1) letters ≡ get_or letters (i - 1) 0 ∷ drop i letters =
        drop-cons letters (i - 1) 0 b ∙ ap (λ j. get_or letters (i - 1) 0 ∷ drop j letters) k in
        let from : r ≡ f (get_or letters (i - 1) 0) (next_of f first final (drop i letters)) (at_end final (drop i letters)) =
        s ∙ ap (λ x. f x next last) e ∙ ap₂ (λ x y. f (get_or letters (i - 1) 0) x y) g.ahead g.ends in
        record {
          inside = omega (arith, g.inside);
          wrote =
              rw d (w.is ∙ ap₂ (λ x y. put_at (record { zero = x; one = y }) at words) flag-0 flag-1 ∙ ap (λ j. put_at r j words) a
              ∙ ap₂ (λ x ws. put_at x (cell_at count turned (i - 1)) ws) from (g.wrote ∙ ap (λ j. laid first final j (drop i letters) old) (sym k)));
          ahead = rw d (ap (λ x. x.one) from);
          ends = rw d refl;
        }

-- THE WORDS OF SOME LETTERS ARE LAID, from a start
pub record Sweeps (f : Step) (s : Start) (letters words words_now : List ℕ) : Type 0 where
  pub is : words_now ≡ laid f s.count s.turned s.next s.last 0 letters words
