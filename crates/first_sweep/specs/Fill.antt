-- THE FILL: what is asked of a caller, that a sweep which counts from the tape's start writes the words in order, and that the masks which the
-- fill makes are those of the pattern.
use Rattle.std.specs.Prelude.{◌≡◌, refl, true, false, List, [], ◌∷◌, ◌++◌, ℕ, zero, suc, ◌+◌, ◌*◌, ◌≤◌, ◌<◌, get_or, set}
use Rattle.std.proofs.Common.{ap₂, subst, ◌∙◌, add-one, add-zero, arith}
use Rattle.std.proofs.Math.Path.{ap}
use Rattle.std.proofs.Math.ListN.{length, drop}
use Rattle.syntax.specs.declared.Pattern.{Pattern}
use Rattle.syntax.specs.Letter.{is_letter, letter_limit}
use Rattle.syntax.specs.Trees.{root}
use Rattle.syntax.specs.TreeLaws.{Rules}
use Rattle.bits.specs.Bits.{in_front}
use Rattle.steps.specs.declared.Words.{Words}
use Rattle.steps.specs.StateSets.{words}
use Rattle.semantics.specs.Sweeps.{at_end}
use Rattle.table.specs.Cells.{Holds}
use Rattle.masks.specs.Masks.{MasksOf}
use Rattle.first_sweep.specs.Sweep.{stored_step, next_of, put_at, PutsWords, puts_length, laid, laid-length, Sweeps}
use Rattle.first_sweep.specs.SweepWords.{first_one, sweep_of, sweep_length, AllLetters, sweep_words}

-- a tested table, "at most 3,600 letters, all from 33 to 126" (02, Job 3: or from 161 to 254), and 2 × (n + 1) words
pub record Fillable (p : Pattern) (tape words : List ℕ) : Type 0 where
  pub rules : Rules p
  pub few : length tape ≤ letter_limit
  pub letters : (i : ℕ) → i < length tape → is_letter (get_or tape i 0) ≡ true
  pub room : 2 * (length tape + 1) ≤ length words

pub all_letters : (w : List ℕ) → ((i : ℕ) → i < length w → is_letter (get_or w i 0) ≡ true) → AllLetters w
all_letters [] h = tt
all_letters (c ∷ w) h = (h 0 (omega arith), all_letters w (λ j k. h (suc j) (omega arith)))

-- two cells written one after the other
two_set : (k a b : ℕ) (xs : List ℕ) → suc k < length xs → drop k (set (set xs k a) (suc k) b) ≡ a ∷ b ∷ drop (suc (suc k)) xs
two_set zero a b [] h = absurd (omega arith)
two_set zero a b (x ∷ []) h = absurd (omega arith)
two_set zero a b (x ∷ (y ∷ xs)) h = refl
two_set (suc k) a b [] h = absurd (omega arith)
two_set (suc k) a b (x ∷ xs) h = two_set k a b xs (omega arith)

module _ (zs os ts ks : List ℕ) (e : ℕ) where
  next_first : (w : List ℕ) → next_of (stored_step zs os ts ks) e true w ≡ first_one (sweep_of zs os ts ks e w)
  next_first [] = refl
  next_first (c ∷ w) = ap (λ k. (stored_step zs os ts ks c k (at_end true w)).one) (next_first w)

  -- counted from the tape's start: from position k on the buffer holds the words in order, and then what it held
  laid_fills : (n k : ℕ) (w old rest : List ℕ) → 2 * (k + length w) + 1 < length old → drop (2 * (k + length w)) old ≡ 0 ∷ e ∷ rest
      → drop (2 * k) (laid (stored_step zs os ts ks) n false e true k w old) ≡ sweep_of zs os ts ks e w ++ rest
  laid_fills n k [] old rest h g = subst (λ j. drop (2 * j) old ≡ 0 ∷ e ∷ rest) (add-zero k) g
  laid_fills n k (c ∷ w) old rest h g =
      let i : 2 * (k + suc (length w)) ≡ 2 * (suc k + length w) = omega arith in
      let j : suc (suc (2 * k)) ≡ 2 * suc k = omega arith in
      rw (add-one (2 * k)) (two_set (2 * k) there.zero there.one on (omega (arith, laid-length (stored_step zs os ts ks) n false e true (suc k) w old))
      ∙ ap (λ m. there.zero ∷ there.one ∷ drop m on) j
      ∙ ap₂ (λ x ws. (stored_step zs os ts ks c x (at_end true w)).zero ∷ (stored_step zs os ts ks c x (at_end true w)).one ∷ ws) (next_first w)
      (laid_fills n (suc k) w old rest (omega arith) (subst (λ m. drop m old ≡ 0 ∷ e ∷ rest) i g)))
    where
      there : Words
      there = stored_step zs os ts ks c (next_of (stored_step zs os ts ks) e true w) (at_end true w)

      on : List ℕ
      on = laid (stored_step zs os ts ks) n false e true (suc k) w old

  -- so a fill: first the words of the tape's end, then those of its letters
  filled : (n : ℕ) (tape old ended : List ℕ) → n ≡ length tape → 2 * (n + 1) ≤ length old → PutsWords 0 e (2 * n) old ended
      → laid (stored_step zs os ts ks) n false e true 0 tape ended ≡ in_front (sweep_of zs os ts ks e tape) old
  unfolding in_front
  filled n tape old ended i room w =
      laid_fills n 0 tape ended (drop (2 * (n + 1)) old) (omega (arith, puts_length 0 e (2 * n) old ended w)) end
      ∙ ap (λ k. sweep_of zs os ts ks e tape ++ drop k old) long
    where
      long : 2 * (n + 1) ≡ length (sweep_of zs os ts ks e tape)
      long = omega (arith, sweep_length zs os ts ks e tape)

      end : drop (2 * (0 + length tape)) ended ≡ 0 ∷ e ∷ drop (2 * (n + 1)) old
      end =
          let k : 2 * (0 + length tape) ≡ 2 * n = omega arith in
          let j : suc (suc (2 * n)) ≡ 2 * (n + 1) = omega arith in
          ap₂ (λ m ws. drop m ws) k (w.is ∙ ap (λ m. set (set old (2 * n) 0) m e) (add-one (2 * n)))
          ∙ two_set (2 * n) 0 e old (omega arith) ∙ ap (λ m. 0 ∷ e ∷ drop m old) j

-- so that the buffer holds the words of the definition; z and o are what is written of the tape's end
pub filled-words :
    (p : Pattern) (tape old ended new zs os ts ks : List ℕ) (e n z o at notes : ℕ) → Fillable p tape old → Holds p ts
    → MasksOf (root p) p.count zs os ks e → n ≡ length tape → PutsWords z o at old ended → z ≡ 0 → o ≡ e → at ≡ 2 * n
    → Sweeps (stored_step zs os ts ks) (record { next = e; last = true; count = n; turned = false; notes = notes }) tape ended new
    → new ≡ in_front (words p tape) old
filled-words p tape old ended new zs os ts ks e n z o at notes f held m i w flag-0 flag-1 a s =
    s.is ∙ filled zs os ts ks e n tape old ended i (omega (arith, f.room)) put_right
    ∙ ap (λ ws. in_front ws old) (sweep_words p f.rules zs os ts ks e held m tape (all_letters tape f.letters))
  where
    put_right : PutsWords 0 e (2 * n) old ended
    put_right = record {
      is = w.is ∙ ap₂ (λ x y. put_at (record { zero = x; one = y }) at old) flag-0 flag-1 ∙ ap (λ k. put_at (record { zero = 0; one = e }) k old) a;
    }
