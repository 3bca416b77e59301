-- WORDS COUNTED FROM THE TAPE'S END, for a tape whose latest letters arrive first. 02, Job 6: "Marks are counted from the tape's end, the
-- words for j letters from 2 × j on".
use Rattle.std.specs.Prelude.{◌≡◌, refl, Bool, true, false, List, [], ◌∷◌, ◌++◌, ℕ, zero, suc, ◌+◌, ◌-◌, ◌*◌, ◌≤◌, ◌<◌, length, get_or, take, drop}
use Rattle.std.proofs.Common.{sym, ap, subst, ◌∙◌, arith, length-append, take_all, get_or-append-add}
use Rattle.std.proofs.Math.Decide.{dec_lt}
use Rattle.std.proofs.Math.ListN.{get_or-append}
use Rattle.std.proofs.lemmas.List.{take-append-le}
use Rattle.syntax.specs.declared.Pattern.{Pattern}
use Rattle.syntax.specs.TreeLaws.{Rules}
use Rattle.bits.specs.Bits.{bit}
use Rattle.steps.specs.StateSets.{IsStateSet, state_set, words}
use Rattle.steps.specs.StateLaws.{state_set_is}
use Rattle.first_sweep.specs.Meaning.{words_at}

-- the two words of some letters, that of flag 0 first
abbrev pub two_words : Pattern → (letters : List ℕ) → List ℕ
two_words p w = state_set p false w ∷ state_set p true w ∷ []

-- first the two of the end; a letter in front of a tape leaves its words where they are, and has its own behind them
abbrev pub tail_words : Pattern → (tape : List ℕ) → List ℕ
tail_words p [] = two_words p []
tail_words p (c ∷ w) = tail_words p w ++ two_words p (c ∷ w)

module _ (p : Pattern) where
  pub tail_length : (w : List ℕ) → length (tail_words p w) ≡ 2 * (length w + 1)
  tail_length [] = refl
  tail_length (c ∷ w) = length-append (tail_words p w) (two_words p (c ∷ w)) ∙ omega (arith, tail_length w)

  -- words 2 × j and 2 × j + 1 are those of the last j letters
  pub tail_at : (w : List ℕ) (j : ℕ) (b : Bool) → j ≤ length w → get_or (tail_words p w) (2 * j + bit b) 0 ≡ state_set p b (drop (length w - j) w)
  tail_at [] zero true h = refl
  tail_at [] zero false h = refl
  tail_at [] (suc j) b h = absurd (omega arith)
  tail_at (c ∷ w) j b h = go (tail_at w j b) (dec_lt j (suc (length w)))
    where
      within : (b : Bool) → bit b ≤ 1
      within true = omega arith
      within false = omega arith

      own : (b : Bool) → get_or (two_words p (c ∷ w)) (bit b) 0 ≡ state_set p b (c ∷ w)
      own true = refl
      own false = refl

      go : (j ≤ length w → get_or (tail_words p w) (2 * j + bit b) 0 ≡ state_set p b (drop (length w - j) w)) → Dec (j < suc (length w))
          → get_or (tail_words p (c ∷ w)) (2 * j + bit b) 0 ≡ state_set p b (drop (suc (length w) - j) (c ∷ w))
      go held (yes k) =
          let e : suc (length w) - j ≡ suc (length w - j) = omega arith in
          get_or-append (tail_words p w) (two_words p (c ∷ w)) 0 (2 * j + bit b) (omega (arith, tail_length w, within b))
          ∙ held (omega arith) ∙ ap (λ n. state_set p b (drop n (c ∷ w))) (sym e)
      go held (no k) =
          let e : suc (length w) - j ≡ 0 = omega arith in
          let at : 2 * j + bit b ≡ length (tail_words p w) + bit b = omega (arith, tail_length w) in
          ap (λ n. get_or (tail_words p (c ∷ w)) n 0) at ∙ get_or-append-add (tail_words p w) (two_words p (c ∷ w)) (bit b) 0 ∙ own b
          ∙ ap (λ n. state_set p b (drop n (c ∷ w))) (sym e)

  -- 01's words, "word 2 × i + b" of position i, turned round by pairs
  pub tail_turned : (w : List ℕ) (i : ℕ) (b : Bool) → i ≤ length w
      → get_or (words p w) (2 * i + bit b) 0 ≡ get_or (tail_words p w) (2 * (length w - i) + bit b) 0
  tail_turned w i b h =
      let e : length w - (length w - i) ≡ i = omega arith in
      words_at p w i b h ∙ ap (λ n. state_set p b (drop n w)) (sym e) ∙ sym (tail_at w (length w - i) b (omega arith))

  -- the words of a tape's last letters are a front of the tape's, so that letters are withdrawn without a word written
  pub tail_front : (w v : List ℕ) → take (2 * (length v + 1)) (tail_words p (w ++ v)) ≡ tail_words p v
  tail_front [] v = take_all (2 * (length v + 1)) (tail_words p v) (omega (arith, tail_length v))
  tail_front (c ∷ w) v =
      take-append-le (2 * (length v + 1)) (tail_words p (w ++ v)) (two_words p (c ∷ (w ++ v)))
      (omega (arith, tail_length (w ++ v), length-append w v))
      ∙ tail_front w v

  -- 01: "Bit l of word 2 × i + b says that the letters from i on are in the language of node l with flag b", here of the last j letters
  pub tail_say : Rules p → (w : List ℕ) (j : ℕ) (b : Bool) → j ≤ length w
      → IsStateSet p b (drop (length w - j) w) (get_or (tail_words p w) (2 * j + bit b) 0)
  tail_say r w j b h = subst (IsStateSet p b (drop (length w - j) w)) (sym (tail_at w j b h)) (state_set_is p r b (drop (length w - j) w))
