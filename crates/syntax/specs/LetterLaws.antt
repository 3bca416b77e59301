-- Laws of letters, and of the first byte that is none.
use Rattle.std.specs.Prelude.{◌≡◌, Bool, ◌&&◌, ◌||◌, cond, ◌⊎◌, leb, List, [], ◌∷◌, map, ℕ, zero, suc, ◌+◌, ◌≤◌, ◌<◌, length, get_or, unwrap_or, position, not, ltb, Some, None}
use Rattle.std.proofs.Math.Path.{refl, sym}
use Rattle.std.proofs.Common.{◌∙◌, inl, inr, arith, ltb-false}
use Rattle.std.proofs.Math.Bool.{true, false, and-true}
use borrow.Author.Tests.{leb-true, le-leb, lt-leb}
use Rattle.std.specs.List.{position_or_len}
use Rattle.std.proofs.lemmas.List.Recursion.{is_position_or_len}
use Rattle.std.proofs.lemmas.List.Sums.{prefix_len-le-length}
use Rattle.syntax.specs.Letter.{is_letter, in_range, first_bad}
use Rattle.syntax.specs.Bools.{and_fst, and_snd}

-- a letter lies below the gap or above it
pub letter_sides : (c : ℕ) → is_letter c ≡ true → ((33 ≤ c) × (c ≤ 126)) ⊎ ((161 ≤ c) × (c ≤ 254))
unfolding is_letter
letter_sides c h = go (leb 33 c && leb c 126) refl h
  where
    go : (b : Bool) → (leb 33 c && leb c 126) ≡ b → (b || (leb 161 c && leb c 254)) ≡ true → ((33 ≤ c) × (c ≤ 126)) ⊎ ((161 ≤ c) × (c ≤ 254))
    go true e k = inl (leb-true 33 c (and_fst (leb 33 c) (leb c 126) e), leb-true c 126 (and_snd (leb 33 c) (leb c 126) e))
    go false e k = inr (leb-true 161 c (and_fst (leb 161 c) (leb c 254) k), leb-true c 254 (and_snd (leb 161 c) (leb c 254) k))

-- and what does so is one
module _ (c : ℕ) where
  -- up to 126 the lower bound decides
  pub from_first : c ≤ 126 → leb 33 c ≡ is_letter c
  unfolding is_letter
  from_first h = rw (le-leb c 126 h, lt-leb 161 c (omega arith)) (both (leb 33 c))
    where
      both : (b : Bool) → b ≡ ((b && true) || false)
      both true = refl
      both false = refl

  pub in_gap : 126 < c → c < 161 → false ≡ is_letter c
  unfolding is_letter
  in_gap h k = rw (le-leb 33 c (omega arith), lt-leb c 126 h, lt-leb 161 c k)

  -- from 161 on the upper bound decides
  pub upto_last : 161 ≤ c → leb c 254 ≡ is_letter c
  unfolding is_letter
  upto_last h = rw (le-leb 33 c (omega arith), lt-leb c 126 (omega arith), le-leb 161 c h)

-- the ends of both stretches, and the bytes beside them
pub letters-said :
    map is_letter (32 ∷ 33 ∷ 126 ∷ 127 ∷ 160 ∷ 161 ∷ 254 ∷ 255 ∷ []) ≡ false ∷ true ∷ true ∷ false ∷ false ∷ true ∷ true ∷ false ∷ []
unfolding is_letter
letters-said = refl

pub letter_above : (c : ℕ) → is_letter c ≡ true → 33 ≤ c
letter_above c h = go (letter_sides c h)
  where
    go : ((33 ≤ c) × (c ≤ 126)) ⊎ ((161 ≤ c) × (c ≤ 254)) → 33 ≤ c
    go (inl k) = k.0
    go (inr k) = omega (arith, k.0)

pub letter_below : (c : ℕ) → is_letter c ≡ true → c < 255
letter_below c h = go (letter_sides c h)
  where
    go : ((33 ≤ c) × (c ≤ 126)) ⊎ ((161 ≤ c) × (c ≤ 254)) → c < 255
    go (inl k) = omega (arith, k.1)
    go (inr k) = omega (arith, k.1)

-- a letter fits a byte
pub letter_small : (c : ℕ) → is_letter c ≡ true → c < 256
letter_small c h = omega (arith, letter_below c h)

-- ── a byte in a range of letters ──
and_no : (b : Bool) → false ≡ (b && false)
and_no true = refl
and_no false = refl

module _ (low high c : ℕ) where
  pub range_low : c < low → false ≡ in_range low high c
  unfolding in_range
  range_low a = rw (lt-leb low c a) (and_no (is_letter c))

  pub range_high : low ≤ c → high < c → false ≡ in_range low high c
  unfolding in_range
  range_high a b = rw (le-leb low c a, lt-leb c high b) (and_no (is_letter c))

  -- between the ends lies a byte of the range if it is a letter: across the gap there are others
  pub range_between : low ≤ c → c ≤ high → is_letter c ≡ in_range low high c
  unfolding in_range
  range_between a b = rw (le-leb low c a, le-leb c high b) (sym (and-true (is_letter c)))

-- a range from the last letter below the gap to the first above it has these two and no other
pub across_gap : (c : ℕ) → in_range 126 161 c ≡ true → (c ≡ 126) ⊎ (c ≡ 161)
unfolding in_range
across_gap c h =
    let l = and_fst (is_letter c) (leb 126 c && leb c 161) h in
    let k = and_snd (is_letter c) (leb 126 c && leb c 161) h in
    go (leb-true 126 c (and_fst (leb 126 c) (leb c 161) k)) (leb-true c 161 (and_snd (leb 126 c) (leb c 161) k)) (letter_sides c l)
  where
    go : 126 ≤ c → c ≤ 161 → ((33 ≤ c) × (c ≤ 126)) ⊎ ((161 ≤ c) × (c ≤ 254)) → (c ≡ 126) ⊎ (c ≡ 161)
    go a b (inl s) = inl (omega (arith, s.1))
    go a b (inr s) = inr (omega (arith, s.0))

pub across_gap_both : (in_range 126 161 126 ≡ true) × (in_range 126 161 161 ≡ true)
unfolding in_range is_letter
across_gap_both = (refl, refl)

-- ── the first byte that is no letter ──
pub first_bad_is : (tape : List ℕ) → first_bad tape ≡ unwrap_or (position (λ c. not (is_letter c)) tape) (length tape)
unfolding first_bad
first_bad_is tape =
    is_position_or_len first_bad bad refl (λ c w. by (is_letter c) w) tape
    ∙ within (prefix_len-le-length (λ c. not (not (is_letter c))) tape) (ltb (position_or_len bad tape) (length tape)) refl
  where
    bad : ℕ → Bool
    bad c = not (is_letter c)

    within : position_or_len bad tape ≤ length tape → (b : Bool) → ltb (position_or_len bad tape) (length tape) ≡ b
        → position_or_len bad tape ≡ unwrap_or (cond b (Some (position_or_len bad tape)) None) (length tape)
    within l true e = refl
    within l false e = omega (arith, ltb-false (position_or_len bad tape) (length tape) e)

    by : (b : Bool) (w : List ℕ) → cond b (suc (first_bad w)) 0 ≡ cond (not b) 0 (1 + first_bad w)
    by true w = omega arith
    by false w = refl

-- a tape without such a byte is letters
pub all_letters : (tape : List ℕ) → length tape ≤ first_bad tape → (i : ℕ) → i < length tape → is_letter (get_or tape i 0) ≡ true
unfolding first_bad
all_letters [] h i l = absurd (omega arith)
all_letters (c ∷ w) h i l = go (is_letter c) refl h i l (all_letters w)
  where
    go : (b : Bool) → is_letter c ≡ b → suc (length w) ≤ cond b (suc (first_bad w)) 0 → (i : ℕ) → i < suc (length w)
        → (length w ≤ first_bad w → (i : ℕ) → i < length w → is_letter (get_or w i 0) ≡ true) → is_letter (get_or (c ∷ w) i 0) ≡ true
    go true e h zero l ih = e
    go true e h (suc i) l ih = ih (omega arith) i (omega arith)
    go false e h i l ih = absurd (omega arith)
