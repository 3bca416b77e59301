-- Numbers read, digests and positions found, one law for each way of the code.
use Rattle.std.specs.Prelude.{◌≡◌, refl, Bool, true, false, cond, ◌&&◌, List, [], ◌∷◌, ◌⊎◌, ℕ, suc, ◌+◌, ◌-◌, ◌*◌, ◌≤◌, ◌<◌, min, eqb, ◌==◌, not, leb, ltb, Option, Some, None, length, take, drop, get_or}
use Rattle.std.proofs.Common.{sym, ap, ◌∙◌, ⊎_elim, arith, le-leb, ltb-false, length-drop, take_all}
use Rattle.std.proofs.Math.Nat.{min-eq_left}
use Rattle.std.proofs.lemmas.Bool.{lt-leb}
use Rattle.text.specs.Putting.{le_or, drop_next, drop_done}
use Rattle.vector_text.specs.Cases.{appended, decimal_from, most_number, number_of_text, before_byte, behind_byte, has_byte}
use Rattle.std.proofs.lemmas.List.Recursion.{is_position_or_len}
use Rattle.std.specs.List.{position, position_or_len}
use Rattle.std.specs.Option.{unwrap_or}
use Rattle.std.proofs.lemmas.List.Sums.{prefix_len-le-length}

-- Digits.
pub digit_told : (n c : ℕ) → 48 ≤ c → c ≤ 57 → appended n c ≡ 10 * n + (c - 48)
digit_told n c h k = rw (le-leb 48 c h, le-leb c 57 k)

pub digit-below : (n c : ℕ) → c < 48 → appended n c ≡ n
digit-below n c h = rw (lt-leb 48 c h)

pub digit-above : (n c : ℕ) → 57 < c → appended n c ≡ n
digit-above n c h = cases (leb 48 c) where
  cases : (b : Bool) → cond (b && leb c 57) (10 * n + (c - 48)) n ≡ n
  cases false = refl
  cases true = rw (lt-leb c 57 h)

-- a number at least as great as the greatest stays so
appended_grows : (n c : ℕ) → n ≤ appended n c
appended_grows n c = cases (leb 48 c && leb c 57) where
  cases : (b : Bool) → n ≤ cond b (10 * n + (c - 48)) n
  cases false = omega arith
  cases true = omega arith

decimal_grows : (cs : List ℕ) (n : ℕ) → n ≤ decimal_from n cs
decimal_grows [] n = omega arith
decimal_grows (c ∷ cs) n = omega (arith, appended_grows n c, decimal_grows cs (appended n c))

-- to cap a number before more digits come changes nothing of what is capped in the end
capped : (cs : List ℕ) (n : ℕ) → min (decimal_from (min n most_number) cs) most_number ≡ min (decimal_from n cs) most_number
capped cs n =
    ⊎_elim (λ a. ap (λ k. min (decimal_from k cs) most_number) (min-eq_left a))
    (λ b. omega (arith, decimal_grows cs n, decimal_grows cs (min n most_number))) (le_or n most_number)

-- what is left to read from here gives the number of the whole text
abbrev pub Reads : (all : List ℕ) (n : ℕ) (left : List ℕ) → Type 0
Reads all n left = (min (decimal_from n left) most_number ≡ number_of_text all) × (n ≤ most_number)

pub reads-start : (all : List ℕ) → Reads all 0 (drop 0 all)
unfolding number_of_text
reads-start all = (refl, omega arith)

pub reads_turn : (all : List ℕ) (n i r : ℕ) → Reads all n (drop i all) → i < length all → r ≡ min (appended n (get_or all i 0)) most_number
    → Reads all r (drop (i + 1) all)
reads_turn all n i r (h, k) l e = (
  ap (λ m. min (decimal_from m (drop (i + 1) all)) most_number) e
      ∙ capped (drop (i + 1) all) (appended n (get_or all i 0))
      ∙ sym (ap (λ xs. min (decimal_from n xs) most_number) (drop_next i all l))
      ∙ h,
  omega arith,
)

pub reads_done : (all : List ℕ) (n i : ℕ) → Reads all n (drop i all) → length all ≤ i → n ≡ number_of_text all
reads_done all n i (h, k) l = sym (min-eq_left k) ∙ sym (ap (λ xs. min (decimal_from n xs) most_number) (drop_done i all l)) ∙ h

-- The first byte of a kind: where it stands is how many stand before it, and there is one where those are not all.
pub before_end : (stop : ℕ) (xs : List ℕ) → length (before_byte stop xs) ≡ position_or_len (λ c. eqb c stop) xs
before_end stop xs = is_position_or_len (λ ys. length (before_byte stop ys)) (λ c. eqb c stop) refl step xs where
  step : (c : ℕ) (cs : List ℕ) → length (before_byte stop (c ∷ cs)) ≡ cond (eqb c stop) 0 (1 + length (before_byte stop cs))
  step c cs = cases (eqb c stop) where
    cases : (b : Bool) → length (cond b [] (c ∷ before_byte stop cs)) ≡ cond b 0 (1 + length (before_byte stop cs))
    cases true = refl
    cases false = omega arith

pub before_found : (stop : ℕ) (xs : List ℕ) → unwrap_or (position (λ c. c == stop) xs) (length xs) ≡ length (before_byte stop xs)
before_found stop xs = found (ltb end (length xs)) refl ∙ sym (before_end stop xs) where
  end : ℕ
  end = position_or_len (λ c. c == stop) xs

  found : (b : Bool) → ltb end (length xs) ≡ b → unwrap_or (cond b (Some end) None) (length xs) ≡ end
  found true e = refl
  found false e = omega (arith, ltb-false end (length xs) e, prefix_len-le-length (λ c. not (c == stop)) xs)

-- there is one where those before it are not all
pub has_some : (stop : ℕ) (xs : List ℕ) → length (before_byte stop xs) < length xs → has_byte stop xs ≡ true
has_some stop [] h = absurd (omega arith)
has_some stop (c ∷ cs) h = cases (has_some stop cs) (eqb c stop) h where
  cases : (length (before_byte stop cs) < length cs → has_byte stop cs ≡ true)
      → (b : Bool) → length (cond b [] (c ∷ before_byte stop cs)) < suc (length cs) → cond b true (has_byte stop cs) ≡ true
  cases f true h = refl
  cases f false h = f (omega arith)

pub has_none : (stop : ℕ) (xs : List ℕ) → length xs ≤ length (before_byte stop xs) → has_byte stop xs ≡ false
has_none stop [] h = refl
has_none stop (c ∷ cs) h = cases (has_none stop cs) (eqb c stop) h where
  cases : (length cs ≤ length (before_byte stop cs) → has_byte stop cs ≡ false)
      → (b : Bool) → suc (length cs) ≤ length (cond b [] (c ∷ before_byte stop cs)) → cond b true (has_byte stop cs) ≡ false
  cases f true h = absurd (omega arith)
  cases f false h = f (omega arith)

-- Fields: what stands before the first byte of a kind, and what stands behind it.
field-before : (stop : ℕ) (xs : List ℕ) → take (length (before_byte stop xs)) xs ≡ before_byte stop xs
field-before stop [] = refl
field-before stop (c ∷ cs) = cases (field-before stop cs) (eqb c stop) where
  cases : take (length (before_byte stop cs)) cs ≡ before_byte stop cs
      → (b : Bool) → take (length (cond b [] (c ∷ before_byte stop cs))) (c ∷ cs) ≡ cond b [] (c ∷ before_byte stop cs)
  cases h true = refl
  cases h false = ap (λ ys. c ∷ ys) h

pub take-before : (stop : ℕ) (xs : List ℕ) (end : ℕ) → end ≡ length (before_byte stop xs) → take end xs ≡ before_byte stop xs
take-before stop xs end e = ap (λ k. take k xs) e ∙ field-before stop xs

field-behind : (stop : ℕ) (xs : List ℕ) → drop (min (length (before_byte stop xs) + 1) (length xs)) xs ≡ behind_byte stop xs
field-behind stop [] = refl
field-behind stop (c ∷ cs) = cases (field-behind stop cs) (eqb c stop) where
  cases : drop (min (length (before_byte stop cs) + 1) (length cs)) cs ≡ behind_byte stop cs
      → (b : Bool) → drop (min (length (cond b [] (c ∷ before_byte stop cs)) + 1) (suc (length cs))) (c ∷ cs) ≡ cond b cs (behind_byte stop cs)
  cases h true =
      let e : min (0 + 1) (suc (length cs)) ≡ 1 = omega arith in
      ap (λ k. drop k (c ∷ cs)) e
  cases h false =
      let e : min (suc (length (before_byte stop cs)) + 1) (suc (length cs)) ≡ suc (min (length (before_byte stop cs) + 1) (length cs)) = omega arith in
      ap (λ k. drop k (c ∷ cs)) e ∙ h

pub drop-behind : (stop : ℕ) (xs : List ℕ) (end start : ℕ) → end ≡ length (before_byte stop xs) → start ≡ min (end + 1) (length xs)
    → take (length xs - start) (drop start xs) ≡ behind_byte stop xs
drop-behind stop xs end start e f =
    let g : start ≡ min (length (before_byte stop xs) + 1) (length xs) = omega arith in
    take_all (length xs - start) (drop start xs) (omega (arith, length-drop start xs)) ∙ ap (λ k. drop k xs) g ∙ field-behind stop xs
