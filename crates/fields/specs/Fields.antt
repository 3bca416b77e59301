-- A text read field by field: what each function of the code answers.
use Rattle.std.specs.Prelude.{◌≡◌, refl, Bool, true, false, ◌&&◌, ◌||◌, List, [], ◌∷◌, ℕ, ◌+◌, ◌*◌, ◌≤◌, ◌<◌, eqb, ltb, leb, length, get_or, drop, take, Option, None, Some, position, unwrap_or, option_and_then}
use Rattle.std.proofs.Common.{sym, ap, ◌∙◌, arith, lt-ltb, ltb-true, ltb-false, length-take, length-take-le, length-drop, get_or-take}
use Rattle.std.specs.List.{position_or_len}
use Rattle.std.proofs.lemmas.List.Quantifiers.{position-Some}
use Rattle.std.proofs.lemmas.List.Sums.{position_or_len_is}
use Rattle.syntax.specs.Table.{account_limit}
use Rattle.fields.specs.Text.{digit, one_digit, two_digits, place, single, when}

-- a number if it is below a limit
abbrev pub below : (limit n : ℕ) → Option ℕ
below l n = when (ltb n l) n

pub below_none : (l n : ℕ) → below l n ≡ None → l ≤ n
below_none l n e = go (ltb n l) refl e
  where
    go : (b : Bool) → ltb n l ≡ b → when b n ≡ None → l ≤ n
    go true p e = absurd (cc)
    go false p e = ltb-false n l p

pub below_some : (l n m : ℕ) → below l n ≡ Some m → (n ≡ m) × (n < l)
below_some l n m e = go (ltb n l) refl e
  where
    go : (b : Bool) → ltb n l ≡ b → when b n ≡ Some m → (n ≡ m) × (n < l)
    go true p e = ((cc), ltb-true n l p)
    go false p e = absurd (cc)

-- ── a field ──
-- whether a byte ends a field
abbrev pub stops : ℕ → Bool
stops b = eqb b 9 || eqb b 10

-- the size of the field that a text begins with, if a tab or a newline ends it within so many bytes
unfoldable pub field_size : (within : ℕ) → (text : List ℕ) → Option ℕ
field_size k w = position stops (take k w)

-- the text s has the field x at a position; whether it is its line's last, and the position behind it
pub record FieldAt (s : List ℕ) (at : ℕ) (x : List ℕ) (last : Bool) (next : ℕ) : Type 0 where
  pub size : position stops (drop at s) ≡ Some (length x)
  pub bytes : x ≡ take (length x) (drop at s)
  pub ends : last ≡ eqb (get_or (drop at s) (length x) 0) 10
  pub behind : next ≡ at + length x + 1

-- a field lies inside the text
pub next_inside : {s : List ℕ} {at : ℕ} {x : List ℕ} {last : Bool} {next : ℕ} → FieldAt s at x last next → next ≤ length s
next_inside {s = s} {at = at} {x = x} f = omega (arith, (position-Some stops (drop at s) (length x) 0 f.size).0, f.behind, length-drop at s)

-- what ends a field within few bytes ends it
module _ (k : ℕ) (w : List ℕ) (n : ℕ) (e : field_size k w ≡ Some n) where
  pub size_inside : (n < k) × (n < length w)
  unfolding field_size
  size_inside = let l = (position-Some stops (take k w) n 0 e).0 in (omega (arith, length-take k w), omega (arith, length-take k w))

  pub size_found : position stops w ≡ Some n
  unfolding field_size
  size_found =
      let f = position-Some stops (take k w) n 0 e in
      let (l, m) = size_inside in
      let t : stops (get_or w n 0) ≡ true = ap stops (sym (get_or-take k w n 0 l)) ∙ f.1 in
      let i : position_or_len stops w ≡ n =
      position_or_len_is stops w n 0 (omega arith) (λ j h. ap stops (sym (get_or-take k w j 0 (omega arith))) ∙ f.2 j h) (λ h. t) in
      rw (i, lt-ltb n (length w) m)

pub field_found : (s : List ℕ) (at k n : ℕ) → field_size k (drop at s) ≡ Some n
    → FieldAt s at (take n (drop at s)) (eqb (get_or (drop at s) n 0) 10) (at + n + 1)
field_found s at k n e =
    let l : length (take n (drop at s)) ≡ n = length-take-le n (drop at s) (omega (arith, (size_inside k (drop at s) n e).1)) in
    record { size = size_found k (drop at s) n e ∙ ap Some (sym l); bytes = rw l; ends = rw l; behind = rw l }

-- it has fewer bytes than are looked at
pub found_small : (s : List ℕ) (at k n : ℕ) → field_size k (drop at s) ≡ Some n → length (take n (drop at s)) < k
found_small s at k n e =
    let (few, inside) = size_inside k (drop at s) n e in
    omega (arith, few, length-take-le n (drop at s) (omega (arith, inside)))

-- and no other does: a field of so few bytes that is there is the one that is found
pub field_only : {s : List ℕ} {at : ℕ} {x : List ℕ} {last : Bool} {next : ℕ} (k : ℕ) → FieldAt s at x last next → length x < k
    → field_size k (drop at s) ≡ Some (length x)
unfolding field_size
field_only {s = s} {at = at} {x = x} k f l =
    let w = drop at s in
    let (inside, ends, before) = position-Some stops w (length x) 0 f.size in
    let m : length x < length (take k w) = omega (arith, l, inside, length-take k w) in
    let t : stops (get_or (take k w) (length x) 0) ≡ true = ap stops (get_or-take k w (length x) 0 l) ∙ ends in
    let i : position_or_len stops (take k w) ≡ length x =
    position_or_len_is stops (take k w) (length x) 0 (omega (arith, m)) (λ j h. ap stops (get_or-take k w j 0 (omega (arith, h, l))) ∙ before j h) (λ h. t) in
    rw (i, lt-ltb (length x) (length (take k w)) m)

-- ── what fields write ──
-- the byte of a field of one byte
abbrev pub one_byte : (field : List ℕ) → Option ℕ
one_byte [] = None
one_byte (b ∷ []) = Some b
one_byte (a ∷ b ∷ more) = None

pub single_is : (w : List ℕ) → single w ≡ unwrap_or (one_byte w) 0
unfolding single
single_is [] = refl
single_is (b ∷ []) = refl
single_is (a ∷ b ∷ more) = refl

pub single_none : (w : List ℕ) → one_byte w ≡ None → single w ≡ 0
single_none w e = single_is w ∙ ap (λ o. unwrap_or o 0) e

pub single_some : (w : List ℕ) (b : ℕ) → one_byte w ≡ Some b → single w ≡ b
single_some w b e = single_is w ∙ ap (λ o. unwrap_or o 0) e

-- the place of a field, by its size
pub place_short : (w : List ℕ) → length w ≡ 1 → place w ≡ one_digit (digit (get_or w 0 0))
unfolding place
place_short [] h = absurd (omega arith)
place_short (a ∷ []) h = refl
place_short (a ∷ b ∷ w) h = absurd (omega arith)

pub place_long : (w : List ℕ) → length w ≡ 2 → place w ≡ two_digits (digit (get_or w 0 0)) (digit (get_or w 1 0))
unfolding place
place_long [] h = absurd (omega arith)
place_long (a ∷ []) h = absurd (omega arith)
place_long (a ∷ b ∷ []) h = refl
place_long (a ∷ b ∷ c ∷ w) h = absurd (omega arith)

pub place_none : (w : List ℕ) → (length w ≡ 1 → ⊥) → (length w ≡ 2 → ⊥) → place w ≡ 64
unfolding place
place_none [] h k = refl
place_none (a ∷ []) h k = absurd (h refl)
place_none (a ∷ b ∷ []) h k = absurd (k refl)
place_none (a ∷ b ∷ c ∷ w) h k = refl

-- ── an account ──
-- a number with one digit more behind it, while it is an account
unfoldable pub longer : (n b : ℕ) → Option ℕ
longer n b = when (ltb (digit b) 10 && leb (10 * n + digit b) account_limit) (10 * n + digit b)

-- the number that n and the digits behind it write, while it is an account
unfoldable pub number : (n : ℕ) → (digits : List ℕ) → Option ℕ
number n [] = Some n
number n (b ∷ bs) = option_and_then (λ m. number m bs) (longer n b)
