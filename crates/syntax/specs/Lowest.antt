-- Laws of the lowest number of which a test holds.
use Rattle.std.specs.Prelude.{not, ◌&&◌, is_none, take, List, [], ◌∷◌, length, get_or, position, ◌≡◌, refl, Bool, true, false, cond, ℕ, zero, suc, ◌+◌, ◌-◌, ◌≤◌, ◌<◌, None, Some}
use Rattle.std.specs.List.{position_from, list_all}
use Rattle.std.proofs.lemmas.Iterator.Adapters.{position_from-zero}
use Rattle.std.proofs.lemmas.List.{get_or-take}
use Rattle.std.proofs.Common.{sym, ap, ◌∙◌, arith, length-take-le}
use Rattle.std.proofs.lemmas.Option.{none-some}
use Rattle.std.proofs.Math.Decide.{dec_le}
use Rattle.syntax.specs.Table.{lowest}

module _ (f : ℕ → Bool) where
  -- the first number decides, or the search goes on behind it
  pub lowest-here : (i k : ℕ) → f i ≡ true → 0 < k → lowest f i k ≡ Some i
  lowest-here i zero h l = absurd (omega arith)
  lowest-here i (suc k) h l = rw h

  pub lowest_next : (i n : ℕ) → i < n → f i ≡ false → lowest f i (n - i) ≡ lowest f (i + 1) (n - (i + 1))
  lowest_next i n l h =
      let a : n - i ≡ suc (n - (i + 1)) = omega arith in
      let b : suc i ≡ i + 1 = omega arith in
      ap (λ k. lowest f i k) a ∙ rw h (ap (λ j. lowest f j (n - (i + 1))) b)

  pub lowest-empty : (i n : ℕ) → n ≤ i → lowest f i (n - i) ≡ None
  lowest-empty i n l = let e : n - i ≡ 0 = omega arith in ap (λ k. lowest f i k) e

  pub lowest-within : (i k j : ℕ) → lowest f i k ≡ Some j → j < i + k
  lowest-within i zero j h = absurd (none-some j h)
  lowest-within i (suc k) j h = go (lowest-within (suc i) k j) (f i) h
    where
      go : (lowest f (suc i) k ≡ Some j → j < suc i + k) → (b : Bool) → cond b (Some i) (lowest f (suc i) k) ≡ Some j → j < i + suc k
      go ih true e = let q : i ≡ j = (cc) in omega arith
      go ih false e = omega (arith, ih e)

  -- none is found exactly where the test fails of every number
  pub lowest_none : (k i : ℕ) → lowest f i k ≡ None → (j : ℕ) → i ≤ j → j < i + k → f j ≡ false
  lowest_none zero i h j a b = absurd (omega arith)
  lowest_none (suc k) i h j a b = go (lowest_none k (suc i)) (f i) refl h (dec_le (suc i) j)
    where
      go :
          (lowest f (suc i) k ≡ None → (j : ℕ) → suc i ≤ j → j < suc i + k → f j ≡ false) → (x : Bool) → f i ≡ x
          → cond x (Some i) (lowest f (suc i) k) ≡ None → Dec (suc i ≤ j) → f j ≡ false
      go ih true e h d = absurd (none-some i (sym h))
      go ih false e h (yes d) = ih h j d (omega arith)
      go ih false e h (no d) = let q : j ≡ i = omega arith in ap f q ∙ e

  pub none_lowest : (k i : ℕ) → ((j : ℕ) → i ≤ j → j < i + k → f j ≡ false) → lowest f i k ≡ None
  none_lowest zero i h = refl
  none_lowest (suc k) i h = rw (h i (omega arith) (omega arith)) (none_lowest k (suc i) (λ j a b. h j (omega arith) (omega arith)))

pub lowest_same : (f g : ℕ → Bool) (k i : ℕ) → ((j : ℕ) → i ≤ j → j < i + k → f j ≡ g j) → lowest f i k ≡ lowest g i k
lowest_same f g zero i h = refl
lowest_same f g (suc k) i h = rw (h i (omega arith) (omega arith), lowest_same f g k (suc i) (λ j a b. h j (omega arith) (omega arith)))

-- ── a search from 0 on, at number i of n ──
pub record Searched (f : ℕ → Bool) (n i : ℕ) : Type 0 where
  pub within : i ≤ n
  pub rest : lowest f 0 n ≡ lowest f i (n - i)

pub searched_start : (f : ℕ → Bool) (n : ℕ) → Searched f n 0
searched_start f n = let e : n ≡ n - 0 = omega arith in record { within = omega arith; rest = ap (λ k. lowest f 0 k) e }

module _ (f : ℕ → Bool) (n i : ℕ) (s : Searched f n i) where
  pub searched_end : n ≤ i → lowest f 0 n ≡ None
  searched_end h = s.rest ∙ lowest-empty f i n h

  pub searched_here : i < n → f i ≡ true → lowest f 0 n ≡ Some i
  searched_here h e = s.rest ∙ lowest-here f i (n - i) e (omega arith)

  pub searched_on : i < n → f i ≡ false → Searched f n (i + 1)
  searched_on h e = record { within = omega arith; rest = s.rest ∙ lowest_next f i n h e }

-- ── a search of a list: the test of number i + j is that of element j ──
module _ {X : Type 0} (t : X → Bool) (d : X) where
  lowest-from : (f : ℕ → Bool) (xs : List X) (i : ℕ) → ((j : ℕ) → j < length xs → f (i + j) ≡ t (get_or xs j d)) → lowest f i (length xs) ≡ position_from t i xs
  lowest-from f [] i h = refl
  lowest-from f (x ∷ xs) i h =
      let e : i + 0 ≡ i = omega arith in
      let s : suc i ≡ i + 1 = omega arith in
      let q : f i ≡ t x = ap f (sym e) ∙ h 0 (omega arith) in
      let r : lowest f (suc i) (length xs) ≡ position_from t (suc i) xs =
      lowest-from f xs (suc i) (λ j l. (let k : suc i + j ≡ i + suc j = omega arith in ap f k) ∙ h (suc j) (omega arith)) in
      rw q (ap (cond (t x) (Some i)) (r ∙ ap (λ k. position_from t k xs) s))

  -- in the first n elements
  pub lowest_position : (f : ℕ → Bool) (xs : List X) (n : ℕ) → n ≤ length xs → ((j : ℕ) → j < n → f j ≡ t (get_or xs j d))
      → lowest f 0 n ≡ position t (take n xs)
  lowest_position f xs n l h =
      let e : length (take n xs) ≡ n = length-take-le n xs l in
      ap (lowest f 0) (sym e)
      ∙ lowest-from f (take n xs) 0 (λ j k. let b : j < n = omega arith in (let z : 0 + j ≡ j = omega arith in ap f z) ∙ h j b ∙ ap t (sym (get_or-take n xs j d b)))
      ∙ sym (position_from-zero t (take n xs))

none_all : {X : Type 0} (t : X → Bool) (xs : List X) (i : ℕ) → is_none (position_from (λ x. not (t x)) i xs) ≡ list_all t xs
none_all t [] i = refl
none_all t (x ∷ xs) i = go (t x) (none_all t xs (i + 1))
  where
    go : (b : Bool) → is_none (position_from (λ x. not (t x)) (i + 1) xs) ≡ list_all t xs
        → is_none (cond (not b) (Some i) (position_from (λ x. not (t x)) (i + 1) xs)) ≡ (b && list_all t xs)
    go true e = e
    go false e = refl

-- none fails where all pass
pub none_position : {X : Type 0} (t : X → Bool) (xs : List X) → is_none (position (λ x. not (t x)) xs) ≡ list_all t xs
none_position t xs = ap is_none (position_from-zero (λ x. not (t x)) xs) ∙ none_all t xs 0
