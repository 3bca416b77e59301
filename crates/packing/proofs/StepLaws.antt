-- What single steps of laying totals into lent cells and of looking for litres beyond them come to. No answer needs these laws, since
-- `copy_from_slice` and `any` take the steps; they say what so many steps leave, and what each total decides.
use Rattle.std.specs.Prelude.{◌≡◌, refl, Bool, true, false, ◌||◌, List, [], ◌∷◌, ◌++◌, ℕ, zero, suc, ◌+◌, ◌≤◌, ◌<◌, min, length, take, drop, get_or, set}
use Rattle.std.proofs.Common.{sym, ap, ap₂, ◌∙◌, arith, lt-ltb, le-ltb, length-set, length-take, take_all}
use Rattle.std.proofs.Math.Decide.{dec_le}
use Rattle.std.proofs.Math.Seq.{paste, paste-zero, paste-suc}
use Rattle.bits.specs.Bits.{in_front}
use Rattle.packing.specs.Packing.{in_cells}
use Rattle.packing.specs.Cells.{some_litres, beyond}

-- ── laying: i totals are laid, and the cells hold them in front of what they held ──
pub record Laid (totals old now : List ℕ) (i : ℕ) : Type 0 where
  pub within : i ≤ min (length totals) (length old)
  pub size : length now ≡ length old
  pub holds : now ≡ paste old 0 totals i

pub laid_none : (totals old : List ℕ) → Laid totals old old 0
laid_none totals old = record { within = omega arith; size = refl; holds = paste-zero old 0 totals }

pub laid_one :
    (totals old now : List ℕ) (i n : ℕ) → Laid totals old now i → n ≡ min (length totals) (length old) → i < n
    → Laid totals old (set now i (get_or totals i 0)) (i + 1)
laid_one totals old now i n l e h =
    let j : suc i ≡ i + 1 = omega arith in
    let k : i ≡ 0 + i = omega arith in
    record {
      within = omega (arith, h, e);
      size = length-set now i (get_or totals i 0) ∙ l.size;
      holds =
          ap₂ (λ xs at. set xs at (get_or totals i 0)) l.holds k ∙ paste-suc old 0 totals i 0 (omega (arith, h, e)) (omega (arith, h, e))
          ∙ ap (paste old 0 totals) j;
    }

-- no more of a list is taken than it has
take_least : (xs : List ℕ) (n : ℕ) → take (min (length xs) n) xs ≡ take n xs
take_least xs n = go (dec_le (length xs) n)
  where
    go : Dec (length xs ≤ n) → take (min (length xs) n) xs ≡ take n xs
    go (yes h) = let e : min (length xs) n ≡ length xs = omega arith in take_all (min (length xs) n) xs (omega arith) ∙ sym (take_all n xs h)
    go (no h) = let e : min (length xs) n ≡ n = omega arith in ap (λ k. take k xs) e

pub laid_all : (totals old now : List ℕ) (i n : ℕ) → Laid totals old now i → n ≡ min (length totals) (length old) → n ≤ i → now ≡ in_cells totals old
unfolding in_front
laid_all totals old now i n l e h =
    let m : i ≡ min (length totals) (length old) = omega (arith, l.within, h, e) in
    let f : take i totals ≡ take (length old) totals = ap (λ k. take k totals) m ∙ take_least totals (length old) in
    let g : 0 + i ≡ length (take (length old) totals) = omega (arith, m, length-take (length old) totals) in
    l.holds ∙ ap₂ (λ xs k. xs ++ drop k old) f g

-- ── looking for litres ──
drop_one : (xs : List ℕ) (i : ℕ) → i < length xs → drop i xs ≡ get_or xs i 0 ∷ drop (suc i) xs
drop_one [] i h = absurd (omega arith)
drop_one (x ∷ xs) zero h = refl
drop_one (x ∷ xs) (suc i) h = drop_one xs i (omega arith)

drop_none : (xs : List ℕ) (i : ℕ) → length xs ≤ i → some_litres (drop i xs) ≡ false
drop_none [] zero h = refl
drop_none [] (suc i) h = refl
drop_none (x ∷ xs) zero h = absurd (omega arith)
drop_none (x ∷ xs) (suc i) h = drop_none xs i (omega arith)

-- what is found from account n on is what is found from account i on
module _ (xs : List ℕ) (n i : ℕ) (same : beyond xs n ≡ beyond xs i) where
  pub litres_found : i < length xs → 0 < get_or xs i 0 → true ≡ beyond xs n
  unfolding beyond
  litres_found h l = sym (same ∙ ap some_litres (drop_one xs i h) ∙ ap (λ b. b || some_litres (drop (suc i) xs)) (lt-ltb 0 (get_or xs i 0) l))

  pub litres_next : i < length xs → get_or xs i 0 ≤ 0 → beyond xs n ≡ beyond xs (i + 1)
  unfolding beyond
  litres_next h l =
      let e : suc i ≡ i + 1 = omega arith in
      same ∙ ap some_litres (drop_one xs i h) ∙ ap (λ b. b || some_litres (drop (suc i) xs)) (le-ltb 0 (get_or xs i 0) l) ∙ ap (λ k. some_litres (drop k xs)) e

  pub litres_none : length xs ≤ i → false ≡ beyond xs n
  unfolding beyond
  litres_none h = sym (same ∙ drop_none xs i h)
