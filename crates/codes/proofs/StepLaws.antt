-- What single steps of copying letters and of comparing them with a tape come to. No answer needs these laws, since the library's `copy_from_slice` and
-- `starts_with` take the steps; they say what copying so many letters leaves, and when a buffer begins with a tape.
use Rattle.std.specs.Prelude.{◌≡◌, refl, Bool, true, false, ◌&&◌, List, [], ◌∷◌, ℕ, suc, ◌+◌, ◌≤◌, ◌<◌, eqb, length, drop, get_or, set}
use Rattle.std.proofs.Common.{sym, ap, ap₂, ◌∙◌, arith, eq-eqb, ne_eqb, length-set, drop_of_length-le, drop-cons}
use Rattle.std.proofs.Math.Seq.{paste, paste-zero, paste-suc}

-- ── the loop that copies: i letters are in front of what the tape held ──
pub record Copied (own old now : List ℕ) (n i : ℕ) : Type 0 where
  pub low : i ≤ n
  pub size : length now ≡ length old
  pub holds : now ≡ paste old 0 own i

pub copied_none : (own old : List ℕ) (n : ℕ) → Copied own old old n 0
copied_none own old n = record { low = omega arith; size = refl; holds = paste-zero old 0 own }

module _ {own old now : List ℕ} {n i : ℕ} (k : Copied own old now n i) where
  pub copied_one : n ≤ length own → n ≤ length old → i < n → Copied own old (set now i (get_or own i 0)) n (i + 1)
  copied_one a b h =
      let j : suc i ≡ i + 1 = omega arith in
      let z : i ≡ 0 + i = omega arith in
      record {
        low = omega arith;
        size = length-set now i (get_or own i 0) ∙ k.size;
        holds = ap₂ (λ xs at. set xs at (get_or own i 0)) k.holds z ∙ paste-suc old 0 own i 0 (omega arith) (omega arith) ∙ ap (paste old 0 own) j;
      }

  pub copied_all : n ≤ i → now ≡ paste old 0 own n
  copied_all h = let e : i ≡ n = omega (arith, k.low) in k.holds ∙ ap (paste old 0 own) e

-- ── a buffer that begins with a tape ──
abbrev pub front_same : (tape own : List ℕ) → Bool
front_same [] own = true
front_same (x ∷ xs) [] = false
front_same (x ∷ xs) (y ∷ ys) = eqb x y && front_same xs ys

module _ (tape own : List ℕ) (long : length tape ≤ length own) where
  -- what is left from letter i on decides
  pub record SameFrom (i : ℕ) : Type 0 where
    pub low : i ≤ length tape
    pub is : front_same tape own ≡ front_same (drop i tape) (drop i own)

  pub same_start : SameFrom 0
  same_start = record { low = omega arith; is = refl }

  module _ (i : ℕ) (s : SameFrom i) where
    pub same_end : length tape ≤ i → true ≡ front_same tape own
    same_end h = sym (s.is ∙ ap (λ l. front_same l (drop i own)) (drop_of_length-le tape {i = i} h))

    module _ (h : i < length tape) where
      abbrev rest : Bool
      rest = front_same (drop (suc i) tape) (drop (suc i) own)

      step : front_same tape own ≡ (eqb (get_or tape i 0) (get_or own i 0) && rest)
      step = s.is ∙ ap₂ front_same (drop-cons tape i 0 h) (drop-cons own i 0 (omega arith))

      pub same_differs : (get_or tape i 0 ≡ get_or own i 0 → ⊥) → false ≡ front_same tape own
      same_differs n = sym (step ∙ ap (λ b. b && rest) (ne_eqb (get_or tape i 0) (get_or own i 0) n))

      pub same_next : get_or tape i 0 ≡ get_or own i 0 → SameFrom (i + 1)
      same_next e =
          let z : suc i ≡ i + 1 = omega arith in
          record {
            low = omega arith;
            is = step ∙ ap (λ b. b && rest) (eq-eqb (get_or tape i 0) (get_or own i 0) e) ∙ ap (λ y. front_same (drop y tape) (drop y own)) z;
          }
