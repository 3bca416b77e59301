-- What a put and a withdrawal do to the letters held, and that a put changes nothing else.
use Rattle.std.specs.Prelude.{◌≡◌, refl, List, [], ◌∷◌, ◌++◌, ℕ, suc, ◌+◌, ◌-◌, ◌≤◌, ◌<◌, take, set}
use Rattle.std.proofs.Math.Path.{sym, ap}
use Rattle.std.proofs.Common.{◌∙◌, length-append, take-suc-set, take_at, drop-drop, length-take-le, get_or-set_other}
use native.Mathlib.Omega.{arith}
use Rattle.std.proofs.Math.ListN.{length, get_or, drop}
use Rattle.std.proofs.Math.Seq.{length-slice, slice_empty}
use Rattle.std.proofs.lemmas.List.Edits.{sets, sets-eq}
use Rattle.syntax.specs.Letter.{letter_limit}
use Rattle.desk.specs.declared.Desk.{Desk}
use Rattle.desk.specs.Desks.{sum, lengths_held, held, letters_held, empty_desk, with_page, without_page}
use Rattle.desk.specs.Lists.{sum-append, sets-part}
use Rattle.desk.specs.Pages.{less-held}

-- ── the letters held ──
-- an empty desk holds none
pub none_held : (letters : List ℕ) → letters_held empty_desk letters ≡ []
unfolding letters_held held lengths_held
none_held letters = slice_empty letter_limit letters

module _ (d : Desk) (letters : List ℕ) (cells : letter_limit ≤ length letters) (few : held d ≤ letter_limit) where
  pub held-length : length (letters_held d letters) ≡ held d
  unfolding letters_held
  held-length =
      length-slice (letter_limit - held d) letter_limit letters cells
      ∙ (let e : letter_limit - (letter_limit - held d) ≡ held d = omega arith in e)

  -- the last page put is first among them
  pub less-letters : 1 ≤ d.count → letters_held (without_page d) letters ≡ drop (get_or d.lengths (d.count - 1) 0) (letters_held d letters)
  unfolding letters_held
  less-letters h =
      let e : letter_limit - held (without_page d) ≡ letter_limit - held d + get_or d.lengths (d.count - 1) 0 = omega (arith, less-held d h, few) in
      ap (λ n. drop n (take letter_limit letters)) e
      ∙ sym (drop-drop (get_or d.lengths (d.count - 1) 0) (letter_limit - held d) (take letter_limit letters))

-- a desk has room for one more length
module _ (d : Desk) (page : List ℕ) (room : d.count < length d.lengths) where
  pub put-held : held (with_page d (length page)) ≡ held d + length page
  unfolding held lengths_held
  put-held =
      ap sum (take-suc-set d.lengths d.count (length page) room)
      ∙ sum-append (take d.count d.lengths) (length page ∷ [])
      ∙ (let e : sum (take d.count d.lengths) + (length page + 0) ≡ sum (take d.count d.lengths) + length page = omega arith in e)

  -- 02: "a page is put before the letters held"
  pub put-letters : (letters : List ℕ) → letter_limit ≤ length letters → held d + length page ≤ letter_limit
      → letters_held (with_page d (length page)) (sets letters (letter_limit - (held d + length page)) page) ≡ page ++ letters_held d letters
  unfolding letters_held
  put-letters letters cells few =
      let at = letter_limit - (held d + length page) in
      let e : at + length page ≡ letter_limit - held d = omega (arith, few) in
      ap (λ n. drop (letter_limit - n) (take letter_limit (sets letters at page))) put-held
      ∙ sets-part page letters at letter_limit (omega (arith, e)) cells
      ∙ ap (λ n. page ++ drop n (take letter_limit letters)) e

-- ── what is stored from a position on changes no other cell ──
pub sets-before : (vs l : List ℕ) (at i : ℕ) → i < at → get_or (sets l at vs) i 0 ≡ get_or l i 0
sets-before [] l at i h = refl
sets-before (v ∷ vs) l at i h = sets-before vs (set l at v) (suc at) i (omega arith) ∙ get_or-set_other l at i v 0 (λ e. omega (arith, e))

pub sets_behind : (vs l : List ℕ) (at i : ℕ) → at + length vs ≤ i → get_or (sets l at vs) i 0 ≡ get_or l i 0
sets_behind [] l at i h = refl
sets_behind (v ∷ vs) l at i h = sets_behind vs (set l at v) (suc at) i (omega arith) ∙ get_or-set_other l at i v 0 (λ e. omega (arith, e))

-- and stands behind what was there before it
pub sets-front : (vs l : List ℕ) (at : ℕ) → at + length vs ≤ length l → take (at + length vs) (sets l at vs) ≡ take at l ++ vs
sets-front vs l at h =
    ap (take (at + length vs)) (sets-eq vs l at h)
    ∙ take_at (take at l ++ vs) (drop (at + length vs) l) (at + length vs)
    (length-append (take at l) vs ∙ ap (λ n. n + length vs) (length-take-le at l (omega arith)))
