-- Cells shown: one law for each way of the code.
use Rattle.std.specs.Prelude.{◌≡◌, Bool, true, false, cond, List, [], ◌∷◌, ◌++◌, ℕ, ◌+◌, ◌≤◌, ◌<◌, eqb, leb, length, drop, get_or}
use Rattle.std.proofs.Common.{sym, ap, ap₂, ◌∙◌, arith, le-leb, length-take}
use Rattle.std.proofs.lemmas.Bool.{lt-leb}
use Rattle.io.specs.Counts.{IsPrefixLen}
use Rattle.text.specs.Text.{Puts, hex, parted}
use Rattle.text.specs.Putting.{puts_within, drop_next, drop_done}
use Rattle.vector_text.specs.Cases.{part, bytes_digest, shown_text, numbers_text}

-- bytes put from the start of a buffer are counted by what is answered
pub puts_counts : (out : List ℕ) (at : ℕ) (bytes after : List ℕ) (r : ℕ) → Puts out at bytes after r → IsPrefixLen r after
puts_counts out at bytes after r p =
    let h : r ≤ length after = puts_within out at bytes after r p in
    (h, simp length-take (omega arith))

-- Cells shown whole, and as a digest.
shown_as : (n : ℕ) (xs : List ℕ) (b : Bool) → leb n 64 ≡ b
    → 9 ∷ cond b (hex (part 0 n xs)) (parted 35 (bytes_digest 1 (part 0 n xs))) ≡ shown_text n xs
unfolding shown_text
shown_as n xs b e = ap (λ z. 9 ∷ cond z (hex (part 0 n xs)) (parted 35 (bytes_digest 1 (part 0 n xs)))) (sym e)

pub shown_whole : (n : ℕ) (xs ys : List ℕ) → n ≤ 64 → ys ≡ part 0 n xs → 9 ∷ hex ys ≡ shown_text n xs
shown_whole n xs ys h e = ap (λ zs. 9 ∷ hex zs) e ∙ shown_as n xs true (le-leb n 64 h)

pub shown_digest : (n d : ℕ) (xs : List ℕ) → 64 < n → d ≡ bytes_digest 1 (part 0 n xs) → 9 ∷ parted 35 d ≡ shown_text n xs
shown_digest n d xs h e = ap (λ k. 9 ∷ parted 35 k) e ∙ shown_as n xs false (lt-leb n 64 h)

-- Numbers from one on.
module _ (i : ℕ) (ns : List ℕ) where
  pub numbers_turn : (by n : ℕ) → i < length ns → by ≡ cond (eqb i 0) 9 44 → n ≡ get_or ns i 0
      → numbers_text i (drop i ns) ≡ parted by n ++ numbers_text (i + 1) (drop (i + 1) ns)
  numbers_turn by n h e f =
      ap (numbers_text i) (drop_next i ns h) ∙ ap₂ (λ b k. parted b k ++ numbers_text (i + 1) (drop (i + 1) ns)) (sym e) (sym f)

  pub numbers_over : length ns ≤ i → numbers_text i (drop i ns) ≡ []
  numbers_over h = ap (numbers_text i) (drop_done i ns h)
