-- What single steps of printing totals come to, one after the other. No answer needs these laws, since crate vector_text promises the whole; they say
-- what is printed of each total.
use Rattle.std.specs.Prelude.{◌≡◌, cond, List, [], ◌++◌, ℕ, ◌+◌, ◌≤◌, ◌<◌, eqb, length, drop, get_or}
use Rattle.text.specs.Text.{parted}
use Rattle.vector_text.specs.Cases.{numbers_text}
use Rattle.vector_text.specs.Parts.{numbers_turn, numbers_over}

-- ── totals ──
-- from account i on: a tab stands before the first number, commas before the others
abbrev pub litres_text : (i : ℕ) → (litres : List ℕ) → List ℕ
litres_text = numbers_text

pub litres_turn : (i : ℕ) (xs : List ℕ) (by n : ℕ) → i < length xs → by ≡ cond (eqb i 0) 9 44 → n ≡ get_or xs i 0
    → litres_text i (drop i xs) ≡ parted by n ++ litres_text (i + 1) (drop (i + 1) xs)
litres_turn i xs by n h e f = numbers_turn i xs by n h e f

pub litres_over : (i : ℕ) (xs : List ℕ) → length xs ≤ i → litres_text i (drop i xs) ≡ []
litres_over i xs h = numbers_over i xs h
