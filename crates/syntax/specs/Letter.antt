-- Letters. The one definition of a letter: pattern texts, tables, tapes and the codes of ranges all use it.
use Rattle.std.specs.Prelude.{Bool, ◌&&◌, ◌||◌, cond, List, [], ◌∷◌, ℕ, suc, leb}

-- 01: "A letter is one byte, 33 to 126." 02, Job 3: "hot water events as bytes 161 to 254. These become letters of tapes and patterns"
unfoldable pub is_letter : ℕ → Bool
is_letter c = (leb 33 c && leb c 126) || (leb 161 c && leb c 254)

-- 01: a range means "any letter of that range". 02, Job 3: "A range may run across the gap; bytes 127 to 160 are still no letters"
unfoldable pub in_range : (low high c : ℕ) → Bool
in_range low high c = is_letter c && (leb low c && leb c high)

-- 01: "Tapes hold at most 3,600 letters"; in code `Pattern::MAX_LETTERS`
abbrev pub letter_limit : ℕ
letter_limit = 3600

-- 01, cause 4: "tape byte outside 33 to 126" (02, Job 3: "read with the new letters"), with the "first such position"; the tape's length where
-- every byte is a letter
unfoldable pub first_bad : (tape : List ℕ) → ℕ
first_bad [] = 0
first_bad (c ∷ w) = cond (is_letter c) (suc (first_bad w)) 0
