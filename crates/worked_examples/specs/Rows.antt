-- C1 to C11 of document 01, and rows for kind `Z` and the letters of the hot side of document 02, as a caller meets them: the pattern's text, the
-- tape's or code's bytes, the number and value answered, the code's bytes. Definitions only.
use Rattle.std.specs.Prelude.{◌≡◌, List, [], ◌∷◌, ℕ, ◌+◌, ◌*◌, ◌≤◌, length, Result}
use Rattle.refusals.specs.declared.Refusal.{Refusal}
use Rattle.refusals.specs.Refusals.{Answer, answer}
use Rattle.bits.specs.Bits.{in_front}
use Rattle.syntax.specs.declared.Pattern.{Pattern}
use Rattle.loading.specs.Load.{loaded_answer, pattern_or_none, Loads}
use Rattle.parser.specs.Parse.{parsed_answer, Parses}
use Rattle.canonical.specs.Canonicalize.{canonicalized_answer, Canonicalizes}
use Rattle.worked_examples.specs.Texts.{P1, P2, P3, P4, P5, Listing, Z1, Z2, Z3, Z4, Z5, Z6, Z7, H1, d, a, b, W}

-- what is asked: to read the tape, or to settle a code, given by its bytes and bit count
pub data Asked : Type 0 where
  reading : Asked
  settling : (code : List ℕ) → (count : ℕ) → Asked

pub record Row : Type 0 where
  -- the pattern's text, and how many lines it has
  pub text : List ℕ
  pub lines : ℕ
  pub asked : Asked
  -- the tape that is read, or that the code spells
  pub tape : List ℕ
  -- the number and the value: 0 and the bit count, or a cause and what is "returned beside it"
  pub answered : Answer
  -- the bytes of the code; none where no code is written
  pub written : List ℕ

-- What a row says of every outcome that the services' promises allow, in lent buffers of any content that suffice. Loading gives a table, and on
-- that table the answer and the bytes in front of the code buffer are the row's. 01: "Buffer cells past the written ones never change."
abbrev pub Says : Asked → (text tape : List ℕ) → Answer → (written : List ℕ) → Type 0
Says reading text tape answered written =
    (l : Result Pattern Refusal) → Loads text l
    → (words words_now code code_now : List ℕ) (r : Result ℕ Refusal) → Parses (pattern_or_none l) tape words words_now code code_now r
    → 2 * (length tape + 1) ≤ length words → length written ≤ length code
    → (parsed_answer r ≡ answered) × (code_now ≡ in_front written code)
-- 01: "buffers suffice with at least n tape cells, 2 × (n + 1) mark words, and as many code bytes as the code [..] fills"
Says (settling handed count) text tape answered written =
    (l : Result Pattern Refusal) → Loads text l
    → (cells cells_now words words_now code code_now : List ℕ) (r : Result ℕ Refusal)
    → Canonicalizes (pattern_or_none l) handed count cells cells_now words words_now code code_now r
    → length tape ≤ length cells → 2 * (length tape + 1) ≤ length words → length written ≤ length code
    → (canonicalized_answer r ≡ answered) × (cells_now ≡ in_front tape cells) × (code_now ≡ in_front written code)

pub record Holds (r : Row) : Type 0 where
  pub loads : (l : Result Pattern Refusal) → Loads r.text l → loaded_answer l ≡ answer 0 r.lines
  pub says : Says r.asked r.text r.tape r.answered r.written

-- a row of reading, and one of settling
abbrev reads : (text : List ℕ) → (lines : ℕ) → (tape : List ℕ) → (number value : ℕ) → (written : List ℕ) → Row
reads text lines tape number value written = record {
  text = text;
  lines = lines;
  asked = reading;
  tape = tape;
  answered = answer number value;
  written = written;
}

abbrev settles : (text : List ℕ) → (lines : ℕ) → (code : List ℕ) → (count : ℕ) → (tape : List ℕ) → (number value : ℕ) → (written : List ℕ) → Row
settles text lines code count tape number value written = record {
  text = text;
  lines = lines;
  asked = settling code count;
  tape = tape;
  answered = answer number value;
  written = written;
}

unfoldable pub rows : List Row
rows =
    -- "C1 P1, empty: `1`. C2 P1, a: `001`. C3 P2, a: `011`."
    reads P1 4 [] 0 1 (128 ∷ [])
    ∷ reads P1 4 (a ∷ []) 0 3 (32 ∷ [])
    ∷ reads P2 4 (a ∷ []) 0 3 (96 ∷ [])
    -- "C4 P3, ab: `001011`. C5 P3, ba: `010100111`."
    ∷ reads P3 6 (a ∷ b ∷ []) 0 6 (44 ∷ [])
    ∷ reads P3 6 (b ∷ a ∷ []) 0 9 (83 ∷ 128 ∷ [])
    -- "C6 P4, ab: `00`; code `11` settles to `00`. C7 P4, abb: `10`."
    ∷ reads P4 9 (a ∷ b ∷ []) 0 2 (0 ∷ [])
    ∷ settles P4 9 (192 ∷ []) 2 (a ∷ b ∷ []) 0 2 (0 ∷ [])
    ∷ reads P4 9 (a ∷ b ∷ b ∷ []) 0 2 (128 ∷ [])
    -- "C8 P5, aa: `01`. C9 P5, empty: 5."
    ∷ reads P5 4 (a ∷ a ∷ []) 0 2 (64 ∷ [])
    ∷ reads P5 4 [] 5 0 []
    -- "C10 P1, code `011` settles to `1`. C11 P1, code `01001` settles to `001`."
    ∷ settles P1 4 (96 ∷ []) 3 [] 0 1 (128 ∷ [])
    ∷ settles P1 4 (72 ∷ []) 5 (a ∷ []) 0 3 (32 ∷ [])
    -- the listing: tape `3W2`, 21 bits, 4cc328
    ∷ reads Listing 6 (d 3 ∷ W ∷ d 2 ∷ []) 0 21 (76 ∷ 195 ∷ 40 ∷ [])
    -- 02, Job 2: `Z` "writes 0 to stop and 1 before a round". `Z` over a, empty: `0`
    ∷ reads Z1 2 [] 0 1 (0 ∷ [])
    -- 02: "The settled code is still the earliest without an empty round". `Z` over (a|e), empty: `0`; code `110` settles to `0`
    ∷ reads Z2 4 [] 0 1 (0 ∷ [])
    ∷ settles Z2 4 (192 ∷ []) 3 [] 0 1 (0 ∷ [])
    -- `Z` over (a|aa), aa: `10100`, two rounds of a, which is the left side
    ∷ reads Z3 6 (a ∷ a ∷ []) 0 5 (160 ∷ [])
    -- 02: "a pattern may mix both kinds". `Z` over a, then `K` over a, aa: `0001`. `K` over `Z` over a, a: `0101`
    ∷ reads Z4 5 (a ∷ a ∷ []) 0 4 (16 ∷ [])
    ∷ reads Z5 3 (a ∷ []) 0 4 (80 ∷ [])
    -- `K` over `Z` over (a|e), a: `01001`. `Z` over `K` over (a|e), a: `10010`
    ∷ reads Z6 5 (a ∷ []) 0 5 (72 ∷ [])
    ∷ reads Z7 5 (a ∷ []) 0 5 (144 ∷ [])
    -- 02, Job 3: "A range may run across the gap." `K` over `~` to 161, tape `~` and 161: `0`, 126 in 8 bits, `0`, 161 in 8 bits, `1`
    ∷ reads H1 2 (126 ∷ 161 ∷ []) 0 19 (63 ∷ 40 ∷ 96 ∷ [])
    ∷ settles H1 2 (63 ∷ 40 ∷ 96 ∷ []) 19 (126 ∷ 161 ∷ []) 0 19 (63 ∷ 40 ∷ 96 ∷ [])
    ∷ []
