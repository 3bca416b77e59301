-- The page desk: what its calls answer and what they leave, for every input. Definitions only.
use Rattle.std.specs.Prelude.{◌≡◌, Bool, true, ◌&&◌, not, cond, List, [], ◌∷◌, ◌++◌, ℕ, suc, ◌+◌, ◌-◌, ◌*◌, eqb, leb, ltb, length, get_or, take, drop, set, replicate, Result}
use Rattle.std.proofs.lemmas.List.Edits.{sets}
use Rattle.syntax.specs.declared.Pattern.{Pattern}
use Rattle.syntax.specs.Letter.{is_letter, first_bad, letter_limit}
use Rattle.syntax.specs.Table.{obeys}
use Rattle.refusals.specs.declared.Refusal.TheVariants.{Tree as TreeFault, TapeByte, WordsTooShort, TapeTooShort}
use Rattle.refusals.specs.Refusals.{number, value, Answer, answer, answer_by}
use Rattle.bits.specs.Bits.{in_front}
use Rattle.refusals.specs.Checks.{CheckOf, first_of}
use Rattle.first_sweep.specs.Tail.{tail_words}
use Rattle.first_sweep.specs.Grow.{grown}
use Rattle.desk.specs.declared.Desk.{Desk}
use Rattle.desk.specs.declared.DeskRefusal.{DeskRefusal}
use Rattle.desk.specs.declared.DeskRefusal.TheVariants.{Base, DeskLimits, DeskFull, DeskEmpty}

-- ── a desk and its letters ──
-- 02: "At most 30 pages are held."
abbrev pub page_limit : ℕ
page_limit = 30

-- 02: "pages of 1 to 120 letters"
abbrev pub page_letters : ℕ
page_letters = 120

unfoldable pub good_page : (letters : ℕ) → Bool
good_page n = leb 1 n && leb n page_letters

abbrev pub every : (ℕ → Bool) → List ℕ → Bool
every f [] = true
every f (x ∷ xs) = f x && every f xs

abbrev pub sum : List ℕ → ℕ
sum [] = 0
sum (x ∷ xs) = x + sum xs

-- lengths at or past the count are never looked at
unfoldable pub lengths_held : Desk → List ℕ
lengths_held d = take d.count d.lengths

-- how many letters a desk holds
unfoldable pub held : Desk → ℕ
held d = sum (lengths_held d)

-- 02: "They lie against the end of the first 3,600 cells of a lent buffer."
unfoldable pub letters_held : Desk → (letters : List ℕ) → List ℕ
letters_held d letters = drop (letter_limit - held d) (take letter_limit letters)

-- a desk within the limits
unfoldable pub limits_kept : Desk → Bool
limits_kept d = leb d.count page_limit && every good_page (lengths_held d)

-- 02 refuses "a desk that breaks these limits or holds a byte that is no letter"
unfoldable pub desk_good : Desk → (letters : List ℕ) → Bool
desk_good d letters = limits_kept d && every is_letter (letters_held d letters)

-- ── what an accepted call leaves of a desk ──
abbrev pub empty_desk : Desk
empty_desk = record { count = 0; lengths = replicate page_limit 0 }

abbrev pub with_page : Desk → (letters : ℕ) → Desk
with_page d n = record { count = suc d.count; lengths = set d.lengths d.count n }

abbrev pub without_page : Desk → Desk
without_page d = record { count = d.count - 1; lengths = d.lengths }

-- ── causes ──
-- 02: "with 13, a 31st page with 14", "an empty one gives 15"
abbrev pub desk_number : DeskRefusal → ℕ
desk_number (Base r) = number r
desk_number DeskLimits = 13
desk_number DeskFull = 14
desk_number DeskEmpty = 15

-- 01: "A cause added later returns 0 and leaves all as it was."
abbrev pub desk_value : DeskRefusal → ℕ
desk_value (Base r) = value r
desk_value DeskLimits = 0
desk_value DeskFull = 0
desk_value DeskEmpty = 0

abbrev pub desk_refused : DeskRefusal → Answer
desk_refused r = answer (desk_number r) (desk_value r)

abbrev pub desk_answer : Result ℕ DeskRefusal → Answer
desk_answer = answer_by desk_refused

abbrev pub DeskTest : Type 0
DeskTest = CheckOf DeskRefusal

-- the words of so many letters: 02 counts them "from the tape's end, the words for j letters from 2 × j on"
abbrev pub words_for : (letters : ℕ) → ℕ
words_for j = 2 * (j + 1)

-- the checks that two calls share
abbrev pub table_check : Pattern → DeskTest
table_check p = (not (obeys p), Base (TreeFault 0))

-- 02: "fewer than 3,600 cells with 9 (needed: 3,600)"
abbrev pub cells_check : (cells : ℕ) → DeskTest
cells_check n = (ltb n letter_limit, Base (TapeTooShort letter_limit))

abbrev pub words_check : (words needed : ℕ) → DeskTest
words_check n needed = (ltb n needed, Base (WordsTooShort needed))

-- 02: "opening an empty desk writes the two of the end (refusing 2, then 6)"
abbrev pub open_order : Pattern → (words : ℕ) → List DeskTest
open_order p n = table_check p ∷ words_check n (words_for 0) ∷ []

-- 02: "It refuses, after 2, fewer than 3,600 cells with 9", and so does a withdrawal
abbrev pub lent_order : Pattern → (cells : ℕ) → List DeskTest
lent_order p n = table_check p ∷ cells_check n ∷ []

-- 02: "after 2, fewer than 3,600 cells with 9 [..], then a page of a wrong length, or a desk that breaks these limits or holds a byte that is no
-- letter, with 13, a 31st page with 14, then a bad letter with 4 (its position in the page), then marks too few for the letters after the put with 6"
abbrev pub page_order : Desk → (page letters : List ℕ) → (words : ℕ) → List DeskTest
page_order d page letters n =
    (not (good_page (length page) && desk_good d letters), DeskLimits)
    ∷ (leb page_limit d.count, DeskFull)
    ∷ (ltb (first_bad page) (length page), Base (TapeByte (first_bad page)))
    ∷ words_check n (words_for (held d + length page))
    ∷ []

abbrev pub put_order : Desk → Pattern → (page letters : List ℕ) → (words : ℕ) → List DeskTest
put_order d p page letters n = lent_order p (length letters) ++ page_order d page letters n

-- 02: "withdrawal checks 2, 9 and 13 for the desk, and an empty one gives 15"
abbrev pub held_order : Desk → (letters : List ℕ) → List DeskTest
held_order d letters = (not (desk_good d letters), DeskLimits) ∷ (eqb d.count 0, DeskEmpty) ∷ []

abbrev pub withdraw_order : Desk → Pattern → (letters : List ℕ) → List DeskTest
withdraw_order d p letters = lent_order p (length letters) ++ held_order d letters

-- ── answers: 02: "each accepted one with the count of letters then held" ──
unfoldable pub open_answer : Pattern → (words : ℕ) → Answer
open_answer p n = first_of desk_refused (open_order p n) (answer 0 0)

unfoldable pub put_answer : Desk → Pattern → (page letters : List ℕ) → (words : ℕ) → Answer
put_answer d p page letters n = first_of desk_refused (put_order d p page letters n) (answer 0 (held d + length page))

unfoldable pub withdraw_answer : Desk → Pattern → (letters : List ℕ) → Answer
withdraw_answer d p letters = first_of desk_refused (withdraw_order d p letters) (answer 0 (held (without_page d)))

-- 02: "A refused call leaves desk, letters and marks alike."
abbrev pub if_accepted : {A : Type 0} → Answer → (new old : A) → A
if_accepted a new old = cond (eqb a.number 0) new old

-- ── THE PROMISES, for every desk, table, page and lent buffers ──
pub record Opens (p : Pattern) (d d_now : Desk) (words words_now : List ℕ) (r : Result ℕ DeskRefusal) : Type 0 where
  pub answers : desk_answer r ≡ open_answer p (length words)
  pub leaves : d_now ≡ if_accepted (open_answer p (length words)) empty_desk d
  pub words_left : words_now ≡ if_accepted (open_answer p (length words)) (in_front (tail_words p []) words) words

-- 02: "a put changes only its own letters' cells and mark words"
pub record Puts (p : Pattern) (page : List ℕ) (d d_now : Desk) (letters letters_now words words_now : List ℕ) (r : Result ℕ DeskRefusal) : Type 0 where
  pub answers : desk_answer r ≡ put_answer d p page letters (length words)
  pub leaves : d_now ≡ if_accepted (put_answer d p page letters (length words)) (with_page d (length page)) d
  pub letters-left : letters_now ≡
      if_accepted (put_answer d p page letters (length words)) (sets letters (letter_limit - (held d + length page)) page) letters
  pub words_left : words_now ≡
      if_accepted (put_answer d p page letters (length words))
      (sets words (2 * (held d + 1)) (grown p (get_or words (2 * held d + 1) 0) (eqb (held d) 0) page)) words

-- 02: "a withdrawal none"
pub record Withdraws (p : Pattern) (d d_now : Desk) (letters : List ℕ) (r : Result ℕ DeskRefusal) : Type 0 where
  pub answers : desk_answer r ≡ withdraw_answer d p letters
  pub leaves : d_now ≡ if_accepted (withdraw_answer d p letters) (without_page d) d
