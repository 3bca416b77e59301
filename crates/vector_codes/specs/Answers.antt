-- Parts of a case's line: what a service answers, the totals of a code, the piece of a visit, and the dates that a case hands over.
use Rattle.std.specs.Prelude.{◌≡◌, cond, List, [], ◌∷◌, ◌++◌, ℕ, ◌+◌, ◌-◌, ◌≤◌, ◌<◌, min, eqb, length, take, drop, get_or}
use Rattle.std.proofs.Common.{sym, ap, ap₂, subst, ◌∙◌, arith}
use Rattle.std.proofs.Math.Decide.{dec_le}
use Rattle.calendar.specs.declared.Date.{Date}
use Rattle.calendar.specs.Dates.{date}
use Rattle.std.proofs.Math.ListN.{get_or-eq_default}
use Rattle.syntax.specs.Table.{one_digit_limit}
use Rattle.refusals.specs.Refusals.{Answer}
use Rattle.text.specs.Text.{Puts, field, pair}
use Rattle.vector_text.specs.Cases.{part, bytes_digest, shown_text, left_text, numbers_text, number_of_text, before_byte, behind_byte}
use Rattle.vector_codes.specs.declared.code_cases.Lent.{Lent}

-- number and value, parted by a tab
abbrev pub answer_text : Answer → List ℕ
answer_text a = pair a.number a.value

-- start and length of a piece, the length of what is returned, and its letters, each behind a tab
abbrev pub piece_text : (start size : ℕ) → (piece : List ℕ) → List ℕ
piece_text start size piece = field start ++ field size ++ field (length piece) ++ shown_text (length piece) piece

-- so many totals a line has at least: those of 01's accounts
abbrev pub first_totals : ℕ
first_totals = one_digit_limit + 1

-- how many it has: those at least, nothing but zeros behind, and no zero at the end of more
pub record Shown (litres : List ℕ) (n : ℕ) : Type 0 where
  pub within : n ≤ length litres
  pub first : min first_totals (length litres) ≤ n
  pub behind : (i : ℕ) → n ≤ i → get_or litres i 0 ≡ 0
  pub last : first_totals < n → get_or litres (n - 1) 0 ≡ 0 → ⊥

-- so many of them, as text
pub record PutsTotals (litres out : List ℕ) (at : ℕ) (after : List ℕ) (r : ℕ) : Type 0 where
  pub n : ℕ
  pub shown : Shown litres n
  pub puts : Puts out at (numbers_text 0 (take n litres)) after r

-- from the end on, before it is known that the last is none
pub record LeftOut (litres : List ℕ) (n : ℕ) : Type 0 where
  pub within : n ≤ length litres
  pub first : min first_totals (length litres) ≤ n
  pub behind : (i : ℕ) → n ≤ i → get_or litres i 0 ≡ 0

pub none_left_out : (xs : List ℕ) → LeftOut xs (length xs)
none_left_out xs = record { within = omega arith; first = omega arith; behind = λ i h. get_or-eq_default xs 0 h }

module _ (xs : List ℕ) (n : ℕ) (k : LeftOut xs n) where
  pub one_left_out : first_totals < n → get_or xs (n - 1) 0 ≡ 0 → LeftOut xs (n - 1)
  one_left_out h z = record {
    within = omega (arith, k.within);
    first = omega arith;
    behind = λ i l. go i l (dec_le n i);
  }
    where
      go : (i : ℕ) → n - 1 ≤ i → Dec (n ≤ i) → get_or xs i 0 ≡ 0
      go i l (yes m) = k.behind i m
      go i l (no m) = let e : i ≡ n - 1 = omega arith in ap (λ j. get_or xs j 0) e ∙ z

  pub shown_last : (get_or xs (n - 1) 0 ≡ 0 → ⊥) → Shown xs n
  shown_last h = record { within = k.within; first = k.first; behind = k.behind; last = λ l. h }

  pub shown_first : n ≤ first_totals → Shown xs n
  shown_first h = record { within = k.within; first = k.first; behind = k.behind; last = λ l z. omega arith }

-- digests of the tape's cells that are lent, and of those past them
abbrev pub letters_text : (lent : ℕ) → (tape : List ℕ) → List ℕ
letters_text lent tape = field (bytes_digest 1 (part 0 lent tape)) ++ field (bytes_digest 1 (part lent (length tape) tape))

-- the same of the tape, and what is left in words and code, where all cells past those lent have one digest
abbrev pub settled_text : Lent → (tape words code : List ℕ) → List ℕ
settled_text lent tape words code =
    field (bytes_digest 1 (part 0 lent.letters tape))
    ++ left_text (bytes_digest 1 (part lent.letters (length tape) tape)) words lent.words code lent.bytes

-- the date that a line's first three fields write, and what stands behind them
abbrev pub date_read : (line : List ℕ) → Date
date_read line =
    date
    (number_of_text (before_byte 32 line))
    (number_of_text (before_byte 32 (behind_byte 32 line)))
    (number_of_text (before_byte 32 (behind_byte 32 (behind_byte 32 line))))

abbrev pub behind_date : (line : List ℕ) → List ℕ
behind_date line = behind_byte 32 (behind_byte 32 (behind_byte 32 line))

-- a field after the other: what stands from month and day on, and the digits and number of each
pub date-made : (line : List ℕ) {behind last a b e : List ℕ} {y m d : ℕ} → behind ≡ behind_byte 32 line → last ≡ behind_byte 32 behind
    → a ≡ before_byte 32 line → y ≡ number_of_text a → b ≡ before_byte 32 behind → m ≡ number_of_text b
    → e ≡ before_byte 32 last → d ≡ number_of_text e → date y m d ≡ date_read line
date-made line {d = d} from-month from-day at-year year at-month month at-day day =
    let m = month ∙ ap number_of_text (at-month ∙ ap (before_byte 32) from-month) in
    let e = day ∙ ap number_of_text (at-day ∙ ap (before_byte 32) (from-day ∙ ap (behind_byte 32) from-month)) in
    ap₂ (λ x z. date x z d) (year ∙ ap number_of_text at-year) m ∙ ap (date _ _) e

-- one law for every way of answering
pub puts_answer : {out after : List ℕ} {r : ℕ} (a b : Answer) → b ≡ a → Puts out 0 (answer_text b) after r → Puts out 0 (answer_text a) after r
puts_answer {out} {after} {r} a b e h = subst (λ x. Puts out 0 (answer_text x) after r) e h
