-- What each call from C answers: the number and value of the service on the loaded table, in one 64-bit number. Definitions only.
use Rattle.std.specs.Prelude.{◌≡◌, not, List, [], ◌∷◌, ◌++◌, ℕ, ◌+◌, ◌*◌, eqb, length, get_or, Result}
use Rattle.std.proofs.Math.Option.{Option, none, some}
use Rattle.desk.specs.declared.DeskRefusal.{DeskRefusal}
use Rattle.refusals.specs.declared.Refusal.{Refusal}
use Rattle.syntax.specs.declared.Pattern.{Pattern}
use Rattle.refusals.specs.Refusals.{Answer, answer}
use Rattle.refusals.specs.Checks.{first_of}
use Rattle.bits.specs.Bits.{in_front}
use Rattle.loading.specs.Load.{load_table}
use Rattle.packing.specs.Packing.{unpacked}
use Rattle.packing.specs.Cells.{Gives}
use Rattle.packing.specs.DeskBytes.{desk_bytes, desk_of_bytes, bytes_of_desk}
use Rattle.semantics.specs.Visits.{Visit}
use Rattle.codes.specs.Flatten.{flatten_answer, flatten_tape}
use Rattle.totals.specs.Totals.{totals_answer, totals_litres}
use Rattle.spans.specs.Spans.{span_answer, span_shown}
use Rattle.calendar.specs.Dates.{date_of}
use Rattle.terms.specs.Terms.{term_of, terms_answer, terms_litres}
use Rattle.parser.specs.Parse.{parsed_answer, Parses}
use Rattle.canonical.specs.Canonicalize.{canonicalized_answer, Canonicalizes}
use Rattle.reach.specs.declared.Positions.{Positions}
use Rattle.reach.specs.Locate.{located_answer, Locates}
use Rattle.first_sweep.specs.Tail.{tail_words}
use Rattle.desk.specs.declared.Desk.{Desk}
use Rattle.desk.specs.declared.DeskRefusal.TheVariants.{DeskLimits}
use Rattle.desk.specs.Desks.{empty_desk, desk_refused, desk_answer, open_order, if_accepted, Puts, Withdraws}

-- the version 1.7.0 as one number: major × 10000 + minor × 100 + patch
abbrev pub version_number : ℕ
version_number = 1 * 10000 + 7 * 100 + 0

-- THE PROMISE of reading a tape from C: answer and buffers are those that the service promises on the table of the text
pub record ParsesText (text tape words words_now code code_now : List ℕ) (r : ℕ) : Type 0 where
  pub parsed : Result ℕ Refusal
  pub answers : unpacked r ≡ parsed_answer parsed
  pub parses : Parses (load_table text) tape words words_now code code_now parsed

-- THE PROMISE of spelling a code from C
pub record FlattensText (text code : List ℕ) (count : ℕ) (tape tape_now : List ℕ) (r : ℕ) : Type 0 where
  pub answers : unpacked r ≡ flatten_answer (load_table text) code count (length tape)
  pub leaves : tape_now ≡ flatten_tape (load_table text) code count tape

-- THE PROMISE of settling a code from C
pub record CanonicalizesText (text code : List ℕ) (count : ℕ) (tape tape_now words words_now canonical canonical_now : List ℕ) (r : ℕ) : Type 0 where
  pub canonicalized : Result ℕ Refusal
  pub answers : unpacked r ≡ canonicalized_answer canonicalized
  pub canonicalizes : Canonicalizes (load_table text) code count tape tape_now words words_now canonical canonical_now canonicalized

-- the value of a visit that is shown is its start and length, 16 bits each; a refusal keeps its own
abbrev pub shown_answer : Answer → Option Visit → Answer
shown_answer a none = a
shown_answer a (some x) = answer a.number (x.start * 65536 + x.size)

unfoldable pub span_text : (text tape code : List ℕ) → (count node visit : ℕ) → Answer
span_text text tape code count l k = shown_answer (span_answer (load_table text) tape code count l k) (span_shown (load_table text) tape code count l k)

-- THE PROMISE of locating from C: what the service promises on the table of the text
pub record LocatesText (text tape : List ℕ) (r : ℕ) : Type 0 where
  pub located : Result Positions Refusal
  pub answers : unpacked r ≡ located_answer located
  pub locates : Locates (load_table text) tape located

-- the litres of one account; 0 for an account above 200 (law `total-above`), and 0 if refused, since the totals are then
unfoldable pub total_text : (text code : List ℕ) → (count account : ℕ) → Answer
total_text text code count a = answer (totals_answer (load_table text) code count).number (get_or (totals_litres (load_table text) code count) a 0)

-- THE PROMISE of all totals from C: the answer of totalling, whose value is 0, and its totals in the lent cells; or 20, if an account without a
-- cell has litres. The cells are 0 if it is refused.
abbrev pub TotalsText : (text code : List ℕ) → (count : ℕ) → (cells cells_now : List ℕ) → (r : ℕ) → Type 0
TotalsText text code count cells cells_now r =
    Gives (totals_answer (load_table text) code count) (totals_litres (load_table text) code count) cells cells_now r

-- THE PROMISE of totals within a term from C: as for all totals. Each date is a number, year × 10000 + month × 100 + day, and every number is one
-- date or none.
abbrev pub TermTotalsText : (text code : List ℕ) → (count start first last : ℕ) → (cells cells_now : List ℕ) → (r : ℕ) → Type 0
TermTotalsText text code count start first last cells cells_now r =
    Gives (terms_answer (load_table text) code count (date_of start) (term_of first last))
    (terms_litres (load_table text) code count (date_of start) (term_of first last)) cells cells_now r

-- ── the page desk: 31 bytes, the count and behind it the 30 lengths. A desk of another length is refused with 13 at 13's place ──
-- 02: "opening an empty desk writes the two of the end (refusing 2, then 6)"; behind them 13, for a desk of another length
unfoldable pub desk_open_answer : Pattern → (words bytes : ℕ) → Answer
desk_open_answer p words bytes = first_of desk_refused (open_order p words ++ ((not (eqb bytes desk_bytes), DeskLimits) ∷ [])) (answer 0 0)

-- THE PROMISE of opening a desk from C
pub record DeskOpensText (text desk desk_now words words_now : List ℕ) (r : ℕ) : Type 0 where
  pub answers : unpacked r ≡ desk_open_answer (load_table text) (length words) (length desk)
  pub leaves : desk_now ≡ if_accepted (desk_open_answer (load_table text) (length words) (length desk)) (bytes_of_desk empty_desk) desk
  pub words_left : words_now ≡
      if_accepted (desk_open_answer (load_table text) (length words) (length desk)) (in_front (tail_words (load_table text) []) words) words

-- THE PROMISE of putting a page from C: what the service promises on the table of the text and on the desk that the bytes are taken for. One of
-- another length than 31 is taken for a desk that breaks the limits.
pub record DeskPutsText (text desk desk_now page letters letters_now words words_now : List ℕ) (r : ℕ) : Type 0 where
  pub after : Desk
  pub desk_answered : Result ℕ DeskRefusal
  pub answers : unpacked r ≡ desk_answer desk_answered
  pub puts : Puts (load_table text) page (desk_of_bytes desk) after letters letters_now words words_now desk_answered
  pub leaves : desk_now ≡ if_accepted (desk_answer desk_answered) (bytes_of_desk after) desk

-- THE PROMISE of withdrawing a page from C: the same
pub record DeskWithdrawsText (text desk desk_now letters : List ℕ) (r : ℕ) : Type 0 where
  pub after : Desk
  pub desk_answered : Result ℕ DeskRefusal
  pub answers : unpacked r ≡ desk_answer desk_answered
  pub withdraws : Withdraws (load_table text) (desk_of_bytes desk) after letters desk_answered
  pub leaves : desk_now ≡ if_accepted (desk_answer desk_answered) (bytes_of_desk after) desk
