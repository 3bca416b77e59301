-- WHAT MUST BE BELIEVED: the bytes of a whole listing. Definitions only.
use Rattle.std.specs.Prelude.{◌≡◌, Bool, cond, Option, Some, None, List, ◌++◌, ℕ, suc, ◌+◌, ◌*◌, ◌-◌, ◌≤◌, ◌<◌, eqb, length, take, get_or}
use Rattle.syntax.specs.declared.Pattern.{Pattern}
use Rattle.refusals.specs.declared.Refusal.TheVariants.{Unreadable}
use Rattle.refusals.specs.Refusals.{Answer, refused}
use Rattle.text.specs.Text.{refused_line}
use Rattle.listing_lines.specs.LineBytes.{tape_line, account_lines, open_lines}
use Rattle.loading.specs.Load.{load_answer, load_table}
use Rattle.syntax.specs.Letter.{letter_limit}
use Rattle.syntax.specs.Trees.{root}
use Rattle.bits.specs.Bits.{pack, in_front}
use Rattle.semantics.specs.Accounts.{totals}
use Rattle.semantics.specs.Decode.{value_of}
use Rattle.semantics.specs.Sweeps.{readable, greedy}
use Rattle.steps.specs.StateSets.{words as state_sets}
use Rattle.entries.specs.Gather.{entries_by}
use Rattle.parser.specs.Parse.{early}

-- ---- the listing

-- of a tape that is read: the bits are its code
unfoldable pub listing : Pattern → (tape : List ℕ) → (bits : List Bool) → List ℕ
listing p tape bits =
    tape_line (length tape) (length bits) (pack 8 bits)
    ++ (account_lines 0 (totals (entries_by (root p) (value_of (root p) bits)))
    ++ open_lines (state_sets p tape) 0 (suc (length tape)))

-- a table and a tape that nothing before the sweeps refuses: the code of the greedy value, or 5 where there is no value
unfoldable pub read_listing : Pattern → (tape : List ℕ) → List ℕ
read_listing p tape = cond (readable (root p) tape) (listing p tape (greedy (root p) tape)) (refused_line (refused Unreadable))

-- reading's causes before the sweeps; the words suffice
unfoldable pub early_cause : Pattern → (tape : List ℕ) → Answer
early_cause p tape = early p tape (2 * (length tape + 1))

unfoldable pub pattern_listing : Pattern → (tape : List ℕ) → List ℕ
pattern_listing p tape = cond (eqb (early_cause p tape).number 0) (read_listing p tape) (refused_line (early_cause p tape))

-- 01: "from the tape one closing byte 10 is dropped"
unfoldable pub closed : (file : List ℕ) → Bool
closed file = eqb (get_or file (length file - 1) 0) 10

unfoldable pub tape_of : (file : List ℕ) → List ℕ
tape_of file = cond (closed file) (take (length file - 1) file) file

-- THE LISTING of every pattern text and tape file. The pattern is judged first.
unfoldable pub listing_of : (text file : List ℕ) → List ℕ
listing_of text file = cond (eqb (load_answer text).number 0) (pattern_listing (load_table text) (tape_of file)) (refused_line (load_answer text))

-- ---- the service

-- bytes that hold every listing: at most 131,100 for the first line, 30 for each of 201 accounts and 27 for each of 3,601 positions
abbrev pub room : ℕ
room = 262144

-- words that hold the state sets of every tape: two for each position
abbrev pub word_limit : ℕ
word_limit = 2 * (letter_limit + 1)

-- THE PROMISE of listing, for every text, tape and lent buffer: the listing in front and its length, or a buffer that is too short as it was
pub record Lists (text file out out_now : List ℕ) (r : Option ℕ) : Type 0 where
  pub fits : room ≤ length out → (r ≡ Some (length (listing_of text file))) × (out_now ≡ in_front (listing_of text file) out)
  pub short : length out < room → (r ≡ None) × (out_now ≡ out)
