-- 01's whole listing: the definition computes it, and a law says that accounts above 9 add nothing.
use Rattle.std.specs.Prelude.{◌≡◌, refl, List, [], ◌∷◌, ◌++◌, ℕ, ◌+◌, ◌-◌}
use Rattle.std.proofs.Common.{ap, ◌∙◌, arith}
use Rattle.syntax.specs.Letter.{is_letter, in_range, first_bad}
use Rattle.fields.specs.Text.{
  rows,
  digit,
  one_digit,
  two_digits,
  place,
  single,
  all_digits,
  decimal as decimal_field,
  account_number,
  account,
  node_of_none,
  node_of_one,
  range_of,
  parts_of,
  node_of_two,
  node_of,
  line_of,
  row_line,
  forms,
}
use Rattle.syntax.specs.Table.{table, account_limit, one_digit_limit, no_lines, line_good, wrongly_names, unnamed, tree_fault, obeys}
use Rattle.loading.specs.Load.{load_answer, load_table}
use Rattle.syntax.specs.Trees.{tree_of, root}
use Rattle.semantics.specs.Sweeps.{readable, greedy}
use Rattle.semantics.specs.Accounts.{accounts, litres, total, totals_to, totals}
use Rattle.semantics.proofs.AccountLaws.{totals_old}
use Rattle.semantics.specs.Decode.{value_of}
use Rattle.steps.specs.StateSets.{state_set}
use Rattle.masks.specs.Nodes.{node_word}
use Rattle.bits.specs.Bits.{bits_of, pack, word_of, count_below}
use Rattle.parser.specs.Parse.{early}
use Rattle.text.specs.Text.{digits, decimal, hex_digit, hex_byte, hex, entry, line, refused_line}
use Rattle.listing.specs.Listing.{listing, read_listing, early_cause, pattern_listing, closed, tape_of, listing_of}
use Rattle.listing_lines.specs.LineBytes.{tape_line, account_line, account_lines, open_lines}
use Rattle.listing_lines.specs.Lines.{zeros_behind}

-- the pattern's text, line by line
abbrev pub worked_text : List ℕ
worked_text =
    48 ∷ 9 ∷ 82 ∷ 9 ∷ 45 ∷ 9 ∷ 48 ∷ 9 ∷ 57 ∷ 10 ∷
    49 ∷ 9 ∷ 76 ∷ 9 ∷ 45 ∷ 9 ∷ 87 ∷ 10 ∷
    50 ∷ 9 ∷ 83 ∷ 9 ∷ 57 ∷ 9 ∷ 49 ∷ 9 ∷ 48 ∷ 10 ∷
    51 ∷ 9 ∷ 82 ∷ 9 ∷ 49 ∷ 9 ∷ 48 ∷ 9 ∷ 57 ∷ 10 ∷
    52 ∷ 9 ∷ 65 ∷ 9 ∷ 45 ∷ 9 ∷ 50 ∷ 9 ∷ 51 ∷ 10 ∷
    53 ∷ 9 ∷ 75 ∷ 9 ∷ 45 ∷ 9 ∷ 52 ∷ 10 ∷ []

-- `3W2` and byte 10
abbrev pub worked_tape : List ℕ
worked_tape = 51 ∷ 87 ∷ 50 ∷ 10 ∷ []

abbrev worked_first : List ℕ
worked_first = 116 ∷ 97 ∷ 112 ∷ 101 ∷ 9 ∷ 51 ∷ 9 ∷ 50 ∷ 49 ∷ 9 ∷ 52 ∷ 99 ∷ 99 ∷ 51 ∷ 50 ∷ 56 ∷ 10 ∷ []

abbrev worked_accounts : List ℕ
worked_accounts =
    97 ∷ 99 ∷ 99 ∷ 111 ∷ 117 ∷ 110 ∷ 116 ∷ 9 ∷ 49 ∷ 9 ∷ 51 ∷ 10 ∷
    97 ∷ 99 ∷ 99 ∷ 111 ∷ 117 ∷ 110 ∷ 116 ∷ 9 ∷ 57 ∷ 9 ∷ 50 ∷ 10 ∷ []

abbrev worked_open : List ℕ
worked_open =
    111 ∷ 112 ∷ 101 ∷ 110 ∷ 9 ∷ 48 ∷ 9 ∷ 52 ∷ 10 ∷
    111 ∷ 112 ∷ 101 ∷ 110 ∷ 9 ∷ 49 ∷ 9 ∷ 52 ∷ 10 ∷
    111 ∷ 112 ∷ 101 ∷ 110 ∷ 9 ∷ 50 ∷ 9 ∷ 52 ∷ 10 ∷
    111 ∷ 112 ∷ 101 ∷ 110 ∷ 9 ∷ 51 ∷ 9 ∷ 49 ∷ 10 ∷ []

abbrev pub worked_listing : List ℕ
worked_listing = worked_first ++ (worked_accounts ++ worked_open)

-- `3` of account 1, `W2` of account 9
abbrev worked_entries : List (ℕ × ℕ)
worked_entries = (51, 1) ∷ (87, 9) ∷ (50, 9) ∷ []

-- all but the totals is computed
parted : listing_of worked_text worked_tape ≡ worked_first ++ (account_lines 0 (totals worked_entries) ++ worked_open)
unfolding is_letter in_range rows digit one_digit two_digits place single all_digits decimal_field account_number account node_of_none node_of_one
    range_of parts_of node_of_two node_of line_of row_line forms no_lines line_good wrongly_names unnamed tree_fault obeys table load_answer load_table
    tree_of root readable greedy accounts value_of state_set node_word bits_of pack word_of count_below first_bad early digits
    decimal hex_digit hex_byte hex entry line tape_line open_lines refused_line listing read_listing early_cause
    pattern_listing closed tape_of listing_of
parted = refl

-- and of these the first ten, since the others have no line
listed : account_lines 0 (totals worked_entries) ≡ worked_accounts
unfolding litres total totals_to account_line account_lines line entry digits decimal
listed =
    ap (account_lines 0) (totals_old worked_entries (omega arith, (omega arith, (omega arith, tt))))
    ∙ zeros_behind (account_limit - one_digit_limit) 0 (totals_to (one_digit_limit + 1) worked_entries)

pub worked : listing_of worked_text worked_tape ≡ worked_listing
worked = parted ∙ ap (λ l. worked_first ++ (l ++ worked_open)) listed
