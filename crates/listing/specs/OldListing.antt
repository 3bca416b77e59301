-- The listing by a pattern of 01's accounts: 02's Job 7 leaves it as it was.
use Rattle.std.specs.Prelude.{◌≡◌, Bool, true, List, ◌++◌, ℕ, suc, ◌+◌, ◌-◌, length}
use Rattle.std.proofs.Common.{ap, ◌∙◌, arith}
use Rattle.syntax.specs.declared.Pattern.{Pattern}
use Rattle.syntax.specs.Table.{obeys, account_limit, one_digit_limit}
use Rattle.syntax.specs.Trees.{root}
use Rattle.bits.specs.Bits.{pack}
use Rattle.semantics.specs.Accounts.{totals_to}
use Rattle.semantics.proofs.AccountLaws.{totals_old}
use Rattle.semantics.specs.Decode.{value_of}
use Rattle.steps.specs.StateSets.{words as state_sets}
use Rattle.entries.specs.Gather.{entries_by}
use Rattle.entries.specs.EntryAccounts.{by_few}
use Rattle.totals.specs.OldTotals.{OldAccounts, old_root}
use Rattle.listing_lines.specs.LineBytes.{tape_line, account_lines, open_lines}
use Rattle.listing_lines.specs.Lines.{zeros_behind}
use Rattle.listing.specs.Listing.{listing}

pub listing_old : (p : Pattern) → obeys p ≡ true → OldAccounts p → (tape : List ℕ) (bits : List Bool)
    → listing p tape bits
    ≡ tape_line (length tape) (length bits) (pack 8 bits)
    ++ (account_lines 0 (totals_to (one_digit_limit + 1) (entries_by (root p) (value_of (root p) bits)))
    ++ open_lines (state_sets p tape) 0 (suc (length tape)))
unfolding listing
listing_old p o h tape bits =
    let es = entries_by (root p) (value_of (root p) bits) in
    ap (λ l. tape_line (length tape) (length bits) (pack 8 bits) ++ (l ++ open_lines (state_sets p tape) 0 (suc (length tape))))
    (ap (account_lines 0) (totals_old es (by_few (one_digit_limit + 1) (root p) (old_root p o h) (omega arith) (value_of (root p) bits)))
    ∙ zeros_behind (account_limit - one_digit_limit) 0 (totals_to (one_digit_limit + 1) es))
