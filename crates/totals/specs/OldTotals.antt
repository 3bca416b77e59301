-- Totals by patterns of 01's accounts. 02, Job 7: "An old pattern text loads to the same nodes with the same accounts, and its totals are the old
-- ten followed by zeros." The old ten are kept as a definition: nothing is computed by it.
use Rattle.std.specs.Prelude.{◌≡◌, refl, Bool, true, false, cond, List, ◌++◌, ℕ, ◌+◌, ◌-◌, ◌≤◌, ◌<◌, eqb, replicate, Result}
use Rattle.std.proofs.Common.{sym, ◌∙◌, arith, eqb-true}
use Rattle.std.proofs.lemmas.List.{replicate-append-replicate}
use Rattle.syntax.specs.declared.Pattern.{Pattern}
use Rattle.syntax.specs.Table.{obeys, line_at, account_limit, one_digit_limit}
use Rattle.syntax.specs.Trees.{root}
use Rattle.refusals.specs.declared.Refusal.{Refusal}
use Rattle.refusals.specs.Refusals.{answer}
use Rattle.refusals.specs.CheckLaws.{zero_clear}
use Rattle.semantics.specs.Accounts.{totals_to, totals}
use Rattle.semantics.specs.Owned.{Accounts}
use Rattle.semantics.proofs.AccountLaws.{totals_old}
use Rattle.semantics.specs.Every.{All}
use Rattle.entries.specs.CodeOrder.{code_order, clear_sound}
use Rattle.entries.specs.Gather.{entries_of}
use Rattle.entries.specs.EntryAccounts.{root_below, entries_few}
use Rattle.totals.specs.Totals.{totals_answer, totals_litres, totalled_litres, no_litres, Totals}

-- each line of the table has an account of 01, or none
abbrev pub OldAccounts : Pattern → Type 0
OldAccounts p = (l : ℕ) → l < p.count → (line_at p l).account ≤ one_digit_limit

-- the ten totals of before, all 0 where totalling refuses
unfoldable pub old_litres : Pattern → (code : List ℕ) → (count : ℕ) → List ℕ
old_litres p code count =
    cond (eqb (totals_answer p code count).number 0) (totals_to (one_digit_limit + 1) (entries_of (root p) code count))
    (replicate (one_digit_limit + 1) 0)

-- the accounts that are new, each without litres
abbrev pub new_accounts : List ℕ
new_accounts = replicate (account_limit - one_digit_limit) 0

pub old_root : (p : Pattern) → obeys p ≡ true → OldAccounts p → Accounts (one_digit_limit + 1) (root p)
old_root p o h = root_below (one_digit_limit + 1) p o (λ l k. omega (arith, h l k))

pub old_entries : (p : Pattern) → obeys p ≡ true → OldAccounts p → (code : List ℕ) (count : ℕ)
    → All (λ e. e.1 < one_digit_limit + 1) (entries_of (root p) code count)
old_entries p o h code count = entries_few (one_digit_limit + 1) (root p) (old_root p o h) (omega arith) code count

-- refused or not: of the entries it must be known only where nothing is refused
pub old_or_none : (b : Bool) (es : List (ℕ × ℕ)) → (b ≡ true → All (λ e. e.1 < one_digit_limit + 1) es)
    → cond b (totals es) no_litres ≡ cond b (totals_to (one_digit_limit + 1) es) (replicate (one_digit_limit + 1) 0) ++ new_accounts
old_or_none true es h = totals_old es (h refl)
old_or_none false es h = sym (replicate-append-replicate (one_digit_limit + 1) (account_limit - one_digit_limit) 0)

pub litres_old : (p : Pattern) (code : List ℕ) (count : ℕ) → OldAccounts p → totals_litres p code count ≡ old_litres p code count ++ new_accounts
unfolding totals_answer totals_litres old_litres
litres_old p code count h =
    old_or_none (eqb (totals_answer p code count).number 0) (entries_of (root p) code count)
    (λ e. let c = zero_clear (code_order p code count) (answer 0 0) (eqb-true (totals_answer p code count).number 0 e) in
    old_entries p (clear_sound p code count c).good h code count)

pub totals_old_accounts : (p : Pattern) (code : List ℕ) (count : ℕ) → OldAccounts p → (r : Result (List ℕ) Refusal) → Totals p code count r
    → totalled_litres r ≡ old_litres p code count ++ new_accounts
totals_old_accounts p code count h r t = t.gives ∙ litres_old p code count h
