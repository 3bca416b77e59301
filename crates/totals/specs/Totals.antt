-- Totalling litres: the answer and the totals, for every input. Definitions only.
use Rattle.std.specs.Prelude.{◌≡◌, cond, List, ℕ, ◌+◌, eqb, replicate, Err, Ok, Result}
use Rattle.syntax.specs.declared.Pattern.{Pattern}
use Rattle.refusals.specs.declared.Refusal.{Refusal}
use Rattle.syntax.specs.Trees.{root}
use Rattle.syntax.specs.Table.{account_limit}
use Rattle.refusals.specs.Refusals.{Answer, answer, refused}
use Rattle.refusals.specs.Checks.{first_cause}
use Rattle.semantics.specs.Accounts.{totals}
use Rattle.entries.specs.CodeOrder.{code_order}
use Rattle.entries.specs.Gather.{entries_of}

-- 01: "Totalling litres: 2, 8, 3."
unfoldable pub totals_answer : Pattern → (code : List ℕ) → (count : ℕ) → Answer
totals_answer p code count = first_cause (code_order p code count) (answer 0 0)

abbrev pub no_litres : List ℕ
no_litres = replicate (account_limit + 1) 0

-- 01: totals "are returned, not lent [..]; refused, all are 0". 02, Job 7: "There are 201 totals."
unfoldable pub totals_litres : Pattern → (code : List ℕ) → (count : ℕ) → List ℕ
totals_litres p code count = cond (eqb (totals_answer p code count).number 0) (totals (entries_of (root p) code count)) no_litres

abbrev pub totals_outcome : Result (List ℕ) Refusal → Answer
totals_outcome (Ok sums) = answer 0 0
totals_outcome (Err why) = refused why

abbrev pub totalled_litres : Result (List ℕ) Refusal → List ℕ
totalled_litres (Ok sums) = sums
totalled_litres (Err why) = no_litres

-- THE PROMISE of totalling, for every table, bytes and count
pub record Totals (p : Pattern) (code : List ℕ) (count : ℕ) (r : Result (List ℕ) Refusal) : Type 0 where
  pub answers : totals_outcome r ≡ totals_answer p code count
  pub gives : totalled_litres r ≡ totals_litres p code count
