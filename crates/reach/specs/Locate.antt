-- Where a tape breaks: the answer for every input. Definitions only.
use Rattle.std.specs.Prelude.{◌≡◌, List, ℕ, ◌+◌, ◌*◌, ◌≤◌, Ok, Err, Result}
use Rattle.syntax.specs.declared.Pattern.{Pattern}
use Rattle.syntax.specs.Tree.{Tree}
use Rattle.syntax.specs.Trees.{root}
use Rattle.checks.specs.TapeOrder.{tape_order}
use Rattle.refusals.specs.declared.Refusal.{Refusal}
use Rattle.refusals.specs.Refusals.{Answer, answer, refused}
use Rattle.refusals.specs.Checks.{Check, first_cause}
use Rattle.semantics.specs.Begins.{Reach, Resumes}
use Rattle.reach.specs.declared.Positions.{Positions}

-- "value `reach << 16 | resume`"
abbrev pub located_answer : Result Positions Refusal → Answer
located_answer (Ok x) = answer 0 (x.reach * 65536 + x.resume)
located_answer (Err why) = refused why

-- "order 2, 3, 4"
abbrev pub locate_order : Pattern → (tape : List ℕ) → List Check
locate_order p tape = tape_order p tape

-- number 0 where none of them holds
unfoldable pub locate_refusal : Pattern → (tape : List ℕ) → Answer
locate_refusal p tape = first_cause (locate_order p tape) (answer 0 0)

-- the two positions: "the greatest k such that the first k letters begin some tape of the pattern, and the least i such that the letters from i on
-- end one"
pub record Tells (t : Tree) (tape : List ℕ) (r : Result Positions Refusal) : Type 0 where
  pub reach : ℕ
  pub resume : ℕ
  pub is : r ≡ Ok (record { reach = reach; resume = resume })
  pub reaches : Reach t tape reach
  pub resumes : Resumes t tape resume

-- THE PROMISE of locating, for every pattern value and tape
pub record Locates (p : Pattern) (tape : List ℕ) (r : Result Positions Refusal) : Type 0 where
  pub refuses : 1 ≤ (locate_refusal p tape).number → located_answer r ≡ locate_refusal p tape
  pub tells : (locate_refusal p tape).number ≡ 0 → Tells (root p) tape r
