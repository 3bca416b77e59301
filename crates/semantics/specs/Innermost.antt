-- 01's rule of accounts as it was before 02's Job 5: "Litres go to the account of the innermost node, the leaf included, that has one", 9 like any other.
-- Nothing is computed by it. It is kept so that law `no_stale` of AccountLaws can say what the job leaves as it was.
use Rattle.std.specs.Prelude.{cond, ◌++◌, ◌∷◌, List, [], ℕ, eqb}
use Rattle.std.proofs.Common.{inl, inr}
use Rattle.syntax.specs.Tree.{Tree, nothing, letter, range, seq, alt, star}
use Rattle.semantics.specs.Value.{Value}
use Rattle.semantics.specs.Accounts.{join_rounds}

abbrev pub innermost : (own above : ℕ) → ℕ
innermost own above = cond (eqb own 0) above own

-- `entries` with any rule for what a node hands down; with `handed_down` they are `entries` themselves (law `with_handed_down`)
module _ (rule : (own above : ℕ) → ℕ) where
  abbrev pub entries_with : (t : Tree) → (above : ℕ) → Value t → List (ℕ × ℕ)
  entries_with (nothing m) o v = []
  entries_with (letter m c) o v = (c, rule m.account o) ∷ []
  entries_with (range m low high) o v = (v.0, rule m.account o) ∷ []
  entries_with (seq m t u) o v = entries_with t (rule m.account o) v.0 ++ entries_with u (rule m.account o) v.1
  entries_with (alt m t u) o (inl v) = entries_with t (rule m.account o) v
  entries_with (alt m t u) o (inr v) = entries_with u (rule m.account o) v
  entries_with (star m again t) o vs = join_rounds (entries_with t (rule m.account o)) vs
