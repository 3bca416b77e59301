-- WHAT MUST BE BELIEVED, 6: the account that each letter goes to, and litres by account.
use Rattle.std.specs.Prelude.{◌&&◌, cond, ◌++◌, ◌∷◌, List, [], map, ◌+◌, ◌-◌, suc, zero, ℕ, eqb, leb}
use Rattle.std.proofs.Common.{inl, inr}
use Rattle.syntax.specs.Table.{account_limit, stale}
use Rattle.syntax.specs.Tree.{Label, Tree, nothing, letter, range, seq, alt, star}
use Rattle.semantics.specs.Value.{Value}

-- The account that a node hands down. 02, Job 5: "Litres at or under a node of account 9 are stale and go to account 9, however deep they stand, even if
-- an inner node has another account." So what is handed 9 hands down 9. For the rest 01: "Litres go to the account of the innermost node, the leaf
-- included, that has one"; so it hands down its own account, or the one from above if it has none (0).
abbrev pub handed_down : (own above : ℕ) → ℕ
handed_down own above = cond (eqb above stale) stale (cond (eqb own 0) above own)

abbrev pub owner : Label → (above : ℕ) → ℕ
owner m o = handed_down m.account o

abbrev pub join_rounds : {A B : Type 0} → (A → List B) → List A → List B
join_rounds g [] = []
join_rounds g (v ∷ vs) = g v ++ join_rounds g vs

-- Each letter with its account: what is handed down to it from the root on, the leaf included. `above` is what the tree is handed.
abbrev pub entries : (t : Tree) → (above : ℕ) → Value t → List (ℕ × ℕ)
entries (nothing m) o v = []
entries (letter m c) o v = (c, owner m o) ∷ []
entries (range m low high) o v = (v.0, owner m o) ∷ []
entries (seq m t u) o v = entries t (owner m o) v.0 ++ entries u (owner m o) v.1
entries (alt m t u) o (inl v) = entries t (owner m o) v
entries (alt m t u) o (inr v) = entries u (owner m o) v
entries (star m again t) o vs = join_rounds (entries t (owner m o)) vs

-- 01: "without one, to account 0"
unfoldable pub accounts : (t : Tree) → Value t → List (ℕ × ℕ)
accounts t v = entries t 0 v

-- 01: "Letters `0` to `9` count 0 to 9 litres, others none."
unfoldable pub litres : (c : ℕ) → ℕ
litres c = cond (leb 48 c && leb c 57) (c - 48) 0

-- the litres of one account
unfoldable pub total : (account : ℕ) → List (ℕ × ℕ) → ℕ
total a [] = 0
total a (e ∷ es) = cond (eqb e.1 a) (litres e.0) 0 + total a es

-- the n numbers from i on
abbrev pub count_from : (i n : ℕ) → List ℕ
count_from i zero = []
count_from i (suc n) = i ∷ count_from (suc i) n

-- the totals of the accounts below n
unfoldable pub totals_to : (n : ℕ) → List (ℕ × ℕ) → List ℕ
totals_to n es = map (λ a. total a es) (count_from 0 n)

-- 02, Job 7: "There are 201 totals", of accounts 0 to 200
unfoldable pub totals : List (ℕ × ℕ) → List ℕ
totals es = totals_to (account_limit + 1) es

-- 01: "the tape's digits", added up
unfoldable pub digits : List ℕ → ℕ
digits [] = 0
digits (c ∷ w) = litres c + digits w
