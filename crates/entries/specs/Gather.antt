-- Gathering the entries of a code, by which totals begin, of a whole tape or of a term. Definitions only.
use Rattle.std.specs.Prelude.{◌≡◌, List, [], ◌∷◌, ℕ, zero, suc, ◌≤◌, ◌<◌, length, get_or, Err, Ok, Result}
use Rattle.std.proofs.Math.Option.{Option, none, some}
use Rattle.syntax.specs.declared.Pattern.{Pattern}
use Rattle.syntax.specs.Letter.{letter_limit}
use Rattle.syntax.specs.Table.{account_limit}
use Rattle.syntax.specs.Tree.{Tree}
use Rattle.syntax.specs.Trees.{root}
use Rattle.refusals.specs.declared.Refusal.{Refusal}
use Rattle.refusals.specs.Checks.{First, Clear}
use Rattle.bits.specs.Bits.{held}
use Rattle.semantics.specs.Value.{Value}
use Rattle.semantics.specs.Accounts.{accounts}
use Rattle.semantics.specs.Decode.{value_of}
use Rattle.entries.specs.Entries.{Entries}
use Rattle.entries.specs.CodeOrder.{code_order}

-- each letter with its account; the totals are a fold over this list, and other folds over it may follow
abbrev pub entries_by : (t : Tree) → Option (Value t) → Entries
entries_by t none = []
entries_by t (some v) = accounts t v

unfoldable pub entries_of : (t : Tree) → (code : List ℕ) → (count : ℕ) → Entries
entries_of t code count = entries_by t (value_of t (held 8 code count))

-- the entries in front of two arrays
abbrev pub pairs : (n : ℕ) → (letters accounts : List ℕ) → Entries
pairs zero xs ys = []
pairs (suc n) [] ys = []
pairs (suc n) (x ∷ xs) [] = []
pairs (suc n) (x ∷ xs) (y ∷ ys) = (x, y) ∷ pairs n xs ys

-- each of them has an account
pub record Owned (accounts : List ℕ) (n : ℕ) : Type 0 where
  pub wide : n ≤ length accounts
  pub own : (i : ℕ) → i < n → get_or accounts i 0 ≤ account_limit

-- no cause of the code holds, and the entries stand in front of two buffers
pub record HoldsEntries (p : Pattern) (code : List ℕ) (count : ℕ) (letters accounts : List ℕ) (n : ℕ) : Type 0 where
  pub clear : Clear (code_order p code count)
  pub entries : pairs n letters accounts ≡ entries_of (root p) code count
  pub ready : (n ≤ length letters) × (n ≤ letter_limit) × Owned accounts n

-- THE PROMISE of gathering, for every table, bytes and count: the first cause of the code that holds, or all entries
pub record Gathers (p : Pattern) (code : List ℕ) (count : ℕ) (letters accounts : List ℕ) (r : Result ℕ Refusal) : Type 0 where
  pub refuses : (why : Refusal) → r ≡ Err why → First why (code_order p code count)
  pub holds : (n : ℕ) → r ≡ Ok n → HoldsEntries p code count letters accounts n
