-- The first line of a text, read field by field: what each scanning function answers.
use Rattle.std.specs.Prelude.{Bool, true, false, cond, List, [], ◌∷◌, ℕ, suc, ◌+◌, eqb, drop, None, Some, Option}
use Rattle.syntax.specs.declared.Line.{Line}
use Rattle.fields.specs.Text.{byte_front, account, node_of, with_account, line_of}

-- the first line of a text: its fields, whether byte 10 ends it, and its size
unfoldable pub first_fields : List ℕ → List (List ℕ)
first_fields [] = [] ∷ []
first_fields (b ∷ bs) = cond (eqb b 10) ([] ∷ []) (cond (eqb b 9) ([] ∷ first_fields bs) (byte_front b (first_fields bs)))

unfoldable pub first_closed : List ℕ → Bool
first_closed [] = false
first_closed (b ∷ bs) = cond (eqb b 10) true (first_closed bs)

unfoldable pub first_size : List ℕ → ℕ
first_size [] = 0
first_size (b ∷ bs) = cond (eqb b 10) 0 (suc (first_size bs))

-- what is read with the position behind its line
abbrev pub scan_of : {A : Type 0} → Option A → ℕ → Option (A × ℕ)
scan_of None next = None
scan_of (Some x) next = Some (x, next)

-- the scan of a line that begins at `at`, w being the text from there on, by what its fields say
unfoldable pub scan_by : {A : Type 0} → (List (List ℕ) → Option A) → (at : ℕ) → List ℕ → Option (A × ℕ)
scan_by says at w = cond (first_closed w) (scan_of (says (first_fields w)) (at + suc (first_size w))) None

-- the scan of what stands behind a field: nothing where it is its line's last
unfoldable pub behind : {A : Type 0} → (List (List ℕ) → Option A) → (text : List ℕ) → (last : Bool) → (next : ℕ) → Option (A × ℕ)
behind says s last next = cond last (scan_of (says []) next) (scan_by says next (drop next s))

unfoldable pub parts_say : (account kind : ℕ) → List (List ℕ) → Option Line
parts_say a k fs = with_account a (node_of k fs)

unfoldable pub account_says : (kind : ℕ) → List (List ℕ) → Option Line
account_says k [] = None
account_says k (a ∷ more) = parts_say (account a) k more

abbrev pub scanned : (i at : ℕ) → List ℕ → Option (Line × ℕ)
scanned i at w = scan_by (line_of i) at w
