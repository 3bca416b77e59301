-- 01's rule of the account field as it was before 02's Job 7: "Account is `-` or a digit 1 to 9." Nothing is computed by it. It is kept so that the
-- laws of OldTexts can say what the job leaves as it was. Definitions only.
use Rattle.std.specs.Prelude.{◌&&◌, cond, List, [], ◌∷◌, ℕ, suc, ◌-◌, eqb, leb, ltb, Option, None}
use Rattle.syntax.specs.declared.Line.{Line}
use Rattle.fields.specs.Text.{Row, rows, place, single, no_account, node_of, with_account, Forms, good, fault, line_front}

abbrev pub digit_account : (byte : ℕ) → ℕ
digit_account b = cond (eqb b 45) 0 (cond (leb 49 b && leb b 57) (b - 48) no_account)

-- the account of a field of one byte
unfoldable pub old_account : (field : List ℕ) → ℕ
old_account x = digit_account (single x)

-- `forms` with any rule for the account that a field writes; with `account` it is `forms` itself (law `forms_with-account`)
module _ (rule : (field : List ℕ) → ℕ) where
  abbrev pub line_with : (i : ℕ) → (fields : List (List ℕ)) → Option Line
  line_with i [] = None
  line_with i (p ∷ []) = None
  line_with i (p ∷ k ∷ []) = None
  line_with i (p ∷ k ∷ a ∷ more) = cond (eqb (place p) i) (with_account (rule a) (node_of (single k) more)) None

  abbrev pub row_with : (i : ℕ) → Row → Option Line
  row_with i r = cond r.closed (line_with i r.fields) None

  abbrev pub forms_with : (i : ℕ) → List Row → Forms
  forms_with i [] = good []
  forms_with i (r ∷ rs) = cond (ltb i 64) (line_front i (row_with i r) (forms_with (suc i) rs)) (fault 64)

-- a text's lines by the old rule, or the first line that it faults
unfoldable pub old_forms : (text : List ℕ) → Forms
old_forms text = forms_with old_account 0 (rows text)
