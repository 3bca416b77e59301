-- Loading: the answer and the table of every text. Definitions only.
use Rattle.std.specs.Prelude.{◌≡◌, not, cond, List, [], ◌∷◌, ℕ, eqb, Option, None, Some, Result, Ok, Err}
use Rattle.syntax.specs.declared.Pattern.{Pattern}
use Rattle.refusals.specs.declared.Refusal.{Refusal}
use Rattle.refusals.specs.declared.Refusal.TheVariants.{LineForm, Tree}
use Rattle.refusals.specs.Refusals.{Answer, answer, refused}
use Rattle.refusals.specs.Checks.{Check, first_cause}
use Rattle.fields.specs.Text.{rows, Forms, good, fault, forms}
use Rattle.syntax.specs.Table.{table, no_lines, tree_fault, is_none}

-- loading answers 0 and the line count, or a refusal's number and line
abbrev pub loaded_answer : Result Pattern Refusal → Answer
loaded_answer (Ok p) = answer 0 p.count
loaded_answer (Err why) = refused why

-- the table that callers go on with: a refused load gives one of no lines
abbrev pub pattern_or_none : Result Pattern Refusal → Pattern
pattern_or_none (Ok p) = p
pattern_or_none (Err why) = no_lines

-- 01: "The line reported is the first line at fault"; "Empty text is 1 with line 0"
abbrev pub form_fault : Forms → Option ℕ
form_fault (fault l) = Some l
form_fault (good []) = Some 0
form_fault (good (x ∷ xs)) = None

-- the table that the lines of a text write, if each is of good form
abbrev pub written : Forms → Pattern
written (good xs) = table xs
written (fault l) = no_lines

-- the line of a fault; where there is none, no check asks for it
abbrev pub line_at_fault : Option ℕ → ℕ
line_at_fault None = 0
line_at_fault (Some l) = l

-- 01: "Loading a pattern text: 1, 2."; "form faults on any line come before tree faults". Returned beside 1: "line"; beside 2: "line when loading".
abbrev pub forms_order : Forms → List Check
forms_order f =
    (not (is_none (form_fault f)), LineForm (line_at_fault (form_fault f)))
    ∷ (not (is_none (tree_fault (written f))), Tree (line_at_fault (tree_fault (written f))))
    ∷ []

abbrev pub load_order : (text : List ℕ) → List Check
load_order text = forms_order (forms 0 (rows text))

-- "Gives the table of the text: its line count, and each node as its line says."
unfoldable pub load_answer : (text : List ℕ) → Answer
load_answer text = first_cause (load_order text) (answer 0 (written (forms 0 (rows text))).count)

-- 01: "A refused load gives a table of no lines"
unfoldable pub load_table : (text : List ℕ) → Pattern
load_table text = cond (eqb (load_answer text).number 0) (written (forms 0 (rows text))) no_lines

-- THE PROMISE of loading, for every text
pub record Loads (text : List ℕ) (r : Result Pattern Refusal) : Type 0 where
  pub answers : loaded_answer r ≡ load_answer text
  pub gives : pattern_or_none r ≡ load_table text
