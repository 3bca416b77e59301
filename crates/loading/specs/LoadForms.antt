-- Loading by cases on what reading the lines gave. The promise is a list of checks (Load); where the lines are known, these forms compute.
use Rattle.std.specs.Prelude.{◌≡◌, refl, false, not, cond, List, [], ◌∷◌, ℕ, eqb, Option, None, Some}
use Rattle.std.proofs.Common.{ap, ◌∙◌}
use Rattle.syntax.specs.declared.Pattern.{Pattern}
use Rattle.syntax.specs.Table.{table, no_lines, tree_fault, is_none}
use Rattle.refusals.specs.declared.Refusal.TheVariants.{LineForm, Tree}
use Rattle.refusals.specs.Refusals.{Answer, answer}
use Rattle.refusals.specs.Checks.{first_cause}
use Rattle.fields.specs.Text.{rows, Forms, good, fault, forms}
use Rattle.loading.specs.Load.{written, line_at_fault, forms_order, load_answer, load_table}

abbrev pub tree_answer : Pattern → Option ℕ → Answer
tree_answer p None = answer 0 p.count
tree_answer p (Some l) = answer 2 l

abbrev pub forms_answer : Forms → Answer
forms_answer (fault l) = answer 1 l
forms_answer (good []) = answer 1 0
forms_answer (good (x ∷ xs)) = tree_answer (table (x ∷ xs)) (tree_fault (table (x ∷ xs)))

abbrev pub tree_table : Pattern → Option ℕ → Pattern
tree_table p None = p
tree_table p (Some l) = no_lines

abbrev pub forms_table : Forms → Pattern
forms_table (fault l) = no_lines
forms_table (good []) = no_lines
forms_table (good (x ∷ xs)) = tree_table (table (x ∷ xs)) (tree_fault (table (x ∷ xs)))

answer_by_tree : (p : Pattern) (o : Option ℕ)
    → first_cause ((false, LineForm 0) ∷ (not (is_none o), Tree (line_at_fault o)) ∷ []) (answer 0 p.count) ≡ tree_answer p o
answer_by_tree p None = refl
answer_by_tree p (Some l) = refl

answer_by_forms : (f : Forms) → first_cause (forms_order f) (answer 0 (written f).count) ≡ forms_answer f
answer_by_forms (fault l) = refl
answer_by_forms (good []) = refl
answer_by_forms (good (x ∷ xs)) = answer_by_tree (table (x ∷ xs)) (tree_fault (table (x ∷ xs)))

pub load_answer_is : (text : List ℕ) → load_answer text ≡ forms_answer (forms 0 (rows text))
unfolding load_answer
load_answer_is text = answer_by_forms (forms 0 (rows text))

table_by_tree : (p : Pattern) (o : Option ℕ) → cond (eqb (tree_answer p o).number 0) p no_lines ≡ tree_table p o
table_by_tree p None = refl
table_by_tree p (Some l) = refl

table_by_forms : (f : Forms) → cond (eqb (forms_answer f).number 0) (written f) no_lines ≡ forms_table f
table_by_forms (fault l) = refl
table_by_forms (good []) = refl
table_by_forms (good (x ∷ xs)) = table_by_tree (table (x ∷ xs)) (tree_fault (table (x ∷ xs)))

pub load_table_is : (text : List ℕ) → load_table text ≡ forms_table (forms 0 (rows text))
unfolding load_table
load_table_is text =
    ap (λ a. cond (eqb a.number 0) (written (forms 0 (rows text))) no_lines) (load_answer_is text) ∙ table_by_forms (forms 0 (rows text))
