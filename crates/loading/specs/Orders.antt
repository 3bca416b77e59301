-- Loading a pattern text: the first cause that holds is answered, whatever later causes hold, and the table has no lines.
use Rattle.std.specs.Prelude.{◌≡◌, not, List, [], ◌∷◌, ℕ, None, Some, Result, Err}
use Rattle.std.proofs.Math.Path.{refl, ap}
use Rattle.std.proofs.Common.{sym, ◌∙◌}
use Rattle.syntax.specs.Table.{no_lines, tree_fault, is_none}
use Rattle.refusals.specs.declared.Refusal.{Refusal}
use Rattle.refusals.specs.declared.Refusal.TheVariants.{LineForm, Tree}
use Rattle.refusals.specs.Refusals.{answer}
use Rattle.refusals.specs.Checks.{numbers, First, here, past}
use Rattle.refusals.specs.CheckLaws.{refused_first}
use Rattle.fields.specs.Text.{rows, forms}
use Rattle.syntax.specs.declared.Pattern.{Pattern}
use Rattle.loading.specs.Load.{form_fault, written, line_at_fault, load_order, load_answer, loaded_answer, pattern_or_none, Loads}
use Rattle.loading.specs.LoadLaws.{load_refused}
use Rattle.loading.specs.Unique.{loads_one}

-- 01: "Loading a pattern text: 1, 2."
pub load_numbers : (text : List ℕ) → numbers (load_order text) ≡ 1 ∷ 2 ∷ []
load_numbers text = refl

module _ (text : List ℕ) (r : Result Pattern Refusal) (h : Loads text r) where
  pub load_only : (why : Refusal) → First why (load_order text) → (r ≡ Err why) × (pattern_or_none r ≡ no_lines)
  load_only why f = let e = loads_one text r (Err why) h (load_refused text why f) in (e, ap pattern_or_none e)

  -- "and never otherwise"
  pub load_first : (why : Refusal) → r ≡ Err why → First why (load_order text)
  unfolding load_answer
  load_first why e =
      refused_first (load_order text) (answer 0 (written (forms 0 (rows text))).count) refl why (sym h.answers ∙ ap loaded_answer e)

  pub load_only_1 : (l : ℕ) → form_fault (forms 0 (rows text)) ≡ Some l → (r ≡ Err (LineForm l)) × (pattern_or_none r ≡ no_lines)
  load_only_1 l e =
      let q = load_only (LineForm (line_at_fault (form_fault (forms 0 (rows text))))) (here (ap (λ o. not (is_none o)) e)) in
      (q.0 ∙ ap (λ o. Err (LineForm (line_at_fault o))) e, q.1)

  -- "form faults on any line come before tree faults"
  pub load_only_2 : (l : ℕ) → form_fault (forms 0 (rows text)) ≡ None → tree_fault (written (forms 0 (rows text))) ≡ Some l
      → (r ≡ Err (Tree l)) × (pattern_or_none r ≡ no_lines)
  load_only_2 l n e =
      let q = load_only (Tree (line_at_fault (tree_fault (written (forms 0 (rows text))))))
      (past (ap (λ o. not (is_none o)) n) (here (ap (λ o. not (is_none o)) e))) in
      (q.0 ∙ ap (λ o. Err (Tree (line_at_fault o))) e, q.1)
