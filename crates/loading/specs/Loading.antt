-- Laws of loading: one for each way of the code.
use Rattle.std.specs.Prelude.{◌≡◌, Bool, true, false, cond, ℕ, suc, ◌+◌, ◌-◌, ◌≤◌, ◌<◌, ltb, Option, None, Some, Result, Ok, Err}
use Rattle.std.proofs.Math.Path.{refl}
use Rattle.std.proofs.Common.{sym, ap, ◌∙◌, arith, ltb-true}
use mathlib.Core.List.{List, [], ◌∷◌}
use Rattle.std.proofs.Math.ListN.{length}
use Rattle.syntax.specs.declared.Line.{Line}
use Rattle.refusals.specs.declared.Refusal.TheVariants.{LineForm, Tree}
use Rattle.syntax.specs.declared.Pattern.{Pattern}
use Rattle.refusals.specs.declared.Refusal.{Refusal}
use Rattle.fields.specs.Text.{Row, rows, row_line, Forms, good, fault, line_front, forms}
use Rattle.syntax.specs.Table.{table, tree_fault}
use Rattle.loading.specs.ReadLines.{read_as}
use Rattle.loading.specs.Load.{load_answer, load_table, Loads}
use Rattle.loading.specs.LoadForms.{tree_answer, tree_table, forms_answer, forms_table, load_answer_is, load_table_is}

-- ── how many lines are read, and where a form fault can be ──
pub forms_few : (rs : List Row) (i : ℕ) (xs : List Line) → i ≤ 64 → forms i rs ≡ good xs → i + length xs ≤ 64
unfolding forms
forms_few [] i xs l h = let e : xs ≡ [] = (cc) in rw e (omega arith)
forms_few (r ∷ rs) i xs l h = go (forms_few rs (suc i)) (ltb i 64) refl (row_line i r) (forms (suc i) rs) refl h
  where
    go :
        ((ys : List Line) → suc i ≤ 64 → forms (suc i) rs ≡ good ys → suc i + length ys ≤ 64) → (b : Bool) → ltb i 64 ≡ b → (o : Option Line) (f : Forms)
        → forms (suc i) rs ≡ f → cond b (line_front i o f) (fault 64) ≡ good xs → i + length xs ≤ 64
    go ih true e None f q h = absurd cc
    go ih true e (Some x) (good ys) q h = let s : xs ≡ x ∷ ys = (cc) in rw s (omega (arith, ltb-true i 64 e, ih ys (ltb-true i 64 e) q))
    go ih true e (Some x) (fault j) q h = absurd cc
    go ih false e o f q h = absurd cc

pub forms_fault : (rs : List Row) (i j : ℕ) → forms i rs ≡ fault j → j ≤ 64
unfolding forms
forms_fault [] i j h = absurd cc
forms_fault (r ∷ rs) i j h = go (forms_fault rs (suc i) j) (ltb i 64) refl (row_line i r) (forms (suc i) rs) refl h
  where
    go :
        (forms (suc i) rs ≡ fault j → j ≤ 64) → (b : Bool) → ltb i 64 ≡ b → (o : Option Line) (f : Forms)
        → forms (suc i) rs ≡ f → cond b (line_front i o f) (fault 64) ≡ fault j → j ≤ 64
    go ih true e None f q h = let s : i ≡ j = (cc) in omega (arith, ltb-true i 64 e)
    go ih true e (Some x) (good ys) q h = absurd cc
    go ih true e (Some x) (fault k) q h = let s : k ≡ j = (cc) in ih (q ∙ ap fault s)
    go ih false e o f q h = let s : 64 ≡ j = (cc) in omega arith

-- ── the ways of loading ──
module _ (text : List ℕ) (r : Result Pattern Refusal) (h : r ≡ read_as (forms 0 (rows text))) where
  pub load_form : (why : Refusal) → r ≡ Err why → Loads text (Err why)
  load_form why e = go (forms 0 (rows text)) refl (sym e ∙ h)
    where
      go : (f : Forms) → forms 0 (rows text) ≡ f → Err why ≡ read_as f → Loads text (Err why)
      go (good xs) q w = absurd cc
      go (fault j) q w = let s : why ≡ LineForm j = (cc) in rw s (record { answers = rw (load_answer_is text, q); gives = rw (load_table_is text, q) })

  -- a text without a form fault
  pub record GoodLines (p : Pattern) : Type 0 where
    pub lines : List Line
    pub is : forms 0 (rows text) ≡ good lines
    pub pattern_is : p ≡ table lines
    pub few : length lines ≤ 64

  module _ (p : Pattern) (e : r ≡ Ok p) where
    pub good-lines : GoodLines p
    good-lines = go (forms 0 (rows text)) refl (sym e ∙ h)
      where
        go : (f : Forms) → forms 0 (rows text) ≡ f → Ok p ≡ read_as f → GoodLines p
        go (good xs) q w = record { lines = xs; is = q; pattern_is = (cc); few = omega (arith, forms_few (rows text) 0 xs (omega arith) q) }
        go (fault j) q w = absurd cc

    pub load_few : p.count ≤ 64
    unfolding table
    load_few = let g = good-lines in rw g.pattern_is g.few

    pub load_empty : p.count ≡ 0 → Loads text (Err (LineForm 0))
    unfolding table
    load_empty z = let g = good-lines in go g.lines g.is (sym (ap (λ p. p.count) g.pattern_is) ∙ z)
      where
        go : (xs : List Line) → forms 0 (rows text) ≡ good xs → length xs ≡ 0 → Loads text (Err (LineForm 0))
        go [] q n = record { answers = rw (load_answer_is text, q); gives = rw (load_table_is text, q) }
        go (x ∷ xs) q n = absurd (omega arith)

    module _ (some_lines : p.count ≡ 0 → ⊥) where
      by_tree : (load_answer text ≡ tree_answer p (tree_fault p)) × (load_table text ≡ tree_table p (tree_fault p))
      unfolding table
      by_tree = let g = good-lines in let q = go g.lines g.is g.pattern_is in (load_answer_is text ∙ q.0, load_table_is text ∙ q.1)
        where
          go :
              (xs : List Line) → forms 0 (rows text) ≡ good xs → p ≡ table xs
              → (forms_answer (forms 0 (rows text)) ≡ tree_answer p (tree_fault p))
              × (forms_table (forms 0 (rows text)) ≡ tree_table p (tree_fault p))
          go [] w q = absurd (some_lines (ap (λ p. p.count) q))
          go (x ∷ xs) w q = rw (w, q) (refl, refl)

      pub load_tree : (k : ℕ) → tree_fault p ≡ Some k → Loads text (Err (Tree k))
      load_tree k q = record { answers = sym (by_tree.0 ∙ ap (tree_answer p) q); gives = sym (by_tree.1 ∙ ap (tree_table p) q) }

      pub load_good : tree_fault p ≡ None → Loads text (Ok p)
      load_good q = record { answers = sym (by_tree.0 ∙ ap (tree_answer p) q); gives = sym (by_tree.1 ∙ ap (tree_table p) q) }
