-- 02, Job 7: "An old pattern text loads to the same nodes with the same accounts". A text that loads by 01's rule of accounts loads, with the
-- same answer and the same table.
use Rattle.std.specs.Prelude.{◌≡◌, refl, Bool, true, false, ◌&&◌, cond, List, [], ◌∷◌, ℕ, zero, suc, ◌-◌, ◌≤◌, ◌<◌, eqb, leb, ltb, get_or, Option, None, Some, Result}
use Rattle.std.proofs.Common.{sym, ap₂, ◌∙◌, arith, eqb-true, leb-true}
use Rattle.std.proofs.lemmas.Option.{none-some}
use Rattle.std.proofs.Math.Path.{ap}
use Rattle.std.proofs.lemmas.Bool.{eqb-false}
use Rattle.std.proofs.Math.ListN.{length}
use Rattle.syntax.specs.declared.Node.{Node}
use Rattle.syntax.specs.declared.Line.{Line}
use Rattle.syntax.specs.Table.{blank, table, line_at, tree_fault, account_limit, one_digit_limit}
use Rattle.fields.specs.Text.{Row, rows, place, single, no_account, account, node_of, with_account, line_of, row_line, Forms, good, fault, line_front, forms}
use Rattle.fields.specs.AccountLaws.{digit_is, byte_dash, byte_digit}
use Rattle.syntax.specs.declared.Pattern.{Pattern}
use Rattle.refusals.specs.declared.Refusal.{Refusal}
use Rattle.loading.specs.Load.{loaded_answer, pattern_or_none, load_answer, load_table, Loads}
use Rattle.loading.specs.LoadForms.{tree_answer, tree_table, forms_answer, forms_table, load_answer_is, load_table_is}
use Rattle.loading.specs.LoadLaws.{when_yes, when_is, table-line, table_count}
use Rattle.loading.specs.OldAccounts.{old_account, line_with, row_with, forms_with, old_forms}

-- ── the rule by which texts are read ──
line_with-account : (i : ℕ) (fs : List (List ℕ)) → line_with account i fs ≡ line_of i fs
unfolding line_of
line_with-account i [] = refl
line_with-account i (p ∷ []) = refl
line_with-account i (p ∷ k ∷ []) = refl
line_with-account i (p ∷ k ∷ a ∷ more) = refl

pub forms_with-account : (i : ℕ) (rs : List Row) → forms_with account i rs ≡ forms i rs
unfolding forms row_line
forms_with-account i [] = refl
forms_with-account i (r ∷ rs) =
    ap₂ (λ o f. cond (ltb i 64) (line_front i (cond r.closed o None) f) (fault 64)) (line_with-account i r.fields) (forms_with-account (suc i) rs)

-- ── what is good by the old rule is good, and the same ──
-- a field that is an account by the old rule
pub old_field : (x : List ℕ) → old_account x ≤ account_limit → (account x ≡ old_account x) × (old_account x ≤ one_digit_limit)
unfolding old_account single
old_field [] h = absurd (omega arith)
old_field (a ∷ []) h = go (eqb a 45) refl (leb 49 a) refl (leb a 57) refl h
  where
    by : (x y z : Bool) → ℕ
    by x y z = cond x 0 (cond (y && z) (a - 48) no_account)

    go : (x : Bool) → eqb a 45 ≡ x → (y : Bool) → leb 49 a ≡ y → (z : Bool) → leb a 57 ≡ z → by x y z ≤ account_limit
        → (account (a ∷ []) ≡ by x y z) × (by x y z ≤ one_digit_limit)
    go true p y q z r h = (sym (byte_dash a (eqb-true a 45 p)), omega arith)
    go false p true q true r h =
        let l = leb-true 49 a q in
        let u = leb-true a 57 r in
        (sym (byte_digit a (eqb-false a 45 p) (sym (digit_is a (omega arith) u)) (omega arith) (omega arith)), omega arith)
    go false p true q false r h = absurd (omega arith)
    go false p false q z r h = absurd (omega arith)
old_field (a ∷ b ∷ more) h = absurd (omega arith)

-- a line that is good by the old rule
abbrev OldLine : (said : Option Line) → Line → Type 0
OldLine o x = (o ≡ Some x) × (x.account ≤ one_digit_limit)

old_line : (i : ℕ) (fs : List (List ℕ)) (x : Line) → line_with old_account i fs ≡ Some x → OldLine (line_of i fs) x
unfolding line_of
old_line i [] x e = absurd (none-some x e)
old_line i (p ∷ []) x e = absurd (none-some x e)
old_line i (p ∷ k ∷ []) x e = absurd (none-some x e)
old_line i (p ∷ k ∷ a ∷ more) x e = go (eqb (place p) i) (node_of (single k) more) e
  where
    go : (b : Bool) (o : Option Node) → cond b (with_account (old_account a) o) None ≡ Some x → OldLine (cond b (with_account (account a) o) None) x
    go true None e = absurd (none-some x e)
    go true (Some n) e =
        let s : record { account = old_account a; node = n } ≡ x = when_is (leb (old_account a) account_limit) _ x e in
        let f = old_field a (leb-true (old_account a) account_limit (when_yes (leb (old_account a) account_limit) _ x e)) in
        let q : x.account ≡ old_account a = ap (λ y. y.account) (sym s) in
        (ap (λ c. with_account c (Some n)) f.0 ∙ e, omega arith)
    go false o e = absurd (none-some x e)

old_row : (i : ℕ) (r : Row) (x : Line) → row_with old_account i r ≡ Some x → OldLine (row_line i r) x
unfolding row_line
old_row i r x e = go r.closed e
  where
    go : (b : Bool) → cond b (line_with old_account i r.fields) None ≡ Some x → OldLine (cond b (line_of i r.fields) None) x
    go true e = old_line i r.fields x e
    go false e = absurd (none-some x e)

-- lines that are good by the old rule
pub record OldLines (i : ℕ) (rs : List Row) (xs : List Line) : Type 0 where
  pub same : forms i rs ≡ good xs
  pub accounts : (j : ℕ) → j < length xs → (get_or xs j blank).account ≤ one_digit_limit

pub old_lines : (rs : List Row) (i : ℕ) (xs : List Line) → forms_with old_account i rs ≡ good xs → OldLines i rs xs
unfolding forms
old_lines [] i xs h = let e : xs ≡ [] = (cc) in rw e (record { same = refl; accounts = λ j l. absurd (omega arith) })
old_lines (r ∷ rs) i xs h = go (old_lines rs (suc i)) (ltb i 64) refl (row_with old_account i r) refl (forms_with old_account (suc i) rs) refl h
  where
    go :
        ((ys : List Line) → forms_with old_account (suc i) rs ≡ good ys → OldLines (suc i) rs ys)
        → (b : Bool) → ltb i 64 ≡ b → (o : Option Line) → row_with old_account i r ≡ o → (f : Forms) → forms_with old_account (suc i) rs ≡ f
        → cond b (line_front i o f) (fault 64) ≡ good xs → OldLines i (r ∷ rs) xs
    go ih true e (Some x) q (good ys) p h =
        let s : x ∷ ys ≡ xs = (cc) in
        let l = old_row i r x q in
        rw (← s) (record { same = rw (e, l.0, (ih ys p).same); accounts = each l.1 (ih ys p) })
      where
        each : x.account ≤ one_digit_limit → OldLines (suc i) rs ys → (j : ℕ) → j < suc (length ys) → (get_or (x ∷ ys) j blank).account ≤ one_digit_limit
        each l g zero k = l
        each l g (suc j) k = g.accounts j (omega arith)
    go ih true e None q f p h = absurd cc
    go ih true e (Some x) q (fault j) p h = absurd cc
    go ih false e o q f p h = absurd cc

-- ── whole texts ──
-- a text whose lines are good by the old rule has the same lines, and so the same answer and table, whether its tree is good or not
module _ (text : List ℕ) (xs : List Line) (h : old_forms text ≡ good xs) where
  pub old_good : forms 0 (rows text) ≡ good xs
  unfolding old_forms
  old_good = (old_lines (rows text) 0 xs h).same

  pub good-answer : load_answer text ≡ forms_answer (old_forms text)
  good-answer = load_answer_is text ∙ ap forms_answer (old_good ∙ sym h)

  pub good-table : load_table text ≡ forms_table (old_forms text)
  good-table = load_table_is text ∙ ap forms_table (old_good ∙ sym h)

-- a text that loads by the old rule, and the table that it gives by it
record OldText (text : List ℕ) : Type 0 where
  pub lines : List Line
  pub good-before : old_forms text ≡ good lines
  pub table_before : forms_table (old_forms text) ≡ table lines

old_text : (text : List ℕ) → (forms_answer (old_forms text)).number ≡ 0 → OldText text
old_text text h = go (old_forms text) refl h
  where
    go : (f : Forms) → old_forms text ≡ f → (forms_answer f).number ≡ 0 → OldText text
    go (fault j) e h = absurd (omega arith)
    go (good []) e h = absurd (omega arith)
    go (good (x ∷ xs)) e h = by (tree_fault (table (x ∷ xs))) refl h
      where
        by : (o : Option ℕ) → tree_fault (table (x ∷ xs)) ≡ o → (tree_answer (table (x ∷ xs)) o).number ≡ 0 → OldText text
        by (Some l) q h = absurd (omega arith)
        by None q h = record {
          lines = x ∷ xs;
          good-before = e;
          table_before = ap forms_table e ∙ ap (tree_table (table (x ∷ xs))) q;
        }

module _ (text : List ℕ) (h : (forms_answer (old_forms text)).number ≡ 0) where
  -- it loads, with the answer of before and the table of before
  pub old_answer : load_answer text ≡ forms_answer (old_forms text)
  old_answer = let t = old_text text h in good-answer text t.lines t.good-before

  pub old_table : load_table text ≡ forms_table (old_forms text)
  old_table = let t = old_text text h in good-table text t.lines t.good-before

  -- and so for all that loading may return
  pub old_loads : (r : Result Pattern Refusal) → Loads text r
      → (loaded_answer r ≡ forms_answer (old_forms text)) × (pattern_or_none r ≡ forms_table (old_forms text))
  old_loads r l = (l.answers ∙ old_answer, l.gives ∙ old_table)

  -- each line of its table has an account of 01, or none
  pub old_accounts : (l : ℕ) → l < (load_table text).count → (line_at (load_table text) l).account ≤ one_digit_limit
  unfolding old_forms
  old_accounts l k =
      let t = old_text text h in
      let e : load_table text ≡ table t.lines = old_table ∙ t.table_before in
      let n : l < length t.lines = omega (arith, ap (λ p. p.count) e ∙ table_count t.lines) in
      let q : (line_at (load_table text) l).account ≡ (get_or t.lines l blank).account =
      ap (λ p. (line_at p l).account) e ∙ ap (λ x. x.account) (table-line t.lines l n) in
      omega (arith, (old_lines (rows text) 0 t.lines t.good-before).accounts l n)
