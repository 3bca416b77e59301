-- Laws of loading that callers use: what a loaded table is, and what a refused load's table is.
use Rattle.std.specs.Prelude.{◌≡◌, refl, Bool, true, false, ◌&&◌, not, cond, List, [], ◌∷◌, ℕ, zero, suc, ◌+◌, ◌-◌, ◌≤◌, ◌<◌, eqb, ltb, leb, length, get_or, replicate, Option, None, Some, Err}
use Rattle.std.proofs.Common.{sym, ap, ◌∙◌, arith, ne_eqb}
use Rattle.std.proofs.lemmas.Option.{same_Some, none-some}
use Rattle.std.proofs.Math.ListN.{get_or-append}
use Rattle.syntax.specs.declared.Leaf.TheVariants.{Nothing, Letter, Range}
use Rattle.syntax.specs.declared.Node.{Node}
use Rattle.syntax.specs.declared.Node.TheVariants.{Leaf as LeafNode, Sequence, Alternative, Star}
use Rattle.syntax.specs.declared.Line.{Line}
use Rattle.syntax.specs.Letter.{is_letter}
use Rattle.fields.specs.Text.{place, single, account, when, node_of_none, star_of, node_of_one, range_of, parts_of, node_of_two, node_of, with_account}
use Rattle.fields.specs.Text.{Row, line_of, row_line, rows, Forms, good, fault, line_front, forms}
use Rattle.syntax.specs.Table.{blank, table, no_lines, line_at, node_good, account_limit, line_good, badly_formed, lowest, tree_fault, is_none, obeys}
use Rattle.syntax.specs.Lowest.{none_lowest}
use Rattle.refusals.specs.declared.Refusal.{Refusal}
use Rattle.refusals.specs.Refusals.{answer}
use Rattle.refusals.specs.RefusalLaws.{number_positive}
use Rattle.refusals.specs.Checks.{First}
use Rattle.refusals.specs.CheckLaws.{first_answered}
use Rattle.loading.specs.Load.{written, load_order, load_answer, load_table, Loads}
use Rattle.loading.specs.LoadForms.{tree_answer, tree_table, forms_answer, forms_table, load_answer_is, load_table_is}
use Rattle.syntax.specs.TableTest.{good-table}
use Rattle.loading.specs.Loading.{forms_few}

-- ── what a line says is of good form ──
pub when_yes : {A : Type 0} (b : Bool) (x y : A) → when b x ≡ Some y → b ≡ true
when_yes true x y e = refl
when_yes false x y e = absurd (none-some y e)

pub when_is : {A : Type 0} (b : Bool) (x y : A) → when b x ≡ Some y → x ≡ y
when_is true x y e = same_Some x y e
when_is false x y e = absurd (none-some y e)

-- a choice of what is good, or of nothing
either-good : (b : Bool) (x y : Option Node) (n : Node) → (x ≡ Some n → node_good n ≡ true) → (y ≡ Some n → node_good n ≡ true)
    → cond b x y ≡ Some n → node_good n ≡ true
either-good true x y n f g e = f e
either-good false x y n f g e = g e

never : (n : Node) → None ≡ Some n → node_good n ≡ true
never n e = absurd (none-some n e)

when-good : (b : Bool) (x n : Node) → (b ≡ true → node_good x ≡ true) → when b x ≡ Some n → node_good n ≡ true
when-good b x n f e = ap node_good (sym (when_is b x n e)) ∙ f (when_yes b x n e)

node_formed : (k : ℕ) (fs : List (List ℕ)) (n : Node) → node_of k fs ≡ Some n → node_good n ≡ true
unfolding node_of node_of_none node_of_one node_of_two range_of parts_of
node_formed k [] n = when-good (eqb k 69) (LeafNode Nothing) n (λ h. refl)
node_formed k (x ∷ []) n =
    either-good (eqb k 76) _ _ n (when-good (is_letter (single x)) (LeafNode (Letter (single x))) n (λ h. h))
    (either-good (eqb k 75) _ _ n (star_formed false)
    (either-good (eqb k 90) _ None n (star_formed true) (never n)))
  where
    star_formed : (again : Bool) → star_of again (place x) ≡ Some n → node_good n ≡ true
    star_formed again = when-good (ltb (place x) 64) (Star again (place x)) n (λ h. refl)
node_formed k (x ∷ y ∷ []) n =
    either-good (eqb k 82) _ _ n
    (when-good ((is_letter (single x) && is_letter (single y)) && leb (single x) (single y)) (LeafNode (Range (single x) (single y))) n (λ h. h))
    (either-good (eqb k 83) _ _ n (when-good (ltb (place x) 64 && ltb (place y) 64) (Sequence (place x) (place y)) n (λ h. refl))
    (either-good (eqb k 65) _ None n (when-good (ltb (place x) 64 && ltb (place y) 64) (Alternative (place x) (place y)) n (λ h. refl)) (never n)))
node_formed k (x ∷ y ∷ z ∷ more) n = never n

line_formed : (i : ℕ) (fs : List (List ℕ)) (x : Line) → line_of i fs ≡ Some x → line_good x ≡ true
unfolding line_of line_good
line_formed i [] x e = absurd (none-some x e)
line_formed i (p ∷ []) x e = absurd (none-some x e)
line_formed i (p ∷ k ∷ []) x e = absurd (none-some x e)
line_formed i (p ∷ k ∷ a ∷ more) x e = go (eqb (place p) i) (node_of (single k) more) refl e
  where
    go : (b : Bool) (o : Option Node) → node_of (single k) more ≡ o → cond b (with_account (account a) o) None ≡ Some x
        → (leb x.account account_limit && node_good x.node) ≡ true
    go true None q e = absurd (none-some x e)
    go true (Some n) q e =
        let s : record { account = account a; node = n } ≡ x = when_is (leb (account a) account_limit) _ x e in
        rw (← s, when_yes (leb (account a) account_limit) _ x e) (node_formed (single k) more n q)
    go false o q e = absurd (none-some x e)

row_formed : (i : ℕ) (r : Row) (x : Line) → row_line i r ≡ Some x → line_good x ≡ true
unfolding row_line
row_formed i r x e = go r.closed e
  where
    go : (b : Bool) → cond b (line_of i r.fields) None ≡ Some x → line_good x ≡ true
    go true e = line_formed i r.fields x e
    go false e = absurd (none-some x e)

-- ── line by line ──
abbrev no_row : Row
no_row = record { fields = []; closed = false }

pub record LineByLine (i : ℕ) (rs : List Row) (xs : List Line) : Type 0 where
  pub as_many : length rs ≡ length xs
  pub says : (j : ℕ) → j < length xs → row_line (i + j) (get_or rs j no_row) ≡ Some (get_or xs j blank)

line_by_line : (rs : List Row) (i : ℕ) (xs : List Line) → forms i rs ≡ good xs → LineByLine i rs xs
unfolding forms
line_by_line [] i xs h = let e : xs ≡ [] = (cc) in rw e (record { as_many = refl; says = λ j l. absurd (omega arith) })
line_by_line (r ∷ rs) i xs h = go (line_by_line rs (suc i)) (ltb i 64) (row_line i r) refl (forms (suc i) rs) refl h
  where
    go :
        ((ys : List Line) → forms (suc i) rs ≡ good ys → LineByLine (suc i) rs ys)
        → (b : Bool) (o : Option Line) → row_line i r ≡ o → (f : Forms) → forms (suc i) rs ≡ f
        → cond b (line_front i o f) (fault 64) ≡ good xs → LineByLine i (r ∷ rs) xs
    go ih true (Some x) q (good ys) p h = let s : x ∷ ys ≡ xs = (cc) in rw (← s) (record { as_many = ap suc (ih ys p).as_many; says = each (ih ys p) })
      where
        each : LineByLine (suc i) rs ys → (j : ℕ) → j < suc (length ys) → row_line (i + j) (get_or (r ∷ rs) j no_row) ≡ Some (get_or (x ∷ ys) j blank)
        each g zero l = let e : i + 0 ≡ i = omega arith in rw e q
        each g (suc j) l = let e : i + suc j ≡ suc i + j = omega arith in rw e (g.says j (omega arith))
    go ih true None q f p h = absurd cc
    go ih true (Some x) q (fault j) p h = absurd cc
    go ih false o q f p h = absurd cc

-- ── an accepted text ──
pub record Accepted (text : List ℕ) : Type 0 where
  pub lines : List Line
  pub written : LineByLine 0 (rows text) lines
  pub table_is : load_table text ≡ table lines
  pub one : 1 ≤ length lines
  pub few : length lines ≤ 64
  pub no_fault : tree_fault (table lines) ≡ None

accepted : (text : List ℕ) → (load_answer text).number ≡ 0 → Accepted text
accepted text h = go (forms 0 (rows text)) refl (sym (ap (λ a. a.number) (load_answer_is text)) ∙ h)
  where
    go : (f : Forms) → forms 0 (rows text) ≡ f → (forms_answer f).number ≡ 0 → Accepted text
    go (fault j) e h = absurd (omega arith)
    go (good []) e h = absurd (omega arith)
    go (good (x ∷ xs)) e h = by (tree_fault (table (x ∷ xs))) refl h
      where
        by : (o : Option ℕ) → tree_fault (table (x ∷ xs)) ≡ o → (tree_answer (table (x ∷ xs)) o).number ≡ 0 → Accepted text
        by (Some l) q h = absurd (omega arith)
        by None q h = record {
          lines = x ∷ xs;
          written = line_by_line (rows text) 0 (x ∷ xs) e;
          table_is = load_table_is text ∙ ap forms_table e ∙ ap (tree_table (table (x ∷ xs))) q;
          one = omega arith;
          few = omega (arith, forms_few (rows text) 0 (x ∷ xs) (omega arith) e);
          no_fault = q;
        }

-- the table of an accepted text says, node by node, what its lines say
pub record SaysLines (text : List ℕ) : Type 0 where
  pub count_is : (load_table text).count ≡ length (rows text)
  pub says : (i : ℕ) → i < (load_table text).count → row_line i (get_or (rows text) i no_row) ≡ Some (line_at (load_table text) i)

pub table-line : (xs : List Line) (i : ℕ) → i < length xs → line_at (table xs) i ≡ get_or xs i blank
unfolding table
table-line xs i h = get_or-append xs (replicate (64 - length xs) blank) blank i h

pub table_count : (xs : List Line) → (table xs).count ≡ length xs
unfolding table
table_count xs = refl

pub says-lines : (text : List ℕ) → (load_answer text).number ≡ 0 → SaysLines text
says-lines text h =
    let a = accepted text h in
    let n : (load_table text).count ≡ length a.lines = ap (λ p. p.count) a.table_is ∙ table_count a.lines in
    record {
      count_is = n ∙ sym a.written.as_many;
      says = λ i l.
          let e : 0 + i ≡ i = omega arith in
          let k : i < length a.lines = omega arith in
          ap (λ j. row_line j (get_or (rows text) i no_row)) (sym e) ∙ a.written.says i k
          ∙ ap Some (sym (table-line a.lines i k) ∙ ap (λ p. line_at p i) (sym a.table_is));
    }

-- a loaded table passes the test
pub loaded-obeys : (text : List ℕ) → (load_answer text).number ≡ 0 → obeys (load_table text) ≡ true
loaded-obeys text h = let a = accepted text h in ap obeys a.table_is ∙ passes a.lines a.written a.one a.few a.no_fault
  where
    passes : (xs : List Line) → LineByLine 0 (rows text) xs → 1 ≤ length xs → length xs ≤ 64 → tree_fault (table xs) ≡ None → obeys (table xs) ≡ true
    passes xs w one few q =
        let n = table_count xs in
        let f : lowest (badly_formed (table xs)) 0 (table xs).count ≡ None =
        none_lowest (badly_formed (table xs)) (table xs).count 0
        (λ i a b.
        let k : i < length xs = omega arith in
        ap (λ x. not (line_good x)) (table-line xs i k) ∙ ap not (row_formed (0 + i) (get_or (rows text) i no_row) (get_or xs i blank) (w.says i k))) in
        sym (good-table (table xs) (omega arith) (omega arith) (ap is_none f) q)

-- 01: "A refused load gives a table of no lines, itself a departure from the tree rules."
pub refused-no_lines : (text : List ℕ) → ((load_answer text).number ≡ 0 → ⊥) → load_table text ≡ no_lines
unfolding load_table
refused-no_lines text h = rw (ne_eqb (load_answer text).number 0 h)

pub refused_fails : (text : List ℕ) → ((load_answer text).number ≡ 0 → ⊥) → obeys (load_table text) ≡ false
unfolding obeys no_lines
refused_fails text h = ap obeys (refused-no_lines text h)

-- the first cause that holds is answered, and the table has no lines
pub load_refused : (text : List ℕ) (why : Refusal) → First why (load_order text) → Loads text (Err why)
unfolding load_answer
load_refused text why f =
    let e = first_answered f (answer 0 (written (forms 0 (rows text))).count) in
    record {
      answers = sym e;
      gives = sym (refused-no_lines text (λ z. omega (arith, number_positive why, sym (ap (λ a. a.number) e) ∙ z)));
    }
