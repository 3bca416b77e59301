-- Document 03's tree faults are those of a table; and a text that 03 accepts loads, its nodes the lines of the table that loading gives.
use Rattle.std.specs.Prelude.{◌≡◌, Bool, ◌&&◌, ◌||◌, not, ltb, leb, eqb, get_or, replicate, Option, None, Some}
use Rattle.std.proofs.Math.Path.{refl, ap, ap₂}
use Rattle.std.proofs.Common.{sym, ◌∙◌, true≢false, le-leb, ltb-true, ltb-false, eqb-true}
use Rattle.std.proofs.Math.Bool.{true, false, cond}
use Rattle.std.proofs.lemmas.Bool.{false≢true, lt-leb, eqb-false}
use mathlib.Core.List.{List, [], ◌∷◌, ◌++◌, map}
use Prim.Native.Nat.{ℕ, zero, suc, ◌+◌, ◌-◌, ◌<◌}
use native.Mathlib.Omega.{arith}
use Rattle.std.proofs.Math.ListN.{length, get_or-append}
use Rattle.syntax.specs.declared.Leaf.TheVariants.{Nothing, Letter, Range}
use Rattle.syntax.specs.declared.Node.{Node as OwnNode}
use Rattle.syntax.specs.declared.Node.TheVariants.{Leaf as LeafNode, Sequence, Alternative, Star}
use Rattle.syntax.specs.declared.Line.{Line}
use Rattle.syntax.specs.declared.Pattern.{Pattern}
use Rattle.syntax.specs.Table.{blank, table, line_at, node_at, parts, member, named_below, rightly_named, wrongly_names, unnamed, lowest, or_else, tree_fault}
use Rattle.fields.specs.Text.{rows, good, forms}
use Rattle.loading.specs.Load.{load_answer, load_table}
use Rattle.loading.specs.LoadForms.{tree_answer, tree_table, forms_answer, forms_table, load_answer_is, load_table_is}
use Rattle.loading.specs.LoadLaws.{loaded-obeys}
use Rattle.theorems.specs.Paper03Pattern.{no_node, node, Line as TextLine, lines, nodes_in, forms_from, Refusal, refusal, load_refusal, loaded}
use Rattle.theorems.specs.Paper03Pattern.{parts as parts_03, member as member_03, part_bad, tree_from, all_parts, unnamed_from}
use Rattle.theorems.specs.Paper03Pattern.{or_else as or_refusal, tree_refusal}
use Rattle.theorems.specs.Paper03Read.{node_as, line_as}
use Rattle.theorems.specs.Paper03Fields.{rows_are}
use Rattle.theorems.specs.Paper03Load.{formed}
use Rattle.theorems.specs.Paper03Same.{Lists}

-- ── parts and names ──
pub parts_same : (c : ℕ) (n : OwnNode) → parts_03 (node_as c n) ≡ parts n
unfolding parts_03
parts_same c (LeafNode Nothing) = refl
parts_same c (LeafNode (Letter x)) = refl
parts_same c (LeafNode (Range x y)) = refl
parts_same c (Sequence x y) = refl
parts_same c (Alternative x y) = refl
parts_same c (Star false x) = refl
parts_same c (Star true x) = refl

pub member_same : (v : ℕ) (xs : List ℕ) → member_03 v xs ≡ member v xs
unfolding member_03
member_same v [] = refl
member_same v (x ∷ xs) = ap (λ b. eqb x v || b) (member_same v xs)

member-append : (v : ℕ) (xs ys : List ℕ) → member v (xs ++ ys) ≡ (member v xs || member v ys)
member-append v [] ys = refl
member-append v (x ∷ xs) ys = ap (λ b. eqb x v || b) (member-append v xs ys) ∙ assoc (eqb x v) (member v xs) (member v ys)
  where
    assoc : (a b c : Bool) → (a || (b || c)) ≡ ((a || b) || c)
    assoc true b c = refl
    assoc false b c = refl

not-below : (i q : ℕ) → leb i q ≡ not (ltb q i)
not-below i q = go (ltb q i) refl
  where
    go : (b : Bool) → ltb q i ≡ b → leb i q ≡ not b
    go true e = lt-leb i q (ltb-true q i e)
    go false e = le-leb i q (ltb-false q i e)

bad_same : (i : ℕ) (seen ps : List ℕ) → part_bad i seen ps ≡ not (rightly_named i seen ps)
unfolding part_bad
bad_same i seen [] = refl
bad_same i seen (q ∷ qs) =
    ap₂ (λ a b. a || b) (ap₂ (λ a b. a || b) (not-below i q) (member_same q seen)) (bad_same i (q ∷ seen) qs)
    ∙ turn (ltb q i) (member q seen) (rightly_named i (q ∷ seen) qs)
  where
    turn : (t m r : Bool) → ((not t || m) || not r) ≡ not ((t && not m) && r)
    turn true true r = refl
    turn true false r = refl
    turn false m r = refl

-- what 03 reports of a tree fault
abbrev pub tree_refused : Option ℕ → Refusal
tree_refused None = refusal 0 0
tree_refused (Some l) = refusal 2 l

-- ── the lines from one on ──
module _ (p : Pattern) where
  abbrev From : (i : ℕ) → List Line → Type 0
  From i zs = (j : ℕ) → j < length zs → line_at p (i + j) ≡ get_or zs j blank

  module _ (i : ℕ) (z : Line) (zs : List Line) (h : From i (z ∷ zs)) where
    later : From (suc i) zs
    later j l = let e : suc i + j ≡ i + suc j = omega arith in ap (line_at p) e ∙ h (suc j) (omega arith)

    named : parts_03 (line_as z) ≡ parts (node_at p i)
    named =
        let e : i + 0 ≡ i = omega arith in
        parts_same z.account z.node ∙ ap (λ x. parts x.node) (sym (h 0 (omega arith)) ∙ ap (line_at p) e)

  wrong_same : (zs : List Line) (i : ℕ) → From i zs → tree_from i (named_below p i) (map line_as zs) ≡ tree_refused (lowest (wrongly_names p) i (length zs))
  unfolding tree_from
  wrong_same [] i h = refl
  wrong_same (z ∷ zs) i h =
      ap₂ (λ b r. cond b (refusal 2 i) r) bad
      (ap (λ ps. tree_from (suc i) (ps ++ named_below p i) (map line_as zs)) (named i z zs h) ∙ wrong_same zs (suc i) (later i z zs h))
      ∙ by (wrongly_names p i) (lowest (wrongly_names p) (suc i) (length zs))
    where
      bad : part_bad i (named_below p i) (parts_03 (line_as z)) ≡ wrongly_names p i
      bad = unfold wrongly_names in ap (part_bad i (named_below p i)) (named i z zs h) ∙ bad_same i (named_below p i) (parts (node_at p i))

      by : (b : Bool) (o : Option ℕ) → cond b (refusal 2 i) (tree_refused o) ≡ tree_refused (cond b (Some i) o)
      by true o = refl
      by false o = refl

  names_same : (zs : List Line) (i : ℕ) → From i zs → (l : ℕ)
      → member l (named_below p (i + length zs)) ≡ (member l (all_parts (map line_as zs)) || member l (named_below p i))
  unfolding all_parts
  names_same [] i h l = let k : i + 0 ≡ i = omega arith in ap (λ n. member l (named_below p n)) k
  names_same (z ∷ zs) i h l =
      let k : i + suc (length zs) ≡ suc i + length zs = omega arith in
      let own = parts (node_at p i) in
      let rest = all_parts (map line_as zs) in
      ap (λ n. member l (named_below p n)) k ∙ names_same zs (suc i) (later i z zs h) l
      ∙ ap (λ b. member l rest || b) (member-append l own (named_below p i)) ∙ turn (member l rest) (member l own) (member l (named_below p i))
      ∙ ap (λ b. b || member l (named_below p i))
      (sym (member-append l own rest) ∙ ap (λ ps. member l (ps ++ all_parts (map line_as zs))) (sym (named i z zs h)))
    where
      turn : (r o n : Bool) → (r || (o || n)) ≡ ((o || r) || n)
      turn true true n = refl
      turn true false n = refl
      turn false true n = refl
      turn false false n = refl

unnamed_same : (k i : ℕ) (ns : List ℕ) (f : ℕ → Bool) → ((l : ℕ) → not (member l ns) ≡ f l) → unnamed_from k i ns ≡ tree_refused (lowest f i k)
unfolding unnamed_from
unnamed_same zero i ns f h = refl
unnamed_same (suc k) i ns f h = go (member_03 i ns) (f i) (ap not (member_same i ns) ∙ h i) (lowest f (suc i) k) (unnamed_same k (suc i) ns f h)
  where
    go : (b c : Bool) → not b ≡ c → (o : Option ℕ) → unnamed_from k (suc i) ns ≡ tree_refused o
        → cond b (unnamed_from k (suc i) ns) (refusal 2 i) ≡ tree_refused (cond c (Some i) o)
    go true true e o q = absurd (false≢true e)
    go true false e o q = q
    go false true e o q = refl
    go false false e o q = absurd (true≢false e)

-- neither of two refusals
neither : (r s : Refusal) → (or_refusal r s).number ≡ 0 → (r.number ≡ 0) × (s.number ≡ 0)
unfolding or_refusal
neither r s h = go (eqb r.number 0) refl h
  where
    go : (b : Bool) → eqb r.number 0 ≡ b → (cond b s r).number ≡ 0 → (r.number ≡ 0) × (s.number ≡ 0)
    go true e q = (eqb-true r.number 0 e, q)
    go false e q = absurd (eqb-false r.number 0 e q)

-- ── a table's lines as nodes ──
length-nodes : (xs : List Line) → length (map line_as xs) ≡ length xs
length-nodes [] = refl
length-nodes (x ∷ xs) = ap suc (length-nodes xs)

nodes_at : (xs : List Line) (l : ℕ) → l < length xs → get_or (map line_as xs) l no_node ≡ line_as (get_or xs l blank)
nodes_at [] l h = absurd (omega arith)
nodes_at (x ∷ xs) zero h = refl
nodes_at (x ∷ xs) (suc l) h = nodes_at xs l (omega arith)

table-line : (xs : List Line) (i : ℕ) → i < length xs → line_at (table xs) i ≡ get_or xs i blank
unfolding table
table-line xs i h = get_or-append xs (replicate (64 - length xs) blank) blank i h

table_count : (xs : List Line) → (table xs).count ≡ length xs
unfolding table
table_count xs = refl

pub tree_same : (xs : List Line) → tree_refusal (map line_as xs) ≡ tree_refused (tree_fault (table xs))
unfolding tree_refusal tree_fault unnamed
tree_same xs =
    let p = table xs in
    let n = table_count xs in
    let from : From p 0 xs = λ j l. let e : 0 + j ≡ j = omega arith in ap (line_at p) e ∙ table-line xs j l in
    let names : (l : ℕ) → not (member l (all_parts (map line_as xs))) ≡ not (member l (named_below p p.count)) =
    λ l.
    let m : 0 + length xs ≡ p.count = omega arith in
    ap not (sym (no_more (member l (all_parts (map line_as xs)))) ∙ sym (names_same p xs 0 from l) ∙ ap (λ k. member l (named_below p k)) m) in
    ap₂ or_refusal (wrong_same p xs 0 from ∙ ap (λ k. tree_refused (lowest (wrongly_names p) 0 k)) (sym n))
    (ap (λ k. unnamed_from (k - 1) 0 (all_parts (map line_as xs))) (length-nodes xs ∙ sym n)
    ∙ unnamed_same (p.count - 1) 0 (all_parts (map line_as xs)) (λ l. not (member l (named_below p p.count))) names)
    ∙ joined (lowest (wrongly_names p) 0 p.count) (lowest (λ l. not (member l (named_below p p.count))) 0 (p.count - 1))
  where
    no_more : (b : Bool) → (b || false) ≡ b
    no_more true = refl
    no_more false = refl

    joined : (a b : Option ℕ) → or_refusal (tree_refused a) (tree_refused b) ≡ tree_refused (or_else a b)
    joined None b = unfold or_refusal refusal in refl
    joined (Some l) b = unfold or_refusal refusal in refl

no_fault : (xs : List Line) → (tree_refusal (map line_as xs)).number ≡ 0 → tree_fault (table xs) ≡ None
unfolding refusal
no_fault xs h = go (tree_fault (table xs)) (sym (ap (λ r. r.number) (tree_same xs)) ∙ h)
  where
    go : (o : Option ℕ) → (tree_refused o).number ≡ 0 → o ≡ None
    go None e = refl
    go (Some l) e = absurd (omega arith)

-- ── loading ──
pub record Loads03 (text : List ℕ) : Type 0 where
  pub own : List Line
  pub answers : (load_answer text).number ≡ 0
  pub gives : load_table text ≡ table own
  pub nodes : loaded text ≡ map line_as own

accepted : (text : List ℕ) (xs : List Line) → forms 0 (rows text) ≡ good xs → loaded text ≡ map line_as xs → tree_fault (table xs) ≡ None
    → (length xs ≡ 0 → ⊥) → Loads03 text
accepted text [] e ns f some-line = absurd (some-line refl)
accepted text (x ∷ xs) e ns f some-line = record {
  own = x ∷ xs;
  answers = ap (λ a. a.number) (load_answer_is text) ∙ ap (λ o. (forms_answer o).number) e ∙ ap (λ o. (tree_answer (table (x ∷ xs)) o).number) f;
  gives = load_table_is text ∙ ap forms_table e ∙ ap (tree_table (table (x ∷ xs))) f;
  nodes = ns;
}

pub as_many : (ls : List TextLine) → length (nodes_in ls) ≡ length ls
unfolding nodes_in
as_many [] = refl
as_many (x ∷ ls) = ap suc (as_many ls)

pub loads_03 : (text : List ℕ) → (load_refusal text).number ≡ 0 → Loads03 text
unfolding load_refusal loaded refusal
loads_03 text h = go (eqb (length (lines text)) 0) refl h
  where
    go : (b : Bool) → eqb (length (lines text)) 0 ≡ b
        → (cond b (refusal 1 0) (or_refusal (forms_from 0 (lines text)) (tree_refusal (nodes_in (lines text))))).number ≡ 0 → Loads03 text
    go true e g = absurd (omega arith)
    go false e g =
        let (a, b) = neither (forms_from 0 (lines text)) (tree_refusal (nodes_in (lines text))) g in
        let (xs, f, ns) = formed 0 (lines text) a in
        accepted text xs (ap (forms 0) (rows_are text) ∙ f) ns (no_fault xs (ap (λ l. (tree_refusal l).number) (sym ns) ∙ b))
        (λ z. eqb-false (length (lines text)) 0 e (sym (as_many (lines text)) ∙ ap length ns ∙ length-nodes xs ∙ z))

pub lists_03 : (text : List ℕ) → Loads03 text → Lists (load_table text) (loaded text)
unfolding node
lists_03 text a =
    let n : (load_table text).count ≡ length a.own = ap (λ p. p.count) a.gives ∙ table_count a.own in
    record {
      good = loaded-obeys text a.answers;
      size = ap length a.nodes ∙ length-nodes a.own ∙ sym n;
      same = λ l k.
          ap (λ ns. get_or ns l no_node) a.nodes ∙ nodes_at a.own l (omega arith)
          ∙ ap line_as (sym (table-line a.own l (omega arith)) ∙ ap (λ p. line_at p l) (sym a.gives));
    }
