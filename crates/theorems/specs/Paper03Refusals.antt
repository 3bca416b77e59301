-- Document 03's loading refuses what loading refuses, with the same number and line, for every text.
use Rattle.std.specs.Prelude.{◌≡◌, Bool, false, ◌&&◌, cond, ℕ, suc, ◌-◌, ◌≤◌, ◌<◌, leb, eqb, get_or, Option, None, Some}
use Rattle.std.proofs.Math.Path.{refl, sym, ap, subst}
use Rattle.std.proofs.Common.{ap₂, ◌∙◌, true≢false, arith, leb-true, leb-false, le-ltb, lt-ltb, eqb-true, ne_eqb}
use Rattle.std.proofs.Math.Bool.{true}
use Rattle.std.proofs.lemmas.Option.{none-some}
use mathlib.Core.List.{List, [], ◌∷◌, map}
use Rattle.std.proofs.Math.Dec.{ltb}
use Rattle.std.proofs.Math.ListN.{length}
use Rattle.syntax.specs.declared.Leaf.TheVariants.{Nothing, Letter, Range}
use Rattle.syntax.specs.declared.Node.{Node as OwnNode}
use Rattle.syntax.specs.declared.Node.TheVariants.{Leaf as LeafNode, Sequence, Alternative, Star}
use Rattle.syntax.specs.declared.Line.{Line}
use Rattle.syntax.specs.declared.Pattern.{Pattern}
use Rattle.syntax.specs.Bools.{and_fst, and_snd, and_intro}
use Rattle.syntax.specs.Letter.{is_letter}
use Rattle.syntax.specs.Table.{table, tree_fault, account_limit}
use Rattle.refusals.specs.Refusals.{Answer}
use Rattle.fields.specs.Text.{place, single, account, when, star_of, node_of_none, node_of_one, range_of, parts_of, node_of_two, node_of}
use Rattle.fields.specs.Text.{with_account, line_of, row_line, Forms, good, fault, line_front, forms}
use Rattle.loading.specs.Load.{load_answer}
use Rattle.loading.specs.LoadForms.{tree_answer, forms_answer, load_answer_is}
use Rattle.theorems.specs.Paper03Pattern.{Line as TextLine, lines, fields, place_value, is_place, is_letter as is_letter_field, account_value}
use Rattle.theorems.specs.Paper03Pattern.{kind_value, field, line_good, nodes_in, Refusal, refusal, forms_from, load_refusal}
use Rattle.theorems.specs.Paper03Pattern.{or_else as or_refusal, tree_refusal}
use Rattle.theorems.specs.Paper03Read.{line_as}
use Rattle.theorems.specs.Paper03Fields.{row_of, rows_are, place-back, is_place-back, letter_back, account_same}
use Rattle.theorems.specs.Paper03Load.{kind_by, kind_same, needs, line_in, formed}
use Rattle.theorems.specs.Paper03Tree.{tree_refused, tree_same, as_many}

-- ── a line that says a node is of good form by 03 ──
when_yes : {A : Type 0} (b : Bool) (x y : A) → when b x ≡ Some y → b ≡ true
when_yes true x y e = refl
when_yes false x y e = absurd (none-some y e)

kind_of : (q : List ℕ) (c : ℕ) → eqb (single q) c ≡ true → kind_value q ≡ kind_by c
kind_of q c e = kind_same q ∙ ap kind_by (eqb-true (single q) c e)

-- what is asked of a kind that is known
known : (q : List ℕ) (ws : List (List ℕ)) (c : ℕ) → eqb (single q) c ≡ true → ltb (kind_by c) 7 ≡ true → needs (kind_by c) ws ≡ true
    → (ltb (kind_value q) 7 ≡ true) × (needs (kind_value q) ws ≡ true)
known q ws c e l h = let k = kind_of q c e in (ap (λ j. ltb j 7) k ∙ l, ap (λ j. needs j ws) k ∙ h)

module _ (p q u : List ℕ) where
  out_three : (n : OwnNode) → node_of (single q) [] ≡ Some n
      → (ltb (kind_value q) 7 ≡ true) × (needs (kind_value q) (p ∷ q ∷ u ∷ []) ≡ true)
  unfolding node_of node_of_none field
  out_three n e = known q (p ∷ q ∷ u ∷ []) 69 (when_yes (eqb (single q) 69) (LeafNode Nothing) n e) refl refl

  out_four : (x : List ℕ) (n : OwnNode) → node_of (single q) (x ∷ []) ≡ Some n
      → (ltb (kind_value q) 7 ≡ true) × (needs (kind_value q) (p ∷ q ∷ u ∷ x ∷ []) ≡ true)
  unfolding node_of node_of_one field
  out_four x n e = go (eqb (single q) 76) refl (eqb (single q) 75) refl (eqb (single q) 90) refl e
    where
      star : (again : Bool) → star_of again (place x) ≡ Some n → is_place x ≡ true
      star again f = is_place-back x (when_yes (ltb (place x) 64) (Star again (place x)) n f)

      go : (l : Bool) → eqb (single q) 76 ≡ l → (k : Bool) → eqb (single q) 75 ≡ k → (z : Bool) → eqb (single q) 90 ≡ z
          → cond l (when (is_letter (single x)) (LeafNode (Letter (single x))))
          (cond k (star_of false (place x)) (cond z (star_of true (place x)) None)) ≡ Some n
          → (ltb (kind_value q) 7 ≡ true) × (needs (kind_value q) (p ∷ q ∷ u ∷ x ∷ []) ≡ true)
      go true el k ek z ez f =
          known q (p ∷ q ∷ u ∷ x ∷ []) 76 el refl (letter_back x (when_yes (is_letter (single x)) (LeafNode (Letter (single x))) n f)).0
      go false el true ek z ez f = known q (p ∷ q ∷ u ∷ x ∷ []) 75 ek refl (star false f)
      go false el false ek true ez f = known q (p ∷ q ∷ u ∷ x ∷ []) 90 ez refl (star true f)
      go false el false ek false ez f = absurd (none-some n f)

  out_five : (x y : List ℕ) (n : OwnNode) → node_of (single q) (x ∷ y ∷ []) ≡ Some n
      → (ltb (kind_value q) 7 ≡ true) × (needs (kind_value q) (p ∷ q ∷ u ∷ x ∷ y ∷ []) ≡ true)
  unfolding node_of node_of_two range_of parts_of field
  out_five x y n e = go (eqb (single q) 82) refl (eqb (single q) 83) refl (eqb (single q) 65) refl e
    where
      places : (ltb (place x) 64 && ltb (place y) 64) ≡ true → (is_place x && is_place y) ≡ true
      places h =
          and_intro (is_place-back x (and_fst (ltb (place x) 64) (ltb (place y) 64) h)) (is_place-back y (and_snd (ltb (place x) 64) (ltb (place y) 64) h))

      letters : ((is_letter (single x) && is_letter (single y)) && leb (single x) (single y)) ≡ true
          → ((is_letter_field x && is_letter_field y) && leb (get_or x 0 0) (get_or y 0 0)) ≡ true
      letters h =
          let both = and_fst (is_letter (single x) && is_letter (single y)) (leb (single x) (single y)) h in
          let (a, b) = letter_back x (and_fst (is_letter (single x)) (is_letter (single y)) both) in
          let (c, d) = letter_back y (and_snd (is_letter (single x)) (is_letter (single y)) both) in
          and_intro (and_intro a c) (ap₂ leb b d ∙ and_snd (is_letter (single x) && is_letter (single y)) (leb (single x) (single y)) h)

      go : (r : Bool) → eqb (single q) 82 ≡ r → (s : Bool) → eqb (single q) 83 ≡ s → (a : Bool) → eqb (single q) 65 ≡ a
          → cond r (when ((is_letter (single x) && is_letter (single y)) && leb (single x) (single y)) (LeafNode (Range (single x) (single y))))
          (cond s (when (ltb (place x) 64 && ltb (place y) 64) (Sequence (place x) (place y)))
          (cond a (when (ltb (place x) 64 && ltb (place y) 64) (Alternative (place x) (place y))) None)) ≡ Some n
          → (ltb (kind_value q) 7 ≡ true) × (needs (kind_value q) (p ∷ q ∷ u ∷ x ∷ y ∷ []) ≡ true)
      go true er s es a ea f =
          known q (p ∷ q ∷ u ∷ x ∷ y ∷ []) 82 er refl
          (letters (when_yes ((is_letter (single x) && is_letter (single y)) && leb (single x) (single y)) (LeafNode (Range (single x) (single y))) n f))
      go false er true es a ea f =
          known q (p ∷ q ∷ u ∷ x ∷ y ∷ []) 83 es refl (places (when_yes (ltb (place x) 64 && ltb (place y) 64) (Sequence (place x) (place y)) n f))
      go false er false es true ea f =
          known q (p ∷ q ∷ u ∷ x ∷ y ∷ []) 65 ea refl (places (when_yes (ltb (place x) 64 && ltb (place y) 64) (Alternative (place x) (place y)) n f))
      go false er false es false ea f = absurd (none-some n f)

  out_more : (more : List (List ℕ)) (n : OwnNode) → node_of (single q) more ≡ Some n
      → (ltb (kind_value q) 7 ≡ true) × (needs (kind_value q) (p ∷ q ∷ u ∷ more) ≡ true)
  unfolding node_of
  out_more [] n e = out_three n e
  out_more (x ∷ []) n e = out_four x n e
  out_more (x ∷ y ∷ []) n e = out_five x y n e
  out_more (x ∷ y ∷ z ∷ ws) n e = absurd (none-some n e)

account-below : (c : ℕ) → leb c account_limit ≡ true → ltb c 201 ≡ true
account-below c h = let l = leb-true c account_limit h in lt-ltb c 201 (omega arith)

-- what 03 asks of the fields of line i
abbrev Asks : (i : ℕ) → (ws : List (List ℕ)) → Type 0
Asks i ws =
    (eqb (place_value (field ws 0)) i ≡ true) × (ltb (account_value (field ws 2)) 201 ≡ true)
    × ((ltb (kind_value (field ws 1)) 7 ≡ true) × (needs (kind_value (field ws 1)) ws ≡ true))

fields_out : (i : ℕ) (ws : List (List ℕ)) (l : Line) → i < 64 → line_of i ws ≡ Some l → Asks i ws
unfolding line_of field
fields_out i [] l s e = absurd (none-some l e)
fields_out i (p ∷ []) l s e = absurd (none-some l e)
fields_out i (p ∷ q ∷ []) l s e = absurd (none-some l e)
fields_out i (p ∷ q ∷ u ∷ more) l s e = go (eqb (place p) i) refl (node_of (single q) more) refl e
  where
    go : (b : Bool) → eqb (place p) i ≡ b → (o : Option OwnNode) → node_of (single q) more ≡ o
        → cond b (with_account (account u) o) None ≡ Some l
        → (eqb (place_value p) i ≡ true) × (ltb (account_value u) 201 ≡ true)
        × ((ltb (kind_value q) 7 ≡ true) × (needs (kind_value q) (p ∷ q ∷ u ∷ more) ≡ true))
    go false b o f g = absurd (none-some l g)
    go true b None f g = absurd (none-some l g)
    go true b (Some n) f g =
        let k = eqb-true (place p) i b in (
          ap (λ j. eqb j i) (place-back p (omega arith)) ∙ b,
          ap (λ j. ltb j 201) (account_same u)
              ∙ account-below (account u) (when_yes (leb (account u) account_limit) (record { account = account u; node = n }) l g),
          out_more p q u more n f,
        )

line_out : (i : ℕ) (x : TextLine) (l : Line) → i < 64 → row_line i (row_of x) ≡ Some l → line_good i x ≡ true
unfolding line_good row_line
line_out i x l s e = go x.closed refl e
  where
    go : (b : Bool) → x.closed ≡ b → cond b (line_of i (fields x.text)) None ≡ Some l → line_good i x ≡ true
    go false c f = absurd (none-some l f)
    go true c f =
        let (a, b, d) = fields_out i (fields x.text) l s f in
        and_intro (and_intro (and_intro c a) (and_intro b d.0)) d.1

-- ── all lines ──
abbrev forms_refusal : Forms → Refusal
forms_refusal (good xs) = refusal 0 0
forms_refusal (fault j) = refusal 1 j

forms_same : (i : ℕ) (ls : List TextLine) → forms_from i ls ≡ forms_refusal (forms i (map row_of ls))
unfolding forms forms_from
forms_same i [] = refl
forms_same i (x ∷ ls) = go (leb 64 i) refl (row_line i (row_of x)) refl (forms (suc i) (map row_of ls)) (forms_same (suc i) ls)
  where
    good_is : i < 64 → (o : Option Line) → row_line i (row_of x) ≡ o → (c : Bool) → line_good i x ≡ c → (f : Forms) → forms_from (suc i) ls ≡ forms_refusal f
        → cond c (forms_from (suc i) ls) (refusal 1 i) ≡ forms_refusal (line_front i o f)
    good_is s None e false q f h = refl
    good_is s None e true q f h = let (l, r, n) = line_in i x s q in absurd (none-some l (sym e ∙ r))
    good_is s (Some l) e false q f h = absurd (true≢false (sym (line_out i x l s e) ∙ q))
    good_is s (Some l) e true q (good xs) h = h
    good_is s (Some l) e true q (fault j) h = h

    go : (b : Bool) → leb 64 i ≡ b → (o : Option Line) → row_line i (row_of x) ≡ o → (f : Forms) → forms_from (suc i) ls ≡ forms_refusal f
        → cond b (refusal 1 64) (cond (line_good i x) (forms_from (suc i) ls) (refusal 1 i)) ≡ forms_refusal (cond (ltb i 64) (line_front i o f) (fault 64))
    go true e o r f h = ap (λ b. forms_refusal (cond b (line_front i o f) (fault 64))) (sym (le-ltb i 64 (leb-true 64 i e)))
    go false e o r f h =
        good_is (leb-false 64 i e) o r (line_good i x) refl f h
        ∙ ap (λ b. forms_refusal (cond b (line_front i o f) (fault 64))) (sym (lt-ltb i 64 (leb-false 64 i e)))

-- ── loading ──
-- a refusal of 03 against an answer here: the same number, and the same line where it refuses
pub record Agrees (r : Refusal) (a : Answer) : Type 0 where
  pub numbers : r.number ≡ a.number
  pub lines : 1 ≤ a.number → r.line ≡ a.value

tree_agrees : (p : Pattern) (o : Option ℕ) → Agrees (tree_refused o) (tree_answer p o)
unfolding refusal
tree_agrees p None = record { numbers = refl; lines = λ h. absurd (omega arith) }
tree_agrees p (Some l) = record { numbers = refl; lines = λ h. refl }

abbrev refusal_of : List TextLine → Refusal
refusal_of ls = cond (eqb (length ls) 0) (refusal 1 0) (or_refusal (forms_from 0 ls) (tree_refusal (nodes_in ls)))

no_text : Agrees (refusal_of []) (forms_answer (forms 0 []))
unfolding forms refusal
no_text = record { numbers = refl; lines = λ h. refl }

module _ (x : TextLine) (ls : List TextLine) where
  abbrev all : List TextLine
  all = x ∷ ls

  -- there are lines: a form fault, or what the tree says
  lines-refused : (r : Refusal) → forms_from 0 all ≡ r → refusal_of all ≡ or_refusal r (tree_refusal (nodes_in all))
  lines-refused r e =
      ap (λ b. cond b (refusal 1 0) (or_refusal (forms_from 0 all) (tree_refusal (nodes_in all)))) (ne_eqb (suc (length ls)) 0 (λ z. omega arith))
      ∙ ap (λ s. or_refusal s (tree_refusal (nodes_in all))) e

  form_agrees : (j : ℕ) → forms 0 (map row_of all) ≡ fault j → Agrees (refusal_of all) (forms_answer (forms 0 (map row_of all)))
  unfolding or_refusal refusal
  form_agrees j e =
      let q = lines-refused (refusal 1 j) (forms_same 0 all ∙ ap forms_refusal e) in
      subst (λ r. Agrees r (forms_answer (forms 0 (map row_of all)))) (sym q)
      (subst (λ f. Agrees (refusal 1 j) (forms_answer f)) (sym e) (record { numbers = refl; lines = λ h. refl }))

  tree_by : (xs : List Line) → forms 0 (map row_of all) ≡ good xs → nodes_in all ≡ map line_as xs
      → Agrees (refusal_of all) (forms_answer (forms 0 (map row_of all)))
  unfolding or_refusal refusal
  tree_by [] e n = absurd (let z = sym (as_many all) ∙ ap length n in omega (arith, z))
  tree_by (y ∷ ys) e n =
      let q = lines-refused (refusal 0 0) (forms_same 0 all ∙ ap forms_refusal e) ∙ ap tree_refusal n ∙ tree_same (y ∷ ys) in
      subst (λ r. Agrees r (forms_answer (forms 0 (map row_of all)))) (sym q)
      (subst (λ f. Agrees (tree_refused (tree_fault (table (y ∷ ys)))) (forms_answer f)) (sym e)
      (tree_agrees (table (y ∷ ys)) (tree_fault (table (y ∷ ys)))))

  some_text : Agrees (refusal_of all) (forms_answer (forms 0 (map row_of all)))
  unfolding refusal
  some_text = go (forms 0 (map row_of all)) refl
    where
      go : (f : Forms) → forms 0 (map row_of all) ≡ f → Agrees (refusal_of all) (forms_answer (forms 0 (map row_of all)))
      go (fault j) e = form_agrees j e
      go (good zs) e = let (xs, f, n) = formed 0 all (ap (λ r. r.number) (forms_same 0 all ∙ ap forms_refusal e)) in tree_by xs f n

-- THE SAME REFUSALS, for every text
pub same_refusal : (text : List ℕ) → Agrees (load_refusal text) (load_answer text)
unfolding load_refusal
same_refusal text =
    subst (λ a. Agrees (refusal_of (lines text)) a) (sym (load_answer_is text))
    (subst (λ rs. Agrees (refusal_of (lines text)) (forms_answer (forms 0 rs))) (sym (rows_are text)) (by (lines text)))
  where
    by : (ls : List TextLine) → Agrees (refusal_of ls) (forms_answer (forms 0 (map row_of ls)))
    by [] = no_text
    by (x ∷ ls) = some_text x ls
