-- Every table that obeys the rules is the table of a text: loading the text of its lines gives it back.
use Rattle.std.specs.Prelude.{◌≡◌, Bool, true, false, ◌&&◌, not, cond, List, [], ◌∷◌, ◌++◌, ℕ, zero, suc, ◌+◌, ◌≤◌, ◌<◌, eqb, leb, get_or, Option, None, Some}
use Rattle.std.proofs.Math.Path.{refl, subst}
use Rattle.std.proofs.Common.{sym, ap, ap₂, ◌∙◌, true≢false, append_assoc, arith}
use Rattle.std.proofs.lemmas.Bool.{false≢true}
use Rattle.std.proofs.Math.Decide.{dec_lt}
use borrow.Author.Tests.{eqb-true, eq-eqb, ne_eqb, lt-ltb, le-leb, leb-true, not-true}
use Rattle.std.proofs.Math.ListN.{length}
use Rattle.syntax.specs.declared.Leaf.TheVariants.{Nothing, Letter, Range}
use Rattle.syntax.specs.declared.Node.{Node}
use Rattle.syntax.specs.declared.Node.TheVariants.{Leaf as LeafNode, Sequence, Alternative, Star}
use Rattle.syntax.specs.declared.Line.{Line}
use Rattle.syntax.specs.declared.Pattern.{Pattern}
use Rattle.refusals.specs.Refusals.{answer}
use Rattle.syntax.specs.Bools.{and_fst, and_snd}
use Rattle.syntax.specs.Letter.{is_letter}
use Rattle.syntax.specs.Table.{blank, table, line_at, node_good, account_limit, line_good, badly_formed, lowest, tree_fault, is_none, obeys}
use Rattle.syntax.specs.TreeLaws.{Below, Rules, obeys_iff}
use Rattle.fields.specs.Text.{Row, rows, digit, one_digit, two_digits, place, single, all_digits, decimal as decimal_from, account_number, account}
use Rattle.fields.specs.Text.{node_of_none, node_of_one, range_of, parts_of, node_of_two, node_of, line_of, row_line, good, forms}
use Rattle.loading.specs.Load.{load_answer, load_table}
use Rattle.loading.specs.LoadForms.{tree_answer, tree_table, forms_answer, forms_table, load_answer_is, load_table_is}
use Rattle.loading.specs.LoadLaws.{table-line, table_count}
use Rattle.text.specs.Text.{digits, decimal}
use Rattle.theorems.specs.PatternText.{kind_of, needs_of, account_field, fields_of, joined, text_from, text_of}

-- ── a test of all numbers below n ──
abbrev below : (ℕ → Bool) → ℕ → Bool
below f zero = true
below f (suc n) = f n && below f n

below_each : (f : ℕ → Bool) (n i : ℕ) → below f n ≡ true → i < n → f i ≡ true
below_each f zero i h l = absurd (omega arith)
below_each f (suc n) i h l = go (dec_lt i n) (below_each f n i)
  where
    go : Dec (i < n) → (below f n ≡ true → i < n → f i ≡ true) → f i ≡ true
    go (yes k) ih = ih (and_snd (f n) (below f n) h) k
    go (no k) ih = let e : i ≡ n = omega arith in ap f e ∙ and_fst (f n) (below f n) h

-- ── a field without tab and line end ──
abbrev plain_byte : ℕ → Bool
plain_byte b = not (eqb b 10) && not (eqb b 9)

abbrev plain : List ℕ → Bool
plain [] = true
plain (b ∷ bs) = plain_byte b && plain bs

abbrev all_plain : List (List ℕ) → Bool
all_plain [] = true
all_plain (f ∷ fs) = plain f && all_plain fs

-- ── decimal numbers, by trying them all ──
place_tried : below (λ n. eqb (place (decimal n)) n) 64 ≡ true
unfolding place one_digit two_digits digit decimal digits
place_tried = refl

account_tried : below (λ n. eqb (account (account_field n)) n) (suc account_limit) ≡ true
unfolding account account_number all_digits decimal_from digit decimal digits
account_tried = refl

decimal_tried : below (λ n. plain (decimal n)) (suc account_limit) ≡ true
unfolding decimal digits
decimal_tried = refl

place-back : (n : ℕ) → n < 64 → place (decimal n) ≡ n
place-back n h = eqb-true (place (decimal n)) n (below_each (λ k. eqb (place (decimal k)) k) 64 n place_tried h)

account-back : (n : ℕ) → n ≤ account_limit → account (account_field n) ≡ n
account-back n h =
    eqb-true (account (account_field n)) n (below_each (λ k. eqb (account (account_field k)) k) (suc account_limit) n account_tried (omega arith))

decimal-plain : (n : ℕ) → n ≤ account_limit → plain (decimal n) ≡ true
decimal-plain n h = below_each (λ k. plain (decimal k)) (suc account_limit) n decimal_tried (omega arith)

account-plain : (a : ℕ) → a ≤ account_limit → plain (account_field a) ≡ true
account-plain a h = go (eqb a 0)
  where
    go : (b : Bool) → plain (cond b (45 ∷ []) (decimal a)) ≡ true
    go true = refl
    go false = decimal-plain a h

letter_tried : below (λ b. not (is_letter b && not (plain_byte b))) 11 ≡ true
unfolding is_letter
letter_tried = refl

letter_plain : (c : ℕ) → is_letter c ≡ true → plain_byte c ≡ true
letter_plain c h = go (plain_byte c) refl (dec_lt c 11)
  where
    go : (b : Bool) → plain_byte c ≡ b → Dec (c < 11) → b ≡ true
    go true e d = refl
    go false e (yes l) =
        let t : not (true && not false) ≡ true =
        sym (ap₂ (λ x y. not (x && not y)) h e) ∙ below_each (λ b. not (is_letter b && not (plain_byte b))) 11 c letter_tried l in
        absurd (true≢false (sym t))
    go false e (no l) = absurd (true≢false (sym (ap₂ (λ x y. not x && not y) (ne_eqb c 10 (λ z. omega arith)) (ne_eqb c 9 (λ z. omega arith))) ∙ e))

-- ── the rows of a text of such fields ──
abbrev row_of : List (List ℕ) → Row
row_of fs = record { fields = fs; closed = true }

byte_rows : (b : ℕ) (s : List ℕ) (f : List ℕ) (fs : List (List ℕ)) (rs : List Row) → plain_byte b ≡ true → rows s ≡ row_of (f ∷ fs) ∷ rs
    → rows (b ∷ s) ≡ row_of ((b ∷ f) ∷ fs) ∷ rs
unfolding rows
byte_rows b s f fs rs h e =
    rw (not-true (eqb b 10) (and_fst (not (eqb b 10)) (not (eqb b 9)) h), not-true (eqb b 9) (and_snd (not (eqb b 10)) (not (eqb b 9)) h), e)

field-rows : (f : List ℕ) (s : List ℕ) (fs : List (List ℕ)) (rs : List Row) → plain f ≡ true → rows s ≡ row_of ([] ∷ fs) ∷ rs
    → rows (f ++ s) ≡ row_of (f ∷ fs) ∷ rs
field-rows [] s fs rs h e = e
field-rows (b ∷ f) s fs rs h e =
    byte_rows b (f ++ s) f fs rs (and_fst (plain_byte b) (plain f) h) (field-rows f s fs rs (and_snd (plain_byte b) (plain f) h) e)

end_rows : (rest : List ℕ) → rows (10 ∷ rest) ≡ row_of ([] ∷ []) ∷ rows rest
unfolding rows
end_rows rest = refl

tab_rows : (s : List ℕ) (fs : List (List ℕ)) (rs : List Row) → rows s ≡ row_of fs ∷ rs → rows (9 ∷ s) ≡ row_of ([] ∷ fs) ∷ rs
unfolding rows
tab_rows s fs rs e = rw e

joined-rows : (f : List ℕ) (fs : List (List ℕ)) (rest : List ℕ) → all_plain (f ∷ fs) ≡ true → rows (joined f fs ++ rest) ≡ row_of (f ∷ fs) ∷ rows rest
joined-rows f [] rest h =
    ap rows (append_assoc f (10 ∷ []) rest) ∙ field-rows f (10 ∷ rest) [] (rows rest) (and_fst (plain f) true h) (end_rows rest)
joined-rows f (g ∷ gs) rest h =
    ap rows (append_assoc f (9 ∷ joined g gs) rest)
    ∙ field-rows f (9 ∷ (joined g gs ++ rest)) (g ∷ gs) (rows rest) (and_fst (plain f) (all_plain (g ∷ gs)) h)
    (tab_rows (joined g gs ++ rest) (g ∷ gs) (rows rest) (joined-rows g gs rest (and_snd (plain f) (all_plain (g ∷ gs)) h)))

-- ── a line and its fields ──
-- the parts of a node are places, and its letters are letters
abbrev Placed : Node → Type 0
Placed k = (node_good k ≡ true) × Below 64 k

node-back : (k : Node) → Placed k → node_of (kind_of k) (needs_of k) ≡ Some k
unfolding node_of node_of_none node_of_one node_of_two range_of parts_of single
node-back (LeafNode Nothing) h = refl
node-back (LeafNode (Letter c)) h = rw h.0
node-back (LeafNode (Range a b)) h = rw h.0
node-back (Sequence p q) h = rw (place-back p h.1.0, place-back q h.1.1, lt-ltb p 64 h.1.0, lt-ltb q 64 h.1.1)
node-back (Alternative p q) h = rw (place-back p h.1.0, place-back q h.1.1, lt-ltb p 64 h.1.0, lt-ltb q 64 h.1.1)
node-back (Star false p) h = rw (place-back p h.1, lt-ltb p 64 h.1)
node-back (Star true p) h = rw (place-back p h.1, lt-ltb p 64 h.1)

kind_plain : (k : Node) → plain (kind_of k ∷ []) ≡ true
kind_plain (LeafNode Nothing) = refl
kind_plain (LeafNode (Letter c)) = refl
kind_plain (LeafNode (Range a b)) = refl
kind_plain (Sequence p q) = refl
kind_plain (Alternative p q) = refl
kind_plain (Star false p) = refl
kind_plain (Star true p) = refl

needs-plain : (k : Node) → Placed k → all_plain (needs_of k) ≡ true
needs-plain (LeafNode Nothing) h = refl
needs-plain (LeafNode (Letter c)) h = rw (letter_plain c h.0)
needs-plain (LeafNode (Range a b)) h =
    let l = and_fst (is_letter a && is_letter b) (leb a b) h.0 in
    rw (letter_plain a (and_fst (is_letter a) (is_letter b) l), letter_plain b (and_snd (is_letter a) (is_letter b) l))
needs-plain (Sequence p q) h = rw (decimal-plain p (omega (arith, h.1.0)), decimal-plain q (omega (arith, h.1.1)))
needs-plain (Alternative p q) h = rw (decimal-plain p (omega (arith, h.1.0)), decimal-plain q (omega (arith, h.1.1)))
needs-plain (Star again p) h = rw (decimal-plain p (omega (arith, h.1)))

-- line i, of good form and with parts that are places
pub record GoodLine (i : ℕ) (x : Line) : Type 0 where
  pub few : i < 64
  pub formed : line_good x ≡ true
  pub below : Below 64 x.node

module _ (i : ℕ) (x : Line) (g : GoodLine i x) where
  account_low : x.account ≤ account_limit
  unfolding line_good
  account_low = leb-true x.account account_limit (and_fst (leb x.account account_limit) (node_good x.node) g.formed)

  placed : Placed x.node
  unfolding line_good
  placed = (and_snd (leb x.account account_limit) (node_good x.node) g.formed, g.below)

  fields-plain : all_plain (fields_of i x) ≡ true
  fields-plain =
      rw (decimal-plain i (omega (arith, g.few)), kind_plain x.node, account-plain x.account account_low) (needs-plain x.node placed)

  line-back : row_line i (row_of (fields_of i x)) ≡ Some x
  unfolding row_line line_of single
  line-back =
      rw (
        place-back i g.few,
        eq-eqb i i refl,
        account-back x.account account_low,
        node-back x.node placed,
        le-leb x.account account_limit account_low,
      )

-- ── the lines of a text ──
abbrev GoodLines : (i : ℕ) → List Line → Type 0
GoodLines i [] = Unit {0}
GoodLines i (x ∷ xs) = GoodLine i x × GoodLines (suc i) xs

forms-back : (xs : List Line) (i : ℕ) → GoodLines i xs → forms i (rows (text_from i xs)) ≡ good xs
unfolding forms rows
forms-back [] i g = refl
forms-back (x ∷ xs) i g =
    ap (forms i) (joined-rows (decimal i) ((kind_of x.node ∷ []) ∷ account_field x.account ∷ needs_of x.node) (text_from (suc i) xs)
    (fields-plain i x g.0))
    ∙ rw (lt-ltb i 64 g.0.few, line-back i x g.0, forms-back xs (suc i) g.1)

good-lines : (xs : List Line) (i : ℕ) → ((j : ℕ) → j < length xs → GoodLine (i + j) (get_or xs j blank)) → GoodLines i xs
good-lines [] i h = tt
good-lines (x ∷ xs) i h = (
  subst (λ k. GoodLine k x) (add_zero i) (h 0 (omega arith)),
  good-lines xs (suc i) (λ j l. subst (λ k. GoodLine k (get_or xs j blank)) (next i j) (h (suc j) (omega arith))),
)
  where
    add_zero : (i : ℕ) → i + 0 ≡ i
    add_zero i = omega arith

    next : (i j : ℕ) → i + suc j ≡ suc i + j
    next i j = omega arith

below_more : (i : ℕ) (k : Node) → i ≤ 64 → Below i k → Below 64 k
below_more i (LeafNode x) l h = tt
below_more i (Sequence p q) l h = (omega (arith, h.0), omega (arith, h.1))
below_more i (Alternative p q) l h = (omega (arith, h.0), omega (arith, h.1))
below_more i (Star again p) l h = omega arith

-- ── loading ──
no_fault : (p : Pattern) → obeys p ≡ true → tree_fault p ≡ None
unfolding obeys
no_fault p h =
    go (tree_fault p)
    (and_snd (is_none (lowest (badly_formed p) 0 p.count)) (is_none (tree_fault p))
    (and_snd (leb 1 p.count && leb p.count 64) (is_none (lowest (badly_formed p) 0 p.count) && is_none (tree_fault p)) h))
  where
    go : (o : Option ℕ) → is_none o ≡ true → o ≡ None
    go None e = refl
    go (Some l) e = absurd (false≢true e)

module _ (xs : List Line) (h : obeys (table xs) ≡ true) where
  rules : Rules (table xs)
  rules = (obeys_iff (table xs)).0 h

  forms_are : forms 0 (rows (text_of xs)) ≡ good xs
  unfolding text_of
  forms_are = forms-back xs 0 (good-lines xs 0 each)
    where
      each : (j : ℕ) → j < length xs → GoodLine (0 + j) (get_or xs j blank)
      each j l =
          let c = table_count xs in
          let e = table-line xs j l in
          let r = rules in
          let k : j < (table xs).count = omega (arith, c) in
          record {
            few = omega (arith, c, r.few);
            formed = subst (λ x. line_good x ≡ true) e (r.formed j k);
            below = subst (λ x. Below 64 x.node) e (below_more j (line_at (table xs) j).node (omega (arith, c, r.few)) (r.lower j k));
          }

  pub text_loads : load_answer (text_of xs) ≡ answer 0 (length xs)
  text_loads = load_answer_is (text_of xs) ∙ ap forms_answer forms_are ∙ go xs rules (no_fault (table xs) h)
    where
      go : (ys : List Line) → Rules (table ys) → tree_fault (table ys) ≡ None → forms_answer (good ys) ≡ answer 0 (length ys)
      go [] r e = absurd (omega (arith, r.one, table_count []))
      go (y ∷ ys) r e = ap (tree_answer (table (y ∷ ys))) e ∙ ap (answer 0) (table_count (y ∷ ys))

  pub text_table : load_table (text_of xs) ≡ table xs
  text_table = load_table_is (text_of xs) ∙ ap forms_table forms_are ∙ go xs rules (no_fault (table xs) h)
    where
      go : (ys : List Line) → Rules (table ys) → tree_fault (table ys) ≡ None → forms_table (good ys) ≡ table ys
      go [] r e = absurd (omega (arith, r.one, table_count []))
      go (y ∷ ys) r e = ap (tree_table (table (y ∷ ys))) e
