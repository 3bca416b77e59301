-- What single steps of reading a line come to: what a kind and its fields say in each case, what a field that is read, or that is not there, leaves to
-- scan or decides, and what each way of reading a line answers. No answer needs these laws, since Options take the steps; they say what each of the
-- definitions does in each of its cases.
use Rattle.std.specs.Prelude.{◌≡◌, refl, Bool, true, false, ◌&&◌, cond, List, [], ◌∷◌, ℕ, suc, ◌+◌, ◌≤◌, ◌<◌, eqb, ltb, length, get_or, drop, take, Option, None, Some, unwrap_or}
use Rattle.std.proofs.Common.{sym, ap, subst, ◌∙◌, arith, length-drop}
use Rattle.std.proofs.lemmas.List.Quantifiers.{position-Some}
use borrow.Author.Tests.{eq-eqb, ne_eqb, lt-ltb, le-ltb, le-leb, lt-leb}
use Rattle.syntax.specs.declared.Leaf.TheVariants.{Letter, Range}
use Rattle.syntax.specs.declared.Node.{Node}
use Rattle.syntax.specs.declared.Node.TheVariants.{Leaf as LeafNode, Sequence, Alternative, Star}
use Rattle.syntax.specs.declared.Line.{Line}
use Rattle.syntax.specs.Letter.{is_letter}
use Rattle.syntax.specs.LetterLaws.{letter_small}
use Rattle.syntax.specs.Table.{account_limit}
use Rattle.fields.specs.Text.{place, single, no_account, account, when, star_of, node_of_none, node_of_one, range_of, parts_of, node_of_two, node_of, with_account, line_of}
use Rattle.fields.specs.Fields.{stops, below, below_none, below_some, FieldAt, field_size, field_found}
use Rattle.scanning.specs.Scans.{first_fields, first_closed, first_size, scan_of, scan_by, behind, scanned, parts_say, account_says}
use Rattle.scanning.specs.Cuts.{some-field}
use Rattle.scanning.specs.Scanning.{Says, NoLong, scan_none, scan_no_field, scan_field, behind_nothing, account_no_big, account_no_long, parts_no_long, parts_no_second, parts_no_more, line_no_place, line_alone, line_no_long, line_short, line_no_kind, line-account}

-- ── a kind and its fields ──
pub big_no_letter : (c : ℕ) → 255 < c → is_letter c ≡ false
big_no_letter c h = go (is_letter c) refl
  where
    go : (b : Bool) → is_letter c ≡ b → b ≡ false
    go true e = absurd (omega (arith, letter_small c e))
    go false e = refl

-- a star of either kind
module _ (again : Bool) (x : List ℕ) (p : ℕ) (e : p ≡ place x) where
  pub star_good : p < 64 → Some (Star again p) ≡ star_of again (place x)
  star_good l = rw (← e, lt-ltb p 64 l)

  pub star_bad : 64 ≤ p → None ≡ star_of again (place x)
  star_bad l = rw (← e, le-ltb p 64 l)

module _ (k : ℕ) (x : List ℕ) where
  module _ (c : ℕ) (h : k ≡ 76) (e : c ≡ single x) where
    pub one_letter : is_letter c ≡ true → Some (LeafNode (Letter c)) ≡ node_of_one k x
    unfolding node_of_one
    one_letter l = rw (eq-eqb k 76 h, ← e, l)

    pub one_no_letter : is_letter c ≡ false → None ≡ node_of_one k x
    unfolding node_of_one
    one_no_letter l = rw (eq-eqb k 76 h, ← e, l)

  module _ (n : k ≡ 76 → ⊥) where
    pub one_star : k ≡ 75 → star_of false (place x) ≡ node_of_one k x
    unfolding node_of_one
    one_star h = rw (ne_eqb k 76 n, eq-eqb k 75 h)

    module _ (m : k ≡ 75 → ⊥) where
      pub one_lazy : k ≡ 90 → star_of true (place x) ≡ node_of_one k x
      unfolding node_of_one
      one_lazy h = rw (ne_eqb k 76 n, ne_eqb k 75 m, eq-eqb k 90 h)

      pub one_other : (k ≡ 90 → ⊥) → None ≡ node_of_one k x
      unfolding node_of_one
      one_other l = rw (ne_eqb k 76 n, ne_eqb k 75 m, ne_eqb k 90 l)

module _ (a b : ℕ) where
  pub range_no_low : is_letter a ≡ false → None ≡ range_of a b
  unfolding range_of
  range_no_low h = rw h

  module _ (ha : is_letter a ≡ true) where
    pub range_no_high : is_letter b ≡ false → None ≡ range_of a b
    unfolding range_of
    range_no_high h = rw (ha, h)

    module _ (hb : is_letter b ≡ true) where
      pub range_good : a ≤ b → Some (LeafNode (Range a b)) ≡ range_of a b
      unfolding range_of
      range_good l = rw (ha, hb, le-leb a b l)

      pub range_reversed : b < a → None ≡ range_of a b
      unfolding range_of
      range_reversed l = rw (ha, hb, lt-leb a b l)

neither : (b c : Bool) → ◌≡◌ {A = Option Node} (cond b None (cond c None None)) None
neither true c = refl
neither false true = refl
neither false false = refl

parts_no_second_place : (f : ℕ → ℕ → Node) (p q : ℕ) → 64 ≤ q → parts_of f p q ≡ None
unfolding parts_of
parts_no_second_place f p q l = rw (le-ltb q 64 l) (go (ltb p 64))
  where
    go : (b : Bool) → when (b && false) (f p q) ≡ None
    go true = refl
    go false = refl

parts_no_first : (f : ℕ → ℕ → Node) (p q : ℕ) → 64 ≤ p → parts_of f p q ≡ None
unfolding parts_of
parts_no_first f p q l = rw (le-ltb p 64 l)

parts-good : (f : ℕ → ℕ → Node) (p q : ℕ) → p < 64 → q < 64 → parts_of f p q ≡ Some (f p q)
unfolding parts_of
parts-good f p q l m = rw (lt-ltb p 64 l, lt-ltb q 64 m)

module _ (k : ℕ) (x y : List ℕ) where
  pub two_range : k ≡ 82 → range_of (single x) (single y) ≡ node_of_two k x y
  unfolding node_of_two
  two_range h = rw (eq-eqb k 82 h)

  module _ (n : k ≡ 82 → ⊥) where
    two_none : parts_of Sequence (place x) (place y) ≡ None → parts_of Alternative (place x) (place y) ≡ None → None ≡ node_of_two k x y
    unfolding node_of_two
    two_none e f = rw (ne_eqb k 82 n, e, f) (sym (neither (eqb k 83) (eqb k 65)))

    pub two_no_first : (p : ℕ) → p ≡ place x → 64 ≤ p → None ≡ node_of_two k x y
    two_no_first p e h =
        let l : 64 ≤ place x = omega arith in
        two_none (parts_no_first Sequence (place x) (place y) l) (parts_no_first Alternative (place x) (place y) l)

    pub two_no_second : (q : ℕ) → q ≡ place y → 64 ≤ q → None ≡ node_of_two k x y
    two_no_second q e h =
        let l : 64 ≤ place y = omega arith in
        two_none (parts_no_second_place Sequence (place x) (place y) l) (parts_no_second_place Alternative (place x) (place y) l)

    module _ (p q : ℕ) (ep : p ≡ place x) (eq : q ≡ place y) (lp : p < 64) (lq : q < 64) where
      pub two_sequence : k ≡ 83 → Some (Sequence p q) ≡ node_of_two k x y
      unfolding node_of_two
      two_sequence h = rw (ne_eqb k 82 n, eq-eqb k 83 h, ← ep, ← eq, parts-good Sequence p q lp lq)

      pub two_alternative : (k ≡ 83 → ⊥) → k ≡ 65 → Some (Alternative p q) ≡ node_of_two k x y
      unfolding node_of_two
      two_alternative m h = rw (ne_eqb k 82 n, ne_eqb k 83 m, eq-eqb k 65 h, ← ep, ← eq, parts-good Alternative p q lp lq)

    pub two_other : (k ≡ 83 → ⊥) → (k ≡ 65 → ⊥) → None ≡ node_of_two k x y
    unfolding node_of_two
    two_other m h = rw (ne_eqb k 82 n, ne_eqb k 83 m, ne_eqb k 65 h)

-- ── a field that is read ──
-- what reading a field at a position of s tells, where no byte past the k-th is looked at: it is x, with the position behind what ends it, t telling
-- whether that is a newline; or nothing ends it there, and t is None
pub data ReadsTo (k : ℕ) (s : List ℕ) (at : ℕ) (x : List ℕ) (next : ℕ) (t : Option Bool) : Type 0 where
  cut : (last : Bool) → t ≡ Some last → FieldAt s at x last next → ReadsTo k s at x next t
  long : t ≡ None → field_size k (drop at s) ≡ None → ReadsTo k s at x next t

-- a field that is no account
abbrev pub Reads : (s : List ℕ) → (at : ℕ) → (x : List ℕ) → (next : ℕ) → (t : Option Bool) → Type 0
Reads s at x next t = ReadsTo 3 s at x next t

-- an account's field: its bytes, and the account that they write, if it is one
pub record ReadsAccount (s : List ℕ) (at : ℕ) (a : Option ℕ) (next : ℕ) (t : Option Bool) : Type 0 where
  pub bytes : List ℕ
  pub says : a ≡ below no_account (account bytes)
  pub read : ReadsTo 4 s at bytes next t

-- the bytes before the size that is found, the position behind the byte there, and whether that byte is a newline
abbrev pub read_bytes : (s : List ℕ) → (at : ℕ) → (size : Option ℕ) → List ℕ
read_bytes s at o = take (unwrap_or o 0) (drop at s)

abbrev pub read_next : (at : ℕ) → (size : Option ℕ) → ℕ
read_next at o = at + unwrap_or o 0 + 1

abbrev pub read_stop : (s : List ℕ) → (at : ℕ) → (size : Option ℕ) → Option Bool
read_stop s at None = None
read_stop s at (Some n) = Some (eqb (get_or (drop at s) n 0) 10)

reads_to : (k : ℕ) (s : List ℕ) (at : ℕ) (o : Option ℕ) → o ≡ field_size k (drop at s)
    → ReadsTo k s at (read_bytes s at o) (read_next at o) (read_stop s at o)
reads_to k s at None e = long refl (sym e)
reads_to k s at (Some n) e = cut (eqb (get_or (drop at s) n 0) 10) refl (field_found s at k n (sym e))

-- the field at a position
pub reads_at : (s : List ℕ) (at : ℕ) (o : Option ℕ) → o ≡ field_size 3 (drop at s)
    → Reads s at (read_bytes s at o) (read_next at o) (read_stop s at o)
reads_at s at o e = reads_to 3 s at o e

-- the account at a position
pub reads-account_at : (s : List ℕ) (at : ℕ) (o : Option ℕ) → o ≡ field_size 4 (drop at s)
    → ReadsAccount s at (below no_account (account (read_bytes s at o))) (read_next at o) (read_stop s at o)
reads-account_at s at o e = record { bytes = read_bytes s at o; says = refl; read = reads_to 4 s at o e }

module _ {k : ℕ} {s : List ℕ} {at : ℕ} {x : List ℕ} {next : ℕ} {t : Option Bool} (r : ReadsTo k s at x next t) where
  found : (last : Bool) → t ≡ Some last → FieldAt s at x last next
  found last h = go r
    where
      go : ReadsTo k s at x next t → FieldAt s at x last next
      go (cut l e f) = let q : l ≡ last = cc in subst (λ b. FieldAt s at x b next) q f
      go (long e z) = absurd (cc)

  -- a field that is there lies inside the text, with what ends it
  pub room : {last : Bool} → t ≡ Some last → at + length x < length s
  room {last = last} h = omega (arith, (position-Some stops (drop at s) (length x) 0 (found last h).size).0, length-drop at s)

-- two ways to say the same of what fields say
pub scan_same : {A : Type 0} (f g : Says A) (at : ℕ) (w : List ℕ) → ((fs : List (List ℕ)) → f fs ≡ g fs) → scan_by f at w ≡ scan_by g at w
unfolding scan_by
scan_same f g at w h = ap (λ o. cond (first_closed w) (scan_of o (at + suc (first_size w))) None) (h (first_fields w))

module _ {A : Type 0} (says : Says A) {k : ℕ} {s : List ℕ} {at : ℕ} {x : List ℕ} {next : ℕ} {t : Option Bool} (r : ReadsTo k s at x next t) where
  -- a field that byte 10 ends is the line's last
  pub scan_newline : t ≡ Some true → scan_of (says (x ∷ [])) next ≡ scan_by says at (drop at s)
  unfolding behind
  scan_newline h = sym (scan_field says s at (found r true h))

  -- after a field that a tab ends the line goes on
  pub scan_tab : t ≡ Some false → scan_by (λ fs. says (x ∷ fs)) next (drop next s) ≡ scan_by says at (drop at s)
  unfolding behind
  scan_tab h = sym (scan_field says s at (found r false h))

  pub fault_not_tab : (t ≡ Some false → ⊥) → ((y : List ℕ) → says (y ∷ []) ≡ None) → NoLong k says → None ≡ scan_by says at (drop at s)
  fault_not_tab h last nl = go r
    where
      go : ReadsTo k s at x next t → None ≡ scan_by says at (drop at s)
      go (cut true e f) = sym (ap (λ o. scan_of o next) (last x)) ∙ scan_newline e
      go (cut false e f) = absurd (h e)
      go (long e z) = sym (scan_no_field says s k at z nl)

  pub fault_not_newline : (t ≡ Some true → ⊥) → ((y z : List ℕ) (more : List (List ℕ)) → says (y ∷ z ∷ more) ≡ None) → NoLong k says
      → None ≡ scan_by says at (drop at s)
  fault_not_newline h on nl = go r
    where
      go : ReadsTo k s at x next t → None ≡ scan_by says at (drop at s)
      go (cut true e f) = absurd (h e)
      go (cut false e f) =
          let y = some-field (drop next s) in
          sym (scan_none (λ fs. says (x ∷ fs)) next (drop next s) (ap (λ fs. says (x ∷ fs)) y.is ∙ on x y.front y.more)) ∙ scan_tab e
      go (long e z) = sym (scan_no_field says s k at z nl)

  pub fault_neither : (t ≡ Some false → ⊥) → (t ≡ Some true → ⊥) → NoLong k says → None ≡ scan_by says at (drop at s)
  fault_neither h m nl = go r
    where
      go : ReadsTo k s at x next t → None ≡ scan_by says at (drop at s)
      go (cut true e f) = absurd (m e)
      go (cut false e f) = absurd (h e)
      go (long e z) = sym (scan_no_field says s k at z nl)

  -- the field itself decides against the line, whatever follows
  pub fault_field : ((fs : List (List ℕ)) → says (x ∷ fs) ≡ None) → NoLong k says → None ≡ scan_by says at (drop at s)
  fault_field h nl = go r
    where
      go : ReadsTo k s at x next t → None ≡ scan_by says at (drop at s)
      go (cut last e f) = sym (scan_field says s at f ∙ behind_nothing (λ fs. says (x ∷ fs)) s last next h)
      go (long e z) = sym (scan_no_field says s k at z nl)

-- ── what is left to scan ──
-- the line of a node, its account and the position behind it
abbrev pub finished : ℕ → Option Node → ℕ → Option (Line × ℕ)
finished a None next = None
finished a (Some n) next = Some (record { account = a; node = n }, next)

abbrev pub parts_scanned : (account kind at : ℕ) → List ℕ → Option (Line × ℕ)
parts_scanned a k at w = scan_by (parts_say a k) at w

abbrev pub account_scanned : (kind at : ℕ) → List ℕ → Option (Line × ℕ)
account_scanned k at w = scan_by (account_says k) at w

pub finish_law : (a n : ℕ) (o : Option Node) → a ≤ account_limit → finished a o n ≡ scan_of (with_account a o) n
finish_law a n None h = refl
finish_law a n (Some x) h = rw (le-leb a account_limit h)

-- ── one law for each way to read a line ──
-- its account's field
module _ (s : List ℕ) (at : ℕ) {a : Option ℕ} {next : ℕ} {t : Option Bool} (r : ReadsAccount s at a next t) (k : ℕ) where
  pub account_big : a ≡ None → None ≡ account_scanned k at (drop at s)
  account_big h =
      fault_field (account_says k) r.read
      (account_no_big k r.bytes (omega (arith, below_none no_account (account r.bytes) (sym r.says ∙ h)))) (account_no_long k)

  module _ {b : ℕ} (h : a ≡ Some b) where
    number : (account r.bytes ≡ b) × (account r.bytes < no_account)
    number = below_some no_account (account r.bytes) b (sym r.says ∙ h)

    pub account-last : t ≡ Some true → finished b (node_of_none k) next ≡ account_scanned k at (drop at s)
    unfolding account_says parts_say node_of
    account-last e =
        finish_law b next (node_of_none k) (omega (arith, number.0, number.1))
        ∙ ap (λ c. scan_of (with_account c (node_of_none k)) next) (sym number.0)
        ∙ scan_newline (account_says k) r.read e

    pub account_on : t ≡ Some false → parts_scanned b k next (drop next s) ≡ account_scanned k at (drop at s)
    unfolding account_says
    account_on e = ap (λ c. parts_scanned c k next (drop next s)) (sym number.0) ∙ scan_tab (account_says k) r.read e

  pub account_neither : (t ≡ Some false → ⊥) → (t ≡ Some true → ⊥) → None ≡ account_scanned k at (drop at s)
  account_neither h m = fault_neither (account_says k) r.read h m (account_no_long k)

-- its other fields: x, and y behind it
module _ (s : List ℕ) (at : ℕ) {x : List ℕ} {next : ℕ} {t : Option Bool} (r : Reads s at x next t) where
  module _ (a k : ℕ) where
    pub parts_one : a ≤ account_limit → t ≡ Some true → finished a (node_of_one k x) next ≡ parts_scanned a k at (drop at s)
    unfolding parts_say node_of
    parts_one l h = finish_law a next (node_of_one k x) l ∙ scan_newline (parts_say a k) r h

    pub parts_neither : (t ≡ Some false → ⊥) → (t ≡ Some true → ⊥) → None ≡ parts_scanned a k at (drop at s)
    parts_neither h n = fault_neither (parts_say a k) r h n (parts_no_long a k)

    module _ (e : t ≡ Some false) {y : List ℕ} {end : ℕ} {u : Option Bool} (q : Reads s next y end u) where
      pub parts_no_end : (u ≡ Some true → ⊥) → None ≡ parts_scanned a k at (drop at s)
      parts_no_end h =
          fault_not_newline (λ fs. parts_say a k (x ∷ fs)) q h (λ f g more. parts_no_more a k x f g more) (parts_no_second a k x)
          ∙ scan_tab (parts_say a k) r e

      pub parts_two : a ≤ account_limit → u ≡ Some true → finished a (node_of_two k x y) end ≡ parts_scanned a k at (drop at s)
      unfolding parts_say node_of
      parts_two l h =
          finish_law a end (node_of_two k x y) l ∙ scan_newline (λ fs. parts_say a k (x ∷ fs)) q h ∙ scan_tab (parts_say a k) r e

  module _ (i : ℕ) (l : i < 64) where
    pub line_no_tab : (t ≡ Some false → ⊥) → None ≡ scanned i at (drop at s)
    line_no_tab h = fault_not_tab (line_of i) r h (line_alone i) (line_no_long i l)

    pub line_misplaced : (place x ≡ i → ⊥) → None ≡ scanned i at (drop at s)
    line_misplaced h = fault_field (line_of i) r (line_no_place i x h) (line_no_long i l)

    module _ (e : t ≡ Some false) {y : List ℕ} {end : ℕ} {u : Option Bool} (q : Reads s next y end u) where
      pub line-no_account : (u ≡ Some false → ⊥) → None ≡ scanned i at (drop at s)
      line-no_account h = fault_not_tab (λ fs. line_of i (x ∷ fs)) q h (line_short i x) (line_no_kind i x) ∙ scan_tab (line_of i) r e

      pub line_on : place x ≡ i → u ≡ Some false → account_scanned (single y) end (drop end s) ≡ scanned i at (drop at s)
      line_on p h =
          scan_same (account_says (single y)) (λ fs. line_of i (x ∷ y ∷ fs)) end (drop end s) (line-account i x y p)
          ∙ scan_tab (λ fs. line_of i (x ∷ fs)) q h ∙ scan_tab (line_of i) r e
