-- Laws of scanning: a field that was read, and what it leaves to scan or decides.
use Rattle.std.specs.Prelude.{◌≡◌, refl, Bool, true, false, ◌&&◌, cond, List, [], ◌∷◌, ℕ, suc, ◌+◌, ◌≤◌, ◌<◌, ◌⊎◌, eqb, ltb, length, get_or, drop, Option, None, Some}
use Rattle.std.proofs.Common.{sym, ap, ap₂, ◌∙◌, inl, inr, arith, eq-eqb, ne_eqb, le-leb}
use Rattle.std.proofs.lemmas.Bool.{lt-leb}
use Rattle.std.proofs.Math.Seq.{drop-drop}
use Rattle.syntax.specs.declared.Node.{Node}
use Rattle.syntax.specs.declared.Line.{Line}
use Rattle.syntax.specs.Letter.{is_letter}
use Rattle.syntax.specs.Table.{account_limit}
use Rattle.fields.specs.Text.{place, single, no_account, account, when, node_of_none, node_of_one, range_of, parts_of, node_of_two, node_of, with_account, line_of}
use Rattle.fields.specs.Fields.{below, FieldAt, field_size, one_byte, below_none, below_some, single_none, single_some}
use Rattle.fields.specs.AccountLaws.{account_long}
use Rattle.scanning.specs.Scans.{first_fields, first_closed, first_size, scan_of, scan_by, behind, scanned, parts_say, account_says}
use Rattle.scanning.specs.Cuts.{Cut, tab, newline, NoCut, unclosed, long, cut, no_cut, some-field}

abbrev pub Says : Type 0 → Type 0
Says A = List (List ℕ) → Option A

-- a field of k bytes or more decides against the line: 4 for an account, 3 for any other field
abbrev pub NoLong : {A : Type 0} → (k : ℕ) → Says A → Type 0
NoLong k says = (y : List ℕ) (more : List (List ℕ)) → k ≤ length y → says (y ∷ more) ≡ None

module _ {A : Type 0} (says : Says A) (at : ℕ) (w : List ℕ) where
  pub scan_unclosed : first_closed w ≡ false → scan_by says at w ≡ None
  unfolding scan_by
  scan_unclosed h = rw h

  pub scan_none : says (first_fields w) ≡ None → scan_by says at w ≡ None
  unfolding scan_by
  scan_none h = go (first_closed w)
    where
      go : (b : Bool) → cond b (scan_of (says (first_fields w)) (at + suc (first_size w))) None ≡ None
      go true = rw h
      go false = refl

module _ {A : Type 0} (says : Says A) (s : List ℕ) where
  -- no field of fewer than k bytes is there
  pub scan_no_field : (k at : ℕ) → field_size k (drop at s) ≡ None → NoLong k says → scan_by says at (drop at s) ≡ None
  scan_no_field k at e nl = go (no_cut k (drop at s) e)
    where
      go : NoCut k (drop at s) → scan_by says at (drop at s) ≡ None
      go (unclosed c) = scan_unclosed says at (drop at s) c
      go (long y more l i) = scan_none says at (drop at s) (ap says i ∙ nl y more l)

  -- a field, and what stands behind it
  pub scan_field : (at : ℕ) {x : List ℕ} {last : Bool} {next : ℕ} → FieldAt s at x last next
      → scan_by says at (drop at s) ≡ behind (λ fs. says (x ∷ fs)) s last next
  unfolding scan_by behind
  scan_field at {x = x} {last = last} {next = next} f = go (cut (drop at s) (length x) f.size)
    where
      go : Cut (drop at s) (length x)
          → cond (first_closed (drop at s)) (scan_of (says (first_fields (drop at s))) (at + suc (first_size (drop at s)))) None
          ≡ cond last (scan_of (says (x ∷ [])) next)
          (cond (first_closed (drop next s)) (scan_of (says (x ∷ first_fields (drop next s))) (next + suc (first_size (drop next s)))) None)
      go (newline e i c z) =
          let t : last ≡ true = f.ends ∙ eq-eqb (get_or (drop at s) (length x) 0) 10 e in
          let b : first_fields (drop at s) ≡ x ∷ [] = i ∙ ap (λ y. y ∷ []) (sym f.bytes) in
          let q : at + suc (first_size (drop at s)) ≡ next = omega (arith, f.behind) in
          rw (c, b, q, t)
      go (tab e i c z) =
          let t : last ≡ false = f.ends ∙ ne_eqb (get_or (drop at s) (length x) 0) 10 (λ k. omega arith) in
          let m : at + suc (length x) ≡ next = omega (arith, f.behind) in
          let d : drop (suc (length x)) (drop at s) ≡ drop next s = drop-drop (suc (length x)) at s ∙ ap (λ j. drop j s) m in
          let z' : first_size (drop at s) ≡ suc (length x) + first_size (drop next s) = z ∙ ap (λ w. suc (length x) + first_size w) d in
          let q : at + suc (first_size (drop at s)) ≡ next + suc (first_size (drop next s)) = omega (arith, f.behind) in
          let b : first_fields (drop at s) ≡ x ∷ first_fields (drop next s) = i ∙ ap (λ y. y ∷ first_fields (drop (suc (length x)) (drop at s))) (sym f.bytes) ∙ ap (λ w. x ∷ first_fields w) d in
          rw (c ∙ ap first_closed d, b, q, t)

  module _ (last : Bool) (next : ℕ) where
    pub behind_none : (k : ℕ) → (last ≡ true) ⊎ (field_size k (drop next s) ≡ None) → says [] ≡ None → NoLong k says → behind says s last next ≡ None
    unfolding behind
    behind_none k (inl t) e nl = rw (t, e)
    behind_none k (inr h) e nl = go last
      where
        go : (b : Bool) → cond b (scan_of (says []) next) (scan_by says next (drop next s)) ≡ None
        go true = rw e
        go false = scan_no_field k next h nl

    pub behind_nothing : ((fs : List (List ℕ)) → says fs ≡ None) → behind says s last next ≡ None
    unfolding behind
    behind_nothing h = go last
      where
        go : (b : Bool) → cond b (scan_of (says []) next) (scan_by says next (drop next s)) ≡ None
        go true = rw (h [])
        go false = scan_none says next (drop next s) (h (first_fields (drop next s)))

    pub behind_field : last ≡ false → {x : List ℕ} {l : Bool} {n : ℕ} → FieldAt s next x l n → behind says s last next ≡ behind (λ fs. says (x ∷ fs)) s l n
    unfolding behind
    behind_field e f = rw e (scan_field next f)

behind_same : {A : Type 0} (f g : Says A) (s : List ℕ) (last : Bool) (next : ℕ) → ((fs : List (List ℕ)) → f fs ≡ g fs)
    → behind f s last next ≡ behind g s last next
unfolding behind scan_by
behind_same f g s last next h =
    ap₂ (λ o p. cond last (scan_of o next) (cond (first_closed (drop next s)) (scan_of p (next + suc (first_size (drop next s)))) None))
    (h []) (h (first_fields (drop next s)))

-- ── what the fields say ──
-- what is above the limit is no account
pub big_account : (a : ℕ) (o : Option Node) → account_limit < a → with_account a o ≡ None
big_account a None h = refl
big_account a (Some n) h = rw (lt-leb a account_limit h)

-- a choice among nothings is nothing
nothing_left : {A : Type 0} (p q r : Bool) (x y z : Option A) → x ≡ None → y ≡ None → z ≡ None → cond p x (cond q y (cond r z None)) ≡ None
nothing_left true q r x y z ex ey ez = ex
nothing_left false true r x y z ex ey ez = ey
nothing_left false false true x y z ex ey ez = ez
nothing_left false false false x y z ex ey ez = refl

when_no : {A : Type 0} (b c : Bool) (x : A) → when ((b && false) && c) x ≡ None
when_no true c x = refl
when_no false c x = refl

-- a field of three bytes or more is no place, no letter and no kind
place_long : (y : List ℕ) → 3 ≤ length y → place y ≡ 64
unfolding place
place_long [] h = absurd (omega arith)
place_long (a ∷ []) h = absurd (omega arith)
place_long (a ∷ b ∷ []) h = absurd (omega arith)
place_long (a ∷ b ∷ c ∷ x) h = refl

single_long : (y : List ℕ) → 3 ≤ length y → single y ≡ 0
unfolding single
single_long [] h = absurd (omega arith)
single_long (a ∷ []) h = absurd (omega arith)
single_long (a ∷ b ∷ x) h = refl

one_long : (k : ℕ) (y : List ℕ) → 3 ≤ length y → node_of_one k y ≡ None
unfolding node_of_one is_letter
one_long k y h = rw (single_long y h, place_long y h) (nothing_left (eqb k 76) (eqb k 75) (eqb k 90) None None None refl refl refl)

two_long : (k : ℕ) (y z : List ℕ) → 3 ≤ length y → node_of_two k y z ≡ None
unfolding node_of_two is_letter range_of parts_of
two_long k y z h = rw (single_long y h, place_long y h) (nothing_left (eqb k 82) (eqb k 83) (eqb k 65) None None None refl refl refl)

two_long' : (k : ℕ) (y z : List ℕ) → 3 ≤ length y → node_of_two k z y ≡ None
unfolding node_of_two is_letter range_of parts_of
two_long' k y z h =
    rw (single_long y h, place_long y h)
    (nothing_left (eqb k 82) (eqb k 83) (eqb k 65) _ _ _ (when_no (is_letter (single z)) _ _) (no_place (ltb (place z) 64) _) (no_place (ltb (place z) 64) _))
  where
    no_place : {A : Type 0} (b : Bool) (x : A) → when (b && false) x ≡ None
    no_place true x = refl
    no_place false x = refl

pub node_no_long : (k : ℕ) → NoLong 3 (node_of k)
unfolding node_of
node_no_long k y [] h = one_long k y h
node_no_long k y (f ∷ []) h = two_long k y f h
node_no_long k y (f ∷ g ∷ more) h = refl

pub node_no_second : (k : ℕ) (x : List ℕ) → NoLong 3 (λ fs. node_of k (x ∷ fs))
unfolding node_of
node_no_second k x y [] h = two_long' k y x h
node_no_second k x y (g ∷ more) h = refl

pub parts_no_long : (a k : ℕ) → NoLong 3 (parts_say a k)
unfolding parts_say
parts_no_long a k y more h = ap (with_account a) (node_no_long k y more h)

pub parts_no_second : (a k : ℕ) (x : List ℕ) → NoLong 3 (λ fs. parts_say a k (x ∷ fs))
unfolding parts_say
parts_no_second a k x y more h = ap (with_account a) (node_no_second k x y more h)

pub parts_no_more : (a k : ℕ) (x y z : List ℕ) (more : List (List ℕ)) → parts_say a k (x ∷ y ∷ z ∷ more) ≡ None
unfolding parts_say node_of
parts_no_more a k x y z more = refl

pub account_no_big : (k : ℕ) (x : List ℕ) → account_limit < account x → (fs : List (List ℕ)) → account_says k (x ∷ fs) ≡ None
unfolding account_says parts_say
account_no_big k x h fs = big_account (account x) (node_of k fs) h

pub account_no_long : (k : ℕ) → NoLong 4 (account_says k)
account_no_long k y more h = account_no_big k y (omega (arith, account_long y h)) more

no_kind : (more : List (List ℕ)) → node_of 0 more ≡ None
unfolding node_of node_of_none node_of_one node_of_two
no_kind [] = refl
no_kind (x ∷ []) = refl
no_kind (x ∷ y ∷ []) = refl
no_kind (x ∷ y ∷ z ∷ more) = refl

module _ (i : ℕ) where
  -- a line whose own place is another
  pub line_no_place : (p : List ℕ) → (place p ≡ i → ⊥) → (fs : List (List ℕ)) → line_of i (p ∷ fs) ≡ None
  unfolding line_of
  line_no_place p h [] = refl
  line_no_place p h (k ∷ []) = refl
  line_no_place p h (k ∷ a ∷ more) = rw (ne_eqb (place p) i h)

  pub line_no_long : i < 64 → NoLong 3 (line_of i)
  line_no_long l y more h = line_no_place y (λ e. omega (arith, place_long y h)) more

  pub line_no_kind : (p : List ℕ) → NoLong 3 (λ fs. line_of i (p ∷ fs))
  unfolding line_of
  line_no_kind p y [] h = refl
  line_no_kind p y (f ∷ more) h = rw (single_long y h, no_kind more) (go (eqb (place p) i))
    where
      go : (b : Bool) → ◌≡◌ {A = Option Line} (cond b None None) None
      go true = refl
      go false = refl

  pub line_short : (p x : List ℕ) → line_of i (p ∷ x ∷ []) ≡ None
  unfolding line_of
  line_short p x = refl

  pub line_alone : (x : List ℕ) → line_of i (x ∷ []) ≡ None
  unfolding line_of
  line_alone x = refl

  -- after place and kind
  pub line-account : (p k : List ℕ) → place p ≡ i → (fs : List (List ℕ)) → account_says (single k) fs ≡ line_of i (p ∷ k ∷ fs)
  unfolding line_of account_says parts_say
  line-account p k h [] = refl
  line-account p k h (a ∷ more) = rw (eq-eqb (place p) i h)

-- ── one law for each way of the code ──
-- the node of the kind k, and its fields
module _ (s : List ℕ) (k : ℕ) (last : Bool) (next : ℕ) where
  pub node_alone : last ≡ true → behind (node_of k) s last next ≡ scan_of (node_of_none k) next
  unfolding behind node_of
  node_alone t = rw t

  module _ (t : last ≡ false) where
    pub node_no_field : field_size 3 (drop next s) ≡ None → behind (node_of k) s last next ≡ None
    unfolding behind
    node_no_field e = rw t (scan_no_field (node_of k) s 3 next e (node_no_long k))

    module _ {x : List ℕ} {l : Bool} {n : ℕ} (f : FieldAt s next x l n) where
      pub node_one : l ≡ true → {r : Option Node} → r ≡ node_of_one k x → scan_of r n ≡ behind (node_of k) s last next
      unfolding behind node_of
      node_one e h = sym (behind_field (node_of k) s last next t f ∙ rw (e, h))

      module _ (e : l ≡ false) where
        pub node_no_second_field : field_size 3 (drop n s) ≡ None → behind (node_of k) s last next ≡ None
        unfolding behind
        node_no_second_field h =
            behind_field (node_of k) s last next t f
            ∙ rw e (scan_no_field (λ fs. node_of k (x ∷ fs)) s 3 n h (node_no_second k x))

        module _ {y : List ℕ} {m : Bool} {j : ℕ} (g : FieldAt s n y m j) where
          two : behind (node_of k) s last next ≡ behind (λ fs. node_of k (x ∷ y ∷ fs)) s m j
          two = behind_field (node_of k) s last next t f ∙ behind_field (λ fs. node_of k (x ∷ fs)) s l n e g

          pub node_two : m ≡ true → {r : Option Node} → r ≡ node_of_two k x y → scan_of r j ≡ behind (node_of k) s last next
          unfolding behind node_of
          node_two h u = sym (two ∙ rw (h, u))

          pub node_more : m ≡ false → behind (node_of k) s last next ≡ None
          unfolding behind node_of
          node_more h =
              let f = some-field (drop j s) in
              two ∙ rw h (scan_none (λ fs. node_of k (x ∷ y ∷ fs)) j (drop j s) (ap (λ fs. node_of k (x ∷ y ∷ fs)) f.is))

-- what an account's number makes of a node
abbrev pub with_number : (account : ℕ) → Option (Node × ℕ) → Option (Line × ℕ)
with_number a None = None
with_number a (Some (node, next)) = scan_of (with_account a (Some node)) next

number_no : (a : ℕ) (o : Option (Node × ℕ)) → account_limit < a → with_number a o ≡ None
number_no a None h = refl
number_no a (Some (n, next)) h = rw (lt-leb a account_limit h)

with_account-scan : (a : ℕ) (o : Option Node) (next : ℕ) → scan_of (with_account a o) next ≡ with_number a (scan_of o next)
with_account-scan a None next = refl
with_account-scan a (Some n) next = refl

with_account_behind : (a : ℕ) (says : Says Node) (s : List ℕ) (last : Bool) (next : ℕ)
    → behind (λ fs. with_account a (says fs)) s last next ≡ with_number a (behind says s last next)
unfolding behind scan_by
with_account_behind a says s last next = go last
  where
    rest : (c : Bool) (o : Option Node) (n : ℕ) → cond c (scan_of (with_account a o) n) None ≡ with_number a (cond c (scan_of o n) None)
    rest true o n = with_account-scan a o n
    rest false o n = refl

    go : (b : Bool) → cond b (scan_of (with_account a (says [])) next)
        (cond (first_closed (drop next s)) (scan_of (with_account a (says (first_fields (drop next s)))) (next + suc (first_size (drop next s)))) None)
        ≡ with_number a (cond b (scan_of (says []) next)
        (cond (first_closed (drop next s)) (scan_of (says (first_fields (drop next s))) (next + suc (first_size (drop next s)))) None))
    go true = with_account-scan a (says []) next
    go false = rest (first_closed (drop next s)) (says (first_fields (drop next s))) (next + suc (first_size (drop next s)))

-- what is left of line i behind its account: a, the kind being k
pub record Numbered (s : List ℕ) (at i : ℕ) (k a : List ℕ) (last : Bool) (next : ℕ) : Type 0 where
  pub is : scanned i at (drop at s) ≡ with_number (account a) (behind (node_of (single k)) s last next)

-- the place that was read is the line's own
pub placed : (x : List ℕ) {p q i : ℕ} → Some p ≡ below 64 (place x) → q ≡ p → q ≡ i → place x ≡ i
placed x {p = p} e u v = (below_some 64 (place x) p (sym e)).0 ∙ sym u ∙ v

-- line i: its place, its kind, its account
module _ (s : List ℕ) (at i : ℕ) where
  pub line_no_field : i < 64 → None ≡ field_size 3 (drop at s) → None ≡ scanned i at (drop at s)
  line_no_field l e = sym (scan_no_field (line_of i) s 3 at (sym e) (line_no_long i l))

  module _ {p : List ℕ} {l : Bool} {n : ℕ} (f : FieldAt s at p l n) where
    pub line_misplaced : (place p ≡ i → ⊥) → None ≡ scanned i at (drop at s)
    line_misplaced h = sym (scan_field (line_of i) s at f ∙ behind_nothing (λ fs. line_of i (p ∷ fs)) s l n (line_no_place i p h))

    pub line_no_kind_field : (l ≡ true) ⊎ (field_size 3 (drop n s) ≡ None) → None ≡ scanned i at (drop at s)
    line_no_kind_field h = sym (scan_field (line_of i) s at f ∙ behind_none (λ fs. line_of i (p ∷ fs)) s l n 3 h (line_alone i p) (line_no_kind i p))

    module _ (h : place p ≡ i) {k : List ℕ} {m : Bool} {j : ℕ} (g : (l ≡ false) × FieldAt s n k m j) where
      second : scanned i at (drop at s) ≡ behind (account_says (single k)) s m j
      second =
          scan_field (line_of i) s at f ∙ behind_field (λ fs. line_of i (p ∷ fs)) s l n g.0 g.1
          ∙ behind_same (λ fs. line_of i (p ∷ k ∷ fs)) (account_says (single k)) s m j (λ fs. sym (line-account i p k h fs))

      pub line_no_account_field : (m ≡ true) ⊎ (field_size 4 (drop j s) ≡ None) → None ≡ scanned i at (drop at s)
      unfolding account_says
      line_no_account_field d = sym (second ∙ behind_none (account_says (single k)) s m j 4 d refl (account_no_long (single k)))

      pub line_numbered : {a : List ℕ} {q : Bool} {z : ℕ} → (m ≡ false) × FieldAt s j a q z → Numbered s at i k a q z
      unfolding account_says parts_say
      line_numbered {a = a} {q = q} {z = z} d = record {
        is =
            second ∙ behind_field (account_says (single k)) s m j d.0 d.1
            ∙ with_account_behind (account a) (node_of (single k)) s q z;
      }

-- its account, its kind and its node
module _ {s : List ℕ} {at i : ℕ} {k a : List ℕ} {last : Bool} {next : ℕ} (l : Numbered s at i k a last next) where
  pub line_no_account : None ≡ below no_account (account a) → None ≡ scanned i at (drop at s)
  line_no_account e =
      sym (l.is ∙ number_no (account a) (behind (node_of (single k)) s last next) (below_none no_account (account a) (sym e)))

  pub line_no_single : None ≡ one_byte k → None ≡ scanned i at (drop at s)
  line_no_single e = sym (l.is ∙ rw (single_none k (sym e), behind_nothing (node_of 0) s last next no_kind))

  module _ {c : ℕ} (w : Some c ≡ one_byte k) where
    pub line_no_node : None ≡ behind (node_of c) s last next → None ≡ scanned i at (drop at s)
    line_no_node e = sym (l.is ∙ rw (single_some k c (sym w), ← e))

    pub line_good : {b : ℕ} {node : Node} {end : ℕ} → Some b ≡ below no_account (account a) → Some (node, end) ≡ behind (node_of c) s last next
        → Some (record { account = b; node = node }, end) ≡ scanned i at (drop at s)
    line_good {b = b} v e =
        let (x, y) = below_some no_account (account a) b (sym v) in
        sym (l.is ∙ rw (single_some k c (sym w), ← e, x, le-leb b account_limit (omega arith)))
