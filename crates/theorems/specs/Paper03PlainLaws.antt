-- Kind `Z` of 02, Job 2, the letters of 02, Job 3, and the accounts of 02, Job 7, change nothing of document 03 where a pattern has none: a text none
-- of whose lines is of that kind, names such a letter or has an account above 9 is refused as 03 refuses it, with the same line; and if it is
-- accepted, its nodes and their count of choices are 03's, and all bits are read as 03 reads them. A tape without such a letter is good where 03
-- says so.
use Rattle.std.specs.Prelude.{◌≡◌, Bool, ◌&&◌, ◌||◌, ◌⊎◌, length, take, drop}
use Rattle.std.proofs.Math.Path.{refl, ap, subst, fun_ext}
use Rattle.std.proofs.Common.{sym, ap₂, ◌∙◌, inl, inr, arith}
use Rattle.std.proofs.Math.Bool.{true, false, not, cond}
use Rattle.std.proofs.lemmas.Bool.{false≢true}
use mathlib.Core.List.{List, [], ◌∷◌, ◌++◌}
use Prim.Native.Nat.{ℕ, zero, suc, ◌+◌, ◌*◌, ◌-◌, ◌≤◌, ◌<◌}
use borrow.Author.Tests.{lt-ltb, ltb-true, leb-true, le-leb, lt-leb, eqb-true, ne_eqb, not-true, eqb-false}
use Rattle.std.proofs.Math.Dec.{ltb, leb, eqb}
use Rattle.std.proofs.Math.ListN.{get_or}
use Rattle.syntax.specs.Bools.{and_fst, and_snd, and_intro}
use Rattle.theorems.specs.Paper03Pattern.{Node, no_node, node, Line, lines, fields, place_value, is_place, letter_byte}
use Rattle.theorems.specs.Paper03Pattern.{is_letter, is_digit, account_value, kind_value, field}
use Rattle.theorems.specs.Paper03Pattern.{line_good, node_in, nodes_in, refusal, forms_from, parts, tree_from, all_parts, unnamed_from, or_else}
use Rattle.theorems.specs.Paper03Pattern.{tree_refusal, load_refusal, loaded, root}
use Rattle.theorems.specs.Paper03Codes.{Read, read, bad, value_from, range_read, rounds_read, read_node, read_code}
use Rattle.theorems.specs.Paper03.{letters_good, tape_good}
use Rattle.theorems.specs.Paper03Promise.{choices}
use Rattle.theorems.specs.Paper03Fields.{byte_small, long}
use Rattle.theorems.specs.Paper03Plain as plain

-- ── kinds ──
-- a kind against 03's: `Z`, one of 03's six, or none
data Kinds (k old : ℕ) : Type 0 where
  is_lazy : k ≡ 6 → old ≡ 6 → Kinds k old
  is_old : k ≡ old → old < 6 → Kinds k old
  is_none : k ≡ 7 → old ≡ 6 → Kinds k old

kinds : (w : List ℕ) → Kinds (kind_value w) (plain.kind_value w)
unfolding kind_value plain.kind_value
kinds w =
    go (not (eqb (length w) 1)) (eqb (get_or w 0 0) 69) (eqb (get_or w 0 0) 76) (eqb (get_or w 0 0) 82) (eqb (get_or w 0 0) 83) (eqb (get_or w 0 0) 65)
    (eqb (get_or w 0 0) 75) (eqb (get_or w 0 0) 90)
  where
    go : (n e l r s a k z : Bool)
        → Kinds (cond n 7 (cond e 0 (cond l 1 (cond r 2 (cond s 3 (cond a 4 (cond k 5 (cond z 6 7))))))))
        (cond n 6 (cond e 0 (cond l 1 (cond r 2 (cond s 3 (cond a 4 (cond k 5 6)))))))
    go true e l r s a k z = is_none refl refl
    go false true l r s a k z = is_old refl (omega arith)
    go false false true r s a k z = is_old refl (omega arith)
    go false false false true s a k z = is_old refl (omega arith)
    go false false false false true a k z = is_old refl (omega arith)
    go false false false false false true k z = is_old refl (omega arith)
    go false false false false false false true z = is_old refl (omega arith)
    go false false false false false false false true = is_lazy refl refl
    go false false false false false false false false = is_none refl refl

abbrev kind_in : Line → List ℕ
kind_in x = field (fields x.text) 1

-- no line of a text is of kind `Z`
unfoldable pub no_lazy_line : List Line → Bool
no_lazy_line [] = true
no_lazy_line (x ∷ xs) = not (eqb (kind_value (field (fields x.text) 1)) 6) && no_lazy_line xs

-- no node is
unfoldable pub no_lazy : List Node → Bool
no_lazy [] = true
no_lazy (x ∷ xs) = not (eqb x.kind 6) && no_lazy xs

pub or_false : (b : Bool) → (b || false) ≡ b
or_false true = refl
or_false false = refl

and_no : (b : Bool) → (b && false) ≡ false
and_no true = refl
and_no false = refl

or_fst : (a b : Bool) → (a || b) ≡ false → a ≡ false
or_fst true b e = e
or_fst false b e = refl

or_snd : (a b : Bool) → (a || b) ≡ false → b ≡ false
or_snd true b e = absurd (false≢true (sym e))
or_snd false b e = e

-- ── letters ──
-- a field that says a letter of the hot side
unfoldable pub is_hot : List ℕ → Bool
is_hot w = eqb (length w) 1 && (leb 161 (get_or w 0 0) && leb (get_or w 0 0) 254)

-- a letter of either side, if not of the hot one, is 03's
either_cold : (n a b : Bool) → (n && b) ≡ false → (n && (a || b)) ≡ (n && a)
either_cold false a b e = refl
either_cold true true b e = refl
either_cold true false b e = e

letter_same : (w : List ℕ) → is_hot w ≡ false → is_letter w ≡ plain.is_letter w
unfolding is_hot is_letter letter_byte plain.is_letter
letter_same w h =
    either_cold (eqb (length w) 1) (leb 33 (get_or w 0 0) && leb (get_or w 0 0) 126) (leb 161 (get_or w 0 0) && leb (get_or w 0 0) 254) h

module _ (w : List ℕ) (h : plain.is_letter w ≡ true) where
  between : (leb 33 (get_or w 0 0) && leb (get_or w 0 0) 126) ≡ true
  unfolding plain.is_letter
  between = and_snd (eqb (length w) 1) (leb 33 (get_or w 0 0) && leb (get_or w 0 0) 126) h

  plain_low : leb 33 (get_or w 0 0) ≡ true
  plain_low = and_fst (leb 33 (get_or w 0 0)) (leb (get_or w 0 0) 126) between

  plain_high : leb (get_or w 0 0) 126 ≡ true
  plain_high = and_snd (leb 33 (get_or w 0 0)) (leb (get_or w 0 0) 126) between

  plain_cold : is_hot w ≡ false
  unfolding is_hot
  plain_cold = let b = leb-true (get_or w 0 0) 126 plain_high in rw (lt-leb 161 (get_or w 0 0) (omega arith)) (and_no (eqb (length w) 1))

-- ── accounts ──
-- an account against 03's: one of 03's, one above 9, or none
data Owners (c old : ℕ) : Type 0 where
  is_one_digit : c ≡ old → old < 10 → Owners c old
  is_new : 10 ≤ c → c < 201 → old ≡ 10 → Owners c old
  is_no_account : c ≡ 201 → old ≡ 10 → Owners c old

owners : (w : List ℕ) → Owners (account_value w) (plain.account_value w)
unfolding account_value plain.account_value
owners [] = is_no_account refl refl
owners (a ∷ []) = go (eqb a 45) (leb 49 a) refl (leb a 57) refl
  where
    go : (dash x : Bool) → leb 49 a ≡ x → (y : Bool) → leb a 57 ≡ y
        → Owners (cond dash 0 (cond (x && y) (a - 48) 201)) (cond dash 0 (cond (x && y) (a - 48) 10))
    go true x p y q = is_one_digit refl (omega arith)
    go false true p true q = let u = leb-true a 57 q in is_one_digit refl (omega arith)
    go false true p false q = is_no_account refl refl
    go false false p y q = is_no_account refl refl
owners (a ∷ b ∷ []) = go (leb 49 a) refl (leb a 57) refl (is_digit b) refl
  where
    go : (x : Bool) → leb 49 a ≡ x → (y : Bool) → leb a 57 ≡ y → (z : Bool) → is_digit b ≡ z
        → Owners (cond ((x && y) && z) (10 * (a - 48) + (b - 48)) 201) (plain.account_value (a ∷ b ∷ []))
    go true p true q true r =
        let l = leb-true 49 a p in
        let u = leb-true a 57 q in
        let s = byte_small b r in
        is_new (omega arith) (omega arith) refl
    go true p true q false r = is_no_account refl refl
    go true p false q z r = is_no_account refl refl
    go false p y q z r = is_no_account refl refl
owners (a ∷ b ∷ c ∷ []) = go (leb 49 a) refl (leb a 57) (is_digit b) (is_digit c) (leb (10 * (10 * (a - 48) + (b - 48)) + (c - 48)) 200) refl
  where
    go : (x : Bool) → leb 49 a ≡ x → (y z w few : Bool) → leb (10 * (10 * (a - 48) + (b - 48)) + (c - 48)) 200 ≡ few
        → Owners (cond ((x && y) && (z && (w && few))) (10 * (10 * (a - 48) + (b - 48)) + (c - 48)) 201) (plain.account_value (a ∷ b ∷ c ∷ []))
    go true p true true true true r =
        let l = leb-true 49 a p in
        let u = leb-true (10 * (10 * (a - 48) + (b - 48)) + (c - 48)) 200 r in
        is_new (omega arith) (omega arith) refl
    go true p true true true false r = is_no_account refl refl
    go true p true true false few r = is_no_account refl refl
    go true p true false w few r = is_no_account refl refl
    go true p false z w few r = is_no_account refl refl
    go false p y z w few r = is_no_account refl refl
owners (a ∷ b ∷ c ∷ d ∷ more) = is_no_account refl (rw (long (c ∷ d ∷ more)) refl)

-- a field that says an account above 9
unfoldable pub above_nine : List ℕ → Bool
above_nine w = leb 10 (account_value w) && ltb (account_value w) 201

-- of any other an account is good where 03 says so
known_same : (w : List ℕ) → above_nine w ≡ false → ltb (account_value w) 201 ≡ ltb (plain.account_value w) 10
unfolding above_nine
known_same w h = go (owners w)
  where
    go : Owners (account_value w) (plain.account_value w) → ltb (account_value w) 201 ≡ ltb (plain.account_value w) 10
    go (is_one_digit e l) = lt-ltb (account_value w) 201 (omega arith) ∙ sym (lt-ltb (plain.account_value w) 10 l)
    go (is_new l u o) =
        absurd (false≢true (sym h ∙ and_intro (le-leb 10 (account_value w) l) (lt-ltb (account_value w) 201 u)))
    go (is_no_account e o) = rw (e, o) refl

-- an account that is good by 03 is the same
owner_same : (w : List ℕ) → ltb (plain.account_value w) 10 ≡ true → (account_value w ≡ plain.account_value w) × (not (above_nine w) ≡ true)
unfolding above_nine
owner_same w h = go (ltb-true (plain.account_value w) 10 h) (owners w)
  where
    go : plain.account_value w < 10 → Owners (account_value w) (plain.account_value w)
        → (account_value w ≡ plain.account_value w) × (not (above_nine w) ≡ true)
    go l (is_one_digit e k) = (e, rw (lt-leb 10 (account_value w) (omega arith)) refl)
    go l (is_new k u o) = absurd (omega arith)
    go l (is_no_account e o) = absurd (omega arith)

-- no line of a text has one above 9
unfoldable pub no_new_account : List Line → Bool
no_new_account [] = true
no_new_account (x ∷ xs) = not (above_nine (field (fields x.text) 2)) && no_new_account xs

-- whether a line of a kind names a letter of the hot side
abbrev hot_fields : (kind : ℕ) → List (List ℕ) → Bool
hot_fields k ws = cond (eqb k 1) (is_hot (field ws 3)) (cond (eqb k 2) (is_hot (field ws 3) || is_hot (field ws 4)) false)

unfoldable pub hot_line : Line → Bool
hot_line x =
    let ws = fields x.text in
    let k = kind_value (field ws 1) in
    cond (eqb k 1) (is_hot (field ws 3)) (cond (eqb k 2) (is_hot (field ws 3) || is_hot (field ws 4)) false)

-- no line of a text does
unfoldable pub no_hot_line : List Line → Bool
no_hot_line [] = true
no_hot_line (x ∷ xs) = not (hot_line x) && no_hot_line xs

-- no node is a range with an end that is no letter of 03
unfoldable pub cold_node : Node → Bool
cold_node x = cond (eqb x.kind 2) (leb 33 x.a && leb x.b 126) true

unfoldable pub cold_ranges : List Node → Bool
cold_ranges [] = true
cold_ranges (x ∷ xs) = cold_node x && cold_ranges xs

-- ── lines ──
module _ (i : ℕ) (x : Line) where
  abbrev ws : List (List ℕ)
  ws = fields x.text

  abbrev old : ℕ
  old = plain.kind_value (field ws 1)

  -- the form of a line of 03's kinds, by its letters
  abbrev form : (one two l3 l4 : Bool) → Bool
  form one two l3 l4 =
      ((x.closed && eqb (place_value (field ws 0)) i) && (ltb (plain.account_value (field ws 2)) 10 && true))
      && cond (eqb old 0) (eqb (length ws) 3)
      (cond one (eqb (length ws) 4 && l3)
      (cond two (eqb (length ws) 5 && ((l3 && l4) && leb (get_or (field ws 3) 0 0) (get_or (field ws 4) 0 0)))
      (cond (eqb old 5) (eqb (length ws) 4 && is_place (field ws 3)) (eqb (length ws) 5 && (is_place (field ws 3) && is_place (field ws 4))))))

  form_same : (one two : Bool) → cond one (is_hot (field ws 3)) (cond two (is_hot (field ws 3) || is_hot (field ws 4)) false) ≡ false
      → form one two (is_letter (field ws 3)) (is_letter (field ws 4)) ≡ form one two (plain.is_letter (field ws 3)) (plain.is_letter (field ws 4))
  form_same true two h = ap (λ l. form true two l (is_letter (field ws 4))) (letter_same (field ws 3) h)
  form_same false true h =
      ap₂ (λ l m. form false true l m) (letter_same (field ws 3) (or_fst (is_hot (field ws 3)) (is_hot (field ws 4)) h))
      (letter_same (field ws 4) (or_snd (is_hot (field ws 3)) (is_hot (field ws 4)) h))
  form_same false false h = refl

  hot_old : kind_value (field ws 1) ≡ old → hot_line x ≡ false → hot_fields old ws ≡ false
  unfolding hot_line
  hot_old e h = subst (λ k. hot_fields k ws ≡ false) e h

line_same : (i : ℕ) (x : Line) → eqb (kind_value (field (fields x.text) 1)) 6 ≡ false → hot_line x ≡ false
    → above_nine (field (fields x.text) 2) ≡ false → line_good i x ≡ plain.line_good i x
unfolding line_good plain.line_good
line_same i x h cold few = go (kinds (kind_in x))
  where
    go : Kinds (kind_value (kind_in x)) (plain.kind_value (kind_in x)) → line_good i x ≡ plain.line_good i x
    go (is_lazy e o) = absurd (eqb-false (kind_value (kind_in x)) 6 h e)
    go (is_old e l) =
        rw (
          e,
          known_same (field (fields x.text) 2) few,
          lt-ltb (plain.kind_value (kind_in x)) 7 (omega arith),
          lt-ltb (plain.kind_value (kind_in x)) 6 l,
          ne_eqb (plain.kind_value (kind_in x)) 6 (λ z. omega arith),
          or_false (eqb (plain.kind_value (kind_in x)) 5),
        ) (form_same i x (eqb (plain.kind_value (kind_in x)) 1) (eqb (plain.kind_value (kind_in x)) 2) (hot_old i x e cold))
    go (is_none e o) = rw (e, o, known_same (field (fields x.text) 2) few) refl

-- a line of good form by 03 has one of its kinds
not_six : (a b c : Bool) → ((a && (b && false)) && c) ≡ true → ⊥
not_six true true c h = false≢true h
not_six true false c h = false≢true h
not_six false b c h = false≢true h

module _ (i : ℕ) (x : Line) (h : plain.line_good i x ≡ true) where
  old_kind : plain.kind_value (kind_in x) ≡ 6 → ⊥
  unfolding plain.line_good
  old_kind o =
      let ws = fields x.text in
      not_six (x.closed && eqb (place_value (field ws 0)) i) (ltb (plain.account_value (field ws 2)) 10)
      (eqb (length ws) 5 && (is_place (field ws 3) && is_place (field ws 4))) (rw o at h)

  same_kind : (kind_value (kind_in x) ≡ plain.kind_value (kind_in x)) × (not (eqb (plain.kind_value (kind_in x)) 6) ≡ true)
  same_kind = go (kinds (kind_in x))
    where
      go : Kinds (kind_value (kind_in x)) (plain.kind_value (kind_in x))
          → (kind_value (kind_in x) ≡ plain.kind_value (kind_in x)) × (not (eqb (plain.kind_value (kind_in x)) 6) ≡ true)
      go (is_old e l) = (e, ap not (ne_eqb (plain.kind_value (kind_in x)) 6 old_kind))
      go (is_lazy e o) = absurd (old_kind o)
      go (is_none e o) = absurd (old_kind o)

  same_owner : (account_value (field (fields x.text) 2) ≡ plain.account_value (field (fields x.text) 2))
      × (not (above_nine (field (fields x.text) 2)) ≡ true)
  unfolding plain.line_good
  same_owner =
      let ws = fields x.text in
      let placed = x.closed && eqb (place_value (field ws 0)) i in
      let known = ltb (plain.account_value (field ws 2)) 10 in
      let kind = ltb (plain.kind_value (kind_in x)) 6 in
      owner_same (field ws 2) (and_fst known kind (and_snd placed (known && kind) (and_fst (placed && (known && kind)) _ h)))

  same_node : node_in x ≡ plain.node_in x
  unfolding node_in plain.node_in
  same_node = rw (same_kind.0, same_owner.0) refl

  not-lazy : (not (eqb (kind_value (kind_in x)) 6) ≡ true) × (not (eqb (node_in x).kind 6) ≡ true)
  unfolding node_in
  not-lazy = let e = ap (λ k. not (eqb k 6)) same_kind.0 ∙ same_kind.1 in (e, e)

  -- what it says by its kind
  abbrev form_by : (k : ℕ) → Bool
  form_by k =
      let ws = fields x.text in
      cond (eqb k 0) (eqb (length ws) 3)
      (cond (eqb k 1) (eqb (length ws) 4 && plain.is_letter (field ws 3))
      (cond (eqb k 2) (eqb (length ws) 5 && ((plain.is_letter (field ws 3) && plain.is_letter (field ws 4))
      && leb (get_or (field ws 3) 0 0) (get_or (field ws 4) 0 0)))
      (cond (eqb k 5) (eqb (length ws) 4 && is_place (field ws 3)) (eqb (length ws) 5 && (is_place (field ws 3) && is_place (field ws 4))))))

  says : form_by (plain.kind_value (kind_in x)) ≡ true
  unfolding plain.line_good
  says =
      let ws = fields x.text in
      and_snd ((x.closed && eqb (place_value (field ws 0)) i) && (ltb (plain.account_value (field ws 2)) 10 && ltb (plain.kind_value (kind_in x)) 6))
      (form_by (plain.kind_value (kind_in x))) h

  says_at : (k : ℕ) → eqb (plain.kind_value (kind_in x)) k ≡ true → form_by k ≡ true
  says_at k e = subst (λ j. form_by j ≡ true) (eqb-true (plain.kind_value (kind_in x)) k e) says

  -- the letters of a range, and its five fields
  ends : eqb (plain.kind_value (kind_in x)) 2 ≡ true
      → (plain.is_letter (field (fields x.text) 3) ≡ true) × (plain.is_letter (field (fields x.text) 4) ≡ true) × (length (fields x.text) ≡ 5)
  ends e =
      let ws = fields x.text in
      let three = plain.is_letter (field ws 3) in
      let four = plain.is_letter (field ws 4) in
      let up = leb (get_or (field ws 3) 0 0) (get_or (field ws 4) 0 0) in
      let s = says_at 2 e in
      let both = and_fst (three && four) up (and_snd (eqb (length ws) 5) ((three && four) && up) s) in
      (and_fst three four both, and_snd three four both, eqb-true (length ws) 5 (and_fst (eqb (length ws) 5) ((three && four) && up) s))

  cold_line : not (hot_line x) ≡ true
  unfolding hot_line
  cold_line = rw same_kind.0 (ap not (go (eqb (plain.kind_value (kind_in x)) 1) refl (eqb (plain.kind_value (kind_in x)) 2) refl))
    where
      go : (one : Bool) → eqb (plain.kind_value (kind_in x)) 1 ≡ one → (two : Bool) → eqb (plain.kind_value (kind_in x)) 2 ≡ two
          → cond one (is_hot (field (fields x.text) 3))
          (cond two (is_hot (field (fields x.text) 3) || is_hot (field (fields x.text) 4)) false) ≡ false
      go true o two t =
          plain_cold (field (fields x.text) 3)
          (and_snd (eqb (length (fields x.text)) 4) (plain.is_letter (field (fields x.text) 3)) (says_at 1 o))
      go false o true t =
          let l = ends t in
          rw (plain_cold (field (fields x.text) 3) l.0, plain_cold (field (fields x.text) 4) l.1) refl
      go false o false t = refl

  cold_in : (two : Bool) → eqb (plain.kind_value (kind_in x)) 2 ≡ two → cold_node (plain.node_in x) ≡ true
  unfolding cold_node plain.node_in
  cold_in false e = rw e refl
  cold_in true e =
      let l = ends e in
      rw (eqb-true (plain.kind_value (kind_in x)) 2 e, l.2, plain_low (field (fields x.text) 3) l.0, plain_high (field (fields x.text) 4) l.1)
      refl

  cold_range : cold_node (node_in x) ≡ true
  cold_range = ap cold_node same_node ∙ cold_in (eqb (plain.kind_value (kind_in x)) 2) refl

-- lines that 03 accepts: none is of kind `Z`, names a letter of the hot side or has an account above 9, and they are the same nodes
pub record PlainLines (ls : List Line) : Type 0 where
  pub said : no_lazy_line ls ≡ true
  pub cold : no_hot_line ls ≡ true
  pub few : no_new_account ls ≡ true
  pub nodes : nodes_in ls ≡ plain.nodes_in ls
  pub kept : no_lazy (nodes_in ls) ≡ true
  pub ranges : cold_ranges (nodes_in ls) ≡ true

formed : (i : ℕ) (ls : List Line) → (plain.forms_from i ls).number ≡ 0 → PlainLines ls
unfolding plain.forms_from no_lazy_line no_hot_line no_new_account no_lazy cold_ranges nodes_in plain.nodes_in refusal
formed i [] h = record { said = refl; cold = refl; few = refl; nodes = refl; kept = refl; ranges = refl }
formed i (x ∷ ls) h = go (leb 64 i) (plain.line_good i x) refl h (formed (suc i) ls)
  where
    go : (b c : Bool) → plain.line_good i x ≡ c → (cond b (refusal 1 64) (cond c (plain.forms_from (suc i) ls) (refusal 1 i))).number ≡ 0
        → ((plain.forms_from (suc i) ls).number ≡ 0 → PlainLines ls) → PlainLines (x ∷ ls)
    go true c e k ih = absurd (omega arith)
    go false false e k ih = absurd (omega arith)
    go false true e k ih =
        let r = ih k in
        let z = not-lazy i x e in
        record {
          said = and_intro z.0 r.said;
          cold = and_intro (cold_line i x e) r.cold;
          few = and_intro (same_owner i x e).1 r.few;
          nodes = ap₂ (λ y ys. y ∷ ys) (same_node i x e) r.nodes;
          kept = and_intro z.1 r.kept;
          ranges = and_intro (cold_range i x e) r.ranges;
        }

forms_same : (i : ℕ) (ls : List Line) → no_lazy_line ls ≡ true → no_hot_line ls ≡ true → no_new_account ls ≡ true
    → forms_from i ls ≡ plain.forms_from i ls
unfolding forms_from plain.forms_from no_lazy_line no_hot_line no_new_account
forms_same i [] h cold few = refl
forms_same i (x ∷ ls) h cold few =
    let own = above_nine (field (fields x.text) 2) in
    let a = and_fst (not (eqb (kind_value (kind_in x)) 6)) (no_lazy_line ls) h in
    let b = and_snd (not (eqb (kind_value (kind_in x)) 6)) (no_lazy_line ls) h in
    ap₂ (λ c r. cond (leb 64 i) (refusal 1 64) (cond c r (refusal 1 i)))
    (line_same i x (not-true (eqb (kind_value (kind_in x)) 6) a) (not-true (hot_line x) (and_fst (not (hot_line x)) (no_hot_line ls) cold))
    (not-true own (and_fst (not own) (no_new_account ls) few)))
    (forms_same (suc i) ls b (and_snd (not (hot_line x)) (no_hot_line ls) cold) (and_snd (not own) (no_new_account ls) few))

-- ── the tree ──
parts_same : (x : Node) → not (eqb x.kind 6) ≡ true → parts x ≡ plain.parts x
unfolding parts plain.parts
parts_same x h = rw (not-true (eqb x.kind 6) h, or_false (eqb x.kind 5)) refl

module _ (x : Node) (t : List Node) (h : no_lazy (x ∷ t) ≡ true) where
  pub first_plain : not (eqb x.kind 6) ≡ true
  unfolding no_lazy
  first_plain = and_fst (not (eqb x.kind 6)) (no_lazy t) h

  pub rest_plain : no_lazy t ≡ true
  unfolding no_lazy
  rest_plain = and_snd (not (eqb x.kind 6)) (no_lazy t) h

from_same : (i : ℕ) (ns : List ℕ) (t : List Node) → no_lazy t ≡ true → tree_from i ns t ≡ plain.tree_from i ns t
unfolding tree_from plain.tree_from
from_same i ns [] h = refl
from_same i ns (x ∷ t) h =
    let e = parts_same x (first_plain x t h) in
    rw (e, from_same (suc i) (plain.parts x ++ ns) t (rest_plain x t h)) refl

all_same : (t : List Node) → no_lazy t ≡ true → all_parts t ≡ plain.all_parts t
unfolding all_parts plain.all_parts
all_same [] h = refl
all_same (x ∷ t) h = ap₂ (λ a b. a ++ b) (parts_same x (first_plain x t h)) (all_same t (rest_plain x t h))

tree_same : (t : List Node) → no_lazy t ≡ true → tree_refusal t ≡ plain.tree_refusal t
unfolding tree_refusal plain.tree_refusal
tree_same t h = ap₂ or_else (from_same 0 [] t h) (ap (unnamed_from (length t - 1) 0) (all_same t h))

-- ── loading ──
load_same : (text : List ℕ) → no_lazy_line (lines text) ≡ true → no_hot_line (lines text) ≡ true → no_new_account (lines text) ≡ true
    → load_refusal text ≡ plain.load_refusal text
unfolding load_refusal plain.load_refusal or_else
load_same text h cold few = rw (forms_same 0 (lines text) h cold few) (go (eqb (plain.forms_from 0 (lines text)).number 0) refl)
  where
    go : (b : Bool) → eqb (plain.forms_from 0 (lines text)).number 0 ≡ b
        → cond (eqb (length (lines text)) 0) (refusal 1 0) (cond b (tree_refusal (nodes_in (lines text))) (plain.forms_from 0 (lines text)))
        ≡ cond (eqb (length (lines text)) 0) (refusal 1 0) (cond b (plain.tree_refusal (plain.nodes_in (lines text))) (plain.forms_from 0 (lines text)))
    go false e = refl
    go true e =
        let r = formed 0 (lines text) (eqb-true (plain.forms_from 0 (lines text)).number 0 e) in
        ap (λ s. cond (eqb (length (lines text)) 0) (refusal 1 0) s)
        (tree_same (nodes_in (lines text)) r.kept ∙ ap plain.tree_refusal r.nodes)

pub accepted : (text : List ℕ) → (plain.load_refusal text).number ≡ 0 → PlainLines (lines text)
unfolding plain.load_refusal or_else refusal
accepted text h = go (eqb (length (lines text)) 0) (eqb (plain.forms_from 0 (lines text)).number 0) refl h
  where
    go : (a b : Bool) → eqb (plain.forms_from 0 (lines text)).number 0 ≡ b
        → (cond a (refusal 1 0) (cond b (plain.tree_refusal (plain.nodes_in (lines text))) (plain.forms_from 0 (lines text)))).number ≡ 0
        → PlainLines (lines text)
    go true b e k = absurd (omega arith)
    go false true e k = formed 0 (lines text) (eqb-true (plain.forms_from 0 (lines text)).number 0 e)
    go false false e k = absurd (eqb-false (plain.forms_from 0 (lines text)).number 0 e k)

-- ── codes ──
rounds_same : (n : ℕ) (f : List ℕ → Read) (bs : List ℕ) → rounds_read 1 n f bs ≡ plain.rounds_read n f bs
unfolding rounds_read plain.rounds_read
rounds_same zero f bs = refl
rounds_same (suc n) f [] = refl
rounds_same (suc n) f (b ∷ bs) = rw (rounds_same n f (f bs).rest) refl

-- between two letters of 03 lie letters only
cold_byte : (v : ℕ) → 33 ≤ v → v ≤ 126 → letter_byte v ≡ true
unfolding letter_byte
cold_byte v h k = rw (le-leb 33 v h, le-leb v 126 k) refl

between_same : (a b v : ℕ) → 33 ≤ a → b ≤ 126 → (letter_byte v && (leb a v && leb v b)) ≡ (leb a v && leb v b)
between_same a b v h k = go (leb a v) refl (leb v b) refl
  where
    go : (p : Bool) → leb a v ≡ p → (q : Bool) → leb v b ≡ q → (letter_byte v && (p && q)) ≡ (p && q)
    go true e true f =
        let low = leb-true a v e in
        let high = leb-true v b f in
        ap (λ z. z && true) (cold_byte v (omega arith) (omega arith))
    go true e false f = and_no (letter_byte v)
    go false e q f = and_no (letter_byte v)

range_same : (a b : ℕ) (bs : List ℕ) → (leb 33 a && leb b 126) ≡ true → range_read a b bs ≡ plain.range_read a b bs
unfolding range_read plain.range_read
range_same a b bs h =
    let v = value_from 0 (take 8 bs) in
    ap (λ g. cond (leb 8 (length bs) && g) (read (v ∷ []) (drop 8 bs) false) bad)
    (between_same a b v (leb-true 33 a (and_fst (leb 33 a) (leb b 126) h)) (leb-true b 126 (and_snd (leb 33 a) (leb b 126) h)))

module _ (x : Node) (t : List Node) (g : cold_ranges (x ∷ t) ≡ true) where
  first_cold : cold_node x ≡ true
  unfolding cold_ranges
  first_cold = and_fst (cold_node x) (cold_ranges t) g

  rest_cold : cold_ranges t ≡ true
  unfolding cold_ranges
  rest_cold = and_snd (cold_node x) (cold_ranges t) g

-- a place's node is the same, or both have none there
abbrev NodesAt : (t : List Node) → (l : ℕ) → Type 0
NodesAt t l =
    ((get_or t l no_node ≡ get_or t l plain.no_node) × (eqb (get_or t l plain.no_node).kind 6 ≡ false) × (cold_node (get_or t l plain.no_node) ≡ true))
    ⊎ ((get_or t l no_node ≡ no_node) × (get_or t l plain.no_node ≡ plain.no_node))

node_at : (t : List Node) → no_lazy t ≡ true → cold_ranges t ≡ true → (l : ℕ) → NodesAt t l
node_at [] h g l = inr (refl, refl)
node_at (x ∷ t) h g zero = inl (refl, not-true (eqb x.kind 6) (first_plain x t h), first_cold x t g)
node_at (x ∷ t) h g (suc l) = node_at t (rest_plain x t h) (rest_cold x t g) l

range_ends : (x : Node) → cold_node x ≡ true → eqb x.kind 2 ≡ true → (leb 33 x.a && leb x.b 126) ≡ true
unfolding cold_node
range_ends x g e = rw e at g

-- for any nodes none of which is of kind 6 or a range with an end that is no letter of 03, 03's reading at every place, on all bits
module _ (t : List Node) (h : no_lazy t ≡ true) (g : cold_ranges t ≡ true) where
  pub read_same : (n : ℕ) → read_node n t ≡ plain.read_node n t
  unfolding read_node plain.read_node node plain.node
  read_same zero = refl
  read_same (suc n) =
      fun_ext (λ l. fun_ext (λ bs. go l bs (read_same n) (node_at t h g l) (eqb (get_or t l plain.no_node).kind 2) refl))
    where
      go : (l : ℕ) (bs : List ℕ) → read_node n t ≡ plain.read_node n t → NodesAt t l → (two : Bool) → eqb (get_or t l plain.no_node).kind 2 ≡ two
          → read_node (suc n) t l bs ≡ plain.read_node (suc n) t l bs
      go l bs ih (inr (e, f)) two q = rw (e, f) refl
      go l bs ih (inl (e, f, c)) false q =
          rw (e, f, q, ih, rounds_same (suc (length bs)) (λ cs. plain.read_node n t (get_or t l plain.no_node).a cs) bs) refl
      go l bs ih (inl (e, f, c)) true q =
          let x = get_or t l plain.no_node in
          rw (
            e,
            f,
            ih,
            rounds_same (suc (length bs)) (λ cs. plain.read_node n t (get_or t l plain.no_node).a cs) bs,
            range_same x.a x.b bs (range_ends x c q),
          ) refl

choices_same : (t : List Node) → no_lazy t ≡ true → choices t ≡ plain.choices t
unfolding choices plain.choices
choices_same [] h = refl
choices_same (x ∷ t) h =
    rw (not-true (eqb x.kind 6) (first_plain x t h), or_false (eqb x.kind 5), choices_same t (rest_plain x t h)) refl

-- ── tapes ──
unfoldable pub no_hot : List ℕ → Bool
no_hot [] = true
no_hot (c ∷ cs) = not (leb 161 c && leb c 254) && no_hot cs

pub byte_same : (c : ℕ) → (leb 161 c && leb c 254) ≡ false → letter_byte c ≡ (leb 33 c && leb c 126)
unfolding letter_byte
byte_same c h = rw h (or_false (leb 33 c && leb c 126))

pub letters_same : (cs : List ℕ) → no_hot cs ≡ true → letters_good cs ≡ plain.letters_good cs
unfolding no_hot letters_good plain.letters_good
letters_same [] h = refl
letters_same (c ∷ cs) h =
    ap₂ ◌&&◌ (byte_same c (not-true (leb 161 c && leb c 254) (and_fst (not (leb 161 c && leb c 254)) (no_hot cs) h)))
    (letters_same cs (and_snd (not (leb 161 c && leb c 254)) (no_hot cs) h))

-- a tape without a letter of the hot side is good where 03 says so
pub tape_same : (cs : List ℕ) → no_hot cs ≡ true → tape_good cs ≡ plain.tape_good cs
unfolding tape_good plain.tape_good
tape_same cs h = ap (λ b. leb (length cs) 3600 && b) (letters_same cs h)

-- WHERE NO LINE IS OF KIND `Z`, NAMES A LETTER OF THE HOT SIDE OR HAS AN ACCOUNT ABOVE 9 NOTHING HAS CHANGED
pub record Unchanged (text : List ℕ) : Type 0 where
  pub refused : load_refusal text ≡ plain.load_refusal text
  pub nodes : (plain.load_refusal text).number ≡ 0 → loaded text ≡ plain.loaded text
  pub counts : (plain.load_refusal text).number ≡ 0 → choices (loaded text) ≡ plain.choices (plain.loaded text)
  pub reads : (plain.load_refusal text).number ≡ 0 → (bits : List ℕ) → read_code (loaded text) bits ≡ plain.read_code (plain.loaded text) bits

pub unchanged : (text : List ℕ) → no_lazy_line (lines text) ≡ true → no_hot_line (lines text) ≡ true → no_new_account (lines text) ≡ true
    → Unchanged text
unfolding loaded plain.loaded read_code plain.read_code
unchanged text h cold few = record {
  refused = load_same text h cold few;
  nodes = λ k. (accepted text k).nodes;
  counts = λ k. let r = accepted text k in choices_same (nodes_in (lines text)) r.kept ∙ ap plain.choices r.nodes;
  reads = λ k bits.
      let r = accepted text k in
      ap (λ f. f (root (nodes_in (lines text))) bits) (read_same (nodes_in (lines text)) r.kept r.ranges 64)
      ∙ ap (λ t. plain.read_node 64 t (root t) bits) r.nodes;
}

-- every text that 03 accepts is such a text
pub accepted_plain : (text : List ℕ) → (plain.load_refusal text).number ≡ 0
    → (no_lazy_line (lines text) ≡ true) × (no_hot_line (lines text) ≡ true) × (no_new_account (lines text) ≡ true)
accepted_plain text k = let r = accepted text k in (r.said, r.cold, r.few)
