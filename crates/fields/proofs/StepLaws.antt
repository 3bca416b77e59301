-- What single steps of reading a field come to: its bytes, one after the other, the values of a field by its size, and an account, digit by digit. No
-- answer needs these laws, since slices, iterators and Options take the steps; they say what each of the definitions does in each of its cases.
use Rattle.std.specs.Prelude.{◌≡◌, refl, Bool, true, false, ◌&&◌, not, cond, List, [], ◌∷◌, ℕ, zero, suc, ◌+◌, ◌*◌, ◌-◌, ◌≤◌, ◌<◌, ◌⊎◌, eqb, ltb, leb, length, get_or, drop, take, Option, None, Some, option_and_then, option_map}
use Rattle.std.specs.List.{position_or_len}
use Rattle.std.proofs.Common.{sym, ap, ◌∙◌, inl, inr, true≢false, arith, ltb-true, ltb-false, add-zero, length-drop, length-take-le, drop-cons, get_or-drop}
use borrow.Author.Tests.{ne_eqb, lt-ltb, le-ltb, le-leb, lt-leb, leb-true}
use Rattle.syntax.specs.Table.{account_limit}
use Rattle.fields.specs.Text.{digit, all_digits, decimal, place, single, no_account, account_number, account}
use Rattle.fields.specs.Fields.{stops, below, longer, number, field_size, FieldAt, size_inside, field_found, place_none}
use Rattle.fields.specs.AccountLaws.{digit_is, account_long, account_digits}

-- ── elements of a list ──
-- an element of a list does not depend on what stands for those past its end
pub getD_inside : {A : Type 0} (l : List A) (i : ℕ) (d e : A) → i < length l → get_or l i d ≡ get_or l i e
getD_inside [] i d e h = absurd (omega arith)
getD_inside (x ∷ l) zero d e h = refl
getD_inside (x ∷ l) (suc i) d e h = getD_inside l i d e (omega arith)

-- and is inside the list where it is not what stands for those past its end
pub inside_getD : (l : List ℕ) (i d : ℕ) → (get_or l i d ≡ d → ⊥) → i < length l
inside_getD [] i d h = absurd (h refl)
inside_getD (x ∷ l) zero d h = omega arith
inside_getD (x ∷ l) (suc i) d h = omega (arith, inside_getD l i d h)

-- ── a field ──
-- what is read of a field: its bytes, whether it is its line's last, and the position behind what ends it
pub record Read : Type 0 where
  pub bytes : List ℕ
  pub last : Bool
  pub next : ℕ

abbrev pub made : (bytes : List ℕ) → (last : Bool) → (next : ℕ) → Read
made x l n = record { bytes = x; last = l; next = n }

-- the field of so many bytes at a position
abbrev pub sized : (text : List ℕ) → (at size : ℕ) → Read
sized s i n = made (take n (drop i s)) (eqb (get_or (drop i s) n 0) 10) (i + n + 1)

-- the field at a position, if a tab or a newline ends it within so many bytes
unfoldable pub field_at : (within : ℕ) → (text : List ℕ) → (at : ℕ) → Option Read
field_at k s i = option_map (sized s i) (field_size k (drop i s))

-- what is read there is the text's field there
pub field_at-is : (k : ℕ) (s : List ℕ) (i : ℕ) (f : Read) → field_at k s i ≡ Some f → FieldAt s i f.bytes f.last f.next
unfolding field_at
field_at-is k s i f e = go (field_size k (drop i s)) refl e
  where
    go : (o : Option ℕ) → field_size k (drop i s) ≡ o → option_map (sized s i) o ≡ Some f → FieldAt s i f.bytes f.last f.next
    go None p q = absurd (cc)
    go (Some n) p q = let r : sized s i n ≡ f = cc in rw (← r) (field_found s i k n p)

-- a field has fewer bytes than are looked at
pub field_small : (k : ℕ) (s : List ℕ) (i : ℕ) (f : Read) → field_at k s i ≡ Some f → length f.bytes < k
unfolding field_at
field_small k s i f e = go (field_size k (drop i s)) refl e
  where
    go : (o : Option ℕ) → field_size k (drop i s) ≡ o → option_map (sized s i) o ≡ Some f → length f.bytes < k
    go None p q = absurd (cc)
    go (Some n) p q =
        let r : sized s i n ≡ f = cc in
        let (l, m) = size_inside k (drop i s) n p in
        let z : length (take n (drop i s)) ≡ length f.bytes = ap (λ g. length g.bytes) r in
        omega (arith, length-take-le n (drop i s) (omega arith))

-- one more on both sides of a comparison
ltb_suc : (p n : ℕ) → ltb (1 + p) (suc n) ≡ ltb p n
ltb_suc p n = go (ltb p n) refl
  where
    go : (b : Bool) → ltb p n ≡ b → ltb (1 + p) (suc n) ≡ b
    go true e = lt-ltb (1 + p) (suc n) (omega (arith, ltb-true p n e))
    go false e = le-ltb (1 + p) (suc n) (omega (arith, ltb-false p n e))

-- the size of a field, by the first byte
pub size_step : (k a : ℕ) (w : List ℕ) → field_size (suc k) (a ∷ w) ≡ cond (stops a) (Some 0) (option_map suc (field_size k w))
unfolding field_size
size_step k a w = go (stops a)
  where
    more : (b : Bool) → cond b (Some (suc (position_or_len stops (take k w)))) None ≡ option_map suc (cond b (Some (position_or_len stops (take k w))) None)
    more true = refl
    more false = refl

    go : (t : Bool)
        → cond (ltb (cond (not t) (1 + position_or_len stops (take k w)) 0) (suc (length (take k w))))
        (Some (cond (not t) (1 + position_or_len stops (take k w)) 0)) None
        ≡ cond t (Some 0) (option_map suc (cond (ltb (position_or_len stops (take k w)) (length (take k w))) (Some (position_or_len stops (take k w))) None))
    go true = rw (lt-ltb 0 (suc (length (take k w))) (omega arith))
    go false =
        let z : 1 + position_or_len stops (take k w) ≡ suc (position_or_len stops (take k w)) = omega arith in
        rw (ltb_suc (position_or_len stops (take k w)) (length (take k w)), z) (more (ltb (position_or_len stops (take k w)) (length (take k w))))

no_bytes : (k : ℕ) → field_size k [] ≡ None
unfolding field_size
no_bytes zero = refl
no_bytes (suc k) = refl

-- the same of a text, from a position on; 256 stands past its end
pub byte_step : (k : ℕ) (s : List ℕ) (i : ℕ)
    → field_size (suc k) (drop i s) ≡ cond (stops (get_or s i 256)) (Some 0) (option_map suc (field_size k (drop (suc i) s)))
byte_step k [] zero = rw (no_bytes (suc k), no_bytes k)
byte_step k [] (suc i) = rw (no_bytes (suc k), no_bytes k)
byte_step k (a ∷ s) zero = size_step k a s
byte_step k (a ∷ s) (suc i) = byte_step k s i

-- a field of a size that is found
made_at : (k : ℕ) (s : List ℕ) (i n : ℕ) {x : List ℕ} {c next : ℕ} → field_size k (drop i s) ≡ Some n → x ≡ take n (drop i s)
    → c ≡ get_or s (i + n) 256 → next ≡ i + n + 1 → Some (made x (eqb c 10) next) ≡ field_at k s i
unfolding field_at
made_at k s i n {c = c} e ex ec en =
    let (l, m) = size_inside k (drop i s) n e in
    let g : get_or (drop i s) n 0 ≡ c = get_or-drop i s n 0 ∙ getD_inside s (i + n) 0 256 (omega (arith, length-drop i s)) ∙ sym ec in
    rw (e, ex, g, en)

-- a byte that ends a field lies inside the text, with those before it
stop_inside : (s : List ℕ) (j : ℕ) {b : ℕ} → b ≡ get_or s j 256 → stops b ≡ true → j < length s
stop_inside s j e h = inside_getD s j 256 (λ q. true≢false (sym h ∙ ap stops (e ∙ q)))

take_front : (s : List ℕ) (i n : ℕ) {a : ℕ} → a ≡ get_or s i 256 → i < length s → a ∷ take n (drop (suc i) s) ≡ take (suc n) (drop i s)
take_front s i n e l = rw (e, drop-cons s i 256 l)

empty_at : (k : ℕ) (s : List ℕ) (i : ℕ) {a : ℕ} → a ≡ get_or s i 256 → stops a ≡ true → Some (made [] (eqb a 10) (i + 1)) ≡ field_at (suc k) s i
empty_at k s i {a = a} e h =
    let g : a ≡ get_or s (i + 0) 256 = e ∙ ap (λ j. get_or s j 256) (sym (add-zero i)) in
    made_at (suc k) s i 0 (byte_step k s i ∙ rw (← e, h)) refl g (omega arith)

-- what is found byte by byte
module _ (s : List ℕ) (i : ℕ) {a : ℕ} (ea : a ≡ get_or s i 256) where
  pub field-empty : stops a ≡ true → Some (made [] (eqb a 10) (i + 1)) ≡ field_at 3 s i
  field-empty h = empty_at 2 s i ea h

  module _ {b : ℕ} (ha : stops a ≡ false) (eb : b ≡ get_or s (i + 1) 256) where
    second : b ≡ get_or s (suc i) 256
    second = let q : i + 1 ≡ suc i = omega arith in eb ∙ ap (λ j. get_or s j 256) q

    pub field_one : stops b ≡ true → Some (made (a ∷ []) (eqb b 10) (i + 2)) ≡ field_at 3 s i
    field_one h =
        let l = stop_inside s (suc i) second h in
        made_at 3 s i 1 (byte_step 2 s i ∙ rw (← ea, ha, byte_step 1 s (suc i), ← second, h)) (take_front s i 0 ea (omega arith)) eb (omega arith)

    module _ {c : ℕ} (hb : stops b ≡ false) (ec : c ≡ get_or s (i + 2) 256) where
      third : c ≡ get_or s (suc (suc i)) 256
      third = let q : i + 2 ≡ suc (suc i) = omega arith in ec ∙ ap (λ j. get_or s j 256) q

      pub field_two : stops c ≡ true → Some (made (a ∷ b ∷ []) (eqb c 10) (i + 3)) ≡ field_at 3 s i
      field_two h =
          let l = stop_inside s (suc (suc i)) third h in
          made_at 3 s i 2 (byte_step 2 s i ∙ rw (← ea, ha, byte_step 1 s (suc i), ← second, hb, byte_step 0 s (suc (suc i)), ← third, h))
          (ap (λ w. a ∷ w) (take_front s (suc i) 0 second (omega arith)) ∙ take_front s i 1 ea (omega arith))
          ec (omega arith)

      pub field_long : stops c ≡ false → None ≡ field_at 3 s i
      unfolding field_at field_size
      field_long h =
          let e : field_size 3 (drop i s) ≡ None =
          byte_step 2 s i ∙ rw (← ea, ha, byte_step 1 s (suc i), ← second, hb, byte_step 0 s (suc (suc i)), ← third, h) in
          rw e

-- the field of at most two bytes at a position, by the bytes a, b, c there
unfoldable pub field_of : (at a b c : ℕ) → Option Read
field_of i a b c =
    cond (stops a) (Some (made [] (eqb a 10) (i + 1)))
    (cond (stops b) (Some (made (a ∷ []) (eqb b 10) (i + 2))) (cond (stops c) (Some (made (a ∷ b ∷ []) (eqb c 10) (i + 3))) None))

pub field_at-of : (s : List ℕ) (i : ℕ) → field_at 3 s i ≡ field_of i (get_or s i 256) (get_or s (i + 1) 256) (get_or s (i + 2) 256)
unfolding field_of
field_at-of s i = go (stops (get_or s i 256)) refl (stops (get_or s (i + 1) 256)) refl (stops (get_or s (i + 2) 256)) refl
  where
    go : (x : Bool) → stops (get_or s i 256) ≡ x → (y : Bool) → stops (get_or s (i + 1) 256) ≡ y → (z : Bool) → stops (get_or s (i + 2) 256) ≡ z
        → field_at 3 s i
        ≡ cond x (Some (made [] (eqb (get_or s i 256) 10) (i + 1)))
        (cond y (Some (made (get_or s i 256 ∷ []) (eqb (get_or s (i + 1) 256) 10) (i + 2)))
        (cond z (Some (made (get_or s i 256 ∷ get_or s (i + 1) 256 ∷ []) (eqb (get_or s (i + 2) 256) 10) (i + 3))) None))
    go true p y q z r = sym (field-empty s i refl p)
    go false p true q z r = sym (field_one s i refl p refl q)
    go false p false q true r = sym (field_two s i refl p refl q refl r)
    go false p false q false r = sym (field_long s i refl p refl q refl r)

-- ── what fields write ──
-- the bytes of a field, by its size
module _ (w : List ℕ) where
  pub word_one : length w ≡ 1 → w ≡ get_or w 0 0 ∷ []
  word_one = go w
    where
      go : (w : List ℕ) → length w ≡ 1 → w ≡ get_or w 0 0 ∷ []
      go [] h = absurd (omega arith)
      go (a ∷ []) h = refl
      go (a ∷ b ∷ w) h = absurd (omega arith)

  pub word_two : length w ≡ 2 → w ≡ get_or w 0 0 ∷ get_or w 1 0 ∷ []
  word_two = go w
    where
      go : (w : List ℕ) → length w ≡ 2 → w ≡ get_or w 0 0 ∷ get_or w 1 0 ∷ []
      go [] h = absurd (omega arith)
      go (a ∷ []) h = absurd (omega arith)
      go (a ∷ b ∷ []) h = refl
      go (a ∷ b ∷ c ∷ w) h = absurd (omega arith)

  pub word_no_single : (length w ≡ 1 → ⊥) → single w ≡ 0
  unfolding single
  word_no_single = go w
    where
      go : (w : List ℕ) → (length w ≡ 1 → ⊥) → single w ≡ 0
      go [] h = refl
      go (a ∷ []) h = absurd (h refl)
      go (a ∷ b ∷ w) h = refl

  pub word_no_place : (length w ≡ 1 → ⊥) → (length w ≡ 2 → ⊥) → place w ≡ 64
  word_no_place h k = place_none w h k

-- ── an account, digit by digit ──
-- a byte with a digit's value from 1 on is `1` to `9`
digit_bytes : (b : ℕ) → 1 ≤ digit b → digit b < 10 → (49 ≤ b) × (b ≤ 57)
unfolding digit
digit_bytes b l u = go (leb 48 b) refl (leb b 57) refl l u
  where
    go : (x : Bool) → leb 48 b ≡ x → (y : Bool) → leb b 57 ≡ y → 1 ≤ cond (x && y) (b - 48) 10 → cond (x && y) (b - 48) 10 < 10 → (49 ≤ b) × (b ≤ 57)
    go true p true q l u = (omega arith, leb-true b 57 q)
    go true p false q l u = absurd (omega arith)
    go false p y q l u = absurd (omega arith)

-- a first byte that is no digit from 1 to 9
no_number : (a : ℕ) (more : List ℕ) → (digit a < 1) ⊎ (10 ≤ digit a) → account_number a more ≡ no_account
unfolding account_number
no_number a more h = go (leb 49 a) refl (leb a 57) refl (all_digits more && leb (decimal (digit a) more) account_limit)
  where
    out : digit a ≡ a - 48 → 49 ≤ a → a ≤ 57 → (digit a < 1) ⊎ (10 ≤ digit a) → ⊥
    out e l u (inl k) = omega arith
    out e l u (inr k) = omega arith

    go : (x : Bool) → leb 49 a ≡ x → (y : Bool) → leb a 57 ≡ y → (z : Bool) → cond ((x && y) && z) (decimal (digit a) more) no_account ≡ no_account
    go true p true q z =
        let l : 49 ≤ a = leb-true 49 a p in
        let u : a ≤ 57 = leb-true a 57 q in
        absurd (out (digit_is a (omega arith) u) l u h)
    go true p false q z = refl
    go false p y q z = refl

-- a field of one byte that is no dash
module _ (b : ℕ) (h : b ≡ 45 → ⊥) {d : ℕ} (e : d ≡ digit b) where
  pub byte_low : d < 1 → no_account ≡ account (b ∷ [])
  unfolding account
  byte_low l = rw (ne_eqb b 45 h) (sym (no_number b [] (inl (omega arith))))

  pub byte_no_digit : 10 ≤ d → no_account ≡ account (b ∷ [])
  unfolding account
  byte_no_digit l = rw (ne_eqb b 45 h) (sym (no_number b [] (inr (omega arith))))

-- one digit more
module _ (n b : ℕ) {d : ℕ} (e : d ≡ digit b) where
  pub longer_no_digit : 10 ≤ d → None ≡ longer n b
  unfolding longer
  longer_no_digit h = rw (← e, le-ltb d 10 h)

  module _ (h : d < 10) where
    pub longer_big : account_limit < 10 * n + d → None ≡ longer n b
    unfolding longer
    longer_big l = rw (← e, lt-ltb d 10 h, lt-leb (10 * n + d) account_limit l)

    pub longer-good : 10 * n + d ≤ account_limit → Some (10 * n + d) ≡ longer n b
    unfolding longer
    longer-good l = rw (← e, lt-ltb d 10 h, le-leb (10 * n + d) account_limit l)

last_digit : (o : Option ℕ) → o ≡ option_and_then (λ m. number m []) o
unfolding number
last_digit None = refl
last_digit (Some m) = refl

-- a first byte and the bytes w behind it
pub account_one : (a : ℕ) (w : List ℕ) → length w ≡ 0 → account (a ∷ []) ≡ account (a ∷ w)
account_one a [] e = refl
account_one a (b ∷ w) e = absurd (omega arith)

module _ (a : ℕ) (w : List ℕ) (h : 1 ≤ length w) where
  by_number : account_number a w ≡ account (a ∷ w)
  unfolding account
  by_number = go w h
    where
      go : (w : List ℕ) → 1 ≤ length w → account_number a w ≡ account (a ∷ w)
      go [] l = absurd (omega arith)
      go (b ∷ w) l = refl

  module _ {d : ℕ} (e : d ≡ digit a) where
    pub account_low : d < 1 → no_account ≡ account (a ∷ w)
    account_low l = sym (no_number a w (inl (omega arith))) ∙ by_number

    pub account_no_digit : 10 ≤ d → no_account ≡ account (a ∷ w)
    account_no_digit l = sym (no_number a w (inr (omega arith))) ∙ by_number

    module _ (low : 1 ≤ d) (high : d < 10) where
      first_digit : number 0 (a ∷ w) ≡ number d w
      unfolding number longer
      first_digit =
          let z : 10 * 0 + d ≡ d = omega arith in
          rw (← e, lt-ltb d 10 high, z, le-leb d account_limit (omega arith))

      by_digits : number d w ≡ below no_account (account (a ∷ w))
      by_digits =
          let (p, q) = digit_bytes a (omega arith) (omega arith) in
          sym first_digit ∙ account_digits (a ∷ w) (omega arith) p q

      pub account_two : length w ≡ 1 → longer d (get_or w 0 0) ≡ below no_account (account (a ∷ w))
      unfolding number
      account_two s = go w s ∙ by_digits
        where
          go : (w : List ℕ) → length w ≡ 1 → longer d (get_or w 0 0) ≡ number d w
          go [] s = absurd (omega arith)
          go (b ∷ []) s = last_digit (longer d b)
          go (b ∷ c ∷ w) s = absurd (omega arith)

      pub account_three : length w ≡ 2 → option_and_then (λ m. longer m (get_or w 1 0)) (longer d (get_or w 0 0)) ≡ below no_account (account (a ∷ w))
      unfolding number
      account_three s = go w s ∙ by_digits
        where
          next : (c : ℕ) (o : Option ℕ) → option_and_then (λ m. longer m c) o ≡ option_and_then (λ m. number m (c ∷ [])) o
          next c None = refl
          next c (Some m) = last_digit (longer m c)

          go : (w : List ℕ) → length w ≡ 2 → option_and_then (λ m. longer m (get_or w 1 0)) (longer d (get_or w 0 0)) ≡ number d w
          go [] s = absurd (omega arith)
          go (b ∷ []) s = absurd (omega arith)
          go (b ∷ c ∷ []) s = next c (longer d b)
          go (b ∷ c ∷ x ∷ w) s = absurd (omega arith)

  pub account_too_long : (length w ≡ 1 → ⊥) → (length w ≡ 2 → ⊥) → no_account ≡ account (a ∷ w)
  account_too_long p q = go w h p q
    where
      go : (w : List ℕ) → 1 ≤ length w → (length w ≡ 1 → ⊥) → (length w ≡ 2 → ⊥) → no_account ≡ account (a ∷ w)
      go [] l p q = absurd (omega arith)
      go (b ∷ []) l p q = absurd (p refl)
      go (b ∷ c ∷ []) l p q = absurd (q refl)
      go (b ∷ c ∷ x ∷ w) l p q = sym (account_long (a ∷ b ∷ c ∷ x ∷ w) (omega arith))

-- ── an account's field ──
-- what is read of it: the account, if it writes one, whether it is its line's last, and the position behind what ends it
pub record AccountRead : Type 0 where
  pub account : Option ℕ
  pub last : Bool
  pub next : ℕ

abbrev pub account_made : (account : Option ℕ) → (last : Bool) → (next : ℕ) → AccountRead
account_made a l n = record { account = a; last = l; next = n }

abbrev pub account_by : (f : Read) → AccountRead
account_by f = account_made (below no_account (account f.bytes)) f.last f.next

-- a first byte that ends no field, and the field behind it
abbrev pub account_behind : (a : ℕ) → (rest : Read) → AccountRead
account_behind a f = account_made (below no_account (account (a ∷ f.bytes))) f.last f.next

-- the account at a position, if a tab or a newline ends its field within four bytes
unfoldable pub account_at : (text : List ℕ) → (at : ℕ) → Option AccountRead
account_at s i = option_map account_by (field_at 4 s i)

-- a field by its first byte, which ends no field
abbrev byte_behind : (a : ℕ) → (rest : Read) → Read
byte_behind a f = made (a ∷ f.bytes) f.last f.next

field_step : (k : ℕ) (s : List ℕ) (i : ℕ) {a : ℕ} → a ≡ get_or s i 256 → stops a ≡ false
    → field_at (suc k) s i ≡ option_map (byte_behind a) (field_at k s (suc i))
unfolding field_at
field_step k s i {a = a} e h =
    ap (option_map (sized s i)) (byte_step k s i ∙ rw (← e, h)) ∙ go (field_size k (drop (suc i) s)) refl
  where
    go : (o : Option ℕ) → field_size k (drop (suc i) s) ≡ o
        → option_map (sized s i) (option_map suc o) ≡ option_map (byte_behind a) (option_map (sized s (suc i)) o)
    go None p = refl
    go (Some n) p =
        let l = (size_inside k (drop (suc i) s) n p).1 in
        let f : drop i s ≡ get_or s i 256 ∷ drop (suc i) s = drop-cons s i 256 (omega (arith, length-drop (suc i) s)) in
        let m : i + suc n + 1 ≡ suc i + n + 1 = omega arith in
        rw (f, m, e)

-- what is found from the first byte on
module _ (s : List ℕ) (i : ℕ) {a : ℕ} (e : a ≡ get_or s i 256) where
  pub account-empty : stops a ≡ true → Some (account_made None (eqb a 10) (i + 1)) ≡ account_at s i
  unfolding account_at account
  account-empty h = rw (← empty_at 3 s i e h)

  -- a byte lies inside the text
  pub account-inside : (a ≡ 256 → ⊥) → i < length s
  account-inside h = inside_getD s i 256 (λ q. h (e ∙ q))

  pub account_full : stops a ≡ false → (f : Option Read) → f ≡ field_at 3 s (i + 1) → (r : Option AccountRead) → r ≡ option_map (account_behind a) f
      → r ≡ account_at s i
  unfolding account_at
  account_full h f q r k =
      let z : i + 1 ≡ suc i = omega arith in
      k ∙ ap (option_map (account_behind a)) (q ∙ ap (λ j. field_at 3 s j) z) ∙ go (field_at 3 s (suc i)) ∙ ap (option_map account_by) (sym (field_step 3 s i e h))
    where
      go : (o : Option Read) → option_map (account_behind a) o ≡ option_map account_by (option_map (byte_behind a) o)
      go None = refl
      go (Some f) = refl

-- at most four bytes of a field are looked at
pub account_small : (s : List ℕ) (i : ℕ) (f : AccountRead) → account_at s i ≡ Some f → f.next ≤ i + 4
unfolding account_at
account_small s i f e = go (field_at 4 s i) refl e
  where
    go : (o : Option Read) → field_at 4 s i ≡ o → option_map account_by o ≡ Some f → f.next ≤ i + 4
    go None p q = absurd (cc)
    go (Some g) p q =
        let r : account_by g ≡ f = cc in
        let z : g.next ≡ f.next = ap (λ x. x.next) r in
        omega (arith, field_small 4 s i g p, (field_at-is 4 s i g p).behind)
