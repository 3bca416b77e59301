-- Document 03's lines and fields are those of loading: the same cut, and each field says the same place, account or letter.
use Rattle.std.specs.Prelude.{◌≡◌, refl, Bool, true, false, ◌&&◌, not, cond, List, [], ◌∷◌, map, ℕ, suc, ◌+◌, ◌*◌, ◌-◌, ◌≤◌, ◌<◌, ltb, leb, eqb, length, get_or}
use Rattle.std.proofs.Common.{sym, ap, subst, ◌∙◌, arith, leb-true, le-leb, eqb-true, ltb-true, lt-ltb, ne_eqb}
use Rattle.std.proofs.lemmas.Bool.{false≢true, lt-leb, eqb-false}
use Rattle.std.proofs.Math.Decide.{dec_le}
use Rattle.syntax.specs.Bools.{and_fst, and_snd}
use Rattle.syntax.specs.Letter.{is_letter}
use Rattle.syntax.specs.Table.{account_limit}
use Rattle.fields.specs.Text.{Row, byte_front, row_front, rows, digit, one_digit, two_digits, place, single}
use Rattle.fields.specs.Text.{all_digits, decimal, no_account, account_number, account}
use Rattle.fields.specs.AccountLaws.{digit_is, account_long}
use Rattle.theorems.specs.Paper03Pattern.{Line as TextLine, put_front, closed_empty, lines, put_piece, fields, is_digit, place_value, is_place}
use Rattle.theorems.specs.Paper03Pattern.{letter_byte, is_letter as is_letter_field, account_value}

-- ── lines and their fields ──
abbrev pub row_of : TextLine → Row
row_of x = record { fields = fields x.text; closed = x.closed }

piece-front : (b : ℕ) (ws : List (List ℕ)) → byte_front b ws ≡ put_piece b ws
unfolding put_piece
piece-front b [] = refl
piece-front b (w ∷ ws) = refl

-- a tab in front of a line starts a field, another byte goes to the first field
tab_front : (b : ℕ) (ls : List TextLine) → eqb b 9 ≡ true → row_front (λ fs. [] ∷ fs) (map row_of ls) ≡ map row_of (put_front b ls)
unfolding put_front fields
tab_front b [] e = ap (λ c. record { fields = cond c ([] ∷ ([] ∷ [])) (put_piece b ([] ∷ [])); closed = false } ∷ []) (sym e)
tab_front b (x ∷ ls) e =
    ap (λ c. record { fields = cond c ([] ∷ fields x.text) (put_piece b (fields x.text)); closed = x.closed } ∷ map row_of ls) (sym e)

byte_in_front : (b : ℕ) (ls : List TextLine) → eqb b 9 ≡ false → row_front (byte_front b) (map row_of ls) ≡ map row_of (put_front b ls)
unfolding put_front fields
byte_in_front b [] e =
    ap (λ w. record { fields = w; closed = false } ∷ []) (piece-front b ([] ∷ []))
    ∙ ap (λ c. record { fields = cond c ([] ∷ ([] ∷ [])) (put_piece b ([] ∷ [])); closed = false } ∷ []) (sym e)
byte_in_front b (x ∷ ls) e =
    ap (λ w. record { fields = w; closed = x.closed } ∷ map row_of ls) (piece-front b (fields x.text))
    ∙ ap (λ c. record { fields = cond c ([] ∷ fields x.text) (put_piece b (fields x.text)); closed = x.closed } ∷ map row_of ls) (sym e)

pub rows_are : (text : List ℕ) → rows text ≡ map row_of (lines text)
unfolding rows lines fields
rows_are [] = refl
rows_are (b ∷ bs) = go (eqb b 10) (eqb b 9) refl (rows_are bs)
  where
    go : (ten nine : Bool) → eqb b 9 ≡ nine → rows bs ≡ map row_of (lines bs)
        → cond ten (record { fields = [] ∷ []; closed = true } ∷ rows bs)
        (cond nine (row_front (λ fs. [] ∷ fs) (rows bs)) (row_front (byte_front b) (rows bs)))
        ≡ map row_of (cond ten (closed_empty ∷ lines bs) (put_front b (lines bs)))
    go true nine e q = ap (λ l. record { fields = [] ∷ []; closed = true } ∷ l) q
    go false true e q = ap (row_front (λ fs. [] ∷ fs)) q ∙ tab_front b (lines bs) e
    go false false e q = ap (row_front (byte_front b)) q ∙ byte_in_front b (lines bs) e

-- ── what a field says ──
above : (a : ℕ) → 48 ≤ a → (a ≡ 48 → ⊥) → 49 ≤ a
above a h n = go (dec_le 49 a)
  where
    go : Dec (49 ≤ a) → 49 ≤ a
    go (yes k) = k
    go (no k) = absurd (n (omega arith))

pub place_same : (w : List ℕ) → place_value w < 64 → place w ≡ place_value w
unfolding place_value is_digit place one_digit two_digits digit
place_same [] h = absurd (omega arith)
place_same (a ∷ []) h = go (leb 48 a && leb a 57) refl h
  where
    go : (d : Bool) → (leb 48 a && leb a 57) ≡ d → cond d (a - 48) 64 < 64
        → cond (ltb (cond d (a - 48) 10) 10) (cond d (a - 48) 10) 64 ≡ cond d (a - 48) 64
    go false e k = absurd (omega arith)
    go true e k = let z = leb-true a 57 (and_snd (leb 48 a) (leb a 57) e) in rw (lt-ltb (a - 48) 10 (omega arith)) refl
place_same (a ∷ b ∷ []) h = go (leb 48 a && leb a 57) refl (leb 48 b && leb b 57) refl (eqb a 48) refl h
  where
    go : (d : Bool) → (leb 48 a && leb a 57) ≡ d → (f : Bool) → (leb 48 b && leb b 57) ≡ f → (z : Bool) → eqb a 48 ≡ z
        → cond (d && (f && not z)) (10 * (a - 48) + (b - 48)) 64 < 64
        → cond ((leb 1 (cond d (a - 48) 10) && leb (cond d (a - 48) 10) 9)
        && (leb (cond f (b - 48) 10) 9 && ltb (10 * cond d (a - 48) 10 + cond f (b - 48) 10) 64)) (10 * cond d (a - 48) 10 + cond f (b - 48) 10) 64
        ≡ cond (d && (f && not z)) (10 * (a - 48) + (b - 48)) 64
    go true e true q false n k =
        let low = leb-true 48 a (and_fst (leb 48 a) (leb a 57) e) in
        let high = leb-true a 57 (and_snd (leb 48 a) (leb a 57) e) in
        let last = leb-true b 57 (and_snd (leb 48 b) (leb b 57) q) in
        let one = above a low (eqb-false a 48 n) in
        rw (le-leb 1 (a - 48) (omega arith), le-leb (a - 48) 9 (omega arith), le-leb (b - 48) 9 (omega arith), lt-ltb (10 * (a - 48) + (b - 48)) 64 k) refl
    go true e true q true n k = absurd (omega arith)
    go true e false q z n k = absurd (omega arith)
    go false e f q z n k = absurd (omega arith)
place_same (a ∷ b ∷ c ∷ more) h = absurd (omega arith)

pub is_place_same : (w : List ℕ) → is_place w ≡ true → (place w ≡ place_value w) × (ltb (place w) 64 ≡ true)
unfolding is_place
is_place_same w h = let e = place_same w (ltb-true (place_value w) 64 h) in (e, ap (λ k. ltb k 64) e ∙ h)

pub long : (more : List ℕ) → eqb (suc (suc (length more))) 1 ≡ false
long more = ne_eqb (suc (suc (length more))) 1 (λ z. omega arith)

-- a byte that is a digit, and one that is none
byte_digit : (b : ℕ) → is_digit b ≡ true → digit b ≡ b - 48
unfolding is_digit digit
byte_digit b h = rw h

byte_other : (b : ℕ) → is_digit b ≡ false → digit b ≡ 10
unfolding is_digit digit
byte_other b h = rw h

pub byte_small : (b : ℕ) → is_digit b ≡ true → b ≤ 57
unfolding is_digit
byte_small b h = leb-true b 57 (and_snd (leb 48 b) (leb b 57) h)

pub account_same : (w : List ℕ) → account_value w ≡ account w
unfolding account_value account account_number all_digits decimal
account_same [] = refl
account_same (a ∷ []) = go (eqb a 45) (leb 49 a) refl (leb a 57) refl
  where
    go : (dash x : Bool) → leb 49 a ≡ x → (y : Bool) → leb a 57 ≡ y
        → cond dash 0 (cond (x && y) (a - 48) 201) ≡ cond dash 0 (cond ((x && y) && (true && leb (digit a) account_limit)) (digit a) no_account)
    go true x p y q = refl
    go false true p true q =
        let l = leb-true 49 a p in
        let u = leb-true a 57 q in
        rw (digit_is a (omega arith) u, le-leb (a - 48) account_limit (omega arith)) refl
    go false true p false q = refl
    go false false p y q = refl
account_same (a ∷ b ∷ []) = go (leb 49 a) refl (leb a 57) refl (is_digit b) refl
  where
    go : (x : Bool) → leb 49 a ≡ x → (y : Bool) → leb a 57 ≡ y → (z : Bool) → is_digit b ≡ z
        → cond ((x && y) && z) (10 * (a - 48) + (b - 48)) 201
        ≡ cond ((x && y) && ((ltb (digit b) 10 && true) && leb (10 * digit a + digit b) account_limit)) (10 * digit a + digit b) no_account
    go true p true q true r =
        let l = leb-true 49 a p in
        let u = leb-true a 57 q in
        let s = byte_small b r in
        rw (
          digit_is a (omega arith) u,
          byte_digit b r,
          lt-ltb (b - 48) 10 (omega arith),
          le-leb (10 * (a - 48) + (b - 48)) account_limit (omega arith),
        ) refl
    go true p true q false r = rw (byte_other b r) refl
    go true p false q z r = refl
    go false p y q z r = refl
account_same (a ∷ b ∷ c ∷ []) = go (leb 49 a) refl (leb a 57) refl (is_digit b) refl (is_digit c) refl
  where
    go : (x : Bool) → leb 49 a ≡ x → (y : Bool) → leb a 57 ≡ y → (z : Bool) → is_digit b ≡ z → (w : Bool) → is_digit c ≡ w
        → cond ((x && y) && (z && (w && leb (10 * (10 * (a - 48) + (b - 48)) + (c - 48)) 200))) (10 * (10 * (a - 48) + (b - 48)) + (c - 48)) 201
        ≡ cond ((x && y) && ((ltb (digit b) 10 && (ltb (digit c) 10 && true)) && leb (10 * (10 * digit a + digit b) + digit c) account_limit))
        (10 * (10 * digit a + digit b) + digit c) no_account
    go true p true q true r true t =
        let l = leb-true 49 a p in
        let u = leb-true a 57 q in
        let s = byte_small b r in
        let m = byte_small c t in
        rw (
          digit_is a (omega arith) u,
          byte_digit b r,
          byte_digit c t,
          lt-ltb (b - 48) 10 (omega arith),
          lt-ltb (c - 48) 10 (omega arith),
        ) refl
    go true p true q true r false t =
        let s = byte_small b r in
        rw (byte_digit b r, byte_other c t, lt-ltb (b - 48) 10 (omega arith)) refl
    go true p true q false r w t = rw (byte_other b r) refl
    go true p false q z r w t = refl
    go false p y q z r w t = refl
account_same (a ∷ b ∷ c ∷ d ∷ more) = sym (account_long (a ∷ b ∷ c ∷ d ∷ more) (omega arith))

pub letter_same : (w : List ℕ) → is_letter_field w ≡ true → (is_letter (single w) ≡ true) × (get_or w 0 0 ≡ single w)
unfolding is_letter_field letter_byte is_letter single
letter_same [] h = absurd (false≢true h)
letter_same (a ∷ []) h = (h, refl)
letter_same (a ∷ b ∷ more) h =
    absurd (false≢true (sym (long more) ∙ and_fst (eqb (suc (suc (length more))) 1) (letter_byte a) h))

-- ── and the other way ──
pub place-back : (w : List ℕ) → place w < 64 → place_value w ≡ place w
unfolding place_value is_digit place one_digit two_digits digit
place-back [] h = absurd (omega arith)
place-back (a ∷ []) h = go (leb 48 a && leb a 57) refl h
  where
    go : (d : Bool) → (leb 48 a && leb a 57) ≡ d → cond (ltb (cond d (a - 48) 10) 10) (cond d (a - 48) 10) 64 < 64
        → cond d (a - 48) 64 ≡ cond (ltb (cond d (a - 48) 10) 10) (cond d (a - 48) 10) 64
    go false e k = absurd (omega arith)
    go true e k = let z = leb-true a 57 (and_snd (leb 48 a) (leb a 57) e) in rw (lt-ltb (a - 48) 10 (omega arith)) refl
place-back (a ∷ b ∷ []) h = go (leb 48 a && leb a 57) refl (leb 48 b && leb b 57) (eqb a 48) refl h
  where
    go : (d : Bool) → (leb 48 a && leb a 57) ≡ d → (f : Bool) → (z : Bool) → eqb a 48 ≡ z
        → cond ((leb 1 (cond d (a - 48) 10) && leb (cond d (a - 48) 10) 9)
        && (leb (cond f (b - 48) 10) 9 && ltb (10 * cond d (a - 48) 10 + cond f (b - 48) 10) 64)) (10 * cond d (a - 48) 10 + cond f (b - 48) 10) 64 < 64
        → cond (d && (f && not z)) (10 * (a - 48) + (b - 48)) 64
        ≡ cond ((leb 1 (cond d (a - 48) 10) && leb (cond d (a - 48) 10) 9)
        && (leb (cond f (b - 48) 10) 9 && ltb (10 * cond d (a - 48) 10 + cond f (b - 48) 10) 64)) (10 * cond d (a - 48) 10 + cond f (b - 48) 10) 64
    go false e f z n k = absurd (omega arith)
    go true e false z n k = absurd (none_here (leb 1 (a - 48) && leb (a - 48) 9) k)
      where
        none_here : (g : Bool) → cond (g && false) (10 * (a - 48) + 10) 64 < 64 → ⊥
        none_here true q = omega arith
        none_here false q = omega arith
    go true e true true n k =
        let q = eqb-true a 48 n in
        let z : a - 48 ≡ 0 = omega arith in
        absurd (no_zero (a - 48) z k)
      where
        no_zero : (x : ℕ) → x ≡ 0
            → cond ((leb 1 x && leb x 9) && (leb (b - 48) 9 && ltb (10 * x + (b - 48)) 64)) (10 * x + (b - 48)) 64 < 64 → ⊥
        no_zero x e q =
            let o : leb 1 x ≡ false = lt-leb 1 x (omega arith) in
            let r : cond ((false && leb x 9) && (leb (b - 48) 9 && ltb (10 * x + (b - 48)) 64)) (10 * x + (b - 48)) 64 < 64 =
            subst (λ c. cond ((c && leb x 9) && (leb (b - 48) 9 && ltb (10 * x + (b - 48)) 64)) (10 * x + (b - 48)) 64 < 64) o q in
            omega (arith, r)
    go true e true false n k = within ((leb 1 (a - 48) && leb (a - 48) 9) && (leb (b - 48) 9 && ltb (10 * (a - 48) + (b - 48)) 64)) k
      where
        within : (g : Bool) → cond g (10 * (a - 48) + (b - 48)) 64 < 64 → 10 * (a - 48) + (b - 48) ≡ cond g (10 * (a - 48) + (b - 48)) 64
        within true q = refl
        within false q = absurd (omega arith)
place-back (a ∷ b ∷ c ∷ more) h = absurd (omega arith)

pub is_place-back : (w : List ℕ) → ltb (place w) 64 ≡ true → is_place w ≡ true
unfolding is_place
is_place-back w h = ap (λ k. ltb k 64) (place-back w (ltb-true (place w) 64 h)) ∙ h

pub letter_back : (w : List ℕ) → is_letter (single w) ≡ true → (is_letter_field w ≡ true) × (get_or w 0 0 ≡ single w)
unfolding is_letter_field letter_byte is_letter single
letter_back [] h = absurd (false≢true h)
letter_back (a ∷ []) h = (h, refl)
letter_back (a ∷ b ∷ more) h = absurd (false≢true h)
