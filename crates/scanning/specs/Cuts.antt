-- How a field that was read cuts the first line of a text.
use Rattle.std.specs.Prelude.{◌≡◌, refl, Bool, true, false, ◌||◌, not, cond, List, [], ◌∷◌, ℕ, zero, suc, ◌+◌, ◌≤◌, ◌<◌, eqb, ltb, length, get_or, drop, take, None, Some, position}
use Rattle.std.specs.List.{position_or_len}
use Rattle.std.proofs.Common.{sym, ap, ◌∙◌, true≢false, arith, eqb-true, ne_eqb, ltb-false, le-ltb}
use Rattle.std.proofs.lemmas.List.Quantifiers.{position-Some}
use Rattle.fields.specs.Text.{byte_front}
use Rattle.fields.specs.Fields.{stops, field_size}
use Rattle.scanning.specs.Scans.{first_fields, first_closed, first_size}

-- the line w begins with the field of n bytes, which a tab or a newline ends
pub data Cut (w : List ℕ) (n : ℕ) : Type 0 where
  tab :
      get_or w n 0 ≡ 9 → first_fields w ≡ take n w ∷ first_fields (drop (suc n) w) → first_closed w ≡ first_closed (drop (suc n) w)
      → first_size w ≡ suc n + first_size (drop (suc n) w) → Cut w n
  newline : get_or w n 0 ≡ 10 → first_fields w ≡ take n w ∷ [] → first_closed w ≡ true → first_size w ≡ n → Cut w n

-- the line w does not end, or its first field has k bytes or more
pub data NoCut (k : ℕ) (w : List ℕ) : Type 0 where
  unclosed : first_closed w ≡ false → NoCut k w
  long : (y : List ℕ) (more : List (List ℕ)) → k ≤ length y → first_fields w ≡ y ∷ more → NoCut k w

-- a byte that ends no field
module _ (a : ℕ) (bs : List ℕ) (h : stops a ≡ false) where
  no_tab : eqb a 9 ≡ false
  no_tab = go (eqb a 9) (eqb a 10) h
    where
      go : (x y : Bool) → (x || y) ≡ false → x ≡ false
      go true y e = e
      go false y e = refl

  no_newline : eqb a 10 ≡ false
  no_newline = go (eqb a 9) (eqb a 10) h
    where
      go : (x y : Bool) → (x || y) ≡ false → y ≡ false
      go true y e = absurd (true≢false e)
      go false y e = e

  plain-fields : first_fields (a ∷ bs) ≡ byte_front a (first_fields bs)
  unfolding first_fields
  plain-fields = rw (no_newline, no_tab)

  plain_closed : first_closed (a ∷ bs) ≡ first_closed bs
  unfolding first_closed
  plain_closed = rw no_newline

  plain_size : first_size (a ∷ bs) ≡ suc (first_size bs)
  unfolding first_size
  plain_size = rw no_newline

  cut_step : {n : ℕ} → Cut bs n → Cut (a ∷ bs) (suc n)
  cut_step (tab e f c z) = tab e (plain-fields ∙ ap (byte_front a) f) (plain_closed ∙ c) (plain_size ∙ omega arith)
  cut_step (newline e f c z) = newline e (plain-fields ∙ ap (byte_front a) f) (plain_closed ∙ c) (plain_size ∙ ap suc z)

  no_cut_step : {k : ℕ} → NoCut k bs → NoCut (suc k) (a ∷ bs)
  no_cut_step (unclosed c) = unclosed (plain_closed ∙ c)
  no_cut_step (long y more l i) = long (a ∷ y) more (omega arith) (plain-fields ∙ ap (byte_front a) i)

cut_stop : (a : ℕ) (bs : List ℕ) → stops a ≡ true → Cut (a ∷ bs) 0
unfolding first_fields first_closed first_size
cut_stop a bs h = go (eqb a 9) (eqb a 10) refl refl h
  where
    go : (x y : Bool) → eqb a 9 ≡ x → eqb a 10 ≡ y → (x || y) ≡ true → Cut (a ∷ bs) 0
    go true y p q t =
        let e : a ≡ 9 = eqb-true a 9 p in
        let n : eqb a 10 ≡ false = ne_eqb a 10 (λ k. omega arith) in
        tab e (rw (n, p)) (rw n) (rw n (omega arith))
    go false true p q t = newline (eqb-true a 10 q) (rw q) (rw q) (rw q)
    go false false p q t = absurd (true≢false (sym t))

cut_at : (w : List ℕ) (n : ℕ) → n < length w → stops (get_or w n 0) ≡ true → ((k : ℕ) → k < n → stops (get_or w k 0) ≡ false) → Cut w n
cut_at [] n l e h = absurd (omega arith)
cut_at (a ∷ w) zero l e h = cut_stop a w e
cut_at (a ∷ w) (suc n) l e h = cut_step a w (h 0 (omega arith)) (cut_at w n (omega arith) e (λ k m. h (suc k) (omega arith)))

pub cut : (w : List ℕ) (n : ℕ) → position stops w ≡ Some n → Cut w n
cut w n e = let f = position-Some stops w n 0 e in cut_at w n f.0 f.1 f.2

-- a line has a first field
pub record SomeField (w : List ℕ) : Type 0 where
  pub front : List ℕ
  pub more : List (List ℕ)
  pub is : first_fields w ≡ front ∷ more

pub some-field : (w : List ℕ) → SomeField w
unfolding first_fields
some-field [] = record { front = []; more = []; is = refl }
some-field (b ∷ bs) = go (eqb b 10) refl (eqb b 9) refl (some-field bs)
  where
    go : (x : Bool) → eqb b 10 ≡ x → (y : Bool) → eqb b 9 ≡ y → SomeField bs → SomeField (b ∷ bs)
    go true p y q s = record { front = []; more = []; is = rw p }
    go false p true q s = record { front = []; more = first_fields bs; is = rw (p, q) }
    go false p false q s = record { front = b ∷ s.front; more = s.more; is = rw (p, q, s.is) }

-- a position that is none is past the end
past : (m n : ℕ) → cond (ltb m n) (Some m) None ≡ None → n ≤ m
past m n e = go (ltb m n) refl e
  where
    go : (b : Bool) → ltb m n ≡ b → cond b (Some m) None ≡ None → n ≤ m
    go true p e = absurd (cc)
    go false p e = ltb-false m n p

no_cut_in : (k : ℕ) (w : List ℕ) → position stops (take k w) ≡ None → NoCut k w
unfolding first_closed
no_cut_in k [] e = unclosed refl
no_cut_in zero (b ∷ w) e = let f = some-field (b ∷ w) in long f.front f.more (omega arith) f.is
no_cut_in (suc k) (b ∷ w) e =
    go (stops b) refl (past (position_or_len stops (b ∷ take k w)) (suc (length (take k w))) e) (no_cut_in k w)
  where
    go : (t : Bool) → stops b ≡ t → suc (length (take k w)) ≤ cond (not t) (1 + position_or_len stops (take k w)) 0
        → (position stops (take k w) ≡ None → NoCut k w) → NoCut (suc k) (b ∷ w)
    go true p l f = absurd (omega arith)
    go false p l f = no_cut_step b w p (f (rw (le-ltb (position_or_len stops (take k w)) (length (take k w)) (omega arith))))

pub no_cut : (k : ℕ) (w : List ℕ) → field_size k w ≡ None → NoCut k w
unfolding field_size
no_cut k w e = no_cut_in k w e
