-- Putting bytes into a buffer, one law for each way of the code. `sets` of the logic's library stores a list from an index on.
use Rattle.std.specs.Prelude.{◌≡◌, refl, List, [], ◌∷◌, ◌++◌, ◌⊎◌, ℕ, suc, ◌+◌, ◌/◌, ◌%◌, ◌≤◌, ◌<◌, min, length, drop, get_or, set}
use Rattle.std.proofs.Common.{sym, ap, ap₂, ◌∙◌, append_assoc, inl, inr, ⊎_elim, add-one, add-zero, arith, length-append, length-drop, drop-cons}
use Rattle.std.proofs.Math.Nat.{min-eq_left}
use Rattle.std.proofs.Math.Decide.{dec_lt}
use Rattle.std.proofs.lemmas.List.Edits.{sets, sets-eq}
use Rattle.std.proofs.Math.Seq.{length-sets, set_out}
use Rattle.refusals.specs.Refusals.{answer}
use Rattle.text.specs.Text.{PutsTo, Puts, hex_digit, hex_byte, hex, pair, entry, line, refused_word, refused_line}

pub le_or : (a b : ℕ) → (a ≤ b) ⊎ (b ≤ a)
le_or a b = go (dec_lt a b) where
  go : Dec (a < b) → (a ≤ b) ⊎ (b ≤ a)
  go (yes h) = inl (omega arith)
  go (no h) = inr (omega arith)

-- past the end nothing is put
sets_out : (vs l : List ℕ) (i : ℕ) → length l ≤ i → sets l i vs ≡ l
sets_out [] l i h = refl
sets_out (v ∷ vs) l i h = ap (λ x. sets x (suc i) vs) (set_out l i v h) ∙ sets_out vs l (suc i) (omega arith)

sets_clamp : (vs l : List ℕ) (i most : ℕ) → length l ≤ most → sets l (min i most) vs ≡ sets l i vs
sets_clamp vs l i most h = ⊎_elim
    (λ a. ap (λ k. sets l k vs) (min-eq_left a))
    (λ b. sets_out vs l (min i most) (omega arith) ∙ sym (sets_out vs l i (omega arith)))
    (le_or i most)

sets-append : (xs ys l : List ℕ) (i : ℕ) → sets (sets l i xs) (i + length xs) ys ≡ sets l i (xs ++ ys)
sets-append [] ys l i = ap (λ k. sets l k ys) (add-zero i)
sets-append (x ∷ xs) ys l i =
    let e : i + suc (length xs) ≡ suc i + length xs = omega arith in
    ap (λ k. sets (sets (set l i x) (suc i) xs) k ys) e ∙ sets-append xs ys (set l i x) (suc i)

-- what is put in two goes
sets_then : (xs ys l : List ℕ) (i most : ℕ) → length l ≤ most
    → sets (sets l i xs) (min (i + length xs) most) ys ≡ sets l i (xs ++ ys)
sets_then xs ys l i most h =
    sets_clamp ys (sets l i xs) (i + length xs) most (omega (arith, length-sets l i xs)) ∙ sets-append xs ys l i

-- ── one byte ──
pub put_in : (most : ℕ) (out : List ℕ) (at b : ℕ) → at < most → PutsTo most out at (b ∷ []) (set out at b) (at + 1)
put_in most out at b h = record { leaves = refl; ends = omega arith }

pub put_full : (most : ℕ) (out : List ℕ) (at b : ℕ) → length out ≤ at → most ≤ at + 1 → PutsTo most out at (b ∷ []) out most
put_full most out at b h k = record { leaves = sym (set_out out at b h); ends = omega arith }

-- ── one behind the other ──
module _ (out : List ℕ) (at : ℕ) where
  pub puts_as : (xs ys after : List ℕ) (r : ℕ) → xs ≡ ys → Puts out at xs after r → Puts out at ys after r
  puts_as xs ys after r e p = record { leaves = p.leaves ∙ ap (sets out at) e; ends = omega (arith, p.ends, ap length e) }

  pub puts_then : (xs mid : List ℕ) (r : ℕ) (ys after : List ℕ) (s : ℕ)
      → Puts out at xs mid r → Puts mid r ys after s → Puts out at (xs ++ ys) after s
  puts_then xs mid r ys after s p q = record {
    leaves = q.leaves ∙ ap₂ (λ l k. sets l k ys) p.leaves p.ends ∙ sets_then xs ys out at (length out) (omega arith);
    ends = omega (arith, q.ends, p.ends, ap length p.leaves, length-sets out at xs, length-append xs ys);
  }

-- the answer lies within the buffer
pub puts_within : (out : List ℕ) (at : ℕ) (bytes after : List ℕ) (r : ℕ) → Puts out at bytes after r → r ≤ length after
puts_within out at bytes after r p = omega (arith, p.ends, ap length p.leaves, length-sets out at bytes)

-- what is put in front of a buffer that holds it: exactly these bytes, and the cells behind them stay
pub puts_front : (out bytes after : List ℕ) (r : ℕ) → length bytes ≤ length out → Puts out 0 bytes after r
    → (r ≡ length bytes) × (after ≡ bytes ++ drop (length bytes) out)
puts_front out bytes after r h p =
    let e : 0 + length bytes ≡ length bytes = omega arith in
    (omega (arith, p.ends), p.leaves ∙ sets-eq bytes out 0 (omega arith) ∙ ap (λ k. bytes ++ drop k out) e)

-- ── loops: what is left to put from here gives what was to be put from the start ──
pub record ToPut (most : ℕ) (start : List ℕ) (from : ℕ) (all out : List ℕ) (at : ℕ) (left : List ℕ) : Type 0 where
  pub same : sets out at left ≡ sets start from all
  pub ends : min (at + length left) most ≡ min (from + length all) most
  pub fits : at ≤ most
  pub long : length out ≡ length start
  pub room : length out ≤ most

pub put-start : (most : ℕ) (out : List ℕ) (at at' : ℕ) (all left : List ℕ) → length out ≤ most → at' ≡ min at most → left ≡ all
    → ToPut most out at all out at' left
put-start most out at at' all left h e f = record {
  same = ap₂ (λ k l. sets out k l) e f ∙ sets_clamp all out at most h;
  ends = omega (arith, ap length f);
  fits = omega arith;
  long = refl;
  room = h;
}

module _ (most : ℕ) (start : List ℕ) (from : ℕ) (all out : List ℕ) (at : ℕ) (left : List ℕ) where
  pub put_turn : (most' : ℕ) (xs rest after : List ℕ) (r : ℕ)
      → ToPut most start from all out at left → left ≡ xs ++ rest → most' ≡ most → PutsTo most' out at xs after r
      → ToPut most start from all after r rest
  put_turn most' xs rest after r t e m p =
      let ends' : r ≡ min (at + length xs) most = p.ends ∙ ap (λ k. min (at + length xs) k) m in
      let long' : length after ≡ length out = ap length p.leaves ∙ length-sets out at xs in
      record {
        same =
            ap₂ (λ l k. sets l k rest) p.leaves ends'
            ∙ sets_then xs rest out at most t.room
            ∙ sym (ap (sets out at) e)
            ∙ t.same;
        ends = omega (arith, ends', t.ends, ap length e, length-append xs rest);
        fits = omega (arith, ends');
        long = long' ∙ t.long;
        room = omega (arith, long', t.room);
      }

  pub put_done : ToPut most start from all out at left → (left ≡ []) ⊎ (length out ≤ at) × (most ≤ at) → PutsTo most start from all out at
  put_done t (inl e) = record {
    leaves = sym (ap (sets out at) e) ∙ t.same;
    ends = omega (arith, t.ends, t.fits, ap length e);
  }
  put_done t (inr h) = record {
    leaves = sym (sets_out left out at h.0) ∙ t.same;
    ends = omega (arith, t.ends, t.fits, h.1);
  }

-- ── lists from a position on ──
nil_of : (ys : List ℕ) → length ys ≤ 0 → ys ≡ []
nil_of [] h = refl
nil_of (y ∷ ys) h = absurd (omega arith)

pub drop_next : (i : ℕ) (xs : List ℕ) → i < length xs → drop i xs ≡ get_or xs i 0 ∷ drop (i + 1) xs
drop_next i xs k = drop-cons xs i 0 k ∙ ap (λ n. get_or xs i 0 ∷ drop n xs) (sym (add-one i))

pub drop_done : (i : ℕ) (xs : List ℕ) → length xs ≤ i → drop i xs ≡ []
drop_done i xs h = nil_of (drop i xs) (omega (arith, length-drop i xs))

-- ── bytes in hexadecimal ──
pub hex_pair : (b h l : ℕ) → h ≡ hex_digit (b / 16) → l ≡ hex_digit (b % 16) → (h ∷ []) ++ (l ∷ []) ≡ hex_byte b
unfolding hex_byte
hex_pair b h l eh el = ap₂ (λ x y. x ∷ y ∷ []) eh el

pub hex_turn : (i : ℕ) (xs : List ℕ) → i < length xs → hex (drop i xs) ≡ hex_byte (get_or xs i 0) ++ hex (drop (i + 1) xs)
unfolding hex
hex_turn i xs h = ap hex (drop_next i xs h)

pub hex_over : (i : ℕ) (xs : List ℕ) → length xs ≤ i → hex (drop i xs) ≡ []
unfolding hex
hex_over i xs h = ap hex (drop_done i xs h)

-- ── lines ──
pub entry_is : (word : List ℕ) (a b : ℕ) → (word ++ (9 ∷ [])) ++ pair a b ≡ entry word a b
unfolding entry
entry_is word a b = append_assoc word (9 ∷ []) (pair a b)

pub line_done : (out : List ℕ) (at : ℕ) (word : List ℕ) (a b : ℕ) (mid : List ℕ) (r x : ℕ) (after : List ℕ) (s : ℕ)
    → Puts out at (entry word a b) mid r → Puts mid r (x ∷ []) after s → x ≡ 10 → Puts out at (line word a b) after s
unfolding line
line_done out at word a b mid r x after s p q e =
    puts_as out at _ _ after s (ap (λ y. entry word a b ++ (y ∷ [])) e) (puts_then out at _ mid r _ after s p q)

pub refused_done : (out : List ℕ) (at : ℕ) (word : List ℕ) (a b : ℕ) (after : List ℕ) (r : ℕ) → Puts out at (line word a b) after r → word ≡ refused_word
    → Puts out at (refused_line (answer a b)) after r
unfolding refused_line
refused_done out at word a b after r p w = puts_as out at _ _ after r (ap (λ x. line x a b) w) p
