-- What single steps come to: of taking the cells from one place to another, of a digest, of the search for the first byte of a kind, of reading
-- hexadecimal digits and pairs of them, and of holding a line byte by byte. No answer needs these laws, since iterators, slices and Options take
-- the steps; they say what each of the definitions does in each of its cases.
use Rattle.std.specs.Prelude.{◌≡◌, refl, Bool, true, false, cond, ◌&&◌, Option, Some, None, List, [], ◌∷◌, ◌⊎◌, ℕ, zero, suc, ◌+◌, ◌-◌, ◌*◌, ◌/◌, ◌≤◌, ◌<◌, min, leb, length, take, drop, get_or}
use Rattle.std.proofs.Common.{sym, ap, ap₂, ◌∙◌, inl, ⊎_elim, arith, add-one, le-leb, leb-true, eq-eqb, ne_eqb, take_all, drop-cons, drop_of_length-le}
use Rattle.std.proofs.Math.Nat.{min-eq_left}
use Rattle.std.proofs.Math.Seq.{take-nil}
use Rattle.std.proofs.lemmas.Bool.{lt-leb}
use Rattle.std.proofs.lemmas.List.Edits.{sets}
use Rattle.text.specs.Text.{PutsTo, hex}
use Rattle.text.specs.Putting.{ToPut, le_or, drop_next, drop_done, put-start, put_turn, put_done}
use Rattle.vector_text.specs.declared.lines.Input.{Input}
use Rattle.vector_text.specs.declared.lines.Step.TheVariants.{Within, Complete}
use Rattle.vector_text.specs.Cases.{part, hex_value, byte_of, hex_pair, digest_by, shown_text, before_byte, has_byte, most_held, kept_size, chunk_left, Holds}
use Rattle.vector_text.specs.Parts.{shown_whole}
use Rattle.vector_text.specs.Hexadecimal.{first_pair}

-- ── cells from `from` to before `to`, from the front ──
module _ {A : Type 0} where
  pub part_done : (i to : ℕ) (xs : List A) → to ≤ i → part i to xs ≡ []
  part_done i to xs h = cut (to - i) (omega arith) where
    cut : (n : ℕ) → n ≤ 0 → take n (drop i xs) ≡ []
    cut zero h = refl
    cut (suc n) h = absurd (omega arith)

  pub part_over : (i to : ℕ) (xs : List A) → length xs ≤ i → part i to xs ≡ []
  part_over i to xs h = ap (take (to - i)) (drop_of_length-le xs h) ∙ take-nil (to - i)

  -- z stands for a cell that is not there
  pub part_next : (i to : ℕ) (xs : List A) (z : A) → i < to → i < length xs → part i to xs ≡ get_or xs i z ∷ part (i + 1) to xs
  part_next i to xs z h k =
      let e : to - i ≡ suc (to - (i + 1)) = omega arith in
      ap₂ take e (drop-cons xs i z k ∙ ap (λ n. get_or xs i z ∷ drop n xs) (sym (add-one i)))

  -- the first cells, as far as there are any
  pub part-front : (n m : ℕ) (xs : List A) → m ≡ min n (length xs) → take m xs ≡ part 0 n xs
  part-front n m xs e =
      let z : n - 0 ≡ n = omega arith in
      ⊎_elim
      (λ a. ap (λ k. take k xs) (e ∙ min-eq_left a ∙ sym z))
      (λ b. take_all m xs (omega arith) ∙ sym (take_all (n - 0) xs (omega arith)))
      (le_or n (length xs))

  -- ── digests ──
  pub digest_turn : (add : ℕ → A → ℕ) (d r : ℕ) (v : A) (i to : ℕ) (xs : List A) (z : A) → i < to → i < length xs → v ≡ get_or xs i z → r ≡ add d v
      → digest_by add r (part (i + 1) to xs) ≡ digest_by add d (part i to xs)
  digest_turn add d r v i to xs z h k f e =
      ap (λ m. digest_by add m (part (i + 1) to xs)) (e ∙ ap (add d) f) ∙ sym (ap (digest_by add d) (part_next i to xs z h k))

-- cells shown whole, by how many there are of those asked for
pub shown_front : (n m : ℕ) (xs : List ℕ) → n ≤ 64 → m ≡ min n (length xs) → 9 ∷ hex (take m xs) ≡ shown_text n xs
shown_front n m xs h e = shown_whole n xs (take m xs) h (part-front n m xs e)

-- ── the first byte of a kind ──
pub before_here : (stop : ℕ) (xs ys : List ℕ) (c : ℕ) → xs ≡ c ∷ ys → c ≡ stop → before_byte stop xs ≡ []
before_here stop xs ys c e h = ap (before_byte stop) e ∙ ap (λ b. cond b [] (c ∷ before_byte stop ys)) (eq-eqb c stop h)

pub before_next : (stop : ℕ) (xs ys : List ℕ) (c : ℕ) → xs ≡ c ∷ ys → (c ≡ stop → ⊥) → before_byte stop xs ≡ c ∷ before_byte stop ys
before_next stop xs ys c e h = ap (before_byte stop) e ∙ ap (λ b. cond b [] (c ∷ before_byte stop ys)) (ne_eqb c stop h)

pub has_here : (stop : ℕ) (xs ys : List ℕ) (c : ℕ) → xs ≡ c ∷ ys → c ≡ stop → has_byte stop xs ≡ true
has_here stop xs ys c e h = ap (has_byte stop) e ∙ ap (λ b. cond b true (has_byte stop ys)) (eq-eqb c stop h)

pub has_next : (stop : ℕ) (xs ys : List ℕ) (c : ℕ) → xs ≡ c ∷ ys → (c ≡ stop → ⊥) → has_byte stop xs ≡ has_byte stop ys
has_next stop xs ys c e h = ap (has_byte stop) e ∙ ap (λ b. cond b true (has_byte stop ys)) (ne_eqb c stop h)

-- the position so far and what stands before the byte from here on are together what stands before it
abbrev pub SeeksByte : (stop : ℕ) (all : List ℕ) (i : ℕ) → Type 0
SeeksByte stop all i = (i ≤ length all) × (i + length (before_byte stop (drop i all)) ≡ length (before_byte stop all))

pub seek_start : (stop : ℕ) (all : List ℕ) → SeeksByte stop all 0
seek_start stop all = (omega arith, omega arith)

pub seek_here : (stop : ℕ) (all : List ℕ) (i : ℕ) → SeeksByte stop all i → i < length all → get_or all i 0 ≡ stop → i ≡ length (before_byte stop all)
seek_here stop all i (h, k) l e = omega (arith, ap length (before_here stop (drop i all) (drop (i + 1) all) (get_or all i 0) (drop_next i all l) e))

pub seek_next : (stop : ℕ) (all : List ℕ) (i : ℕ) → SeeksByte stop all i → i < length all → (get_or all i 0 ≡ stop → ⊥) → SeeksByte stop all (i + 1)
seek_next stop all i (h, k) l e =
    (omega arith, omega (arith, ap length (before_next stop (drop i all) (drop (i + 1) all) (get_or all i 0) (drop_next i all l) e)))

pub seek_done : (stop : ℕ) (all : List ℕ) (i : ℕ) → SeeksByte stop all i → length all ≤ i → i ≡ length (before_byte stop all)
seek_done stop all i (h, k) l = omega (arith, ap (λ xs. length (before_byte stop xs)) (drop_done i all l))

-- ── hexadecimal digits ──
pub value-digit : (c : ℕ) → 48 ≤ c → c ≤ 57 → hex_value c ≡ Some (c - 48)
value-digit c h k = rw (le-leb 48 c h, le-leb c 57 k)

no_digit : (c : ℕ) (x y : Option ℕ) → 57 < c → cond (leb 48 c && leb c 57) x y ≡ y
no_digit c x y h = cases (leb 48 c) where
  cases : (b : Bool) → cond (b && leb c 57) x y ≡ y
  cases false = refl
  cases true = rw (lt-leb c 57 h)

pub value_letter : (c : ℕ) → 97 ≤ c → c ≤ 102 → hex_value c ≡ Some (c - 87)
value_letter c h k =
    no_digit c (Some (c - 48)) (cond (leb 97 c && leb c 102) (Some (c - 87)) None) (omega arith)
    ∙ ap₂ (λ a b. cond (a && b) (Some (c - 87)) None) (le-leb 97 c h) (le-leb c 102 k)

not_within : (a c b : ℕ) (x y : Option ℕ) → (a ≤ c → c ≤ b → ⊥) → cond (leb a c && leb c b) x y ≡ y
not_within a c b x y h = cases (leb a c) (leb c b) refl refl where
  cases : (s t : Bool) → leb a c ≡ s → leb c b ≡ t → cond (s && t) x y ≡ y
  cases false t e f = refl
  cases true false e f = refl
  cases true true e f = absurd (h (leb-true a c e) (leb-true c b f))

pub value_other : (c : ℕ) → (48 ≤ c → c ≤ 57 → ⊥) → (97 ≤ c → c ≤ 102 → ⊥) → hex_value c ≡ None
value_other c h k =
    not_within 48 c 57 (Some (c - 48)) (cond (leb 97 c && leb c 102) (Some (c - 87)) None) h ∙ not_within 97 c 102 (Some (c - 87)) None k

-- ── pairs of them ──
pub pair_high : (h l : ℕ) → hex_value h ≡ None → hex_pair h l ≡ None
pair_high h l e = ap (λ x. byte_of x (hex_value l)) e

pub pair_low : (h l : ℕ) → hex_value l ≡ None → hex_pair h l ≡ None
pair_low h l e = ap (byte_of (hex_value h)) e ∙ cases (hex_value h) where
  cases : (x : Option ℕ) → byte_of x None ≡ None
  cases None = refl
  cases (Some a) = refl

pub pair_byte : (h l : ℕ) {a b : ℕ} → hex_value h ≡ Some a → hex_value l ≡ Some b → hex_pair h l ≡ Some (16 * a + b)
pair_byte h l e f = ap₂ byte_of e f

-- pair n of the digits
pub pair_at : (n : ℕ) (cs : List ℕ) → n < length cs / 2 → first_pair (drop (2 * n) cs) ≡ hex_pair (get_or cs (2 * n) 0) (get_or cs (2 * n + 1) 0)
pair_at n cs h = ap first_pair (drop_next (2 * n) cs (omega arith) ∙ ap (λ xs. get_or cs (2 * n) 0 ∷ xs) (drop_next (2 * n + 1) cs (omega arith)))

-- ── a line held byte by byte ──
-- what is left of the chunk from position j on holds what was to be held from `from` on
pub record HoldingFrom (start chunk : List ℕ) (from to first : ℕ) (line : List ℕ) (size j : ℕ) : Type 0 where
  pub puts : ToPut (most_held start) start first (before_byte 10 (part from to chunk)) line size (before_byte 10 (part j to chunk))
  pub finds : has_byte 10 (part j to chunk) ≡ has_byte 10 (part from to chunk)
  pub counts : j + length (before_byte 10 (part j to chunk)) ≡ from + length (before_byte 10 (part from to chunk))

module _ (start chunk : List ℕ) where
  pub hold_start : (from to first size : ℕ) → size ≡ min first (most_held start) → HoldingFrom start chunk from to first start size from
  hold_start from to first size e = record {
    puts = put-start (most_held start) start first size (before_byte 10 (part from to chunk)) (before_byte 10 (part from to chunk)) (omega arith) e refl;
    finds = refl;
    counts = refl;
  }

  pub hold_next : (from to first : ℕ) (line : List ℕ) (size j : ℕ) (after : List ℕ) (r : ℕ) → HoldingFrom start chunk from to first line size j → j < to
      → j < length chunk → (get_or chunk j 0 ≡ 10 → ⊥)
      → PutsTo (most_held line) line size (get_or chunk j 0 ∷ []) after r → HoldingFrom start chunk from to first after r (j + 1)
  hold_next from to first line size j after r h a b e p =
      let next = part_next j to chunk 0 a b in
      let before = before_next 10 (part j to chunk) (part (j + 1) to chunk) (get_or chunk j 0) next e in
      record {
        puts = put_turn _ _ _ _ _ _ _ _ (get_or chunk j 0 ∷ []) _ _ _ h.puts before (ap (λ k. k + 1) h.puts.long) p;
        finds = sym (has_next 10 (part j to chunk) (part (j + 1) to chunk) (get_or chunk j 0) next e) ∙ h.finds;
        counts = omega (arith, h.counts, ap length before);
      }

  held_from : (i : Input) (first : ℕ) (bytes line : List ℕ) (size : ℕ) → first ≡ kept_size i → PutsTo (most_held start) start first bytes line size
      → PutsTo (most_held start) start (kept_size i) bytes line size
  held_from i first bytes line size e p = record {
    leaves = p.leaves ∙ ap (λ k. sets start k bytes) e;
    ends = p.ends ∙ ap (λ k. min (k + length bytes) (most_held start)) e;
  }

  -- at the line's end
  pub hold_line_at : (i : Input) (first : ℕ) (line : List ℕ) (size j : ℕ) → first ≡ kept_size i → HoldingFrom start chunk i.from i.to first line size j
      → j < i.to → j < length chunk → get_or chunk j 0 ≡ 10
      → Holds start chunk i line (record { from = j + 1; to = i.to; size = size; step = Complete })
  hold_line_at i first line size j f h a b e =
      let next = part_next j i.to chunk 0 a b in
      let before = before_here 10 (part j i.to chunk) (part (j + 1) i.to chunk) (get_or chunk j 0) next e in
      let has = has_here 10 (part j i.to chunk) (part (j + 1) i.to chunk) (get_or chunk j 0) next e in
      let found : has_byte 10 (chunk_left i chunk) ≡ true = sym h.finds ∙ has in
      record {
        held = held_from i first _ line size f (put_done _ _ _ _ _ _ _ h.puts (inl before));
        completes = ap (λ b. cond b Complete Within) (sym found);
        passes = omega (arith, h.counts, ap length before, ap {B = ℕ} (λ b. cond b 1 0) found);
        same_end = refl;
      }

  -- at the chunk's end
  pub hold_rest_at : (i : Input) (first : ℕ) (line : List ℕ) (size j : ℕ) → first ≡ kept_size i → HoldingFrom start chunk i.from i.to first line size j
      → (length chunk ≤ j) ⊎ (i.to ≤ j)
      → Holds start chunk i line (record { from = j; to = i.to; size = size; step = Within })
  hold_rest_at i first line size j f h o =
      let e : part j i.to chunk ≡ [] = ⊎_elim (part_over j i.to chunk) (part_done j i.to chunk) o in
      let before : before_byte 10 (part j i.to chunk) ≡ [] = ap (before_byte 10) e in
      let found : has_byte 10 (chunk_left i chunk) ≡ false = sym h.finds ∙ ap (has_byte 10) e in
      record {
        held = held_from i first _ line size f (put_done _ _ _ _ _ _ _ h.puts (inl before));
        completes = ap (λ b. cond b Complete Within) (sym found);
        passes = omega (arith, h.counts, ap length before, ap {B = ℕ} (λ b. cond b 1 0) found);
        same_end = refl;
      }
