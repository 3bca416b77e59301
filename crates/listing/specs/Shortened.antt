-- A program need not hold the whole of its files: the first `text_bytes` bytes of a pattern's text and the first 3,602 bytes of a tape
-- give the listing of the whole. A text that has 64 good lines has them in 64 times `line_bytes` bytes.
use Rattle.std.specs.Prelude.{◌≡◌, Bool, None, not, cond, List, [], ◌∷◌, ℕ, zero, suc, ◌+◌, ◌*◌, ◌-◌, ◌≤◌, ◌<◌, eqb, ltb, length, take, drop}
use Rattle.std.proofs.Math.Path.{refl}
use Rattle.std.proofs.Common.{sym, ap, ap₂, ◌∙◌, arith, lt-ltb, le-ltb, ltb-true, ltb-false, eqb-true, take_all, length-take-le}
use Rattle.std.proofs.Math.Bool.{true, false}
use Rattle.std.proofs.lemmas.Bool.{eqb-false}
use Rattle.std.proofs.Math.Seq.{take-nil}
use Rattle.syntax.specs.declared.Pattern.{Pattern}
use Rattle.refusals.specs.declared.Refusal.TheVariants.{Tree as TreeFault, TapeTooLong}
use Rattle.syntax.specs.Letter.{letter_limit}
use Rattle.refusals.specs.Refusals.{Answer, refused}
use Rattle.syntax.specs.Table.{obeys}
use Rattle.fields.specs.Text.{Row, byte_front, rows, place, single, account, line_of, row_line, fault, line_front, forms}
use Rattle.loading.specs.Load.{load_answer, load_table}
use Rattle.loading.specs.LoadForms.{forms_answer, forms_table, load_answer_is, load_table_is}
use Rattle.scanning.specs.Scans.{first_fields, first_closed, first_size, parts_say, account_says}
use Rattle.scanning.specs.Scanning.{
  line_no_place,
  line_no_long,
  line_no_kind,
  line_short,
  line_alone,
  line-account,
  account_no_long,
  parts_no_long,
  parts_no_second,
  parts_no_more,
}
use Rattle.loading.specs.Lines.{rows_first}
use Rattle.parser.specs.Parse.{early}
use Rattle.text.specs.Text.{refused_line}
use Rattle.listing.specs.Listing.{read_listing, early_cause, pattern_listing, closed, tape_of, listing_of}

-- ── a good line is short ──
-- No good line has more bytes, its end among them. The longest has 15: a place of two bytes, a kind of one, an account of three, two parts of two each,
-- and five bytes between and behind them. It is not asked whether a kind of two bytes is one, which makes it 16.
abbrev pub line_bytes : ℕ
line_bytes = 16

-- the bytes of a pattern's text that decide its loading: 64 good lines, and the byte behind them, which begins a line too many
abbrev pub text_bytes : ℕ
text_bytes = line_bytes * 64 + 1

-- the bytes of fields, each with the tab or the line's end behind it
abbrev total : List (List ℕ) → ℕ
total [] = 0
total (f ∷ fs) = suc (length f) + total fs

total-front : (b n : ℕ) (fs : List (List ℕ)) → total fs ≡ suc n → total (byte_front b fs) ≡ suc (suc n)
total-front b n [] e = absurd (omega arith)
total-front b n (f ∷ fs) e = omega arith

total-line : (w : List ℕ) → total (first_fields w) ≡ suc (first_size w)
unfolding first_fields first_size
total-line [] = refl
total-line (b ∷ bs) = go (eqb b 10) (eqb b 9) (total-line bs)
  where
    go : (x y : Bool) → total (first_fields bs) ≡ suc (first_size bs)
        → total (cond x ([] ∷ []) (cond y ([] ∷ first_fields bs) (byte_front b (first_fields bs)))) ≡ suc (cond x 0 (suc (first_size bs)))
    go true y e = refl
    go false true e = omega arith
    go false false e = total-front b (first_size bs) (first_fields bs) e

-- a field has at most n bytes, or more
by_length : {A : Type 0} (n : ℕ) (f : List ℕ) → (length f ≤ n → A) → (suc n ≤ length f → A) → A
by_length {A} n f s l = go (ltb n (length f)) refl
  where
    go : (b : Bool) → ltb n (length f) ≡ b → A
    go true e = l (ltb-true n (length f) e)
    go false e = s (ltb-false n (length f) e)

parts_none : (a k : ℕ) (more : List (List ℕ)) → 7 ≤ total more → parts_say a k more ≡ None
parts_none a k [] h = absurd (omega arith)
parts_none a k (x ∷ []) h = by_length 2 x (λ s. absurd (omega arith)) (λ l. parts_no_long a k x [] l)
parts_none a k (x ∷ y ∷ []) h =
    by_length 2 x (λ s. by_length 2 y (λ t. absurd (omega arith)) (λ l. parts_no_second a k x y [] l)) (λ l. parts_no_long a k x (y ∷ []) l)
parts_none a k (x ∷ y ∷ z ∷ more) h = parts_no_more a k x y z more

account_none : (k : ℕ) (a : List ℕ) (more : List (List ℕ)) → 11 ≤ total (a ∷ more) → account_says k (a ∷ more) ≡ None
unfolding account_says
account_none k a more h = by_length 3 a (λ s. parts_none (account a) k more (omega arith)) (λ l. account_no_long k a more l)

module _ (i : ℕ) (l : i < 64) where
  line_none : (fs : List (List ℕ)) → line_bytes < total fs → line_of i fs ≡ None
  line_none [] h = absurd (omega arith)
  line_none (p ∷ []) h = line_alone i p
  line_none (p ∷ k ∷ []) h = line_short i p k
  line_none (p ∷ k ∷ a ∷ more) h =
      by_length 2 p (λ s. by_length 2 k (λ t. own (eqb (place p) i) refl (omega arith)) (λ m. line_no_kind i p k (a ∷ more) m))
      (λ m. line_no_long i l p (k ∷ a ∷ more) m)
    where
      own : (b : Bool) → eqb (place p) i ≡ b → 11 ≤ total (a ∷ more) → line_of i (p ∷ k ∷ a ∷ more) ≡ None
      own true e h = sym (line-account i p k (eqb-true (place p) i e) (a ∷ more)) ∙ account_none (single k) a more h
      own false e h = line_no_place i p (eqb-false (place p) i e) (k ∷ a ∷ more)

  long_none : (fs : List (List ℕ)) (c : Bool) → line_bytes < total fs → row_line i (record { fields = fs; closed = c }) ≡ None
  unfolding row_line
  long_none fs true h = line_none fs h
  long_none fs false h = refl

-- ── the first line of a text that is cut off ──
pub record SameLine (w v : List ℕ) : Type 0 where
  pub fields : first_fields v ≡ first_fields w
  pub closed : first_closed v ≡ first_closed w
  pub size : first_size v ≡ first_size w

same_line : (w : List ℕ) (m : ℕ) → first_size w < m → SameLine w (take m w)
unfolding first_fields first_closed first_size
same_line [] m h = rw (take-nil {A = ℕ} m) (record { fields = refl; closed = refl; size = refl })
same_line (b ∷ bs) zero h = absurd (omega arith)
same_line (b ∷ bs) (suc m) h = go (eqb b 10) (eqb b 9) refl (λ k. same_line bs m k) h
  where
    go : (x y : Bool) → eqb b 10 ≡ x → (first_size bs < m → SameLine bs (take m bs)) → cond x 0 (suc (first_size bs)) < suc m
        → SameLine (b ∷ bs) (b ∷ take m bs)
    go true y e ih h = record { fields = rw e; closed = rw e; size = rw e }
    go false y e ih h =
        let s = ih (omega arith) in
        record { fields = rw (e, s.fields); closed = rw (e, s.closed); size = rw (e, s.size) }

still_long : (w : List ℕ) (m n : ℕ) → n ≤ m → n ≤ first_size w → n ≤ first_size (take m w)
unfolding first_size
still_long w m zero l h = omega arith
still_long [] m (suc n) l h = absurd (omega arith)
still_long (b ∷ bs) zero (suc n) l h = absurd (omega arith)
still_long (b ∷ bs) (suc m) (suc n) l h = go (eqb b 10) (λ k. still_long bs m n (omega arith) k) h
  where
    go : (x : Bool) → (n ≤ first_size bs → n ≤ first_size (take m bs)) → suc n ≤ cond x 0 (suc (first_size bs))
        → suc n ≤ cond x 0 (suc (first_size (take m bs)))
    go true ih h = absurd (omega arith)
    go false ih h = omega (arith, ih (omega arith))

drop_of_take : (k n m : ℕ) (w : List ℕ) → m ≡ k + n → drop k (take m w) ≡ take n (drop k w)
drop_of_take zero n m w e = let q : m ≡ n = omega arith in ap (λ x. take x w) q
drop_of_take (suc k) n m [] e = ap (drop (suc k)) (take-nil {A = ℕ} m) ∙ sym (take-nil {A = ℕ} n)
drop_of_take (suc k) n zero (b ∷ bs) e = absurd (omega arith)
drop_of_take (suc k) n (suc m) (b ∷ bs) e = drop_of_take k n m bs (omega arith)

-- ── all lines ──
abbrev first_line : List ℕ → Row
first_line w = record { fields = first_fields w; closed = first_closed w }

forms_first : (i b : ℕ) (bs : List ℕ) → i < 64
    → forms i (rows (b ∷ bs)) ≡ line_front i (row_line i (first_line (b ∷ bs))) (forms (suc i) (rows (drop (suc (first_size (b ∷ bs))) (b ∷ bs))))
unfolding forms
forms_first i b bs l = rw (rows_first b bs, lt-ltb i 64 l)

forms_over : (i b : ℕ) (bs : List ℕ) → 64 ≤ i → forms i (rows (b ∷ bs)) ≡ fault 64
unfolding forms
forms_over i b bs l = rw (rows_first b bs, le-ltb i 64 l)

forms_long : (i b : ℕ) (bs : List ℕ) → i < 64 → line_bytes ≤ first_size (b ∷ bs) → forms i (rows (b ∷ bs)) ≡ fault i
forms_long i b bs l h =
    let n : row_line i (first_line (b ∷ bs)) ≡ None = long_none i l (first_fields (b ∷ bs)) (first_closed (b ∷ bs)) (omega (arith, total-line (b ∷ bs))) in
    forms_first i b bs l ∙ ap (λ o. line_front i o (forms (suc i) (rows (drop (suc (first_size (b ∷ bs))) (b ∷ bs))))) n

forms_same : (i b m : ℕ) (bs : List ℕ) → i < 64 → SameLine (b ∷ bs) (b ∷ take m bs)
    → forms (suc i) (rows (drop (suc (first_size (b ∷ bs))) (b ∷ take m bs))) ≡ forms (suc i) (rows (drop (suc (first_size (b ∷ bs))) (b ∷ bs)))
    → forms i (rows (b ∷ take m bs)) ≡ forms i (rows (b ∷ bs))
forms_same i b m bs l s ih =
    let same : first_line (b ∷ take m bs) ≡ first_line (b ∷ bs) = ap₂ (λ f c. record { fields = f; closed = c }) s.fields s.closed in
    forms_first i b (take m bs) l
    ∙ ap₂ (λ r n. line_front i (row_line i r) (forms (suc i) (rows (drop (suc n) (b ∷ take m bs))))) same s.size
    ∙ ap (line_front i (row_line i (first_line (b ∷ bs)))) ih
    ∙ sym (forms_first i b bs l)

-- the 65th line counts whatever is in it
last_forms : (i : ℕ) → 64 ≤ i → (text : List ℕ) (m : ℕ) → 1 ≤ m → forms i (rows (take m text)) ≡ forms i (rows text)
last_forms i l [] m h = ap (λ w. forms i (rows w)) (take-nil {A = ℕ} m)
last_forms i l (b ∷ bs) zero h = absurd (omega arith)
last_forms i l (b ∷ bs) (suc m) h = forms_over i b (take m bs) l ∙ sym (forms_over i b bs l)

next_forms : (k i : ℕ) → i < 64 → ((text : List ℕ) (m : ℕ) → line_bytes * k + 1 ≤ m → forms (suc i) (rows (take m text)) ≡ forms (suc i) (rows text))
    → (text : List ℕ) (m : ℕ) → line_bytes * suc k + 1 ≤ m → forms i (rows (take m text)) ≡ forms i (rows text)
next_forms k i l ih [] m h = ap (λ w. forms i (rows w)) (take-nil {A = ℕ} m)
next_forms k i l ih (b ∷ bs) zero h = absurd (omega arith)
next_forms k i l ih (b ∷ bs) (suc m) h = go (ltb (first_size (b ∷ bs)) line_bytes) refl
  where
    go : (x : Bool) → ltb (first_size (b ∷ bs)) line_bytes ≡ x → forms i (rows (b ∷ take m bs)) ≡ forms i (rows (b ∷ bs))
    go true q =
        let s : first_size (b ∷ bs) < line_bytes = ltb-true (first_size (b ∷ bs)) line_bytes q in
        forms_same i b m bs l (same_line (b ∷ bs) (suc m) (omega arith))
        (ap (λ w. forms (suc i) (rows w)) (drop_of_take (suc (first_size (b ∷ bs))) (m - first_size (b ∷ bs)) (suc m) (b ∷ bs) (omega arith))
        ∙ ih (drop (suc (first_size (b ∷ bs))) (b ∷ bs)) (m - first_size (b ∷ bs)) (omega arith))
    go false q =
        let s : line_bytes ≤ first_size (b ∷ bs) = ltb-false (first_size (b ∷ bs)) line_bytes q in
        forms_long i b (take m bs) l (still_long (b ∷ bs) (suc m) line_bytes (omega arith) s) ∙ sym (forms_long i b bs l s)

pub short_forms : (k i : ℕ) → i + k ≡ 64 → (text : List ℕ) (m : ℕ) → line_bytes * k + 1 ≤ m → forms i (rows (take m text)) ≡ forms i (rows text)
short_forms zero i e text m h = last_forms i (omega arith) text m (omega arith)
short_forms (suc k) i e text m h = next_forms k i (omega arith) (λ t n g. short_forms k (suc i) (omega arith) t n g) text m (omega arith)

module _ (text : List ℕ) (m : ℕ) (h : text_bytes ≤ m) where
  pub load_answer_short : load_answer (take m text) ≡ load_answer text
  load_answer_short =
      load_answer_is (take m text) ∙ ap forms_answer (short_forms 64 0 (omega arith) text m (omega arith)) ∙ sym (load_answer_is text)

  pub load_table_short : load_table (take m text) ≡ load_table text
  load_table_short = load_table_is (take m text) ∙ ap forms_table (short_forms 64 0 (omega arith) text m (omega arith)) ∙ sym (load_table_is text)

-- ── the tape ──
-- what a tape that is too long is answered by
abbrev over_answer : (obeyed : Bool) → Answer
over_answer o = cond (not o) (refused (TreeFault 0)) (refused TapeTooLong)

over_cause : (p : Pattern) (tape : List ℕ) → letter_limit < length tape → early_cause p tape ≡ over_answer (obeys p)
unfolding early_cause early
over_cause p tape h = rw (lt-ltb letter_limit (length tape) h)

over_listing : (p : Pattern) (tape : List ℕ) → letter_limit < length tape → pattern_listing p tape ≡ refused_line (over_answer (obeys p))
unfolding pattern_listing
over_listing p tape h = rw (over_cause p tape h) (go (obeys p))
  where
    go : (o : Bool) → cond (eqb (over_answer o).number 0) (read_listing p tape) (refused_line (over_answer o)) ≡ refused_line (over_answer o)
    go true = refl
    go false = refl

tape_long : (file : List ℕ) → length file ≤ suc (length (tape_of file))
unfolding tape_of
tape_long file = go (closed file)
  where
    go : (b : Bool) → length file ≤ suc (length (cond b (take (length file - 1) file) file))
    go true = rw (length-take-le (length file - 1) file (omega arith)) (omega arith)
    go false = omega arith

pub tape_short : (p : Pattern) (file : List ℕ) (n : ℕ) → 3602 ≤ n → pattern_listing p (tape_of (take n file)) ≡ pattern_listing p (tape_of file)
tape_short p file n h = go (ltb n (length file)) refl
  where
    go : (b : Bool) → ltb n (length file) ≡ b → pattern_listing p (tape_of (take n file)) ≡ pattern_listing p (tape_of file)
    go false e = ap (λ w. pattern_listing p (tape_of w)) (take_all n file (ltb-false n (length file) e))
    go true e =
        let l : n < length file = ltb-true n (length file) e in
        let s : length (take n file) ≡ n = length-take-le n file (omega arith) in
        over_listing p (tape_of (take n file)) (omega (arith, tape_long (take n file))) ∙ sym (over_listing p (tape_of file) (omega (arith, tape_long file)))

-- ── the listing ──
pub listing_short : (text file : List ℕ) (m n : ℕ) → text_bytes ≤ m → 3602 ≤ n → listing_of (take m text) (take n file) ≡ listing_of text file
unfolding listing_of
listing_short text file m n hm hn = rw (load_answer_short text m hm, load_table_short text m hm, tape_short (load_table text) file n hn)
