-- Laws of reading a text line by line.
use Rattle.std.proofs.Math.Path.{◌≡◌, refl, ap}
use Rattle.std.proofs.Common.{sym, ap₂, ◌∙◌, arith, length-set, length-drop, take-append-drop, take-suc-set, drop-set-lt, drop-cons, drop-drop}
use Rattle.std.specs.Prelude.{Bool, eqb, ltb, get_or, set, Option, None, Some, Result, Ok, Err}
use Rattle.std.proofs.lemmas.Option.{some_pair_parts, none-some}
use Rattle.std.proofs.Math.Bool.{true, false, cond}
use Rattle.std.proofs.lemmas.Bool.{false≢true}
use mathlib.Core.List.{List, [], ◌∷◌, ◌++◌, append_assoc, append-nil}
use Prim.Native.Nat.{ℕ, suc, ◌+◌, ◌-◌, ◌≤◌, ◌<◌}
use borrow.Author.Tests.{lt-ltb, le-ltb}
use Rattle.std.proofs.Math.ListN.{length, take, drop, replicate, drop_of_length-le}
use Rattle.std.proofs.Math.Seq.{length-take-le}
use Rattle.syntax.specs.declared.Line.{Line}
use Rattle.syntax.specs.declared.Pattern.{Pattern}
use Rattle.refusals.specs.declared.Refusal.TheVariants.{LineForm}
use Rattle.refusals.specs.declared.Refusal.{Refusal}
use Rattle.fields.specs.Text.{Row, byte_front, row_front, rows, line_of, row_line, Forms, good, fault, line_front, forms}
use Rattle.syntax.specs.Table.{blank, table, no_lines}
use Rattle.scanning.specs.Scans.{first_fields, first_closed, first_size, scan_of, scan_by, scanned}
use Rattle.loading.specs.ReadLines.{read_as, lines_front, ReadSoFar}

-- ── the first line of a text ──
abbrev first_row : List ℕ → Row
first_row w = record { fields = first_fields w; closed = first_closed w }

-- a text is its first line and what stands behind it
pub rows_first : (b : ℕ) (bs : List ℕ) → rows (b ∷ bs) ≡ first_row (b ∷ bs) ∷ rows (drop (suc (first_size (b ∷ bs))) (b ∷ bs))
unfolding rows first_fields first_closed first_size
rows_first b [] = go (eqb b 10) (eqb b 9)
  where
    go :
        (x y : Bool)
        → cond x (record { fields = [] ∷ []; closed = true } ∷ rows []) (cond y (row_front (λ fs. [] ∷ fs) (rows [])) (row_front (byte_front b) (rows [])))
        ≡ record { fields = cond x ([] ∷ []) (cond y ([] ∷ first_fields []) (byte_front b (first_fields []))); closed = cond x true (first_closed []) }
        ∷ rows (drop (suc (cond x 0 (suc (first_size [])))) (b ∷ []))
    go true y = refl
    go false true = refl
    go false false = refl
rows_first b (c ∷ cs) = go (eqb b 10) (eqb b 9) (c ∷ cs) (rows_first c cs)
  where
    go :
        (x y : Bool) (w : List ℕ) → rows w ≡ first_row w ∷ rows (drop (suc (first_size w)) w)
        → cond x (record { fields = [] ∷ []; closed = true } ∷ rows w) (cond y (row_front (λ fs. [] ∷ fs) (rows w)) (row_front (byte_front b) (rows w)))
        ≡ record { fields = cond x ([] ∷ []) (cond y ([] ∷ first_fields w) (byte_front b (first_fields w))); closed = cond x true (first_closed w) }
        ∷ rows (drop (suc (cond x 0 (suc (first_size w)))) (b ∷ w))
    go true y w r = refl
    go false true w r = ap (row_front (λ fs. [] ∷ fs)) r
    go false false w r = ap (row_front (byte_front b)) r

-- a closed line lies inside its text
closed-inside : (w : List ℕ) → first_closed w ≡ true → suc (first_size w) ≤ length w
unfolding first_closed first_size
closed-inside [] h = absurd (false≢true h)
closed-inside (b ∷ bs) h = go (eqb b 10) (closed-inside bs) h
  where
    go : (x : Bool) → (first_closed bs ≡ true → suc (first_size bs) ≤ length bs) → cond x true (first_closed bs) ≡ true
        → suc (cond x 0 (suc (first_size bs))) ≤ suc (length bs)
    go true ih e = omega arith
    go false ih e = omega (arith, ih e)

-- ── the scan of a line and the line ──
module _ (i at : ℕ) (w : List ℕ) where
  pub scan_says_none : None ≡ scanned i at w → row_line i (first_row w) ≡ None
  unfolding scan_by row_line
  scan_says_none e = go (first_closed w) (line_of i (first_fields w)) e
    where
      go : (c : Bool) (o : Option Line) → None ≡ cond c (scan_of o (at + suc (first_size w))) None → cond c o None ≡ None
      go true None e = refl
      go true (Some x) e = absurd (none-some (x, at + suc (first_size w)) e)
      go false o e = refl

  pub record Found (x : Line) (next : ℕ) : Type 0 where
    pub line_is : row_line i (first_row w) ≡ Some x
    pub next_is : next ≡ at + suc (first_size w)
    pub inside : suc (first_size w) ≤ length w

  pub scan_says-line : (x : Line) (next : ℕ) → Some (x, next) ≡ scanned i at w → Found x next
  unfolding scan_by row_line
  scan_says-line x next e = go (first_closed w) refl (line_of i (first_fields w)) refl e
    where
      go : (c : Bool) → first_closed w ≡ c → (o : Option Line) → line_of i (first_fields w) ≡ o
          → Some (x, next) ≡ cond c (scan_of o (at + suc (first_size w))) None → Found x next
      go true q None p e = absurd (none-some (x, next) (sym e))
      go true q (Some y) p e = let s = some_pair_parts x y next (at + suc (first_size w)) e in
          record { line_is = rw (q, p, s.0); next_is = s.1; inside = closed-inside w q }
      go false q o p e = absurd (none-some (x, next) (sym e))

-- ── reading on ──
forms_first : (i : ℕ) (w : List ℕ) → 1 ≤ length w
    → forms i (rows w) ≡ cond (ltb i 64) (line_front i (row_line i (first_row w)) (forms (suc i) (rows (drop (suc (first_size w)) w)))) (fault 64)
unfolding forms
forms_first i [] h = absurd (omega arith)
forms_first i (b ∷ bs) h = rw (rows_first b bs)

front-nothing : (f : Forms) → f ≡ lines_front [] f
front-nothing (good ys) = refl
front-nothing (fault j) = refl

front_twice : (xs : List Line) (x : Line) (i : ℕ) (f : Forms) → lines_front xs (line_front i (Some x) f) ≡ lines_front (xs ++ (x ∷ [])) f
front_twice xs x i (good ys) = ap good (sym (append_assoc xs (x ∷ []) ys))
front_twice xs x i (fault j) = refl

pub read-start : (text : List ℕ) → ReadSoFar text no_lines 0
unfolding no_lines
read-start text = record {
  within = omega arith;
  few = omega arith;
  size = refl;
  unwritten = refl;
  rest = front-nothing (forms 0 (rows text));
}

module _ (text : List ℕ) (p : Pattern) (at : ℕ) (s : ReadSoFar text p at) where
  pub read_end : length text ≤ at → Ok p ≡ read_as (forms 0 (rows text))
  unfolding rows forms table
  read_end h =
      let d : drop at text ≡ [] = drop_of_length-le text h in
      let e : forms 0 (rows text) ≡ good (take p.count p.lines ++ []) =
      s.rest ∙ ap (λ w. lines_front (take p.count p.lines) (forms p.count (rows w))) d in
      let n : length (take p.count p.lines) ≡ p.count = length-take-le p.count p.lines (omega (arith, s.few, s.size)) in
      rw (e, append-nil) (ap Ok (same n))
    where
      same : length (take p.count p.lines) ≡ p.count → let xs = take p.count p.lines in
          p ≡ record { count = length xs; lines = xs ++ replicate (64 - length xs) blank }
      same n = rw (n, ← s.unwritten, take-append-drop)

  module _ (l : at < length text) where
    on : forms 0 (rows text)
        ≡ lines_front (take p.count p.lines)
        (cond (ltb p.count 64) (line_front p.count (row_line p.count (first_row (drop at text)))
        (forms (suc p.count) (rows (drop (suc (first_size (drop at text))) (drop at text))))) (fault 64))
    on = s.rest ∙ ap (lines_front (take p.count p.lines)) (forms_first p.count (drop at text) (rw length-drop (omega arith)))

    pub read_many : 64 ≤ p.count → Err (LineForm 64) ≡ read_as (forms 0 (rows text))
    read_many h = rw (on, le-ltb p.count 64 h) refl

    module _ (few : p.count < 64) (r : Option (Line × ℕ)) (e : r ≡ scanned p.count at (drop at text)) where
      pub read_fault : r ≡ None → Err (LineForm p.count) ≡ read_as (forms 0 (rows text))
      read_fault h = rw (on, lt-ltb p.count 64 few, scan_says_none p.count at (drop at text) (sym h ∙ e)) refl

      -- the position moves on
      pub read-less : (x : Line) (next : ℕ) → r ≡ Some (x, next) → at < next
      read-less x next h = let f = scan_says-line p.count at (drop at text) x next (sym h ∙ e) in omega (arith, f.next_is)

      pub read_on : (x : Line) (next : ℕ) → r ≡ Some (x, next) → ReadSoFar text (record { count = p.count + 1; lines = set p.lines p.count x }) next
      read_on x next h =
          let f = scan_says-line p.count at (drop at text) x next (sym h ∙ e) in
          let n = simp length-drop at f.inside in
          let c : suc p.count ≡ p.count + 1 = omega arith in
          let k : p.count < length p.lines = omega (arith, s.size) in
          let d : drop (suc (first_size (drop at text))) (drop at text) ≡ drop next text =
          drop-drop (suc (first_size (drop at text))) at text ∙ ap (λ j. drop j text) (sym f.next_is) in
          let m : take (p.count + 1) (set p.lines p.count x) ≡ take p.count p.lines ++ (x ∷ []) =
          ap (λ j. take j (set p.lines p.count x)) (sym c) ∙ take-suc-set p.lines p.count x k in
          record {
            within = omega (arith, f.next_is);
            few = omega arith;
            size = length-set p.lines p.count x ∙ s.size;
            unwritten = ap (λ j. drop j (set p.lines p.count x)) (sym c) ∙ drop-set-lt (suc p.count) p.lines p.count x (omega arith)
                ∙ shorter k ∙ ap (λ j. replicate (64 - j) blank) c;
            rest =
                on
                ∙ rw (lt-ltb p.count 64 few, f.line_is, d)
                (front_twice (take p.count p.lines) x p.count (forms (suc p.count) (rows (drop next text))))
                ∙ ap₂ (λ xs j. lines_front xs (forms j (rows (drop next text)))) (sym m) c;
          }
        where
          shorter : p.count < length p.lines → drop (suc p.count) p.lines ≡ replicate (64 - suc p.count) blank
          shorter k =
              let a : 64 - p.count ≡ suc (64 - suc p.count) = omega arith in
              let b : get_or p.lines p.count blank ∷ drop (suc p.count) p.lines ≡ blank ∷ replicate (64 - suc p.count) blank =
              sym (drop-cons p.lines p.count blank k) ∙ s.unwritten ∙ ap (λ j. replicate j blank) a in
              ap (drop 1) b
