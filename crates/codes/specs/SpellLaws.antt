-- Whether a code spells a tape: comparing its letters with the tape, and one law for each way of the code.
use Rattle.std.specs.Prelude.{◌≡◌, Bool, true, false, List, ℕ, ◌≤◌, eqb, length, take, drop, Option, Some, None}
use Rattle.std.proofs.Common.{ap, ◌∙◌, arith, take_at}
use Rattle.std.specs.List.{starts_with}
use Rattle.std.specs.Cmp.Lexicographic.{as_long, unequal}
use Rattle.std.proofs.lemmas.Cmp.{nat_list_eq_equiv}
use Rattle.syntax.specs.Letter.{letter_limit}
use Rattle.syntax.specs.Tree.{Tree}
use Rattle.bits.specs.Bits.{in_front}
use Rattle.walks.specs.Whole.{whole_code, letters_of}
use Rattle.entries.specs.Measures.{Reads, measured_no, measured_yes, measured-letters}
use Rattle.entries.specs.WholeLaws.{letters-front}
use Rattle.codes.specs.Spells.{same, code_of_tape}

-- ── the same letters ──
pub same_length : (xs ys : List ℕ) → same xs ys ≡ true → length xs ≡ length ys
same_length = as_long eqb

-- ── a code that was read, against a tape within the limit ──
module _ (t : Tree) (tape code : List ℕ) (count : ℕ) (h : length tape ≤ letter_limit) {own ys own' ys' : List ℕ} {m : Option ℕ}
    (k : Reads code t count own ys own' ys' m) where
  pub spells_no : m ≡ None → false ≡ code_of_tape t tape code count
  unfolding code_of_tape
  spells_no f = rw (measured_no t code count m k.is f)

  module _ {n : ℕ} (f : m ≡ Some n) where
    whole : whole_code t code count ≡ true
    whole = measured_yes t code count m k.is n f

    pub spells_other : (n ≡ length tape → ⊥) → false ≡ code_of_tape t tape code count
    unfolding code_of_tape
    spells_other d =
        let e = measured-letters t code count m k.is n f in
        rw (whole, unequal eqb (letters_of t code count) tape (λ z. d (omega arith)))

    pub spells_same : n ≡ length tape → length own ≡ letter_limit → (r : Bool) → r ≡ starts_with eqb own' tape → r ≡ code_of_tape t tape code count
    unfolding code_of_tape in_front
    spells_same e size r er =
        let c = measured-letters t code count m k.is n f in
        let exactly : length (letters_of t code count) ≡ length tape = omega arith in
        er ∙ ap (λ l. same tape (take (length tape) l)) (letters-front t code count whole (k.wrote n f) (omega (arith, exactly)))
        ∙ ap (same tape) (take_at (letters_of t code count) (drop (length (letters_of t code count)) own) (length tape) exactly)
        ∙ nat_list_eq_equiv.symm tape (letters_of t code count) ∙ rw whole
