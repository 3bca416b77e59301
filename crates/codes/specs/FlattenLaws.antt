-- Spelling a whole code: one law for each way of the service.
use Rattle.std.specs.Prelude.{◌≡◌, true, false, List, ◌++◌, ℕ, ◌+◌, ◌-◌, ◌≤◌, ◌<◌, length, take, drop, Option, Some, None, Err, Ok}
use Rattle.std.proofs.Math.Path.{sym, ap}
use Rattle.std.proofs.Common.{ap₂, subst, ◌∙◌, arith, take_at}
use Rattle.std.proofs.Math.Bool.{cond}
use Rattle.std.proofs.Math.Dec.{eqb}
use borrow.Author.Tests.{lt-ltb, le-ltb, ne_eqb}
use Rattle.syntax.specs.declared.Pattern.{Pattern}
use Rattle.refusals.specs.declared.Refusal.{Refusal}
use Rattle.refusals.specs.declared.Refusal.TheVariants.{Tree as TreeFault, TapeTooLong, NotACode, TapeTooShort}
use Rattle.syntax.specs.Letter.{letter_limit}
use Rattle.syntax.specs.Trees.{root}
use Rattle.syntax.specs.Table.{obeys}
use Rattle.refusals.specs.Refusals.{answer, number}
use Rattle.refusals.specs.RefusalLaws.{number_positive}
use Rattle.refusals.specs.Checks.{First, here, Clear}
use Rattle.refusals.specs.CheckLaws.{first_more, first_behind, clear_both, first_answered, clear_success}
use Rattle.bits.specs.Bits.{in_front}
use Rattle.walks.specs.Whole.{whole_code, letters_of}
use Rattle.codes.specs.Flatten.{room_check, flatten_order, flatten_answer, flatten_tape, Flattens}
use Rattle.entries.specs.Measures.{Reads, measured_no, measured_yes, measured-letters}
use Rattle.entries.specs.WholeLaws.{letters-front}
use Rattle.entries.specs.CodeOrder.{code_order, Sound, first_2, first_8, first_3, sound_clear}

-- ── 9, behind the causes of a code ──
module _ (p : Pattern) (code : List ℕ) (count : ℕ) (s : Sound p code count) (size : ℕ) where
  abbrev letters : ℕ
  letters = length (letters_of (root p) code count)

  pub first_9 : size < letters → First (TapeTooShort letters) (flatten_order p code count size)
  first_9 l = first_behind (code_order p code count) (sound_clear p code count s) (here (lt-ltb size letters l))

  pub flatten_clear : letters ≤ size → Clear (flatten_order p code count size)
  flatten_clear l = clear_both (code_order p code count) (room_check p code count size) (sound_clear p code count s) (le-ltb size letters l, tt)

module _ (p : Pattern) (code : List ℕ) (count : ℕ) (tape : List ℕ) where
  -- the first cause that holds is answered, and the tape is left
  pub flatten_refused : (why : Refusal) → First why (flatten_order p code count (length tape)) → Flattens p code count tape tape (Err why)
  unfolding flatten_answer flatten_tape
  flatten_refused why f =
      let e = first_answered f (answer 0 (length (letters_of (root p) code count))) in
      let z = ne_eqb (number why) 0 (λ q. omega (arith, q, number_positive why)) in
      record {
        answers = sym e;
        leaves = sym (ap (λ b. cond b (in_front (letters_of (root p) code count) tape) tape) (ap (λ a. eqb a.number 0) e ∙ z));
      }

  -- where no cause holds, the letters are in front of the tape
  pub flatten_fills : Clear (flatten_order p code count (length tape)) → flatten_tape p code count tape ≡ in_front (letters_of (root p) code count) tape
  unfolding flatten_answer flatten_tape
  flatten_fills c =
      ap (λ a. cond (eqb a.number 0) (in_front (letters_of (root p) code count) tape) tape)
      (clear_success (flatten_order p code count (length tape)) (answer 0 (length (letters_of (root p) code count))) c)

  -- so is one of the code's causes
  pub flatten_no_code : (why : Refusal) → First why (code_order p code count) → Flattens p code count tape tape (Err why)
  flatten_no_code why f = flatten_refused why (first_more (room_check p code count (length tape)) f)

  pub flatten_bad : obeys p ≡ false → Flattens p code count tape tape (Err (TreeFault 0))
  flatten_bad o = flatten_no_code (TreeFault 0) (first_2 p code count o)

  module _ (o : obeys p ≡ true) {own ys own' ys' : List ℕ} {m : Option ℕ} (k : Reads code (root p) count own ys own' ys' m) where
    pub flatten_not : m ≡ None → Flattens p code count tape tape (Err NotACode)
    flatten_not f = flatten_no_code NotACode (first_8 p code count o (measured_no (root p) code count m k.is f))

    module _ {n : ℕ} (f : m ≡ Some n) where
      whole : whole_code (root p) code count ≡ true
      whole = measured_yes (root p) code count m k.is n f

      pub flatten_long : letter_limit < n → Flattens p code count tape tape (Err TapeTooLong)
      flatten_long h =
          let e = measured-letters (root p) code count m k.is n f in
          flatten_no_code TapeTooLong (first_3 p code count o whole (omega arith))

      module _ (h : n ≤ letter_limit) where
        exactly : length (letters_of (root p) code count) ≡ n
        exactly = let e = measured-letters (root p) code count m k.is n f in omega arith

        sound : Sound p code count
        sound = record { good = o; whole = whole; few = omega (arith, exactly) }

        pub flatten_short : length tape < n → Flattens p code count tape tape (Err (TapeTooShort n))
        flatten_short g =
            subst (λ l. Flattens p code count tape tape (Err (TapeTooShort l))) exactly
            (flatten_refused (TapeTooShort (length (letters_of (root p) code count))) (first_9 p code count sound (length tape) (omega (arith, exactly))))

        pub flatten_done : n ≤ length tape → length own ≡ letter_limit → (front : List ℕ) → front ≡ take n own'
            → Flattens p code count tape (front ++ drop n tape) (Ok n)
        unfolding flatten_answer in_front
        flatten_done g long front e =
            let clear = flatten_clear p code count sound (length tape) (omega (arith, exactly)) in
            let new = letters-front (root p) code count whole (k.wrote n f) (omega (arith, exactly)) in
            record {
              answers = ap (answer 0) (sym exactly)
                  ∙ sym (clear_success (flatten_order p code count (length tape)) (answer 0 (length (letters_of (root p) code count))) clear);
              leaves = ap₂ (λ l i. l ++ drop i tape) (e ∙ ap (take n) new
                  ∙ take_at (letters_of (root p) code count) (drop (length (letters_of (root p) code count)) own) n exactly) (sym exactly)
                  ∙ sym (flatten_fills clear);
            }
