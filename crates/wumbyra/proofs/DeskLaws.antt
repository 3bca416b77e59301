-- Laws of the page desk's calls from C: one for each way of the code.
use Rattle.std.specs.Prelude.{◌≡◌, false, cond, ℕ, eqb, length, Result}
use Rattle.std.proofs.Common.{sym, ap, ap₂, subst, ◌∙◌}
use Rattle.std.proofs.Math.Bool.{true≢false, not}
use mathlib.Core.List.{List, [], ◌∷◌, ◌++◌}
use borrow.Author.Tests.{eq-eqb, ne_eqb}
use Rattle.desk.specs.declared.DeskRefusal.{DeskRefusal}
use Rattle.syntax.specs.declared.Pattern.{Pattern}
use Rattle.refusals.specs.Refusals.{answer}
use Rattle.refusals.specs.Checks.{first_of}
use Rattle.refusals.specs.CheckLaws.{clear_parts, zero-said}
use Rattle.bits.specs.Bits.{in_front}
use Rattle.loading.specs.Load.{load_table}
use Rattle.first_sweep.specs.Tail.{tail_words}
use Rattle.desk.specs.declared.Desk.{Desk}
use Rattle.desk.specs.declared.DeskRefusal.TheVariants.{DeskLimits}
use Rattle.desk.specs.Desks.{empty_desk, with_page, without_page, desk_refused, desk_answer, DeskTest, open_order, open_answer, if_accepted}
use Rattle.desk.specs.Desks.{Opens, Puts, Withdraws}
use Rattle.desk.specs.Numbers.{desk_number_positive}
use Rattle.packing.specs.Packing.{unpacked}
use Rattle.packing.specs.DeskBytes.{desk_bytes, desk_of_bytes, bytes_of_desk, other_opened, desk_laid}
use Rattle.packing.specs.DeskBytesLaws.{desk-written, desk-kept, put_other_refused, withdraw_other_refused}
use Rattle.wumbyra.specs.Packed.{desk_open_answer, DeskOpensText, DeskPutsText, DeskWithdrawsText}

-- ── opening: the length of the desk behind 2 and 6 ──
module _ (p : Pattern) (words bytes : ℕ) where
  pub open_right : bytes ≡ desk_bytes → desk_open_answer p words bytes ≡ open_answer p words
  unfolding desk_open_answer open_answer
  open_right e = rw (eq-eqb bytes desk_bytes e)

  module _ (h : bytes ≡ desk_bytes → ⊥) where
    pub open_other : desk_open_answer p words bytes ≡ other_opened p words
    unfolding desk_open_answer other_opened
    open_other = rw (ne_eqb bytes desk_bytes h)

    pub open_other_refused : eqb (desk_open_answer p words bytes).number 0 ≡ false
    unfolding desk_open_answer
    open_other_refused =
        let behind : List DeskTest = (not (eqb bytes desk_bytes), DeskLimits) ∷ [] in
        ne_eqb (first_of desk_refused (open_order p words ++ behind) (answer 0 0)).number 0
        (λ z. true≢false (sym (ap not (ne_eqb bytes desk_bytes h))
        ∙ (clear_parts (open_order p words) behind (zero-said desk_refused desk_number_positive (open_order p words ++ behind) (answer 0 0) z)).1.0))

module _ (text : List ℕ) (l : Pattern) (g : l ≡ load_table text) (desk words : List ℕ) (r : ℕ) where
  pub open_packed_other : (length desk ≡ desk_bytes → ⊥) → (n : ℕ) → unpacked r ≡ other_opened l n → n ≡ length words
      → DeskOpensText text desk desk words words r
  open_packed_other h n e w =
      let p = load_table text in
      let said = desk_open_answer p (length words) (length desk) in
      let not_said : eqb said.number 0 ≡ false = open_other_refused p (length words) (length desk) h in
      record {
        answers =
            e ∙ ap₂ other_opened g w ∙ sym (open_other p (length words) (length desk) h);
        leaves = sym (ap (λ b. cond b (bytes_of_desk empty_desk) desk) not_said);
        words_left = sym (ap (λ b. cond b (in_front (tail_words p []) words) words) not_said);
      }

  module _ (h : length desk ≡ desk_bytes) (d : Desk) (f : d ≡ desk_of_bytes desk) (after : Desk) (words_now : List ℕ) (a : Result ℕ DeskRefusal)
      (o : Opens l d after words words_now a) (desk_now : List ℕ) (k : desk_now ≡ desk_laid after desk) (e : unpacked r ≡ desk_answer a) where
    pub open_packed : DeskOpensText text desk desk_now words words_now r
    open_packed =
        let p = load_table text in
        let q = subst (λ t. Opens t (desk_of_bytes desk) after words words_now a) g (subst (λ x. Opens l x after words words_now a) f o) in
        let said = desk_open_answer p (length words) (length desk) in
        let same : open_answer p (length words) ≡ said = sym (open_right p (length words) (length desk) h) in
        record {
          answers = e ∙ q.answers ∙ same;
          leaves = k ∙ desk-written desk said after empty_desk (q.leaves ∙ ap (λ x. if_accepted x empty_desk (desk_of_bytes desk)) same)
              (λ other. absurd (other h));
          words_left = q.words_left ∙ ap (λ x. if_accepted x (in_front (tail_words p []) words) words) same;
        }

-- ── putting and withdrawing ──
module _ (text : List ℕ) (l : Pattern) (g : l ≡ load_table text) (desk : List ℕ) (d : Desk) (f : d ≡ desk_of_bytes desk) (letters : List ℕ) where
  pub put-packed :
      (page letters_now words words_now : List ℕ) (after : Desk) (a : Result ℕ DeskRefusal) → Puts l page d after letters letters_now words words_now a
      → (desk_now : List ℕ) → desk_now ≡ desk_laid after desk → (r : ℕ) → unpacked r ≡ desk_answer a
      → DeskPutsText text desk desk_now page letters letters_now words words_now r
  put-packed page letters_now words words_now after a o desk_now k r e =
      let p = load_table text in
      let here = subst (λ x. Puts l page x after letters letters_now words words_now a) f o in
      let q = subst (λ t. Puts t page (desk_of_bytes desk) after letters letters_now words words_now a) g here in
      let new = with_page (desk_of_bytes desk) (length page) in
      record {
        after = after;
        desk_answered = a;
        answers = e;
        puts = q;
        leaves =
            k
            ∙ desk-kept desk (desk_answer a) after new (q.leaves ∙ ap (λ x. if_accepted x new (desk_of_bytes desk)) (sym q.answers))
            (λ h. ap (λ x. eqb x.number 0) q.answers ∙ put_other_refused desk h p letters page (length words));
      }

  pub withdraw-packed :
      (after : Desk) (a : Result ℕ DeskRefusal) → Withdraws l d after letters a → (desk_now : List ℕ) → desk_now ≡ desk_laid after desk
      → (r : ℕ) → unpacked r ≡ desk_answer a → DeskWithdrawsText text desk desk_now letters r
  withdraw-packed after a o desk_now k r e =
      let p = load_table text in
      let here = subst (λ x. Withdraws l x after letters a) f o in
      let q = subst (λ t. Withdraws t (desk_of_bytes desk) after letters a) g here in
      let new = without_page (desk_of_bytes desk) in
      record {
        after = after;
        desk_answered = a;
        answers = e;
        withdraws = q;
        leaves =
            k
            ∙ desk-kept desk (desk_answer a) after new (q.leaves ∙ ap (λ x. if_accepted x new (desk_of_bytes desk)) (sym q.answers))
            (λ h. ap (λ x. eqb x.number 0) q.answers ∙ withdraw_other_refused desk h p letters);
      }
