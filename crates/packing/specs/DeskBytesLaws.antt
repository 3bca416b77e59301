-- Laws of a desk in bytes: each form gives the other back, what a desk of another length is answered, and one law for each way of the code.
use Rattle.std.specs.Prelude.{◌≡◌, refl, Bool, true, false, ◌&&◌, eqb}
use Rattle.std.specs.Prelude.{Result, Ok, Err, ⊤}
use Rattle.std.specs.Option.{unwrap_or}
use Rattle.std.specs.Result.{result_err}
use Rattle.std.proofs.Math.Path.{sym, ap}
use Rattle.std.proofs.Common.{◌∙◌, ap₂, arith}
use borrow.Rule.Slice.PartMut.{put_mid}
use Rattle.std.proofs.Math.Bool.{true≢false, not, cond, and-false}
use mathlib.Core.List.{List, [], ◌∷◌, ◌++◌, append-nil}
use Prim.Native.Nat.{ℕ, suc, ◌+◌, ◌-◌, ◌≤◌}
use borrow.Author.Tests.{eqb-true, eqb-false, eq-eqb, ne_eqb}
use Rattle.std.proofs.Math.ListN.{length, get_or, take, drop, set, replicate, length-drop, length-set, length-replicate, drop_of_length-le}
use Rattle.std.proofs.Math.Seq.{take_all, sets, sets-eq}
use Rattle.syntax.specs.declared.Pattern.{Pattern}
use Rattle.refusals.specs.Refusals.{Answer, answer}
use Rattle.refusals.specs.Checks.{first_of, First, Clear}
use Rattle.refusals.specs.CheckLaws.{zero-said, first_said, clear_said}
use Rattle.desk.specs.declared.Desk.{Desk}
use Rattle.desk.specs.declared.DeskRefusal.{DeskRefusal}
use Rattle.desk.specs.declared.DeskRefusal.TheVariants.{DeskLimits}
use Rattle.desk.specs.Desks.{page_limit, good_page, limits_kept, desk_good, held, without_page, desk_refused, if_accepted}
use Rattle.desk.specs.Desks.{open_order, put_order, withdraw_order, put_answer, withdraw_answer}
use Rattle.desk.specs.Numbers.{desk_number_positive}
use Rattle.desk.specs.Checking.{ChecksFirst}
use Rattle.packing.specs.DeskBytes.{desk_bytes, broken_desk, desk_of_bytes, bytes_of_desk, other_opened, other_held, desk_laid}

-- ── one form and back ──
pub bytes_back : (bytes : List ℕ) → length bytes ≡ desk_bytes → bytes_of_desk (desk_of_bytes bytes) ≡ bytes
unfolding desk_of_bytes
bytes_back [] e = absurd (omega (arith, e))
bytes_back (x ∷ xs) e =
    ap (λ b. bytes_of_desk (cond b (record { count = x; lengths = xs }) broken_desk)) (eq-eqb (length (x ∷ xs)) desk_bytes e)

pub desk_back : (d : Desk) → length d.lengths ≡ page_limit → desk_of_bytes (bytes_of_desk d) ≡ d
unfolding desk_of_bytes
desk_back d e = ap (λ b. cond b d broken_desk) (eq-eqb (length (bytes_of_desk d)) desk_bytes (ap suc e))

-- ── `desk_of` ──
module _ (bytes : List ℕ) where
  pub desk_other : (length bytes ≡ desk_bytes → ⊥) → broken_desk ≡ desk_of_bytes bytes
  unfolding desk_of_bytes
  desk_other h = rw (ne_eqb (length bytes) desk_bytes h)

  -- the lengths are all the bytes behind the first
  pub desk_read : length bytes ≡ desk_bytes → (lengths : List ℕ) → lengths ≡ take (length bytes - 1) (drop 1 bytes)
      → record { count = get_or bytes 0 0; lengths = lengths } ≡ desk_of_bytes bytes
  unfolding desk_of_bytes
  desk_read e lengths f =
      let few : length (drop 1 bytes) ≤ length bytes - 1 = omega (arith, length-drop 1 bytes) in
      ap (λ xs. record { count = get_or bytes 0 0; lengths = xs }) (f ∙ take_all (length bytes - 1) (drop 1 bytes) few)
      ∙ sym (ap (λ b. cond b (record { count = get_or bytes 0 0; lengths = drop 1 bytes }) broken_desk) (eq-eqb (length bytes) desk_bytes e))

-- ── `put_desk` ──
first_set : (xs : List ℕ) (n : ℕ) → 1 ≤ length xs → take 1 (set xs 0 n) ≡ n ∷ []
first_set [] n h = absurd (omega (arith, h))
first_set (x ∷ xs) n h = refl

module _ (d : Desk) (bytes : List ℕ) where
  pub laid_other : (length bytes ≡ desk_bytes → ⊥) → bytes ≡ desk_laid d bytes
  unfolding desk_laid
  laid_other h = rw (ne_eqb (length bytes) desk_bytes h)

  -- the count in the first byte, and the lengths in all those behind it
  pub laid-right : length bytes ≡ desk_bytes → (lengths : List ℕ) → lengths ≡ d.lengths
      → put_mid 1 (length (set bytes 0 d.count) - 1) (set bytes 0 d.count) lengths ≡ desk_laid d bytes
  unfolding desk_laid
  laid-right e lengths f =
      let counted = set bytes 0 d.count in
      let size : length counted ≡ desk_bytes = length-set bytes 0 d.count ∙ e in
      let few : length (drop 1 counted) ≤ length counted - 1 = omega (arith, length-drop 1 counted) in
      ap (λ xs. take 1 counted ++ (lengths ++ xs)) (drop_of_length-le (drop 1 counted) few)
      ∙ ap₂ (λ xs ys. xs ++ ys) (first_set bytes d.count (omega (arith, e))) (append-nil lengths ∙ f)
      ∙ sym (ap (λ b. cond b (bytes_of_desk d) bytes) (eq-eqb (length bytes) desk_bytes e))

-- ── what is written behind a call ──
pub again : {A : Type 0} (b : Bool) (x y z : A) → x ≡ cond b y z → x ≡ cond b x z
again true x y z e = refl
again false x y z e = e

-- bytes into which the desk that a call leaves was written: a refused call leaves them as they were, if one with a desk of another length is refused
pub desk-written :
    (bytes : List ℕ) (a : Answer) (after new : Desk) → after ≡ if_accepted a new (desk_of_bytes bytes)
    → ((length bytes ≡ desk_bytes → ⊥) → eqb a.number 0 ≡ false) → desk_laid after bytes ≡ if_accepted a (bytes_of_desk new) bytes
unfolding desk_laid
desk-written bytes a after new e other = go (eqb (length bytes) desk_bytes) refl (eqb a.number 0) refl
  where
    go : (b : Bool) → eqb (length bytes) desk_bytes ≡ b → (t : Bool) → eqb a.number 0 ≡ t
        → cond (eqb (length bytes) desk_bytes) (bytes_of_desk after) bytes ≡ cond (eqb a.number 0) (bytes_of_desk new) bytes
    go true p true q =
        ap (λ b. cond b (bytes_of_desk after) bytes) p ∙ ap bytes_of_desk (e ∙ ap (λ t. cond t new (desk_of_bytes bytes)) q)
        ∙ sym (ap (λ t. cond t (bytes_of_desk new) bytes) q)
    go true p false q =
        ap (λ b. cond b (bytes_of_desk after) bytes) p ∙ ap bytes_of_desk (e ∙ ap (λ t. cond t new (desk_of_bytes bytes)) q)
        ∙ bytes_back bytes (eqb-true (length bytes) desk_bytes p) ∙ sym (ap (λ t. cond t (bytes_of_desk new) bytes) q)
    go false p t q =
        ap (λ b. cond b (bytes_of_desk after) bytes) p
        ∙ sym (ap (λ t. cond t (bytes_of_desk new) bytes) (other (eqb-false (length bytes) desk_bytes p)))

-- the same by the desk that is left
pub desk-kept :
    (bytes : List ℕ) (a : Answer) (after new : Desk) → after ≡ if_accepted a new (desk_of_bytes bytes)
    → ((length bytes ≡ desk_bytes → ⊥) → eqb a.number 0 ≡ false) → desk_laid after bytes ≡ if_accepted a (bytes_of_desk after) bytes
desk-kept bytes a after new e = desk-written bytes a after after (again (eqb a.number 0) after new (desk_of_bytes bytes) e)

-- ── a desk of another length: 13 at 13's place ──
broken_bad : (letters : List ℕ) → desk_good broken_desk letters ≡ false
unfolding desk_good limits_kept
broken_bad letters = refl

module _ (bytes : List ℕ) (h : length bytes ≡ desk_bytes → ⊥) (p : Pattern) (letters : List ℕ) where
  other_bad : desk_good (desk_of_bytes bytes) letters ≡ false
  other_bad = ap (λ d. desk_good d letters) (sym (desk_other bytes h)) ∙ broken_bad letters

  module _ (page : List ℕ) (words : ℕ) where
    wrong : not (good_page (length page) && desk_good (desk_of_bytes bytes) letters) ≡ true
    wrong = ap (λ b. not (good_page (length page) && b)) other_bad ∙ ap not (and-false (good_page (length page)))

    pub put_other : put_answer (desk_of_bytes bytes) p page letters words ≡ other_held p (length letters)
    unfolding put_answer
    put_other = rw wrong

    pub put_other_refused : eqb (put_answer (desk_of_bytes bytes) p page letters words).number 0 ≡ false
    unfolding put_answer
    put_other_refused =
        let order = put_order (desk_of_bytes bytes) p page letters words in
        let success = answer 0 (held (desk_of_bytes bytes) + length page) in
        ne_eqb (first_of desk_refused order success).number 0
        (λ z. true≢false (sym wrong ∙ (zero-said desk_refused desk_number_positive order success z).1.1.0))

  pub withdraw_other : withdraw_answer (desk_of_bytes bytes) p letters ≡ other_held p (length letters)
  unfolding withdraw_answer
  withdraw_other = rw other_bad

  pub withdraw_other_refused : eqb (withdraw_answer (desk_of_bytes bytes) p letters).number 0 ≡ false
  unfolding withdraw_answer
  withdraw_other_refused =
      let order = withdraw_order (desk_of_bytes bytes) p letters in
      let success = answer 0 (held (without_page (desk_of_bytes bytes))) in
      ne_eqb (first_of desk_refused order success).number 0
      (λ z. true≢false (sym (ap not other_bad) ∙ (zero-said desk_refused desk_number_positive order success z).1.1.0))

-- ── `of_other_length` ──
module _ (p : Pattern) (words : ℕ) where
  pub other_first : (why : DeskRefusal) → First why (open_order p words) → desk_refused why ≡ other_opened p words
  unfolding other_opened
  other_first why f = sym (first_said desk_refused f (desk_refused DeskLimits))

  pub other_13 : Clear (open_order p words) → desk_refused DeskLimits ≡ other_opened p words
  unfolding other_opened
  other_13 c = sym (clear_said desk_refused (open_order p words) (desk_refused DeskLimits) c)

  -- the cause that an opening finds first, or else 13
  pub other_told : (r : Result ⊤ DeskRefusal) → ChecksFirst (open_order p words) r
      → desk_refused (unwrap_or (result_err r) DeskLimits) ≡ other_opened p words
  other_told (Ok tt) c = other_13 c
  other_told (Err why) f = other_first why f
