-- A call from C on a desk of 31 bytes is the service's call: from the desk that stands in the bytes before it to that which stands there after it.
use Rattle.std.specs.Prelude.{◌≡◌, Bool, true, false, cond, ◌⊎◌, List, [], ℕ, suc, eqb, length, Err, Ok, Result}
use Rattle.std.proofs.Math.Path.{refl, sym, ap}
use Rattle.std.proofs.Common.{subst, ◌∙◌, inl, inr, arith, length-set}
use Rattle.refusals.specs.Refusals.{Answer, answer}
use Rattle.refusals.specs.Checks.{first_of, First, Clear}
use Rattle.refusals.specs.CheckLaws.{which_first, first_said, clear_said}
use Rattle.bits.specs.Bits.{in_front}
use Rattle.loading.specs.Load.{load_table}
use Rattle.first_sweep.specs.Tail.{tail_words}
use Rattle.first_sweep.specs.RightWords.{RightWords}
use Rattle.desk.specs.declared.Desk.{Desk}
use Rattle.desk.specs.declared.DeskRefusal.{DeskRefusal}
use Rattle.desk.specs.Desks.{page_limit, letters_held, empty_desk, with_page, without_page, desk_refused, desk_answer, if_accepted, DeskTest}
use Rattle.desk.specs.Desks.{open_order, open_answer, Opens, Puts, Withdraws}
use Rattle.desk.proofs.WordLaws.{put_right, withdraw_right}
use Rattle.packing.specs.Packing.{unpacked}
use Rattle.packing.specs.DeskBytes.{desk_bytes, desk_of_bytes, bytes_of_desk}
use Rattle.packing.specs.DeskBytesLaws.{bytes_back, desk_back, again}
use Rattle.wumbyra.specs.Packed.{desk_open_answer, DeskOpensText, DeskPutsText, DeskWithdrawsText}
use Rattle.wumbyra.proofs.DeskLaws.{open_right}

-- ── the desk that stands in bytes ──
module _ (desk : List ℕ) (whole : length desk ≡ desk_bytes) where
  pub lengths_all : length (desk_of_bytes desk).lengths ≡ page_limit
  lengths_all = omega (arith, ap length (bytes_back desk whole), whole)

  -- what a call wrote is the desk that it left
  stands : (a : Answer) (new : Desk) → length new.lengths ≡ page_limit → (now : List ℕ) → now ≡ if_accepted a (bytes_of_desk new) desk
      → (desk_of_bytes now ≡ if_accepted a new (desk_of_bytes desk)) × (length now ≡ desk_bytes)
  stands a new size now e = go (eqb a.number 0) e
    where
      go : (b : Bool) → now ≡ cond b (bytes_of_desk new) desk → (desk_of_bytes now ≡ cond b new (desk_of_bytes desk)) × (length now ≡ desk_bytes)
      go true f = (ap desk_of_bytes f ∙ desk_back new size, ap length f ∙ ap suc size)
      go false f = (ap desk_of_bytes f, ap length f ∙ whole)

  -- the same by the desk that is left, which is the new one or the old one
  left-stands : (a : Answer) (new after : Desk) → length new.lengths ≡ page_limit → after ≡ if_accepted a new (desk_of_bytes desk) → (now : List ℕ)
      → now ≡ if_accepted a (bytes_of_desk after) desk → (after ≡ desk_of_bytes now) × (length now ≡ desk_bytes)
  left-stands a new after size e now f =
      let s = stands a after (go (eqb a.number 0) e) now f in
      (again (eqb a.number 0) after new (desk_of_bytes desk) e ∙ sym s.0, s.1)
    where
      go : (b : Bool) → after ≡ cond b new (desk_of_bytes desk) → length after.lengths ≡ page_limit
      go true q = ap (λ d. length d.lengths) q ∙ size
      go false q = ap (λ d. length d.lengths) q ∙ lengths_all

-- ── the service's promise ──
-- what an order has the service answer
told : (order : List DeskTest) (n : ℕ) → (a : Result ℕ DeskRefusal) × (desk_answer a ≡ first_of desk_refused order (answer 0 n))
told order n = go (which_first order)
  where
    go : Clear order ⊎ ((why : DeskRefusal) × First why order) → (a : Result ℕ DeskRefusal) × (desk_answer a ≡ first_of desk_refused order (answer 0 n))
    go (inl c) = (Ok n, sym (clear_said desk_refused order (answer 0 n) c))
    go (inr (why, f)) = (Err why, sym (first_said desk_refused f (answer 0 n)))

module _ (text desk now : List ℕ) (r : ℕ) (whole : length desk ≡ desk_bytes) where
  pub opens_served : (words words_now : List ℕ) → DeskOpensText text desk now words words_now r
      → (a : Result ℕ DeskRefusal) × (unpacked r ≡ desk_answer a) × (Opens (load_table text) (desk_of_bytes desk) (desk_of_bytes now) words words_now a)
      × (length now ≡ desk_bytes)
  unfolding open_answer
  opens_served words words_now t =
      let p = load_table text in
      let a = told (open_order p (length words)) 0 in
      let same : desk_open_answer p (length words) (length desk) ≡ open_answer p (length words) = open_right p (length words) (length desk) whole in
      let left = t.leaves ∙ ap (λ x. if_accepted x (bytes_of_desk empty_desk) desk) same in
      let s = stands desk whole (open_answer p (length words)) empty_desk refl now left in
      let filled = t.words_left ∙ ap (λ x. if_accepted x (in_front (tail_words p []) words) words) same in
      (a.0, t.answers ∙ same ∙ sym a.1, record { answers = a.1; leaves = s.0; words_left = filled }, s.1)

  module _ (letters : List ℕ) where
    pub puts_served : (page letters_now words words_now : List ℕ) (t : DeskPutsText text desk now page letters letters_now words words_now r)
        → (Puts (load_table text) page (desk_of_bytes desk) (desk_of_bytes now) letters letters_now words words_now t.desk_answered)
        × (length now ≡ desk_bytes)
    puts_served page letters_now words words_now t =
        let old = desk_of_bytes desk in
        let new = with_page old (length page) in
        let size : length new.lengths ≡ page_limit = length-set old.lengths old.count (length page) ∙ lengths_all desk whole in
        let s = left-stands desk whole (desk_answer t.desk_answered) new t.after size
        (t.puts.leaves ∙ ap (λ x. if_accepted x new old) (sym t.puts.answers)) now t.leaves in
        (subst (λ d. Puts (load_table text) page old d letters letters_now words words_now t.desk_answered) s.0 t.puts, s.1)

    pub withdraws_served : (t : DeskWithdrawsText text desk now letters r)
        → (Withdraws (load_table text) (desk_of_bytes desk) (desk_of_bytes now) letters t.desk_answered) × (length now ≡ desk_bytes)
    withdraws_served t =
        let old = desk_of_bytes desk in
        let new = without_page old in
        let s = left-stands desk whole (desk_answer t.desk_answered) new t.after (lengths_all desk whole)
        (t.withdraws.leaves ∙ ap (λ x. if_accepted x new old) (sym t.withdraws.answers)) now t.leaves in
        (subst (λ d. Withdraws (load_table text) old d letters t.desk_answered) s.0 t.withdraws, s.1)

    -- 02: "If before a call the marks are those of the joined letters under its table, they are so after it"
    pub puts_right : (page letters_now words words_now : List ℕ) → DeskPutsText text desk now page letters letters_now words words_now r
        → RightWords (load_table text) (letters_held (desk_of_bytes desk) letters) words
        → RightWords (load_table text) (letters_held (desk_of_bytes now) letters_now) words_now
    puts_right page letters_now words words_now t =
        put_right (load_table text) page (desk_of_bytes desk) (desk_of_bytes now) letters letters_now words words_now t.desk_answered
        (puts_served page letters_now words words_now t).0 (lengths_all desk whole)

    pub withdraws_right : (words : List ℕ) → DeskWithdrawsText text desk now letters r
        → RightWords (load_table text) (letters_held (desk_of_bytes desk) letters) words
        → RightWords (load_table text) (letters_held (desk_of_bytes now) letters) words
    withdraws_right words t =
        withdraw_right (load_table text) (desk_of_bytes desk) (desk_of_bytes now) letters words t.desk_answered (withdraws_served t).0
