-- A call of the page desk from C that is refused leaves all as it was; a desk of another length is refused with 13, at 13's place.
use Rattle.std.specs.Prelude.{◌≡◌, Bool, false, cond, List, ℕ, ◌≤◌, eqb, length}
use Rattle.std.proofs.Common.{sym, ap, ◌∙◌, arith, ne_eqb}
use Rattle.refusals.specs.Refusals.{Answer}
use Rattle.loading.specs.Load.{load_table}
use Rattle.desk.specs.Desks.{put_answer, withdraw_answer}
use Rattle.packing.specs.Packing.{unpacked}
use Rattle.packing.specs.DeskBytes.{desk_bytes, desk_of_bytes, other_opened, other_held}
use Rattle.packing.specs.DeskBytesLaws.{put_other, put_other_refused, withdraw_other, withdraw_other_refused}
use Rattle.wumbyra.specs.Packed.{desk_open_answer, DeskOpensText, DeskPutsText, DeskWithdrawsText}
use Rattle.wumbyra.proofs.DeskLaws.{open_other, open_other_refused}

kept : {A : Type 0} (now new old : A) (b : Bool) → now ≡ cond b new old → b ≡ false → now ≡ old
kept now new old b e h = e ∙ ap (λ t. cond t new old) h

not_accepted : (a b : Answer) → a ≡ b → 1 ≤ a.number → eqb b.number 0 ≡ false
not_accepted a b e h = ne_eqb b.number 0 (λ z. omega (arith, h, z, ap (λ x. x.number) e))

-- ── opening ──
module _ (text desk desk_now words words_now : List ℕ) (r : ℕ) (t : DeskOpensText text desk desk_now words words_now r) where
  opens_kept : eqb (desk_open_answer (load_table text) (length words) (length desk)).number 0 ≡ false → (desk_now ≡ desk) × (words_now ≡ words)
  opens_kept said = (kept _ _ _ _ t.leaves said, kept _ _ _ _ t.words_left said)

  -- 02: "A refused call leaves desk, letters and marks alike."
  pub opens-refused : 1 ≤ (unpacked r).number → (desk_now ≡ desk) × (words_now ≡ words)
  opens-refused h = opens_kept (not_accepted _ _ t.answers h)

  -- a desk of another length is 13 behind 2 and 6
  pub opens_other : (length desk ≡ desk_bytes → ⊥)
      → (unpacked r ≡ other_opened (load_table text) (length words)) × (desk_now ≡ desk) × (words_now ≡ words)
  opens_other h =
      let p = load_table text in
      let k = opens_kept (open_other_refused p (length words) (length desk) h) in
      (t.answers ∙ open_other p (length words) (length desk) h, k.0, k.1)

-- ── putting ──
module _ (text desk desk_now page letters letters_now words words_now : List ℕ) (r : ℕ)
    (t : DeskPutsText text desk desk_now page letters letters_now words words_now r) where
  puts_kept : eqb (put_answer (desk_of_bytes desk) (load_table text) page letters (length words)).number 0 ≡ false
      → (desk_now ≡ desk) × (letters_now ≡ letters) × (words_now ≡ words)
  puts_kept said = (
    kept _ _ _ _ t.leaves (ap (λ a. eqb a.number 0) t.puts.answers ∙ said),
    kept _ _ _ _ t.puts.letters-left said,
    kept _ _ _ _ t.puts.words_left said,
  )

  pub puts_refused : 1 ≤ (unpacked r).number → (desk_now ≡ desk) × (letters_now ≡ letters) × (words_now ≡ words)
  puts_refused h = puts_kept (not_accepted _ _ (t.answers ∙ t.puts.answers) h)

  -- a desk of another length is 13 behind 2 and 9
  pub puts_other : (length desk ≡ desk_bytes → ⊥)
      → (unpacked r ≡ other_held (load_table text) (length letters)) × (desk_now ≡ desk) × (letters_now ≡ letters) × (words_now ≡ words)
  puts_other h =
      let p = load_table text in
      let k = puts_kept (put_other_refused desk h p letters page (length words)) in
      (t.answers ∙ t.puts.answers ∙ put_other desk h p letters page (length words), k.0, k.1, k.2)

-- ── withdrawing ──
module _ (text desk desk_now letters : List ℕ) (r : ℕ) (t : DeskWithdrawsText text desk desk_now letters r) where
  withdraws_kept : eqb (withdraw_answer (desk_of_bytes desk) (load_table text) letters).number 0 ≡ false → desk_now ≡ desk
  withdraws_kept said = kept _ _ _ _ t.leaves (ap (λ a. eqb a.number 0) t.withdraws.answers ∙ said)

  pub withdraws_refused : 1 ≤ (unpacked r).number → desk_now ≡ desk
  withdraws_refused h = withdraws_kept (not_accepted _ _ (t.answers ∙ t.withdraws.answers) h)

  -- a desk of another length is 13 behind 2 and 9
  pub withdraws_other : (length desk ≡ desk_bytes → ⊥)
      → (unpacked r ≡ other_held (load_table text) (length letters)) × (desk_now ≡ desk)
  withdraws_other h =
      let p = load_table text in
      (t.answers ∙ t.withdraws.answers ∙ withdraw_other desk h p letters, withdraws_kept (withdraw_other_refused desk h p letters))
