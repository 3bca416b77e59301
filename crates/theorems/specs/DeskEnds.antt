-- THE LAST WORD OF A DESK: after an accepted put from C, the flag 1 word of all letters held is above 0 exactly if some tape of the pattern ends with
-- these letters. Right words before the put are asked for: an opening writes them, and puts and withdrawals keep them.
use Rattle.std.specs.Prelude.{◌≡◌, true, false, not, ◌↔◌, List, [], ◌∷◌, ℕ, zero, suc, ◌+◌, ◌*◌, ◌≤◌, leb, length, get_or}
use Rattle.std.proofs.Common.{sym, ap, subst, ◌∙◌, true≢false, inl, inr, arith, length-append}
use borrow.Author.Tests.{ne_eqb, not-false, leb-true}
use Rattle.syntax.specs.declared.Pattern.{Pattern}
use Rattle.syntax.specs.Bools.{and_fst}
use Rattle.syntax.specs.Trees.{root}
use Rattle.syntax.specs.TreeLaws.{Rules}
use Rattle.refusals.specs.Checks.{Clear}
use Rattle.semantics.specs.Begins.{Ends}
use Rattle.steps.specs.StateSets.{state_set}
use Rattle.desk.specs.declared.Desk.{Desk}
use Rattle.first_sweep.specs.RightWords.{RightWords, right_one}
use Rattle.desk.specs.Desks.{held, letters_held, good_page, desk_good, page_letters, DeskTest, put_order, desk_answer, Puts}
use Rattle.desk.specs.Numbers.{desk_number_positive}
use Rattle.desk.specs.Checking.{put_upto, put_cells}
use Rattle.desk.proofs.DeskWays.{put-rules}
use Rattle.desk.specs.Moves.{held-length}
use Rattle.desk.proofs.Orders.{Answered, put_answered}
use Rattle.desk.proofs.WordLaws.{put-before}
use Rattle.reach.specs.FrontWords.{has_any}
use Rattle.reach.specs.StateEnds.{state_ends_iff}
use Rattle.loading.specs.Load.{load_table}
use Rattle.packing.specs.Packing.{unpacked}
use Rattle.packing.specs.DeskBytes.{desk_bytes, desk_of_bytes}
use Rattle.wumbyra.specs.Packed.{DeskPutsText}
use Rattle.wumbyra.proofs.DeskServed.{lengths_all, puts_served, puts_right}

-- a word above 0 is one that has a bit
above-any : (x : ℕ) → 1 ≤ x → has_any x ≡ true
above-any x h = ap not (ne_eqb x 0 (λ e. omega (arith, h, e)))

any-above : (x : ℕ) → has_any x ≡ true → 1 ≤ x
any-above zero h = absurd (true≢false (sym h))
any-above (suc x) h = omega arith

-- letters, at least one, with right words
pub last_word_ends : (p : Pattern) → Rules p → (w words : List ℕ) → RightWords p w words → 1 ≤ length w
    → (1 ≤ get_or words (2 * length w + 1) 0) ↔ Ends (root p) w
last_word_ends p rules [] words right h = absurd (omega arith)
last_word_ends p rules (c ∷ w) words right h =
    let word = get_or words (2 * length (c ∷ w) + 1) 0 in
    let same : word ≡ state_set p true (c ∷ w) = right_one p (c ∷ w) words right in
    let ends = state_ends_iff p rules true c w in (
      λ k. ends.0 (ap has_any (sym same) ∙ above-any word k),
      λ e. any-above word (ap has_any same ∙ ends.1 e),
    )

module _ (text desk now page letters letters_now words words_now : List ℕ) (r : ℕ) (whole : length desk ≡ desk_bytes)
    (t : DeskPutsText text desk now page letters letters_now words words_now r) (accepted : (unpacked r).number ≡ 0)
    (right : RightWords (load_table text) (letters_held (desk_of_bytes desk) letters) words) where
  abbrev p : Pattern
  p = load_table text

  abbrev d : Desk
  d = desk_of_bytes desk

  abbrev order : List DeskTest
  order = put_order d p page letters (length words)

  was_put : Puts p page d (desk_of_bytes now) letters letters_now words words_now t.desk_answered
  was_put = (puts_served text desk now r whole letters page letters_now words words_now t).0

  -- no cause held, and the value is the number of letters
  was_accepted : Clear order × ((unpacked r).value ≡ held d + length page)
  was_accepted = go (put_answered p d page letters words (desk_of_bytes now) letters_now words_now t.desk_answered was_put)
    where
      go : Answered order (held d + length page) t.desk_answered → Clear order × ((unpacked r).value ≡ held d + length page)
      go (inl (c, k)) = (c, ap (λ a. a.value) (t.answers ∙ ap desk_answer k))
      go (inr (why, f, k)) = absurd (omega (arith, accepted, ap (λ a. a.number) (t.answers ∙ ap desk_answer k), desk_number_positive why))

  -- the letters held after the put
  abbrev all : List ℕ
  all = letters_held (desk_of_bytes now) letters_now

  some-letters : 1 ≤ length page
  unfolding good_page
  some-letters =
      let good = and_fst (good_page (length page)) (desk_good d letters) (not-false _ was_accepted.0.1.1.0) in
      leb-true 1 (length page) (and_fst (leb 1 (length page)) (leb (length page) page_letters) good)

  pub put_count : length all ≡ (unpacked r).value
  put_count =
      let c = was_accepted.0 in
      let few = put_upto d p page letters (length words) c in
      let size = held-length d letters (put_cells d p page letters (length words) c) (omega (arith, few)) in
      let before = put-before p page d (desk_of_bytes now) letters letters_now words words_now t.desk_answered was_put (lengths_all desk whole) c in
      omega (arith, ap length before, length-append page (letters_held d letters), size, was_accepted.1)

  pub put_ends : (1 ≤ get_or words_now (2 * (unpacked r).value + 1) 0) ↔ Ends (root p) all
  put_ends =
      let rules = put-rules p d page letters words was_accepted.0 in
      let stay = puts_right text desk now r whole letters page letters_now words words_now t right in
      subst (λ n. (1 ≤ get_or words_now (2 * n + 1) 0) ↔ Ends (root p) all) put_count
      (last_word_ends p rules all words_now stay (omega (arith, put_count, was_accepted.1, some-letters)))
