-- RIGHT WORDS STAY RIGHT. 02: "If before a call the marks are those of the joined letters under its table, they are so after it; a put changes only
-- its own letters' cells and mark words, a withdrawal none." Each call is one of the ways of first_sweep RightWords.
use Rattle.std.specs.Prelude.{◌≡◌, List, ◌++◌, ℕ, ◌+◌, ◌-◌, ◌*◌, eqb, length, get_or, take, drop, Result}
use Rattle.std.proofs.Common.{sym, ap, ap₂, subst, ◌∙◌, inl, inr, arith, take-append-drop}
use Rattle.std.proofs.lemmas.List.Edits.{sets}
use Rattle.desk.specs.declared.DeskRefusal.{DeskRefusal}
use Rattle.syntax.specs.declared.Pattern.{Pattern}
use Rattle.refusals.specs.Checks.{Clear}
use Rattle.first_sweep.specs.Grow.{grown}
use Rattle.first_sweep.specs.RightWords.{RightWords, end_right, grown-right, withdrawn_right}
use Rattle.desk.specs.declared.Desk.{Desk}
use Rattle.desk.specs.Desks.{page_limit, held, letters_held, without_page, open_order, put_order, withdraw_order, Opens, Puts, Withdraws}
use Rattle.desk.specs.Checking.{put-room, put_upto, put_cells, withdraw_few, withdraw_cells}
use Rattle.desk.proofs.DeskWays.{put-rules, put_words-room}
use Rattle.desk.specs.Moves.{none_held, held-length, put-letters, less-letters}
use Rattle.desk.proofs.Orders.{Answered, opened, put_answered, was_put, put_only, withdraw_answered, was_withdrawn, withdraw_only}

-- an accepted opening, whatever the words were
pub open_right : (p : Pattern) (d e : Desk) (words now letters : List ℕ) (r : Result ℕ DeskRefusal) → Opens p d e words now r → Clear (open_order p (length words))
    → RightWords p (letters_held e letters) now
open_right p d e words now letters r h c =
    let o = opened p d words e now r h c in
    subst (λ w. RightWords p w now) (sym (ap (λ x. letters_held x letters) o.1 ∙ none_held letters)) (end_right p words now o.2)

-- a put, accepted or refused, on a desk as the code has it, of 30 lengths
module _ (p : Pattern) (page : List ℕ) (d e : Desk) (letters after words now : List ℕ) (r : Result ℕ DeskRefusal) (h : Puts p page d e letters after words now r)
    (whole : length d.lengths ≡ page_limit) where
  -- 02: "a page is put before the letters held"
  pub put-before : Clear (put_order d p page letters (length words)) → letters_held e after ≡ page ++ letters_held d letters
  put-before c =
      let o = was_put p d page letters words e after now r h c in
      ap₂ letters_held o.1 o.2
      ∙ put-letters d page (omega (arith, put-room d p page letters (length words) c, whole)) letters (put_cells d p page letters (length words) c)
      (put_upto d p page letters (length words) c)

  pub put_right : RightWords p (letters_held d letters) words → RightWords p (letters_held e after) now
  put_right right = go (put_answered p d page letters words e after now r h)
    where
      go : Answered (put_order d p page letters (length words)) (held d + length page) r → RightWords p (letters_held e after) now
      go (inl (c, k)) =
          let o = was_put p d page letters words e after now r h c in
          let few = put_upto d p page letters (length words) c in
          let size = held-length d letters (put_cells d p page letters (length words) c) (omega (arith, few)) in
          let more : ℕ → List ℕ = λ n. sets words (2 * (n + 1)) (grown p (get_or words (2 * n + 1) 0) (eqb n 0) page) in
          subst (λ w. RightWords p w now) (sym (put-before c))
          (grown-right p (put-rules p d page letters words c) page (letters_held d letters) words now
          (omega (arith, size, put_words-room p d page letters words c)) right (o.3 ∙ ap more (sym size)))
      go (inr (why, f, k)) =
          let o = put_only p d page letters words e after now r h why f in
          subst (λ w. RightWords p w now) (sym (ap₂ letters_held o.1 o.2)) (subst (RightWords p (letters_held d letters)) (sym o.3) right)

-- a withdrawal, accepted or refused: the words are not touched
module _ (p : Pattern) (d e : Desk) (letters words : List ℕ) (r : Result ℕ DeskRefusal) (h : Withdraws p d e letters r) where
  pub withdraw_right : RightWords p (letters_held d letters) words → RightWords p (letters_held e letters) words
  withdraw_right right = go (withdraw_answered p d letters e r h)
    where
      go : Answered (withdraw_order d p letters) (held (without_page d)) r → RightWords p (letters_held e letters) words
      go (inl (c, k)) =
          let o = was_withdrawn p d letters e r h c in
          let few = withdraw_few d p letters c in
          let cells = withdraw_cells d p letters c in
          let less = less-letters d letters cells few.2 few.0 in
          let all = letters_held d letters in
          let n = get_or d.lengths (d.count - 1) 0 in
          subst (λ w. RightWords p w words) (sym (ap (λ x. letters_held x letters) o.1 ∙ less))
          (withdrawn_right p (take n all) (drop n all) words (subst (λ w. RightWords p w words) (sym (take-append-drop n all)) right))
      go (inr (why, f, k)) =
          let o = withdraw_only p d letters e r h why f in
          subst (λ w. RightWords p w words) (sym (ap (λ x. letters_held x letters) o.1)) right
