-- 02: "a put changes only its own letters' cells and mark words", accepted or refused.
use Rattle.std.specs.Prelude.{◌≡◌, ◌⊎◌, List, ℕ, ◌+◌, ◌-◌, ◌*◌, ◌≤◌, ◌<◌, eqb, length, get_or, Result}
use Rattle.std.proofs.Common.{ap, ◌∙◌, inl, inr, arith}
use Rattle.std.proofs.lemmas.List.Edits.{sets}
use Rattle.desk.specs.declared.DeskRefusal.{DeskRefusal}
use Rattle.syntax.specs.declared.Pattern.{Pattern}
use Rattle.syntax.specs.Letter.{letter_limit}
use Rattle.first_sweep.specs.Grow.{grown, step_by, grown-length}
use Rattle.desk.specs.declared.Desk.{Desk}
use Rattle.desk.specs.Desks.{held, put_order, Puts}
use Rattle.desk.specs.Checking.{put_upto}
use Rattle.desk.specs.Moves.{sets-before, sets_behind}
use Rattle.desk.proofs.Orders.{Answered, put_answered, was_put, put_only}

-- outside of the stretch that is stored
outside : (vs l : List ℕ) (at end i : ℕ) → at + length vs ≡ end → (i < at) ⊎ (end ≤ i) → get_or (sets l at vs) i 0 ≡ get_or l i 0
outside vs l at end i e (inl h) = sets-before vs l at i h
outside vs l at end i e (inr h) = sets_behind vs l at i (omega (arith, e, h))

module _ (p : Pattern) (page : List ℕ) (d e : Desk) (letters after words now : List ℕ) (r : Result ℕ DeskRefusal) (h : Puts p page d e letters after words now r) where
  abbrev How : Type 0
  How = Answered (put_order d p page letters (length words)) (held d + length page) r

  -- a page's letters lie before those held
  pub cells_untouched : (i : ℕ) → (i < letter_limit - (held d + length page)) ⊎ (letter_limit - held d ≤ i) → get_or after i 0 ≡ get_or letters i 0
  cells_untouched i k = go (put_answered p d page letters words e after now r h)
    where
      go : How → get_or after i 0 ≡ get_or letters i 0
      go (inl (c, q)) =
          let at = letter_limit - (held d + length page) in
          let size : at + length page ≡ letter_limit - held d = omega (arith, put_upto d p page letters (length words) c) in
          ap (λ xs. get_or xs i 0) (was_put p d page letters words e after now r h c).2 ∙ outside page letters at (letter_limit - held d) i size k
      go (inr (why, f, q)) = ap (λ xs. get_or xs i 0) (put_only p d page letters words e after now r h why f).2

  -- 02: "the words for j letters from 2 × j on"
  pub words_untouched : (i : ℕ) → (i < 2 * (held d + 1)) ⊎ (2 * (held d + length page + 1) ≤ i) → get_or now i 0 ≡ get_or words i 0
  words_untouched i k = go (put_answered p d page letters words e after now r h)
    where
      go : How → get_or now i 0 ≡ get_or words i 0
      go (inl (c, q)) =
          let more = grown p (get_or words (2 * held d + 1) 0) (eqb (held d) 0) page in
          let long : length more ≡ 2 * length page = grown-length (step_by p) (get_or words (2 * held d + 1) 0) (eqb (held d) 0) page in
          ap (λ xs. get_or xs i 0) (was_put p d page letters words e after now r h c).3
          ∙ outside more words (2 * (held d + 1)) (2 * (held d + length page + 1)) i (omega (arith, long)) k
      go (inr (why, f, q)) = ap (λ xs. get_or xs i 0) (put_only p d page letters words e after now r h why f).3
