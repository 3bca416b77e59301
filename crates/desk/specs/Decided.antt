-- Inputs for which two causes hold: which of them a put answers, whatever the rest of the input is.
use Rattle.std.specs.Prelude.{◌≡◌, true, false, ◌&&◌, List, ℕ, ◌≤◌, ◌<◌, length}
use Rattle.std.proofs.Math.Path.{ap}
use Rattle.std.proofs.Common.{◌∙◌, lt-ltb, le-ltb, le-leb}
use Rattle.std.proofs.Math.Bool.{not, and-false}
use Rattle.std.proofs.lemmas.Bool.{lt-leb}
use Rattle.syntax.specs.declared.Pattern.{Pattern}
use Rattle.syntax.specs.Letter.{is_letter, first_bad, letter_limit}
use Rattle.syntax.specs.Table.{obeys}
use Rattle.refusals.specs.declared.Refusal.TheVariants.{TapeByte}
use Rattle.refusals.specs.Checks.{First, here, past}
use Rattle.desk.specs.declared.Desk.{Desk}
use Rattle.desk.specs.declared.DeskRefusal.TheVariants.{Base, DeskLimits, DeskFull}
use Rattle.desk.specs.Desks.{page_limit, good_page, every, lengths_held, letters_held, limits_kept, desk_good, put_order}

module _ (d : Desk) (p : Pattern) (page letters : List ℕ) (words : ℕ) (table : obeys p ≡ true) (cells : letter_limit ≤ length letters) where
  -- a page of a wrong length is 13 on a full desk too
  pub wrong_page : good_page (length page) ≡ false → First DeskLimits (put_order d p page letters words)
  wrong_page e =
      past (ap not table) (past (le-ltb (length letters) letter_limit cells) (here (ap (λ b. not (b && desk_good d letters)) e)))

  -- a count over 30 is a broken limit, 13, and no full desk
  pub over_full : page_limit < d.count → First DeskLimits (put_order d p page letters words)
  unfolding desk_good limits_kept
  over_full h =
      past (ap not table) (past (le-ltb (length letters) letter_limit cells)
      (here (ap (λ b. not (good_page (length page) && ((b && every good_page (lengths_held d)) && every is_letter (letters_held d letters))))
      (lt-leb d.count page_limit h) ∙ ap not (and-false (good_page (length page))))))

  module _ (right : (good_page (length page) && desk_good d letters) ≡ true) where
    -- a bad letter on a full desk is 14
    pub bad_on_full : page_limit ≤ d.count → First DeskFull (put_order d p page letters words)
    bad_on_full h = past (ap not table) (past (le-ltb (length letters) letter_limit cells) (past (ap not right) (here (le-leb page_limit d.count h))))

    -- a bad letter is 4 also where the words are too few
    pub bad-before-words : d.count < page_limit → first_bad page < length page → First (Base (TapeByte (first_bad page))) (put_order d p page letters words)
    bad-before-words h l =
        past (ap not table) (past (le-ltb (length letters) letter_limit cells) (past (ap not right) (past (lt-leb page_limit d.count h)
        (here (lt-ltb (first_bad page) (length page) l)))))
