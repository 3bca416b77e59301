-- The calls of a desk: the first cause that holds is answered, whatever later causes hold, and all is left as it was.
use Rattle.std.specs.Prelude.{◌≡◌, refl, ◌⊎◌, List, [], ℕ, ◌+◌, ◌-◌, ◌*◌, eqb, length, get_or, Err, Ok, Result}
use Rattle.std.proofs.Common.{inl, inr}
use Rattle.std.proofs.lemmas.List.Edits.{sets}
use Rattle.syntax.specs.declared.Pattern.{Pattern}
use Rattle.syntax.specs.Letter.{letter_limit}
use Rattle.refusals.specs.Checks.{First, Clear}
use Rattle.refusals.specs.CheckLaws.{which_first}
use Rattle.bits.specs.Bits.{in_front}
use Rattle.first_sweep.specs.Tail.{tail_words}
use Rattle.first_sweep.specs.Grow.{grown}
use Rattle.desk.specs.declared.Desk.{Desk}
use Rattle.desk.specs.declared.DeskRefusal.{DeskRefusal}
use Rattle.desk.specs.Desks.{held, empty_desk, with_page, without_page, DeskTest, open_order, put_order, withdraw_order}
use Rattle.desk.specs.Desks.{Opens, Puts, Withdraws}
use Rattle.desk.proofs.DeskWays.{open_refused, open_clear, put_refused, put_done, withdraw_refused, withdraw_done}
use Rattle.desk.specs.Unique.{opens_one, puts_one, withdraws_one}

-- 01: "A number is returned if its cause holds and none before it in the service's order does, and never otherwise."
abbrev pub Answered : (order : List DeskTest) → (letters : ℕ) → Result ℕ DeskRefusal → Type 0
Answered order n r = (Clear order × (r ≡ Ok n)) ⊎ ((why : DeskRefusal) × First why order × (r ≡ Err why))

-- ── opening ──
module _ (p : Pattern) (d : Desk) (words : List ℕ) where
  module _ (e : Desk) (now : List ℕ) (r : Result ℕ DeskRefusal) (h : Opens p d e words now r) where
    pub open_only : (why : DeskRefusal) → First why (open_order p (length words)) → (r ≡ Err why) × (e ≡ d) × (now ≡ words)
    open_only why f = opens_one p d e d words now words r (Err why) h (open_refused p d words why f)

    pub opened : Clear (open_order p (length words)) → (r ≡ Ok 0) × (e ≡ empty_desk) × (now ≡ in_front (tail_words p []) words)
    opened c =
        opens_one p d e empty_desk words now (in_front (tail_words p []) words) r (Ok 0) h
        (open_clear p d words c (in_front (tail_words p []) words) refl)

    pub open_answered : Answered (open_order p (length words)) 0 r
    open_answered = go (which_first (open_order p (length words)))
      where
        go : Clear (open_order p (length words)) ⊎ ((why : DeskRefusal) × First why (open_order p (length words))) → Answered (open_order p (length words)) 0 r
        go (inl c) = inl (c, (opened c).0)
        go (inr (why, f)) = inr (why, f, (open_only why f).0)

-- ── putting ──
module _ (p : Pattern) (d : Desk) (page letters words : List ℕ) where
  abbrev put_checks : List DeskTest
  put_checks = put_order d p page letters (length words)

  module _ (e : Desk) (after now : List ℕ) (r : Result ℕ DeskRefusal) (h : Puts p page d e letters after words now r) where
    pub put_only : (why : DeskRefusal) → First why (put_order d p page letters (length words))
        → (r ≡ Err why) × (e ≡ d) × (after ≡ letters) × (now ≡ words)
    put_only why f = puts_one p d page e d letters after letters words now words r (Err why) h (put_refused p d page letters words why f)

    pub was_put : Clear (put_order d p page letters (length words))
        → (r ≡ Ok (held d + length page)) × (e ≡ with_page d (length page))
        × (after ≡ sets letters (letter_limit - (held d + length page)) page)
        × (now ≡ sets words (2 * (held d + 1)) (grown p (get_or words (2 * held d + 1) 0) (eqb (held d) 0) page))
    was_put c =
        let cells = sets letters (letter_limit - (held d + length page)) page in
        let filled = sets words (2 * (held d + 1)) (grown p (get_or words (2 * held d + 1) 0) (eqb (held d) 0) page) in
        puts_one p d page e (with_page d (length page)) letters after cells words now filled r (Ok (held d + length page)) h
        (put_done p d page letters words c (with_page d (length page)) cells filled (held d + length page) refl refl refl refl)

    pub put_answered : Answered (put_order d p page letters (length words)) (held d + length page) r
    put_answered = go (which_first put_checks)
      where
        go : Clear put_checks ⊎ ((why : DeskRefusal) × First why put_checks) → Answered put_checks (held d + length page) r
        go (inl c) = inl (c, (was_put c).0)
        go (inr (why, f)) = inr (why, f, (put_only why f).0)

-- ── withdrawing ──
module _ (p : Pattern) (d : Desk) (letters : List ℕ) where
  module _ (e : Desk) (r : Result ℕ DeskRefusal) (h : Withdraws p d e letters r) where
    pub withdraw_only : (why : DeskRefusal) → First why (withdraw_order d p letters) → (r ≡ Err why) × (e ≡ d)
    withdraw_only why f = withdraws_one p d e d letters r (Err why) h (withdraw_refused p d letters why f)

    pub was_withdrawn : Clear (withdraw_order d p letters) → (r ≡ Ok (held (without_page d))) × (e ≡ without_page d)
    was_withdrawn c =
        withdraws_one p d e (without_page d) letters r (Ok (held (without_page d))) h (withdraw_done p d letters c (without_page d) (held (without_page d)) refl refl)

    pub withdraw_answered : Answered (withdraw_order d p letters) (held (without_page d)) r
    withdraw_answered = go (which_first (withdraw_order d p letters))
      where
        go : Clear (withdraw_order d p letters) ⊎ ((why : DeskRefusal) × First why (withdraw_order d p letters))
            → Answered (withdraw_order d p letters) (held (without_page d)) r
        go (inl c) = inl (c, (was_withdrawn c).0)
        go (inr (why, f)) = inr (why, f, (withdraw_only why f).0)
