-- What each way of a call's checks must show: the first cause that holds, or that none holds.
use Rattle.std.specs.Prelude.{◌≡◌, refl, true, false, ◌&&◌, List, [], ◌∷◌, ◌++◌, ℕ, zero, suc, ◌+◌, ◌*◌, ◌≤◌, ◌<◌, length, Err, None, Ok, Option, Result, Some, ⊤}
use Rattle.std.proofs.Common.{sym, ap, subst, ◌∙◌, arith, lt-ltb, le-ltb, le-leb, eq-eqb, ne_eqb, leb-false, ltb-false}
use Rattle.std.proofs.Math.Bool.{not}
use Rattle.std.proofs.lemmas.Bool.{lt-leb, eqb-false, not-false}
use Rattle.syntax.specs.declared.Pattern.{Pattern}
use Rattle.syntax.specs.Bools.{and_fst, and_snd}
use Rattle.syntax.specs.Letter.{first_bad, letter_limit}
use Rattle.syntax.specs.Table.{obeys}
use Rattle.refusals.specs.declared.Refusal.TheVariants.{Tree as TreeFault, TapeByte, WordsTooShort, TapeTooShort}
use Rattle.refusals.specs.Checks.{numbers_of, First, here, past, Clear}
use Rattle.refusals.specs.CheckLaws.{first_behind, clear_both}
use Rattle.desk.specs.declared.Desk.{Desk}
use Rattle.desk.specs.declared.DeskRefusal.{DeskRefusal}
use Rattle.desk.specs.declared.DeskRefusal.TheVariants.{Base, DeskLimits, DeskFull, DeskEmpty}
use Rattle.desk.specs.Desks.{page_limit, page_letters, good_page, held, limits_kept, desk_good, desk_refused, DeskTest, words_for}
use Rattle.desk.specs.Desks.{open_order, lent_order, page_order, put_order, held_order, withdraw_order}
use Rattle.desk.specs.Limits.{held_limits, put_limits, by_kept, by_broken, page_upto, limits_few}

-- ── the numbers of the orders, laid beside 02's lines ──
module _ (p : Pattern) (words : ℕ) where
  -- 02: "refusing 2, then 6"
  pub open_numbers : numbers_of desk_refused (open_order p words) ≡ 2 ∷ 6 ∷ []
  open_numbers = refl

module _ (p : Pattern) (d : Desk) (page letters : List ℕ) (words : ℕ) where
  -- 02: "after 2, fewer than 3,600 cells with 9 [..], with 13, a 31st page with 14, then a bad letter with 4 [..], then marks too few [..] with 6"
  pub put-numbers : numbers_of desk_refused (put_order d p page letters words) ≡ 2 ∷ 9 ∷ 13 ∷ 14 ∷ 4 ∷ 6 ∷ []
  put-numbers = refl

module _ (p : Pattern) (d : Desk) (letters : List ℕ) where
  -- 02: "withdrawal checks 2, 9 and 13 for the desk, and an empty one gives 15"
  pub withdraw_numbers : numbers_of desk_refused (withdraw_order d p letters) ≡ 2 ∷ 9 ∷ 13 ∷ 15 ∷ []
  withdraw_numbers = refl

-- ── the checks ──
-- the promise of a call's checks: the letters held where no cause of the order holds, or the first that does
abbrev pub Checks : (order : List DeskTest) → (letters : ℕ) → Result ℕ DeskRefusal → Type 0
Checks order n (Ok m) = Clear order × (m ≡ n)
Checks order n (Err why) = First why order

module _ (order : List DeskTest) (n : ℕ) (r : Result ℕ DeskRefusal) (c : Checks order n r) where
  pub checked_why : (why : DeskRefusal) → r ≡ Err why → First why order
  checked_why why e = subst (Checks order n) e c

  pub checked-held : (m : ℕ) → r ≡ Ok m → Clear order × (m ≡ n)
  checked-held m e = subst (Checks order n) e c

-- ── the desk's part ──
module _ (d : Desk) (letters : List ℕ) where
  good_limits : desk_good d letters ≡ true → limits_kept d ≡ true
  unfolding desk_good
  good_limits h = and_fst (limits_kept d) _ h

  pub good_few : desk_good d letters ≡ true → (held d ≤ letter_limit) × (held d ≤ page_letters * d.count) × (d.count ≤ page_limit)
  good_few h = limits_few d (good_limits h)

-- ── the causes of an opening, and those that a put and a withdrawal test first ──
-- the promise of their checks
abbrev pub ChecksFirst : (order : List DeskTest) → Result ⊤ DeskRefusal → Type 0
ChecksFirst order (Ok tt) = Clear order
ChecksFirst order (Err why) = First why order

module _ (order : List DeskTest) (r : Result ⊤ DeskRefusal) (c : ChecksFirst order r) where
  pub not_taken : (why : DeskRefusal) → r ≡ Err why → First why order
  not_taken why e = subst (ChecksFirst order) e c

  pub when_taken : r ≡ Ok tt → Clear order
  when_taken e = subst (ChecksFirst order) e c

module _ (p : Pattern) (n : ℕ) where
  pub open_2 : obeys p ≡ false → First (Base (TreeFault 0)) (open_order p n)
  open_2 e = here (ap not e)

  pub open_6 : obeys p ≡ true → n < 2 → First (Base (WordsTooShort 2)) (open_order p n)
  open_6 e h = past (ap not e) (here (lt-ltb n 2 h))

  pub open_taken : obeys p ≡ true → 2 ≤ n → Clear (open_order p n)
  open_taken e h = (ap not e, (le-ltb n 2 h, tt))

  pub open_told : Clear (open_order p n) → (obeys p ≡ true) × (2 ≤ n)
  open_told c = (not-false (obeys p) c.0, ltb-false n 2 c.1.0)

  pub lent_2 : obeys p ≡ false → First (Base (TreeFault 0)) (lent_order p n)
  lent_2 e = here (ap not e)

  pub lent_9 : obeys p ≡ true → n < letter_limit → First (Base (TapeTooShort letter_limit)) (lent_order p n)
  lent_9 e h = past (ap not e) (here (lt-ltb n letter_limit h))

  pub lent_taken : obeys p ≡ true → letter_limit ≤ n → Clear (lent_order p n)
  lent_taken e h = (ap not e, (le-ltb n letter_limit h, tt))

  pub lent_cells : Clear (lent_order p n) → letter_limit ≤ n
  lent_cells c = ltb-false n letter_limit c.1.0

-- the other causes, behind these
pub checks_behind : (order more : List DeskTest) (n : ℕ) (r : Result ℕ DeskRefusal) → Clear order → Checks more n r → Checks (order ++ more) n r
checks_behind order more n (Ok m) c x = (clear_both order more c x.0, x.1)
checks_behind order more n (Err why) c x = first_behind order c x

-- ── putting ──
module _ (d : Desk) (page letters : List ℕ) (words : ℕ) where
  -- a page of a wrong length, whatever the desk holds
  pub put_13_page : good_page (length page) ≡ false → First DeskLimits (page_order d page letters words)
  put_13_page e = here (ap (λ b. not (b && desk_good d letters)) e)

  module _ (r : Option ℕ) (e : r ≡ put_limits (length page) d letters) where
    pub put_13 : r ≡ None → First DeskLimits (page_order d page letters words)
    unfolding put_limits
    put_13 k = here (ap not (by_broken (good_page (length page) && desk_good d letters) (held d) r e k))

    module _ (h : ℕ) (k : r ≡ Some h) where
      right : ((good_page (length page) && desk_good d letters) ≡ true) × (h ≡ held d)
      unfolding put_limits
      right = by_kept (good_page (length page) && desk_good d letters) (held d) r e h k

      -- the bounds that the sums need
      pub put_few : (h ≤ letter_limit) × (length page ≤ page_letters)
      put_few =
          let t = right.0 in
          let g = and_fst (good_page (length page)) (desk_good d letters) t in
          let f = good_few d letters (and_snd (good_page (length page)) (desk_good d letters) t) in
          (omega (arith, f.0, right.1), page_upto (length page) g)

      pub put_14 : page_limit ≤ d.count → First DeskFull (page_order d page letters words)
      put_14 f = past (ap not right.0) (here (le-leb page_limit d.count f))

      module _ (room : d.count < page_limit) where
        pub put_4 : (bad : ℕ) → bad ≡ first_bad page → bad < length page → First (Base (TapeByte bad)) (page_order d page letters words)
        put_4 bad f l =
            subst (λ b. First (Base (TapeByte b)) (page_order d page letters words)) (sym f)
            (past (ap not right.0) (past (lt-leb page_limit d.count room)
            (here (lt-ltb (first_bad page) (length page) (omega (arith, f, l))))))

        module _ (bad : ℕ) (f : bad ≡ first_bad page) (spelt : length page ≤ bad) (needed : ℕ) where
          needs : needed ≡ words_for (h + length page) → needed ≡ words_for (held d + length page)
          needs w = w ∙ ap (λ m. words_for (m + length page)) right.1

          pub put_6 : words < needed → needed ≡ words_for (h + length page) → First (Base (WordsTooShort needed)) (page_order d page letters words)
          put_6 l w =
              subst (λ n. First (Base (WordsTooShort n)) (page_order d page letters words)) (sym (needs w))
              (past (ap not right.0) (past (lt-leb page_limit d.count room)
              (past (le-ltb (first_bad page) (length page) (omega (arith, f, spelt)))
              (here (lt-ltb words (words_for (held d + length page)) (subst (λ n. words < n) (needs w) l))))))

          pub put_clear : needed ≤ words → needed ≡ words_for (h + length page) → Clear (page_order d page letters words) × (h ≡ held d)
          put_clear l w = (
            (
              ap not right.0,
              (
                lt-leb page_limit d.count room,
                (
                  le-ltb (first_bad page) (length page) (omega (arith, f, spelt)),
                  (le-ltb words (words_for (held d + length page)) (subst (λ n. n ≤ words) (needs w) l), tt),
                ),
              ),
            ),
            right.1,
          )

-- ── withdrawing ──
module _ (d : Desk) (letters : List ℕ) (r : Option ℕ) (e : r ≡ held_limits d letters) where
  pub withdraw_13 : r ≡ None → First DeskLimits (held_order d letters)
  unfolding held_limits
  withdraw_13 k = here (ap not (by_broken (desk_good d letters) (held d) r e k))

  module _ (h : ℕ) (k : r ≡ Some h) where
    good : (desk_good d letters ≡ true) × (h ≡ held d)
    unfolding held_limits
    good = by_kept (desk_good d letters) (held d) r e h k

    pub withdraw_15 : d.count ≡ 0 → First DeskEmpty (held_order d letters)
    withdraw_15 f = past (ap not good.0) (here (eq-eqb d.count 0 f))

    pub withdraw_clear : (d.count ≡ 0 → ⊥) → Clear (held_order d letters) × (h ≡ held d)
    withdraw_clear f = ((ap not good.0, (ne_eqb d.count 0 f, tt)), good.1)

-- what holds where no cause does
module _ (d : Desk) (p : Pattern) (page letters : List ℕ) (words : ℕ) (c : Clear (put_order d p page letters words)) where
  pub put-room : d.count < page_limit
  put-room = leb-false page_limit d.count c.1.1.1.0

  both : (good_page (length page) && desk_good d letters) ≡ true
  both = not-false (good_page (length page) && desk_good d letters) c.1.1.0

  pub put-page_upto : length page ≤ page_letters
  put-page_upto = page_upto (length page) (and_fst (good_page (length page)) (desk_good d letters) both)

  pub put_upto : held d + length page ≤ letter_limit
  put_upto =
      let few = good_few d letters (and_snd (good_page (length page)) (desk_good d letters) both) in
      omega (arith, few.1, put-room, put-page_upto)

  pub put_cells : letter_limit ≤ length letters
  put_cells = ltb-false (length letters) letter_limit c.1.0

-- a count that is not 0
some-page : (n : ℕ) → (n ≡ 0 → ⊥) → 1 ≤ n
some-page zero h = absurd (h refl)
some-page (suc n) h = omega arith

module _ (d : Desk) (p : Pattern) (letters : List ℕ) (c : Clear (withdraw_order d p letters)) where
  pub withdraw_few : (1 ≤ d.count) × (d.count ≤ page_limit) × (held d ≤ letter_limit)
  withdraw_few =
      let few = good_few d letters (not-false (desk_good d letters) c.1.1.0) in
      (some-page d.count (eqb-false d.count 0 c.1.1.1.0), few.2, few.0)

  pub withdraw_cells : letter_limit ≤ length letters
  withdraw_cells = ltb-false (length letters) letter_limit c.1.0
