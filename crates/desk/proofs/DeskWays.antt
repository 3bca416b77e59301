-- What each way of a call must show: its promise, by the first cause that holds, or where none does.
use Rattle.std.specs.Prelude.{◌≡◌, true, false, not, cond, List, [], ℕ, ◌+◌, ◌-◌, ◌*◌, ◌≤◌, ◌<◌, eqb, get_or, Err, Ok, Result}
use Rattle.std.proofs.Math.Path.{sym, ap}
use Rattle.std.proofs.Common.{subst, ◌∙◌, arith, lt-ltb, le-ltb, ltb-false, ne_eqb}
use Rattle.std.proofs.lemmas.Bool.{not-false}
use Rattle.std.proofs.Math.ListN.{length}
use Rattle.std.proofs.lemmas.List.Edits.{sets}
use Rattle.syntax.specs.declared.Pattern.{Pattern}
use Rattle.syntax.specs.Letter.{first_bad, letter_limit}
use Rattle.syntax.specs.LetterLaws.{all_letters}
use Rattle.syntax.specs.Table.{obeys}
use Rattle.syntax.specs.TreeLaws.{Rules, obeys_iff}
use Rattle.refusals.specs.declared.Refusal.TheVariants.{Tree as TreeFault, WordsTooShort}
use Rattle.refusals.specs.Refusals.{answer}
use Rattle.refusals.specs.Checks.{first_of, First, here, past, Clear}
use Rattle.refusals.specs.CheckLaws.{first_said, clear_said}
use Rattle.bits.specs.Bits.{in_front}
use Rattle.first_sweep.specs.Tail.{tail_words}
use Rattle.first_sweep.specs.Grow.{grown}
use Rattle.first_sweep.specs.Growing.{Growable}
use Rattle.desk.specs.declared.Desk.{Desk}
use Rattle.desk.specs.declared.DeskRefusal.{DeskRefusal}
use Rattle.desk.specs.declared.DeskRefusal.TheVariants.{Base}
use Rattle.desk.specs.Desks.{page_limit, held, empty_desk, with_page, without_page, desk_number, desk_refused, if_accepted, DeskTest, words_for}
use Rattle.desk.specs.Desks.{open_order, put_order, withdraw_order, open_answer, put_answer, withdraw_answer, Opens, Puts, Withdraws}
use Rattle.desk.specs.Numbers.{desk_number_positive}
use Rattle.desk.specs.Checking.{Checks, checked_why, checked-held, put_upto, withdraw_few}

-- ── of any call ──
-- refused, a thing is as it was
kept : {A : Type 0} (order : List DeskTest) (n : ℕ) (why : DeskRefusal) (new old : A) → First why order
    → old ≡ if_accepted (first_of desk_refused order (answer 0 n)) new old
kept order n why new old f =
    sym (ap (λ a. if_accepted a new old) (first_said desk_refused f (answer 0 n))
    ∙ ap (λ b. cond b new old) (ne_eqb (desk_number why) 0 (λ e. omega (arith, e, desk_number_positive why))))

-- accepted, it is the new one
taken : {A : Type 0} (order : List DeskTest) (n : ℕ) (new old : A) → Clear order → new ≡ if_accepted (first_of desk_refused order (answer 0 n)) new old
taken order n new old c = sym (ap (λ a. if_accepted a new old) (clear_said desk_refused order (answer 0 n) c))

-- ── `open` ──
module _ (p : Pattern) (d : Desk) (words : List ℕ) where
  pub open_refused : (why : DeskRefusal) → First why (open_order p (length words)) → Opens p d d words words (Err why)
  unfolding open_answer
  open_refused why f =
      let order = open_order p (length words) in
      record {
        answers = sym (first_said desk_refused f (answer 0 0));
        leaves = kept order 0 why empty_desk d f;
        words_left = kept order 0 why (in_front (tail_words p []) words) words f;
      }

  pub open_clear : Clear (open_order p (length words)) → (now : List ℕ) → now ≡ in_front (tail_words p []) words → Opens p d empty_desk words now (Ok 0)
  unfolding open_answer
  open_clear c now k =
      let order = open_order p (length words) in
      record {
        answers = sym (clear_said desk_refused order (answer 0 0) c);
        leaves = taken order 0 empty_desk d c;
        words_left = k ∙ taken order 0 (in_front (tail_words p []) words) words c;
      }

-- ── `put` ──
module _ (p : Pattern) (d : Desk) (page letters words : List ℕ) where
  abbrev at : ℕ
  at = letter_limit - (held d + length page)

  abbrev put_words : List ℕ
  put_words = sets words (2 * (held d + 1)) (grown p (get_or words (2 * held d + 1) 0) (eqb (held d) 0) page)

  abbrev order : List DeskTest
  order = put_order d p page letters (length words)

  pub put_refused : (why : DeskRefusal) → First why (put_order d p page letters (length words)) → Puts p page d d letters letters words words (Err why)
  unfolding put_answer
  put_refused why f =
      let n = held d + length page in
      record {
        answers = sym (first_said desk_refused f (answer 0 n));
        leaves = kept order n why (with_page d (length page)) d f;
        letters-left = kept order n why (sets letters at page) letters f;
        words_left = kept order n why put_words words f;
      }

  module _ (r : Result ℕ DeskRefusal) (c : Checks (put_order d p page letters (length words)) (held d) r) where
    pub put_why : (why : DeskRefusal) → r ≡ Err why → Puts p page d d letters letters words words (Err why)
    put_why why e = put_refused why (checked_why order (held d) r c why e)

    pub put-held : (m : ℕ) → r ≡ Ok m → Clear (put_order d p page letters (length words)) × (m ≡ held d)
    put-held m e = checked-held order (held d) r c m e

  module _ (c : Clear (put_order d p page letters (length words))) where
    pub put_done : (e : Desk) (after now : List ℕ) (n : ℕ) → e ≡ with_page d (length page) → after ≡ sets letters at page → now ≡ put_words
        → n ≡ held d + length page → Puts p page d e letters after words now (Ok n)
    unfolding put_answer
    put_done e after now n f g h k =
        let m = held d + length page in
        record {
          answers = ap (answer 0) k ∙ sym (clear_said desk_refused order (answer 0 m) c);
          leaves = f ∙ taken order m (with_page d (length page)) d c;
          letters-left = g ∙ taken order m (sets letters at page) letters c;
          words_left = h ∙ taken order m put_words words c;
        }

    pub put-rules : Rules p
    put-rules = (obeys_iff p).0 (not-false (obeys p) c.0)

    pub put_words-room : words_for (held d + length page) ≤ length words
    put_words-room = ltb-false (length words) (words_for (held d + length page)) c.1.1.1.1.1.0

    -- the letters behind the page, as they were counted
    module _ (b : ℕ) (e : b ≡ held d) where
      pub behind_upto : b + length page ≤ letter_limit
      behind_upto = omega (arith, e, put_upto d p page letters (length words) c)

      -- what growing asks
      pub put_growable : Growable p page b words
      put_growable =
          record {
            rules = put-rules;
            few = behind_upto;
            letters = all_letters page (ltb-false (first_bad page) (length page) c.1.1.1.1.0);
            room = omega (arith, e, put_words-room);
          }

      pub put-made : (f : Desk) (after now : List ℕ) → f ≡ with_page d (length page) → after ≡ sets letters (letter_limit - (b + length page)) page
          → now ≡ sets words (2 * (b + 1)) (grown p (get_or words (2 * b + 1) 0) (eqb b 0) page)
          → Puts p page d f letters after words now (Ok (b + length page))
      put-made f after now g h k =
          put_done f after now (b + length page) g (h ∙ ap (λ n. sets letters (letter_limit - (n + length page)) page) e)
          (k ∙ ap (λ n. sets words (2 * (n + 1)) (grown p (get_or words (2 * n + 1) 0) (eqb n 0) page)) e) (ap (λ n. n + length page) e)

-- ── `withdraw` ──
module _ (p : Pattern) (d : Desk) (letters : List ℕ) where
  pub withdraw_refused : (why : DeskRefusal) → First why (withdraw_order d p letters) → Withdraws p d d letters (Err why)
  unfolding withdraw_answer
  withdraw_refused why f =
      let n = held (without_page d) in
      record {
        answers = sym (first_said desk_refused f (answer 0 n));
        leaves = kept (withdraw_order d p letters) n why (without_page d) d f;
      }

  module _ (r : Result ℕ DeskRefusal) (c : Checks (withdraw_order d p letters) (held d) r) where
    pub withdraw_why : (why : DeskRefusal) → r ≡ Err why → Withdraws p d d letters (Err why)
    withdraw_why why e = withdraw_refused why (checked_why (withdraw_order d p letters) (held d) r c why e)

    pub withdraw_held : (m : ℕ) → r ≡ Ok m → Clear (withdraw_order d p letters) × (m ≡ held d)
    withdraw_held m e = checked-held (withdraw_order d p letters) (held d) r c m e

    -- what taking a page off asks
    pub takeable : (m : ℕ) → r ≡ Ok m → (1 ≤ d.count) × (d.count ≤ page_limit) × (m ≡ held d) × (m ≤ letter_limit)
    takeable m e =
        let t = withdraw_held m e in
        let few = withdraw_few d p letters t.0 in
        (few.0, few.1, t.1, omega (arith, few.2, t.1))

  pub withdraw_done : Clear (withdraw_order d p letters) → (e : Desk) (n : ℕ) → e ≡ without_page d → n ≡ held (without_page d)
      → Withdraws p d e letters (Ok n)
  unfolding withdraw_answer
  withdraw_done c e n f k =
      let m = held (without_page d) in
      record {
        answers = ap (answer 0) k ∙ sym (clear_said desk_refused (withdraw_order d p letters) (answer 0 m) c);
        leaves = f ∙ taken (withdraw_order d p letters) m (without_page d) d c;
      }
