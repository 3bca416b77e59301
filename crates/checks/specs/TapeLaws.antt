-- The order of checking a tape: each cause that holds, with none before it, is the first; and what is known where none holds. Said here once, for a
-- service whose order begins with these causes `first_more` and `clear_parts` of crate refusals hand it on.
use Rattle.std.specs.Prelude.{◌≡◌, refl, true, false, not, List, [], ◌∷◌, ℕ, ◌≤◌, ◌<◌, length, Err, Ok, Result, ⊤}
use Rattle.std.proofs.Common.{sym, ap, subst, arith, lt-ltb, le-ltb, ltb-false}
use Rattle.std.proofs.lemmas.Bool.{not-false}
use Rattle.syntax.specs.declared.Pattern.{Pattern}
use Rattle.syntax.specs.Letter.{first_bad, letter_limit}
use Rattle.syntax.specs.Table.{obeys}
use Rattle.refusals.specs.declared.Refusal.{Refusal}
use Rattle.refusals.specs.declared.Refusal.TheVariants.{Tree as TreeFault, TapeTooLong, TapeByte}
use Rattle.refusals.specs.RefusalLaws.{ok≢err}
use Rattle.refusals.specs.Checks.{numbers, First, here, past, Clear}
use Rattle.checks.specs.TapeOrder.{tape_order, ChecksTape}

-- what is known of a tape that is taken
pub record IsTaken (p : Pattern) (tape : List ℕ) : Type 0 where
  pub good : obeys p ≡ true
  pub few : length tape ≤ letter_limit
  pub letters : length tape ≤ first_bad tape

module _ (p : Pattern) (tape : List ℕ) where
  pub tape-numbers : numbers (tape_order p tape) ≡ 2 ∷ 3 ∷ 4 ∷ []
  tape-numbers = refl

  -- ── which cause is first ──
  pub tape_2 : obeys p ≡ false → First (TreeFault 0) (tape_order p tape)
  tape_2 o = here (ap not o)

  module _ (o : obeys p ≡ true) where
    pub tape_3 : letter_limit < length tape → First TapeTooLong (tape_order p tape)
    tape_3 l = past (ap not o) (here (lt-ltb letter_limit (length tape) l))

    pub tape_4 : length tape ≤ letter_limit → first_bad tape < length tape → First (TapeByte (first_bad tape)) (tape_order p tape)
    tape_4 f l = past (ap not o) (past (le-ltb letter_limit (length tape) f) (here (lt-ltb (first_bad tape) (length tape) l)))

  -- ── none is ──
  pub taken_clear : IsTaken p tape → Clear (tape_order p tape)
  taken_clear t = (ap not t.good, (le-ltb letter_limit (length tape) t.few, (le-ltb (first_bad tape) (length tape) t.letters, tt)))

  pub clear_taken : Clear (tape_order p tape) → IsTaken p tape
  clear_taken c = record {
    good = not-false (obeys p) c.0;
    few = ltb-false letter_limit (length tape) c.1.0;
    letters = ltb-false (first_bad tape) (length tape) c.1.1.0;
  }

  -- ── the ways of the check ──
  refused-tape : (why : Refusal) → First why (tape_order p tape) → ChecksTape p tape (Err why)
  refused-tape why f = record {
    refuses = λ w e. let same : why ≡ w = cc in subst (λ v. First v (tape_order p tape)) same f;
    takes = λ e. absurd (ok≢err (sym e));
  }

  pub check_2 : obeys p ≡ false → ChecksTape p tape (Err (TreeFault 0))
  check_2 o = refused-tape (TreeFault 0) (tape_2 o)

  module _ (o : obeys p ≡ true) where
    pub check_3 : letter_limit < length tape → ChecksTape p tape (Err TapeTooLong)
    check_3 l = refused-tape TapeTooLong (tape_3 o l)

    pub check_4 : length tape ≤ letter_limit → (bad : ℕ) → bad ≡ first_bad tape → bad < length tape → ChecksTape p tape (Err (TapeByte bad))
    check_4 f bad e l =
        subst (λ i. ChecksTape p tape (Err (TapeByte i))) (sym e)
        (refused-tape (TapeByte (first_bad tape)) (tape_4 o f (omega (arith, e, l))))

  pub check_taken : IsTaken p tape → ChecksTape p tape (Ok tt)
  check_taken t = record { refuses = λ w e. absurd (ok≢err e); takes = λ e. taken_clear t }

  -- ── what the caller has ──
  pub is_taken : (r : Result ⊤ Refusal) → ChecksTape p tape r → r ≡ Ok tt → IsTaken p tape
  is_taken r h e = clear_taken (h.takes e)
