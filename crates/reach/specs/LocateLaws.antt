-- Laws of locating: one for each way of the service.
use Rattle.std.proofs.Math.Path.{sym, ap}
use Rattle.std.specs.Prelude.{List, ℕ, Err, Result}
use Rattle.std.proofs.Common.{arith}
use Rattle.syntax.specs.declared.Pattern.{Pattern}
use Rattle.syntax.specs.LetterLaws.{all_letters}
use Rattle.syntax.specs.Trees.{root}
use Rattle.syntax.specs.TreeLaws.{obeys_iff}
use Rattle.refusals.specs.declared.Refusal.{Refusal}
use Rattle.refusals.specs.Refusals.{answer}
use Rattle.refusals.specs.Checks.{First, Clear}
use Rattle.refusals.specs.CheckLaws.{first_answered, first_positive, clear_success}
use Rattle.checks.specs.TapeLaws.{IsTaken, taken_clear}
use Rattle.reach.specs.declared.Positions.{Positions}
use Rattle.reach.specs.Locate.{locate_order, locate_refusal, Tells, Locates}
use Rattle.reach.specs.Reaching.{Locatable}

module _ (p : Pattern) (tape : List ℕ) where
  -- the first cause that holds is answered
  pub locate_refused : (why : Refusal) → First why (locate_order p tape) → Locates p tape (Err why)
  unfolding locate_refusal
  locate_refused why f = record {
    refuses = λ h. sym (first_answered f (answer 0 0));
    tells = λ z. absurd (omega (arith, z, first_positive f (answer 0 0)));
  }

  -- where none does, the two positions are told
  locate_clear : (r : Result Positions Refusal) → Clear (locate_order p tape) → Tells (root p) tape r → Locates p tape r
  unfolding locate_refusal
  locate_clear r c t = record {
    refuses = λ h. absurd (omega (arith, h, ap (λ a. a.number) (clear_success (locate_order p tape) (answer 0 0) c)));
    tells = λ z. t;
  }

  module _ (t : IsTaken p tape) where
    -- what the search asks
    pub locatable : Locatable p tape
    locatable = record { rules = (obeys_iff p).0 t.good; few = t.few; letters = all_letters tape t.letters }

    pub locate_told : (r : Result Positions Refusal) → Tells (root p) tape r → Locates p tape r
    locate_told r s = locate_clear r (taken_clear p tape t) s
