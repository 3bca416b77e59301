-- Locating: the first cause that holds is answered, whatever later causes hold, and never otherwise. 2, 3 and 4 are `tape_2`, `tape_3` and `tape_4`
-- of crate checks.
use Rattle.std.specs.Prelude.{◌≡◌, List, [], ◌∷◌, ℕ, ◌≤◌, Err, Result}
use Rattle.std.proofs.Math.Path.{refl, ap}
use Rattle.std.proofs.Common.{sym, ◌∙◌, arith}
use Rattle.std.proofs.Math.Decide.{dec_le}
use Rattle.syntax.specs.declared.Pattern.{Pattern}
use Rattle.refusals.specs.declared.Refusal.{Refusal}
use Rattle.refusals.specs.Refusals.{answer}
use Rattle.refusals.specs.RefusalLaws.{number_positive}
use Rattle.refusals.specs.Checks.{numbers, First}
use Rattle.refusals.specs.CheckLaws.{refused_first}
use Rattle.reach.specs.declared.Positions.{Positions}
use Rattle.reach.specs.Locate.{located_answer, locate_order, locate_refusal, Locates}
use Rattle.reach.specs.Unique.{locates_first}

-- "order 2, 3, 4"
pub locate_numbers : (p : Pattern) (tape : List ℕ) → numbers (locate_order p tape) ≡ 2 ∷ 3 ∷ 4 ∷ []
locate_numbers p tape = refl

module _ (p : Pattern) (tape : List ℕ) (r : Result Positions Refusal) (h : Locates p tape r) (why : Refusal) where
  pub locate_only : First why (locate_order p tape) → r ≡ Err why
  locate_only f = locates_first p tape why f r h

  -- "and never otherwise"
  pub locate_first : r ≡ Err why → First why (locate_order p tape)
  unfolding locate_refusal
  locate_first e = go (dec_le 1 (locate_refusal p tape).number)
    where
      go : Dec (1 ≤ (locate_refusal p tape).number) → First why (locate_order p tape)
      go (yes n) = refused_first (locate_order p tape) (answer 0 0) refl why (sym (h.refuses n) ∙ ap located_answer e)
      go (no n) =
          let told = h.tells (omega arith) in
          absurd (omega (arith, ap (λ a. (located_answer a).number) (sym told.is ∙ e), number_positive why))
