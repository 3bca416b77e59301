-- The promise of locating fixes the answer: two answers that it allows on one input are the same.
use Rattle.std.specs.Prelude.{◌≡◌, refl, ◌⊎◌, List, ℕ, Ok, Err, Result}
use Rattle.std.proofs.Math.Path.{sym, ap}
use Rattle.std.proofs.Common.{ap₂, ◌∙◌, inl, inr, arith}
use Rattle.syntax.specs.declared.Pattern.{Pattern}
use Rattle.syntax.specs.Trees.{root}
use Rattle.refusals.specs.declared.Refusal.{Refusal}
use Rattle.refusals.specs.Refusals.{answer, refused}
use Rattle.refusals.specs.RefusalLaws.{refused_same, number_positive}
use Rattle.refusals.specs.Checks.{First, Clear}
use Rattle.refusals.specs.CheckLaws.{which_first, first_answered, first_positive, clear_success}
use Rattle.semantics.proofs.BeginLaws.{reach_one}
use Rattle.semantics.proofs.EndLaws.{resumes_one}
use Rattle.reach.specs.declared.Positions.{Positions}
use Rattle.reach.specs.Locate.{located_answer, locate_order, locate_refusal, Tells, Locates}

-- a refusal's number and value are those of no other answer
pub refused_alone : (r : Result Positions Refusal) (why : Refusal) → located_answer r ≡ refused why → r ≡ Err why
refused_alone (Ok x) why e = let z : 0 ≡ (refused why).number = ap (λ a. a.number) e in absurd (omega (arith, z, number_positive why))
refused_alone (Err r) why e = ap Err (refused_same r why e)

module _ (p : Pattern) (tape : List ℕ) where
  pub locates_first : (why : Refusal) → First why (locate_order p tape) → (r : Result Positions Refusal) → Locates p tape r → r ≡ Err why
  unfolding locate_refusal
  locates_first why f r h = refused_alone r why (h.refuses (first_positive f (answer 0 0)) ∙ first_answered f (answer 0 0))

  told_same : (r s : Result Positions Refusal) → Tells (root p) tape r → Tells (root p) tape s → r ≡ s
  told_same r s x y =
      x.is
      ∙ ap₂ (λ k i. Ok (record { reach = k; resume = i })) (reach_one (root p) tape x.reach y.reach x.reaches y.reaches)
      (resumes_one (root p) tape x.resume y.resume x.resumes y.resumes)
      ∙ sym y.is

  pub locates_one : (r s : Result Positions Refusal) → Locates p tape r → Locates p tape s → r ≡ s
  unfolding locate_refusal
  locates_one r s a b = go (which_first (locate_order p tape))
    where
      go : Clear (locate_order p tape) ⊎ ((why : Refusal) × First why (locate_order p tape)) → r ≡ s
      go (inl c) =
          let z = ap (λ x. x.number) (clear_success (locate_order p tape) (answer 0 0) c) in
          told_same r s (a.tells z) (b.tells z)
      go (inr (why, f)) = locates_first why f r a ∙ sym (locates_first why f s b)
