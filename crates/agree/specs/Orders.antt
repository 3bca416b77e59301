-- Running the demand: the first cause of the first call of settling is answered, whatever the second call answers; then the second's.
use Rattle.std.specs.Prelude.{◌≡◌, Bool, List, ℕ, length, Err, Ok, Result}
use Rattle.std.proofs.Common.{sym, subst}
use Rattle.syntax.specs.declared.Pattern.{Pattern}
use Rattle.refusals.specs.declared.Refusal.{Refusal}
use Rattle.refusals.specs.Checks.{First}
use Rattle.canonical.specs.Canonicalize.{settle_order}
use Rattle.canonical.specs.Orders.{only}
use Rattle.agree.specs.Agree.{Worked, Agrees}
use Rattle.agree.specs.AgreeLaws.{tape-length, words-kept}

module _ (p : Pattern) (one : List ℕ) (n : ℕ) (two : List ℕ) (m : ℕ) (lent left : Worked) (a a_now b b_now : List ℕ) (r : Result Bool Refusal)
    (h : Agrees p one n two m lent left a a_now b b_now r) where
  pub only_first : (why : Refusal) → First why (settle_order p one n (length lent.tape) (length lent.words))
      → (r ≡ Err why) × (a_now ≡ a)
  only_first why f =
      let c = h.first in
      let q = only p one n lent.tape c.tape_now lent.words c.words_now a a_now c.result c.kept why f in
      ((h.answers.first_refused why q.0).0, q.2)

  -- the first call has left tape and words of the same lengths
  pub only_second : (k : ℕ) → h.first.result ≡ Ok k → (why : Refusal)
      → First why (settle_order p two m (length lent.tape) (length lent.words)) → (r ≡ Err why) × (b_now ≡ b)
  only_second k e why f =
      let c = h.first in
      let d = h.second in
      let ts = tape-length c.kept e in
      let ws = words-kept c.kept e in
      let g : First why (settle_order p two m (length c.tape_now) (length c.words_now)) =
      subst (λ i. First why (settle_order p two m i (length c.words_now))) (sym ts)
      (subst (λ i. First why (settle_order p two m (length lent.tape) i)) (sym ws) f) in
      let q = only p two m c.tape_now d.tape_now c.words_now d.words_now b b_now d.result d.kept why g in
      ((h.answers.second_refused k why e q.0).0, q.2)
