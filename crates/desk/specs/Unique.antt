-- The promises fix everything: two results that one of them allows on one input are the same.
use Rattle.std.specs.Prelude.{◌≡◌, List, ℕ, Result}
use Rattle.std.proofs.Common.{sym, ◌∙◌}
use Rattle.desk.specs.declared.DeskRefusal.{DeskRefusal}
use Rattle.syntax.specs.declared.Pattern.{Pattern}
use Rattle.desk.specs.declared.Desk.{Desk}
use Rattle.desk.specs.Desks.{Opens, Puts, Withdraws}
use Rattle.desk.specs.Numbers.{desk_answer_same}

module _ (p : Pattern) (d : Desk) where
  pub opens_one : (e f : Desk) (words ms ns : List ℕ) (r s : Result ℕ DeskRefusal) → Opens p d e words ms r → Opens p d f words ns s → (r ≡ s) × (e ≡ f) × (ms ≡ ns)
  opens_one e f words ms ns r s g h =
      (desk_answer_same r s (g.answers ∙ sym h.answers), g.leaves ∙ sym h.leaves, g.words_left ∙ sym h.words_left)

  pub puts_one : (page : List ℕ) (e f : Desk) (letters ks ls words ms ns : List ℕ) (r s : Result ℕ DeskRefusal) → Puts p page d e letters ks words ms r
      → Puts p page d f letters ls words ns s → (r ≡ s) × (e ≡ f) × (ks ≡ ls) × (ms ≡ ns)
  puts_one page e f letters ks ls words ms ns r s g h = (
    desk_answer_same r s (g.answers ∙ sym h.answers),
    g.leaves ∙ sym h.leaves,
    g.letters-left ∙ sym h.letters-left,
    g.words_left ∙ sym h.words_left,
  )

  pub withdraws_one : (e f : Desk) (letters : List ℕ) (r s : Result ℕ DeskRefusal) → Withdraws p d e letters r → Withdraws p d f letters s → (r ≡ s) × (e ≡ f)
  withdraws_one e f letters r s g h = (desk_answer_same r s (g.answers ∙ sym h.answers), g.leaves ∙ sym h.leaves)
