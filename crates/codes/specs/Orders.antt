-- Spelling a code: the first cause that holds is answered, whatever later causes hold, and all is left as it was.
use Rattle.std.specs.Prelude.{◌≡◌, List, [], ◌∷◌, ℕ, length, Err, Result}
use Rattle.std.proofs.Math.Path.{refl, ap}
use Rattle.std.proofs.Common.{sym, ◌∙◌}
use Rattle.syntax.specs.declared.Pattern.{Pattern}
use Rattle.syntax.specs.Trees.{root}
use Rattle.refusals.specs.declared.Refusal.{Refusal}
use Rattle.refusals.specs.Refusals.{answer}
use Rattle.refusals.specs.Checks.{numbers, First}
use Rattle.refusals.specs.CheckLaws.{refused_first}
use Rattle.walks.specs.Whole.{letters_of}
use Rattle.codes.specs.Flatten.{flatten_order, flatten_answer, flattened_answer, Flattens}
use Rattle.codes.specs.FlattenLaws.{flatten_refused}
use Rattle.codes.specs.Unique.{flattens_one}

-- 01: "Spelling a code: 2, 8, 3, 9."
pub flatten_numbers : (p : Pattern) (code : List ℕ) (count size : ℕ) → numbers (flatten_order p code count size) ≡ 2 ∷ 8 ∷ 3 ∷ 9 ∷ []
flatten_numbers p code count size = refl

module _ (p : Pattern) (code : List ℕ) (count : ℕ) where
  abbrev letters : ℕ
  letters = length (letters_of (root p) code count)

  module _ (tape tape_now : List ℕ) (r : Result ℕ Refusal) (h : Flattens p code count tape tape_now r) where
    abbrev Only : Refusal → Type 0
    Only why = (r ≡ Err why) × (tape_now ≡ tape)

    -- which cause is the first: `first_2`, `first_8` and `first_3` of entries, by `first_more`, and `first_9`
    pub flatten_only : (why : Refusal) → First why (flatten_order p code count (length tape)) → Only why
    flatten_only why f = flattens_one p code count tape tape_now tape r (Err why) h (flatten_refused p code count tape why f)

    -- "and never otherwise"
    pub flatten_first : (why : Refusal) → r ≡ Err why → First why (flatten_order p code count (length tape))
    unfolding flatten_answer
    flatten_first why e = refused_first (flatten_order p code count (length tape)) (answer 0 letters) refl why (sym h.answers ∙ ap flattened_answer e)
