-- The causes for which a tape is refused before it is looked at any further, in one order for all services. Definitions only.
use Rattle.std.specs.Prelude.{◌≡◌, not, List, [], ◌∷◌, ℕ, ltb, length, Err, Ok, Result, ⊤}
use Rattle.syntax.specs.declared.Pattern.{Pattern}
use Rattle.syntax.specs.Letter.{first_bad, letter_limit}
use Rattle.syntax.specs.Table.{obeys}
use Rattle.refusals.specs.declared.Refusal.{Refusal}
use Rattle.refusals.specs.declared.Refusal.TheVariants.{Tree as TreeFault, TapeTooLong, TapeByte}
use Rattle.refusals.specs.Checks.{Check, First, Clear}

-- 01: "Reading a tape: 2, 3, 4, [..]"; "Showing the piece [..]: 2, 3, 4, [..]". A service appends its own causes.
abbrev pub tape_order : Pattern → (tape : List ℕ) → List Check
tape_order p tape =
    (not (obeys p), TreeFault 0)
    ∷ (ltb letter_limit (length tape), TapeTooLong)
    ∷ (ltb (first_bad tape) (length tape), TapeByte (first_bad tape))
    ∷ []

-- THE PROMISE of checking a tape: the first cause that holds, or that none does
pub record ChecksTape (p : Pattern) (tape : List ℕ) (r : Result ⊤ Refusal) : Type 0 where
  pub refuses : (why : Refusal) → r ≡ Err why → First why (tape_order p tape)
  pub takes : r ≡ Ok tt → Clear (tape_order p tape)
