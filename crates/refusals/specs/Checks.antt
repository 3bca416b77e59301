-- A service's order of checks as data: one list, in the order of 01's line for the service. Definitions only.
-- A cause is a `Refusal`, or one of an enum that a later service has and that wraps it; `says` is the number and value of each.
use Rattle.std.specs.Prelude.{◌≡◌, Bool, true, false, cond, List, [], ◌∷◌, ℕ}
use Rattle.refusals.specs.declared.Refusal.{Refusal}
use Rattle.refusals.specs.Refusals.{Answer, refused}

-- the condition under which a cause holds, and the cause
abbrev pub CheckOf : Type 0 → Type 0
CheckOf Cause = Bool × Cause

abbrev pub Check : Type 0
Check = CheckOf Refusal

-- 01: "A number is returned if its cause holds and none before it in the service's order does, and never otherwise." Where no cause of the
-- list holds, the answer is `success`.
abbrev pub first_of : {Cause : Type 0} → (says : Cause → Answer) → (order : List (CheckOf Cause)) → (success : Answer) → Answer
first_of says [] success = success
first_of says (c ∷ cs) success = cond c.0 (says c.1) (first_of says cs success)

abbrev pub first_cause : (order : List Check) → (success : Answer) → Answer
first_cause = first_of refused

-- the numbers of an order, to be laid beside 01's line
abbrev pub numbers_of : {Cause : Type 0} → (says : Cause → Answer) → List (CheckOf Cause) → List ℕ
numbers_of says [] = []
numbers_of says (c ∷ cs) = (says c.1).number ∷ numbers_of says cs

abbrev pub numbers : List Check → List ℕ
numbers = numbers_of refused

-- an order taken over by a service whose own enum wraps the causes
abbrev pub wrapped : {Cause Wider : Type 0} → (wrap : Cause → Wider) → List (CheckOf Cause) → List (CheckOf Wider)
wrapped wrap [] = []
wrapped wrap (c ∷ cs) = (c.0, wrap c.1) ∷ wrapped wrap cs

-- 01: "its cause holds and none before it in the service's order does"
pub data First {Cause : Type 0} (why : Cause) : List (CheckOf Cause) → Type 0 where
  here : {holds : Bool} {later : List (CheckOf Cause)} → holds ≡ true → First why ((holds, why) ∷ later)
  past : {holds : Bool} {other : Cause} {later : List (CheckOf Cause)} → holds ≡ false → First why later → First why ((holds, other) ∷ later)

-- no cause of an order holds
abbrev pub Clear : {Cause : Type 0} → List (CheckOf Cause) → Type 0
Clear [] = Unit {0}
Clear (c ∷ cs) = (c.0 ≡ false) × Clear cs
