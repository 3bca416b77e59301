-- Of the values that fit, the one whose code comes first, and whether a star takes another round.
use Rattle.std.specs.Prelude.{◌≡◌, Bool, true, false, ◌||◌, ◌⊎◌, List, ◌++◌, ℕ}
use Rattle.syntax.specs.Tree.{Label, Tree, star}
use Rattle.semantics.specs.Value.{nonempty, flat, nonproblematic}
use Rattle.semantics.specs.Code.{before, code}
use Rattle.semantics.specs.Sweeps.{After, after_round, can, another}

-- v is x, or its code comes first
abbrev pub Top : {A : Type 0} → (A → List Bool) → A → A → Type 0
Top c v x = (v ≡ x) ⊎ (before (c v) (c x) ≡ true)

-- of the values without an empty iteration that spell a front of w and leave a rest that k allows, the one whose code comes first
pub record Best {A : Type 0} (f : A → List ℕ) (s : A → Bool) (c : A → List Bool) (k : After) (b : Bool) (w : List ℕ) : Type 0 where
  pub it : A
  pub rest : List ℕ
  pub solid : s it ≡ true
  pub spells : w ≡ f it ++ rest
  pub goes : k (b || nonempty (f it)) rest ≡ true
  pub top : (x : A) (z : List ℕ) → s x ≡ true → w ≡ f x ++ z → k (b || nonempty (f x)) z ≡ true → Top c it x

abbrev pub BestOf : Tree → After → Bool → List ℕ → Type 0
BestOf t k b w = Best (flat t) (nonproblematic t) (code t) k b w

module _ (m : Label) (again : Bool) (t : Tree) (k : After) (b : Bool) (w : List ℕ) where
  abbrev pub goes_on : Bool
  goes_on = another again (can t (after_round (can (star m again t) k)) false w) (k b w)
