-- The causes that a service on a code tests first, as one list: the table breaks a rule, the bits are no code, the tape is too long. 01: "Totalling
-- litres: 2, 8, 3." Spelling and totals within a term have more causes behind these.
use Rattle.std.specs.Prelude.{◌≡◌, refl, true, false, not, List, [], ◌∷◌, ℕ, ◌≤◌, ◌<◌, ltb, length}
use Rattle.std.proofs.Common.{ap, lt-ltb, le-ltb, ltb-false}
use Rattle.std.proofs.lemmas.Bool.{not-false}
use Rattle.syntax.specs.declared.Pattern.{Pattern}
use Rattle.syntax.specs.Letter.{letter_limit}
use Rattle.syntax.specs.Table.{obeys}
use Rattle.syntax.specs.Trees.{root}
use Rattle.refusals.specs.declared.Refusal.TheVariants.{Tree as TreeFault, TapeTooLong, NotACode}
use Rattle.refusals.specs.Checks.{Check, numbers, First, here, past, Clear}
use Rattle.walks.specs.Whole.{whole_code, letters_of}

-- Of 2: "Each service tests the loaded table it is given", and 0 is returned beside it.
abbrev pub code_order : Pattern → (code : List ℕ) → (count : ℕ) → List Check
code_order p code count =
    (not (obeys p), TreeFault 0)
    ∷ (not (whole_code (root p) code count), NotACode)
    ∷ (ltb letter_limit (length (letters_of (root p) code count)), TapeTooLong)
    ∷ []

-- none of them holds
pub record Sound (p : Pattern) (code : List ℕ) (count : ℕ) : Type 0 where
  pub good : obeys p ≡ true
  pub whole : whole_code (root p) code count ≡ true
  pub few : length (letters_of (root p) code count) ≤ letter_limit

-- ── which of them is the first that holds; an order that goes on behind them answers it too (`first_more` of refusals) ──
module _ (p : Pattern) (code : List ℕ) (count : ℕ) where
  abbrev letters : ℕ
  letters = length (letters_of (root p) code count)

  pub code-numbers : numbers (code_order p code count) ≡ 2 ∷ 8 ∷ 3 ∷ []
  code-numbers = refl

  pub first_2 : obeys p ≡ false → First (TreeFault 0) (code_order p code count)
  first_2 o = here (ap not o)

  module _ (o : obeys p ≡ true) where
    pub first_8 : whole_code (root p) code count ≡ false → First NotACode (code_order p code count)
    first_8 w = past (ap not o) (here (ap not w))

    pub first_3 : whole_code (root p) code count ≡ true → letter_limit < letters → First TapeTooLong (code_order p code count)
    first_3 w l = past (ap not o) (past (ap not w) (here (lt-ltb letter_limit letters l)))

  pub sound_clear : Sound p code count → Clear (code_order p code count)
  sound_clear s = (ap not s.good, (ap not s.whole, (le-ltb letter_limit letters s.few, tt)))

  pub clear_sound : Clear (code_order p code count) → Sound p code count
  clear_sound c = record {
    good = not-false (obeys p) c.0;
    whole = not-false (whole_code (root p) code count) c.1.0;
    few = ltb-false letter_limit letters c.1.1.0;
  }
