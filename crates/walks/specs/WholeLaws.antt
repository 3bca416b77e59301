-- What is known of a whole code: its value, and what that spells.
use Rattle.std.specs.Prelude.{◌≡◌, true, List, ℕ, length}
use Rattle.std.proofs.Math.Path.{refl, ap}
use Rattle.std.proofs.Common.{sym, ◌∙◌}
use Rattle.std.proofs.lemmas.Bool.{false≢true}
use Rattle.std.proofs.Math.Option.{Option, none, some}
use Rattle.syntax.specs.Bools.{and_fst}
use Rattle.syntax.specs.Tree.{Tree}
use Rattle.bits.specs.Bits.{held, handed_good}
use Rattle.semantics.specs.Value.{Value, flat}
use Rattle.semantics.specs.Decode.{value_of, is_code, spelled, spelled_by}
use Rattle.semantics.proofs.CodeLaws.{value_of_sound}
use Rattle.semantics.specs.Positions.{see}
use Rattle.semantics.proofs.PositionLaws.{see_whole}
use Rattle.walks.specs.Whole.{whole_code, letters_of}

module _ (t : Tree) (code : List ℕ) (count : ℕ) where
  -- the value of what is handed in, for any function of it
  pub value_see : {X : Type 0} (f : Value t → X) (v : Value t) → value_of t (held 8 code count) ≡ some v
      → see (held 8 code count) t f 0 ≡ some (f v, length (held 8 code count))
  value_see f v e =
      let b = value_of_sound t (held 8 code count) v e in
      ap (λ l. see l t f 0) (sym b) ∙ see_whole t f v ∙ ap (λ l. some (f v, length l)) b

  module _ (g : handed_good code count ≡ true) where
    pub spells : (v : Value t) → value_of t (held 8 code count) ≡ some v → letters_of t code count ≡ flat t v
    unfolding letters_of spelled
    spells v e = ap (spelled_by t) e

  -- what is known of a whole code
  module _ (w : whole_code t code count ≡ true) where
    pub whole-handed : handed_good code count ≡ true
    unfolding whole_code
    whole-handed = and_fst (handed_good code count) (is_code t (held 8 code count)) w

    pub whole-value : (v : Value t) × (value_of t (held 8 code count) ≡ some v)
    unfolding whole_code is_code
    whole-value = go (value_of t (held 8 code count)) refl
      where
        go : (o : Option (Value t)) → value_of t (held 8 code count) ≡ o → (v : Value t) × (value_of t (held 8 code count) ≡ some v)
        go none e = absurd (false≢true (sym (rw (whole-handed, e)) ∙ w))
        go (some v) e = (v, e)
