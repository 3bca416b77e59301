-- Laws of parsing: the letter that a field holds.
use Rattle.std.specs.Prelude.{◌≡◌, List, ℕ, None, Some}
use Rattle.syntax.specs.Letter.{is_letter}
use Rattle.fields.specs.Text.{single, when}
use Rattle.fields.specs.Fields.{one_byte, single_none, single_some}

module _ (x : List ℕ) where
  pub letter_none : one_byte x ≡ None → when (is_letter (single x)) (single x) ≡ None
  unfolding is_letter
  letter_none e = rw (single_none x e)

  pub letter_some : (c : ℕ) → one_byte x ≡ Some c → when (is_letter (single x)) (single x) ≡ when (is_letter c) c
  letter_some c e = rw (single_some x c e)
