-- HOW IT IS COMPUTED, 1: from the bits of a code back to the value, and what the code spells.
-- `decode t k bits` reads a value from the front of the bits and hands it, with the bits behind it, to k; it is none where the bits begin with no code.
use Rattle.std.specs.Prelude.{◌≡◌, refl, ◌&&◌, Bool, false, not, true, ◌∷◌, List, [], ◌+◌, ◌^◌, suc, zero, ℕ, leb, length}
use Rattle.std.proofs.Common.{inl, inr}
use Rattle.std.proofs.Math.Option.{Option, none, some}
use Rattle.syntax.specs.Letter.{in_range}
use Rattle.syntax.specs.Tree.{Tree, nothing, letter, range, seq, alt, star}
use Rattle.semantics.specs.Value.{Value, flat, nonproblematic}
use Rattle.semantics.specs.Code.{code_limit}

module _ {X : Type 0} where
  -- a number in n bits, highest first
  abbrev pub get_bits : (n : ℕ) → (ℕ → List Bool → Option X) → List Bool → Option X
  get_bits zero k bs = k 0 bs
  get_bits (suc n) k [] = none
  get_bits (suc n) k (false ∷ bs) = get_bits n k bs
  get_bits (suc n) k (true ∷ bs) = get_bits n (λ c. k (2 ^ n + c)) bs

  -- only a letter of the range is a value
  abbrev pub checked : (low high c : ℕ) → ((c : ℕ) × (in_range low high c ≡ true) → List Bool → Option X) → List Bool → (b : Bool)
      → in_range low high c ≡ b → Option X
  checked low high c k bs true p = k (c, p) bs
  checked low high c k bs false p = none

  -- by the next bit: x where it is o, y where it is the other
  abbrev pub by_bit : (o : Bool) → (x y : List Bool → Option X) → List Bool → Option X
  by_bit o x y [] = none
  by_bit false x y (false ∷ bs) = x bs
  by_bit false x y (true ∷ bs) = y bs
  by_bit true x y (true ∷ bs) = x bs
  by_bit true x y (false ∷ bs) = y bs

  -- rounds; each writes a bit, so that as many as there are bits are enough
  abbrev pub decode_rounds : {A : Type 0} → (again : Bool) → ((A → List Bool → Option X) → List Bool → Option X) → (most : ℕ)
      → (List A → List Bool → Option X) → List Bool → Option X
  decode_rounds again d zero k bs = none
  decode_rounds again d (suc n) k bs = by_bit again (d (λ v r. decode_rounds again d n (λ vs. k (v ∷ vs)) r)) (k []) bs

  abbrev pub decode : (t : Tree) → (Value t → List Bool → Option X) → List Bool → Option X
  decode (nothing m) k bs = k tt bs
  decode (letter m c) k bs = k tt bs
  decode (range m low high) k bs = get_bits 8 (λ c r. checked low high c k r (in_range low high c) refl) bs
  decode (seq m t u) k bs = decode t (λ v. decode u (λ x. k (v, x))) bs
  decode (alt m t u) k bs = by_bit false (decode t (λ v. k (inl v))) (decode u (λ v. k (inr v))) bs
  decode (star m again t) k bs = decode_rounds again (decode t) (length bs) k bs

-- the value in front and the bits behind it
abbrev pub Read : Tree → Type 0
Read t = Option (Value t × List Bool)

unfoldable pub read : (t : Tree) → List Bool → Read t
read t bs = decode t (λ v r. some (v, r)) bs

-- a value and no bit behind it
abbrev pub whole_of : {A : Type 0} → A → List Bool → Option A
whole_of v [] = some v
whole_of v (b ∷ bs) = none

-- the value whose code the bits are, if they are one
unfoldable pub value_of : (t : Tree) → List Bool → Option (Value t)
value_of t bs = decode t whole_of bs

-- whether bits are a whole code within the limit; what the code spells; whether it has an empty round. Bits that are no code spell nothing here.
abbrev pub there : {A : Type 0} → Option A → Bool
there none = false
there (some v) = true

abbrev pub spelled_by : (t : Tree) → Option (Value t) → List ℕ
spelled_by t none = []
spelled_by t (some v) = flat t v

abbrev pub hollow_in : (t : Tree) → Option (Value t) → Bool
hollow_in t none = false
hollow_in t (some v) = not (nonproblematic t v)

unfoldable pub is_code : Tree → (bits : List Bool) → Bool
is_code t bs = there (value_of t bs) && leb (length bs) code_limit

unfoldable pub spelled : Tree → (bits : List Bool) → List ℕ
spelled t bs = spelled_by t (value_of t bs)

unfoldable pub hollow : Tree → (bits : List Bool) → Bool
hollow t bs = hollow_in t (value_of t bs)
