-- HOW IT IS COMPUTED, 4: a walk over a code. What a function of the value makes of the bits from a position on, and the position behind them.
-- Every service that walks a code (flatten, spans, totals, whole or not) is one function f of the value.
use Rattle.std.specs.Prelude.{Bool, cond, false, List, ◌+◌, ◌-◌, ◌^◌, suc, zero, ℕ, drop, get_or, length}
use Rattle.std.proofs.Math.Option.{Option, none, some}
use Rattle.syntax.specs.Tree.{Tree}
use Rattle.semantics.specs.Value.{Value}
use Rattle.semantics.specs.Decode.{Read, read}

abbrev pub Seen : Type 0 → Type 0
Seen X = Option (X × ℕ)

abbrev pub seen : {X : Type 0} → (count : ℕ) → (t : Tree) → (Value t → X) → Read t → Seen X
seen count t f none = none
seen count t f (some p) = some (f p.0, count - length p.1)

unfoldable pub see : {X : Type 0} → (bits : List Bool) → (t : Tree) → (Value t → X) → (at : ℕ) → Seen X
see bs t f i = seen (length bs) t f (read t (drop i bs))

-- one walk, then another from where it stopped
module _ {X Y Z : Type 0} (op : X → Y → Z) where
  abbrev pub joined : X → Seen Y → Seen Z
  joined x none = none
  joined x (some q) = some (op x q.0, q.1)

  abbrev pub and_then : Seen X → (ℕ → Seen Y) → Seen Z
  and_then none f = none
  and_then (some p) f = joined p.0 (f p.1)

-- n bits from a position on as a number, highest first
abbrev pub number_at : (bits : List Bool) → (at n : ℕ) → ℕ
number_at bs i zero = 0
number_at bs i (suc n) = cond (get_or bs i false) (2 ^ n) 0 + number_at bs (suc i) n
