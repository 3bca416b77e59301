-- WHAT IS PROMISED of codes and state sets: the statements of document 03, over every labelled tree. Each is a type; `Promised` has its proof.
-- Where 03 has a pattern text and its table, these have the tree; where 03 has numbers 0 and 1 as bits, these have false and true.
use Rattle.std.specs.Prelude.{◌≡◌, Bool, false, true, ◌++◌, List, [], ◌*◌, ◌+◌, ◌≤◌, ℕ, length}
use Rattle.syntax.specs.Letter.{letter_limit}
use Rattle.syntax.specs.Tree.{Tree}
use Rattle.semantics.specs.Code.{code, before, choices}
use Rattle.semantics.specs.Automaton.{top, at, Accepts}
use Rattle.semantics.specs.Decode.{is_code, spelled, hollow}

-- 03: the greedy reading of a tape, by its code: whole, spelling the tape, without an empty round, and before every other such code
pub record GreedyCode (t : Tree) (tape : List ℕ) (bits : List Bool) : Type 0 where
  pub code : is_code t bits ≡ true
  pub spells : spelled t bits ≡ tape
  pub solid : hollow t bits ≡ false
  pub first : (cs : List Bool) → is_code t cs ≡ true → spelled t cs ≡ tape → hollow t cs ≡ false → (cs ≡ bits → ⊥) → before bits cs ≡ true

-- 01: "There are 1 to 64 lines", so no more choices than that
abbrev pub node_limit : ℕ
node_limit = 64

-- the third demand: of any code that spells a tape within the limit there is a settled (canonical) one
unfoldable pub Settles : Type 0
Settles = (t : Tree) (bs : List Bool) → choices t ≤ node_limit → is_code t bs ≡ true → length (spelled t bs) ≤ letter_limit
    → (gs : List Bool) × GreedyCode t (spelled t bs) gs

-- two settled codes are equal exactly if the codes handed in spell the same tape
unfoldable pub SettledEqual : Type 0
SettledEqual =
    (t : Tree) (bs cs gs hs : List Bool) → is_code t bs ≡ true → is_code t cs ≡ true → GreedyCode t (spelled t bs) gs → GreedyCode t (spelled t cs) hs →
    (gs ≡ hs → spelled t bs ≡ spelled t cs) × (spelled t bs ≡ spelled t cs → gs ≡ hs)

-- settled again it is itself, whatever tape it was settled for
unfoldable pub SettledAgain : Type 0
SettledAgain = (t : Tree) (w : List ℕ) (gs hs : List Bool) → GreedyCode t w gs → GreedyCode t (spelled t gs) hs → hs ≡ gs

-- of two different codes neither begins the other
unfoldable pub CodesPart : Type 0
CodesPart = (t : Tree) (bs cs : List Bool) → is_code t bs ≡ true → is_code t (bs ++ cs) ≡ true → cs ≡ []

-- 01's bit bounds
unfoldable pub FewBits : Type 0
FewBits =
    (t : Tree) (bs : List Bool) → is_code t bs ≡ true → hollow t bs ≡ false →
    (spelled t bs ≡ [] → length bs ≤ choices t)
    × (1 ≤ length (spelled t bs) → length bs ≤ 2 * choices t * length (spelled t bs) + 8 * length (spelled t bs))

-- the second demand: the letters are in the language of the root with flag 1 exactly if some reading spells them
unfoldable pub MarksRight : Type 0
MarksRight =
    (t : Tree) (cs : List ℕ) → choices t ≤ node_limit → length cs ≤ letter_limit →
    (Accepts t (at t top) true cs → (bs : List Bool) × (is_code t bs ≡ true) × (spelled t bs ≡ cs))
    × ((bs : List Bool) → is_code t bs ≡ true → spelled t bs ≡ cs → Accepts t (at t top) true cs)
