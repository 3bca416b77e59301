-- WHAT MUST BE BELIEVED: the state sets of a position (01: marks), as the automaton with flags of crate semantics has them; and how they are computed.
use Rattle.std.specs.Prelude.{◌≡◌, Bool, true, false, ◌↔◌, List, [], ◌∷◌, ℕ, ◌^◌, ◌≤◌, ◌<◌}
use Rattle.syntax.specs.declared.Pattern.{Pattern}
use Rattle.syntax.specs.Tree.{Tree, index}
use Rattle.syntax.specs.Trees.{root}
use Rattle.bits.specs.Bits.{test_bit}
use Rattle.semantics.specs.Automaton.{Location, at, Accepts}
use Rattle.semantics.specs.Sweeps.{can}
use Rattle.semantics.specs.Passing.{after}
use Rattle.masks.specs.Nodes.{node_word}

-- 01: "Bit l (value 2 to the power l) of word 2 × i + b says that the letters from i on are in the language of node l with flag b,
-- as in the automaton with flags in 001, section 5. Bits past the last node are 0." A word has 64 bits.
pub record IsStateSet (p : Pattern) (flag : Bool) (letters : List ℕ) (word : ℕ) : Type 0 where
  pub says : (t : Tree) (s : Location (root p) t) → (test_bit word (index t) ≡ true) ↔ Accepts (root p) (at t s) flag letters
  pub past : (l : ℕ) → p.count ≤ l → test_bit word l ≡ false
  pub fits : word < 2 ^ 64

-- HOW IT IS COMPUTED: by the first sweep's answer at each node
unfoldable pub state_set : Pattern → (flag : Bool) → (letters : List ℕ) → ℕ
state_set p b w = node_word (root p) p.count (λ t s. can t (after s) b w)

-- 01: "two 64-bit words for each position 0 to n", "word 2 × i + b" of position i
abbrev pub words : Pattern → (tape : List ℕ) → List ℕ
words p [] = state_set p false [] ∷ state_set p true [] ∷ []
words p (c ∷ w) = state_set p false (c ∷ w) ∷ state_set p true (c ∷ w) ∷ words p w
