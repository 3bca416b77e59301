-- Sets that tell, letter by letter, how far a tape can be read.
use Rattle.std.specs.Prelude.{◌≡◌, Bool, true, false, List, [], ◌∷◌, ◌++◌, ℕ}
use Rattle.syntax.specs.Tree.{Tree}
use Rattle.semantics.specs.Begins.{Begins}

-- Known s u: the set s is the one after the letters u. So u begins a tape, and the set tells of each letter whether u with that letter does.
pub record Follows {S : Type 0} (match : S → ℕ → S) (alive : S → Bool) (next : S → S) (t : Tree) (good : ℕ → Type 0) (Known : S → List ℕ → Type 0) : Type 0
  where
    pub begun : (s : S) (u : List ℕ) → Known s u → Begins t u
    pub on : (s : S) (u : List ℕ) (c : ℕ) → good c → Known s u → alive (match s c) ≡ true → Known (next (match s c)) (u ++ (c ∷ []))
    pub stop : (s : S) (u : List ℕ) (c : ℕ) → good c → Known s u → alive (match s c) ≡ false → Begins t (u ++ (c ∷ [])) → ⊥
