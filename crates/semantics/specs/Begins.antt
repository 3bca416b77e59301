-- WHAT MUST BE BELIEVED, 5: where a tape breaks. Cause 5 says only that no value spells the tape. Definitions only.
-- Values with empty rounds are allowed here: leaving these out changes no letter, so the letters that begin or end a tape are the same without them.
use Rattle.std.specs.Prelude.{◌≡◌, ◌++◌, List, ◌≤◌, ℕ, length, take, drop}
use Rattle.syntax.specs.Tree.{Tree}
use Rattle.semantics.specs.Value.{Value, flat}

-- letters that begin some tape of the pattern: with some letters after them they are a tape that a value spells
abbrev pub Begins : (t : Tree) → (letters : List ℕ) → Type 0
Begins t w = (rest : List ℕ) × (v : Value t) × (flat t v ≡ w ++ rest)

-- letters that end some tape of the pattern: with some letters before them they are a tape that a value spells
abbrev pub Ends : (t : Tree) → (letters : List ℕ) → Type 0
Ends t w = (front : List ℕ) × (v : Value t) × (flat t v ≡ front ++ w)

-- THE REACH of a tape: "the greatest k such that the first k letters begin some tape of the pattern"
pub record Reach (t : Tree) (tape : List ℕ) (k : ℕ) : Type 0 where
  pub within : k ≤ length tape
  pub begins : Begins t (take k tape)
  pub longest : (j : ℕ) → j ≤ length tape → Begins t (take j tape) → j ≤ k

-- WHERE IT RESUMES: "the least i such that the letters from i on end one"
pub record Resumes (t : Tree) (tape : List ℕ) (i : ℕ) : Type 0 where
  pub within : i ≤ length tape
  pub ends : Ends t (drop i tape)
  pub first : (j : ℕ) → j ≤ length tape → Ends t (drop j tape) → i ≤ j
