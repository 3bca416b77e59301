-- HOW IT IS COMPUTED, 5: reading a tape from its start by sets of leaves. Before each letter there is a set of leaves that may take it. Those that take
-- it are matched, and the next set is what their followers reach with flag 1 by empty steps. Reading stops where no leaf is matched.
use Rattle.std.specs.Prelude.{◌||◌, Bool, cond, false, true, ◌++◌, ◌∷◌, List, [], suc, ℕ, eqb}
use Rattle.syntax.specs.Letter.{in_range}
use Rattle.syntax.specs.Tree.{Label, Tree, nothing, letter, range, seq, alt, star}
use Rattle.semantics.specs.Automaton.{Location, top, fst, snd, lft, rgt, rnd}

-- the number of letters that are read, for sets of any kind: `match` keeps what takes a letter, `alive` says whether anything is left, `next` is the set
-- before the next letter. Over the masks a set is a word.
module _ {S : Type 0} (match : S → ℕ → S) (alive : S → Bool) (next : S → S) where
  abbrev pub reading : S → (letters : List ℕ) → ℕ
  reading s [] = 0
  reading s (c ∷ w) = cond (alive (match s c)) (suc (reading (next (match s c)) w)) 0

-- ---- over the tree: a set is a list of leaves; a leaf that is reached in several ways is listed as often
-- a leaf that takes letters
pub data Taker (root : Tree) : Type 0 where
  of_letter : {m : Label} {c : ℕ} → Location root (letter m c) → Taker root
  of_range : {m : Label} {low high : ℕ} → Location root (range m low high) → Taker root

abbrev pub some : {A : Type 0} → (A → Bool) → List A → Bool
some g [] = false
some g (x ∷ xs) = g x || some g xs

module _ {root : Tree} where
  abbrev pub takes : Taker root → ℕ → Bool
  takes (of_letter {c = a} s) c = eqb a c
  takes (of_range {low = low} {high = high} s) c = in_range low high c

  -- the leaves that a node reaches by empty steps: those inside it and, if it is nullable, those after it, which are handed over.
  -- 01: "`K` enters its child with flag 0", so a round that takes no letter leads nowhere.
  abbrev pub inside : (t : Tree) → Location root t → (behind : List (Taker root)) → List (Taker root)
  inside (nothing m) s k = k
  inside (letter m c) s k = of_letter s ∷ []
  inside (range m low high) s k = of_range s ∷ []
  inside (seq m t u) s k = inside t (fst s) (inside u (snd s) k)
  inside (alt m t u) s k = inside t (lft s) k ++ inside u (rgt s) k
  inside (star m again t) s k = inside t (rnd s) [] ++ k

  -- the leaves that a node's follower reaches with flag 1; the end reaches none
  abbrev pub behind : {t : Tree} → Location root t → List (Taker root)
  behind top = []
  behind (fst {u = u} s) = inside u (snd s) (behind s)
  behind (snd s) = behind s
  behind (lft s) = behind s
  behind (rgt s) = behind s
  behind (rnd {l = l} {again = again} {t = t} s) = inside (star l again t) s (behind s)

  abbrev pub behind_leaf : Taker root → List (Taker root)
  behind_leaf (of_letter s) = behind s
  behind_leaf (of_range s) = behind s

  -- the leaves of a set that take a letter
  abbrev pub matched : List (Taker root) → ℕ → List (Taker root)
  matched [] c = []
  matched (x ∷ xs) c = cond (takes x c) (x ∷ matched xs c) (matched xs c)

  abbrev pub any_left : List (Taker root) → Bool
  any_left [] = false
  any_left (x ∷ xs) = true

  -- the leaves that may take the next letter, once these are matched
  abbrev pub nexts : List (Taker root) → List (Taker root)
  nexts [] = []
  nexts (x ∷ xs) = behind_leaf x ++ nexts xs

-- the leaves that may take the first letter: 01, "Reading starts at the root with flag 1."
abbrev pub starts : (t : Tree) → List (Taker t)
starts t = inside t top []

-- THE REACH, computed over the tree
unfoldable pub reach_of : Tree → (tape : List ℕ) → ℕ
reach_of t w = reading matched any_left nexts (starts t) w
