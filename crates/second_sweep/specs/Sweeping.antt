-- What the functions of the second sweep ask and leave.
use Rattle.std.specs.Prelude.{◌≡◌, Bool, false, ◌&&◌, ◌||◌, not, cond, List, [], ◌∷◌, ℕ, ◌+◌, ◌*◌, ◌≤◌, ◌<◌, eqb, leb, ltb, length, get_or, drop}
use Rattle.syntax.specs.declared.Leaf.{Leaf}
use Rattle.syntax.specs.declared.Leaf.TheVariants.{Nothing, Letter, Range}
use Rattle.syntax.specs.Letter.{letter_limit}
use Rattle.syntax.specs.Tree.{Label, Tree, nothing, letter, range, seq, alt, star, index}
use Rattle.bits.specs.Bits.{bit, test_bit, write}
use Rattle.table.specs.Cells.{tree_in, follower_in, loops_in}
use Rattle.semantics.specs.Code.{code_limit}
use Rattle.semantics.specs.Sweeps.{After, after_round, can, another}
use Rattle.second_sweep.specs.declared.Swept.{Swept}
use Rattle.second_sweep.specs.Parts.{Sweeps}

-- bits written where they fit, else the buffer as it was
unfoldable pub put : (code : List ℕ) → (at : ℕ) → List Bool → List ℕ
put xs at cs = cond (leb (at + length cs) (8 * length xs)) (write 8 xs at cs) xs

-- a bit written where it fits
pub record Puts (value : Bool) (at : ℕ) (code code_now : List ℕ) : Type 0 where
  pub written : code_now ≡ put code at (value ∷ [])

-- a choice: the left side where it is open, with the bit 0, else the right one, with 1
pub record Chooses (left : Bool) (p q at : ℕ) (code code_now : List ℕ) (side : ℕ) : Type 0 where
  pub side_is : side ≡ cond left p q
  pub puts : Puts (not left) at code code_now

-- the end of a star that takes another round for the bit `again`, with the other bit
pub record Stops (again : Bool) (i at : ℕ) (code code_now : List ℕ) (r : Swept) : Type 0 where
  pub result_is : r ≡ record { position = i; at = at + 1 }
  pub puts : Puts (not again) at code code_now

-- a node's bit in the word of a position with the flag
abbrev pub is_open : (words : List ℕ) → (i : ℕ) → (taken : Bool) → (l : ℕ) → Bool
is_open ws i b l = test_bit (get_or ws (2 * i + bit b) 0) l

-- 01: "`E` and `K` step to the follower with the same flag, but where the follower is a `K` above them, only with flag 1. The end accepts with
-- flag 1." Whether the step of node l can be taken at a position, and the rest be read from there: by the state sets, and for the end, which is
-- follower 64, by the tape's size.
unfoldable pub may_stop : (table words : List ℕ) → (size l i : ℕ) → (taken : Bool) → Bool
may_stop table ws n l i b =
    (not (loops_in table l) || b) && cond (ltb (follower_in table l) 64) (is_open ws i b (follower_in table l)) (b && eqb i n)

-- whether a star at node l takes another round of its part p
unfoldable pub goes_on : (table words : List ℕ) → (size l i : ℕ) → (taken again : Bool) → (p : ℕ) → Bool
goes_on table ws n l i b again p = another again (is_open ws i false p) (may_stop table ws n l i b)

-- what the state sets say of a node, at every position with either flag
abbrev pub Own : (words tape : List ℕ) → Tree → After → Type 0
Own ws tape t k = (i : ℕ) → i ≤ length tape → (b : Bool) → is_open ws i b (index t) ≡ can t k b (drop i tape)

-- and what a node's follower says of what may come behind the node
abbrev pub Behind : (table words tape : List ℕ) → (l : ℕ) → After → Type 0
Behind table ws tape l k = (i : ℕ) → i ≤ length tape → (b : Bool) → may_stop table ws (length tape) l i b ≡ k b (drop i tape)

-- and what the sweep asks of them: the left side of each alternative, the round of each star and what may come behind it
abbrev pub Knows : (table words tape : List ℕ) → Tree → After → Type 0
Knows table ws tape (nothing m) k = Unit {0}
Knows table ws tape (letter m c) k = Unit {0}
Knows table ws tape (range m low high) k = Unit {0}
Knows table ws tape (seq m t u) k = Knows table ws tape t (can u k) × Knows table ws tape u k
Knows table ws tape (alt m t u) k = Own ws tape t k × (Knows table ws tape t k × Knows table ws tape u k)
Knows table ws tape (star m again t) k =
    Own ws tape t (after_round (can (star m again t) k))
    × (Behind table ws tape m.index k × Knows table ws tape t (after_round (can (star m again t) k)))

-- what was swept: the position behind the letters, the bit behind the bits, and the bits in the code if they fit
pub record Wrote (i at : ℕ) (letters : List ℕ) (bits : List Bool) (code code_now : List ℕ) (r : Swept) : Type 0 where
  pub position_is : r.position ≡ i + length letters
  pub at_is : r.at ≡ at + length bits
  pub written : at + length bits ≤ 8 * length code → code_now ≡ write 8 code at bits
  pub as_long : length code_now ≡ length code

-- a node of a tree t can be swept from position i on. 01: "Tapes hold at most 3,600 letters": that no sum of a position and letters passes 16
-- bits rests on this alone, so it is asked.
pub record CanSweep (table words tape : List ℕ) (t : Tree) (i : ℕ) (taken : Bool) (at : ℕ) : Type 0 where
  pub after : After
  pub letters : List ℕ
  pub bits : List Bool
  pub knows : Knows table words tape t after
  pub sweeps : Sweeps t after taken (drop i tape) letters bits
  pub within : i ≤ length tape
  pub limited : length tape ≤ letter_limit
  pub few : at + length bits ≤ code_limit

abbrev pub leaf_tree : Label → Leaf → Tree
leaf_tree m Nothing = nothing m
leaf_tree m (Letter c) = letter m c
leaf_tree m (Range a b) = range m a b

pub record LeafReady (leaf : Leaf) (tape : List ℕ) (i at : ℕ) : Type 0 where
  pub label : Label
  pub table : List ℕ
  pub words : List ℕ
  pub taken : Bool
  pub it : CanSweep table words tape (leaf_tree label leaf) i taken at

abbrev pub LeafSwept : Leaf → (tape : List ℕ) → (i at : ℕ) → (code code_now : List ℕ) → Swept → Type 0
LeafSwept leaf tape i at xs ys r =
    (m : Label) (table words : List ℕ) (taken : Bool) (c : CanSweep table words tape (leaf_tree m leaf) i taken at) →
    Wrote i at c.letters c.bits xs ys r

-- node l of a table
pub record Ready (table words tape : List ℕ) (l i : ℕ) (taken : Bool) (at : ℕ) : Type 0 where
  pub it : CanSweep table words tape (tree_in table l) i taken at
  pub enough : 2 * length tape + 1 < length words

abbrev pub SweptAll : (table words tape : List ℕ) → (l i : ℕ) → (taken : Bool) → (at : ℕ) → (code code_now : List ℕ) → Swept → Type 0
SweptAll table words tape l i taken at xs ys r =
    (s : Ready table words tape l i taken at) → Wrote i at s.it.letters s.it.bits xs ys r
