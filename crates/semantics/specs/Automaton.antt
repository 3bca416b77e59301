-- WHAT MUST BE BELIEVED, 4: the automaton with flags of 001, section 5.2, on the nodes of a tree; what 01's marks (state sets) say.
-- Flag 1 (true) "means that the present round has taken a letter".
-- 02: "In 01, `Z` follows every rule for `K` on followers, flags, empty rounds, visits and the count a." So no rule here looks at a star's bit.
use Rattle.std.specs.Prelude.{◌≡◌, Bool, false, true, ◌⊎◌, ◌∷◌, List, [], ℕ}
use Rattle.syntax.specs.Letter.{in_range}
use Rattle.syntax.specs.Tree.{Label, Tree, nothing, letter, range, seq, alt, star}

-- a node of the tree `root`, at which the tree t stands: 001's location l with root.l = t, named as there (star: `rnd`)
pub data Location (root : Tree) : Tree → Type 0 where
  top : Location root root
  fst : {l : Label} {t u : Tree} → Location root (seq l t u) → Location root t
  snd : {l : Label} {t u : Tree} → Location root (seq l t u) → Location root u
  lft : {l : Label} {t u : Tree} → Location root (alt l t u) → Location root t
  rgt : {l : Label} {t u : Tree} → Location root (alt l t u) → Location root u
  rnd : {l : Label} {again : Bool} {t : Tree} → Location root (star l again t) → Location root t

-- 001's Q without the flags: the nodes and the end
pub data State (root : Tree) : Type 0 where
  end : State root
  at : (t : Tree) → Location root t → State root

module _ {root : Tree} where
  -- 01: "A node's follower is: for the root, the end; for the first of `S`, the second; for the child of `K`, that `K`; otherwise its
  -- parent's follower." 001: succ(l).
  abbrev pub follower : {t : Tree} → Location root t → State root
  follower top = end
  follower (fst {u = u} s) = at u (snd s)
  follower (snd s) = follower s
  follower (lft s) = follower s
  follower (rgt s) = follower s
  follower (rnd {l = l} {again = again} {t = t} s) = at (star l again t) s

  -- q is above s: an ancestor of it
  abbrev pub Above : (q : State root) → {t : Tree} → Location root t → Type 0
  Above q top = ⊥
  Above q (fst {l = l} {t = t} {u = u} s) = (q ≡ at (seq l t u) s) ⊎ Above q s
  Above q (snd {l = l} {t = t} {u = u} s) = (q ≡ at (seq l t u) s) ⊎ Above q s
  Above q (lft {l = l} {t = t} {u = u} s) = (q ≡ at (alt l t u) s) ⊎ Above q s
  Above q (rgt {l = l} {t = t} {u = u} s) = (q ≡ at (alt l t u) s) ⊎ Above q s
  Above q (rnd {l = l} {again = again} {t = t} s) = (q ≡ at (star l again t) s) ⊎ Above q s

-- 01: "where the follower is a `K` above them, only with flag 1"; 001: if l is in P, the set of the l such that succ(l) is an ancestor of l, then b = 1
abbrev pub Guarded : {root t : Tree} → Location root t → (flag : Bool) → Type 0
Guarded s b = Above (follower s) s → b ≡ true

-- 01: "A letter leaf steps to its follower with flag 1." So by letter c from the first state to the second; the flag is in `reads` below.
pub data Reads (root : Tree) : State root → ℕ → State root → Type 0 where
  letter_leaf : {l : Label} {c : ℕ} {s : Location root (letter l c)} → Reads root (at (letter l c) s) c (follower s)
  range_leaf : {l : Label} {low high c : ℕ} {s : Location root (range l low high)} → in_range low high c ≡ true
      → Reads root (at (range l low high) s) c (follower s)

-- the steps that read nothing, from a state with a flag to a state with a flag
-- 01: "`S` passes its flag to its first part, and `A` to either side. `K` enters its child with flag 0.
-- `E` and `K` step to the follower with the same flag, but where the follower is a `K` above them, only with flag 1."
pub data Moves (root : Tree) : State root → Bool → State root → Bool → Type 0 where
  to_first : {l : Label} {t u : Tree} {s : Location root (seq l t u)} {b : Bool} → Moves root (at (seq l t u) s) b (at t (fst s)) b
  to_left : {l : Label} {t u : Tree} {s : Location root (alt l t u)} {b : Bool} → Moves root (at (alt l t u) s) b (at t (lft s)) b
  to_right : {l : Label} {t u : Tree} {s : Location root (alt l t u)} {b : Bool} → Moves root (at (alt l t u) s) b (at u (rgt s)) b
  to_round : {l : Label} {again : Bool} {t : Tree} {s : Location root (star l again t)} {b : Bool} → Moves root (at (star l again t) s) b (at t (rnd s)) false
  skip : {l : Label} {s : Location root (nothing l)} {b : Bool} → Guarded s b → Moves root (at (nothing l) s) b (follower s) b
  leave : {l : Label} {again : Bool} {t : Tree} {s : Location root (star l again t)} {b : Bool} → Guarded s b
      → Moves root (at (star l again t) s) b (follower s) b

-- 001: the language of a state with a flag, the letters by which the end is reached with flag 1. 01: "The end accepts with flag 1."
pub data Accepts (root : Tree) : State root → (flag : Bool) → (letters : List ℕ) → Type 0 where
  done : Accepts root end true []
  reads : {q r : State root} {b : Bool} {c : ℕ} {w : List ℕ} → Reads root q c r → Accepts root r true w → Accepts root q b (c ∷ w)
  moves : {q r : State root} {b g : Bool} {w : List ℕ} → Moves root q b r g → Accepts root r g w → Accepts root q b w
