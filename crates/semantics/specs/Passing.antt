-- What may follow a node, computed: the first sweep's answer at each state of the automaton.
use Rattle.std.specs.Prelude.{◌≡◌, Bool, true, false, List, ℕ}
use Rattle.syntax.specs.Tree.{Tree, star}
use Rattle.semantics.specs.Automaton.{Location, top, fst, snd, lft, rgt, rnd, State, end, at}
use Rattle.semantics.specs.Sweeps.{After, after_round, can, at_end}

module _ {root : Tree} where
  abbrev pub loops : {t : Tree} → Location root t → Bool
  loops top = false
  loops (fst s) = false
  loops (snd s) = loops s
  loops (lft s) = loops s
  loops (rgt s) = loops s
  loops (rnd s) = true

module _ {root : Tree} where
  -- the guard, by the computed form
  abbrev pub Passes : {t : Tree} → Location root t → (flag : Bool) → Type 0
  Passes s b = loops s ≡ true → b ≡ true

module _ {root : Tree} where
  -- what may follow a node, as the first sweep is told
  abbrev pub after : {t : Tree} → Location root t → After
  after top = at_end
  after (fst {u = u} s) = can u (after s)
  after (snd s) = after s
  after (lft s) = after s
  after (rgt s) = after s
  after (rnd {l = l} {again = again} {t = t} s) = after_round (can (star l again t) (after s))

module _ {root : Tree} where
  -- the first sweep's answer at a state
  abbrev pub can_from : State root → After
  can_from end b w = at_end b w
  can_from (at t s) b w = can t (after s) b w

-- a node that is open before these letters, with a flag: it reads them to the end
pub record OpenNode (root : Tree) (b : Bool) (w : List ℕ) : Type 0 where
  pub tree : Tree
  pub place : Location root tree
  pub goes : can tree (after place) b w ≡ true
