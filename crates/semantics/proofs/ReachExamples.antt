-- How far tapes can be read, on the patterns of 01's "Tapes to try"; and why the tape's end is left out where open nodes tell what ends a tape.
use Rattle.std.specs.Prelude.{◌≡◌, refl, Bool, false, true, ◌∷◌, List, [], map, ℕ}
use Rattle.std.proofs.Common.{arith}
use Rattle.syntax.specs.Letter.{is_letter, in_range}
use Rattle.syntax.specs.Tree.{Label, Tree, nothing, letter, range, seq, alt, star}
use Rattle.semantics.specs.Automaton.{Location, top, fst, snd, lft, rgt, rnd}
use Rattle.semantics.specs.Sweeps.{can, readable}
use Rattle.semantics.specs.Begins.{Ends}
use Rattle.semantics.proofs.Basics.{not-both}
use Rattle.semantics.specs.Passing.{after}
use Rattle.semantics.specs.Fronts.{reach_of}
use Rattle.semantics.specs.Passing.{OpenNode}
use Rattle.semantics.proofs.EndLaws.{ends_none}

abbrev plain : Label
plain = record { index = 0; account = 0 }

abbrev a : Tree
a = letter plain 97

abbrev b : Tree
b = letter plain 98

abbrev e : Tree
e = nothing plain

-- P1: (a|e)*; P3: (a*b*)*; P4: (a|ab)(b|e); P5: a*a; and the listing's pattern (W[0-9]|[0-9])*
abbrev P1 : Tree
P1 = star plain false (alt plain a e)

abbrev P3 : Tree
P3 = star plain false (seq plain (star plain false a) (star plain false b))

abbrev P4 : Tree
P4 = seq plain (alt plain a (seq plain a b)) (alt plain b e)

abbrev P5 : Tree
P5 = seq plain (star plain false a) a

abbrev meter : Tree
meter = star plain false (alt plain (seq plain (letter plain 87) (range plain 48 57)) (range plain 48 57))

-- a row: the pattern, the tape, how many letters are read, and whether the tape is readable
pub record Row : Type 0 where
  pub tree : Tree
  pub tape : List ℕ
  pub reach : ℕ
  pub good : Bool

abbrev row : Tree → List ℕ → ℕ → Bool → Row
row t w k g = record { tree = t; tape = w; reach = k; good = g }

-- a is 97, b 98, c 99, W 87, digits from 48 on
abbrev pub rows : List Row
rows =
    row P1 [] 0 true
    ∷ row P1 (97 ∷ 97 ∷ 99 ∷ 97 ∷ []) 2 false
    ∷ row P3 (98 ∷ 97 ∷ 98 ∷ 98 ∷ []) 4 true
    ∷ row P3 (98 ∷ 97 ∷ 99 ∷ []) 2 false
    ∷ row P4 (97 ∷ 98 ∷ 98 ∷ []) 3 true
    -- one letter too many
    ∷ row P4 (97 ∷ 98 ∷ 98 ∷ 98 ∷ []) 3 false
    ∷ row P4 (98 ∷ []) 0 false
    -- stops too early: C9
    ∷ row P5 [] 0 false
    ∷ row P5 (97 ∷ 98 ∷ []) 1 false
    -- 3W2, and the same cut after W: read to its end, and not readable
    ∷ row meter (51 ∷ 87 ∷ 50 ∷ []) 3 true
    ∷ row meter (51 ∷ 87 ∷ []) 2 false
    ∷ row meter (51 ∷ 87 ∷ 87 ∷ 50 ∷ []) 2 false
    ∷ []

pub reach-said : map (λ r. reach_of r.tree r.tape) rows ≡ map (λ r. r.reach) rows
unfolding reach_of in_range is_letter
reach-said = refl

pub readable-said : map (λ r. readable r.tree r.tape) rows ≡ map (λ r. r.good) rows
unfolding readable in_range is_letter
readable-said = refl

-- ---- at the tape's end: no letters end a tape of the pattern a, and no node of it is open there, so its word is 0
abbrev is_leaf : Tree → ℕ
is_leaf (nothing m) = 0
is_leaf (letter m c) = 0
is_leaf (range m low high) = 0
is_leaf (seq m t u) = 1
is_leaf (alt m t u) = 1
is_leaf (star m again t) = 1

alone : {t : Tree} → Location a t → is_leaf t ≡ 0
alone top = refl
alone (fst s) = absurd (omega (arith, alone s))
alone (snd s) = absurd (omega (arith, alone s))
alone (lft s) = absurd (omega (arith, alone s))
alone (rgt s) = absurd (omega (arith, alone s))
alone (rnd s) = absurd (omega (arith, alone s))

shut : {t : Tree} (s : Location a t) → can t (after s) true [] ≡ false
shut top = refl
shut (fst s) = absurd (omega (arith, alone s))
shut (snd s) = absurd (omega (arith, alone s))
shut (lft s) = absurd (omega (arith, alone s))
shut (rgt s) = absurd (omega (arith, alone s))
shut (rnd s) = absurd (omega (arith, alone s))

pub end_left_out : Ends a [] × (OpenNode a true [] → ⊥)
end_left_out = (ends_none a tt, λ n. not-both n.goes (shut n.place))
