-- Naming parts one by one: the computed form of the tree rules.
use Rattle.std.specs.Prelude.{◌≡◌, Bool, true, false, ◌&&◌, not, cond, List, [], ◌∷◌, ℕ, ◌-◌, ◌<◌, ltb, length, get_or, set, Option, None, Some, option_and_then, Result, Ok, Err}
use Rattle.syntax.specs.declared.Pattern.{Pattern}
use Rattle.syntax.specs.Table.{named_below, member, wrongly_names, lowest}
use Rattle.syntax.specs.Lowest.{Searched}

-- the flags with those of the part set, nothing where it is wrongly named
unfoldable pub name_one : (i : ℕ) → (named : List Bool) → (part : ℕ) → Option (List Bool)
name_one i m q = cond (ltb q i && not (get_or m q false)) (Some (set m q true)) None

abbrev pub name_all : (i : ℕ) → (named : List Bool) → (parts : List ℕ) → Option (List Bool)
name_all i m [] = Some m
name_all i m (q ∷ qs) = option_and_then (λ n. name_all i n qs) (name_one i m q)

-- the flags say which places are in the list
abbrev pub Flags : List Bool → List ℕ → Type 0
Flags m seen = (length m ≡ 64) × ((l : ℕ) → l < 64 → get_or m l false ≡ member l seen)

-- what holds before line i is looked at
pub record NamedSoFar (p : Pattern) (named : List Bool) (i : ℕ) : Type 0 where
  pub flags : Flags named (named_below p i)
  pub search : Searched (wrongly_names p) p.count i

-- which nodes are named, or the first line with a wrongly named part
abbrev pub NamesWrongly : Pattern → Result (List Bool) ℕ → Type 0
NamesWrongly p (Ok named) = (lowest (wrongly_names p) 0 p.count ≡ None) × Flags named (named_below p p.count)
NamesWrongly p (Err line) = lowest (wrongly_names p) 0 p.count ≡ Some line

abbrev pub not_flagged : List Bool → ℕ → Bool
not_flagged m l = not (get_or m l false)

abbrev pub first_unnamed : List Bool → (count : ℕ) → Option ℕ
first_unnamed m n = lowest (not_flagged m) 0 (n - 1)
