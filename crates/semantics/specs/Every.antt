-- What holds of every element of a list, and of every leaf of a tree: words of the laws and of what other crates define.
use Rattle.std.specs.Prelude.{◌≡◌, Bool, true, List, [], ◌∷◌, ℕ}
use Rattle.syntax.specs.Letter.{is_letter}
use Rattle.syntax.specs.Tree.{Tree, nothing, letter, range, seq, alt, star}

abbrev pub All : {A : Type 0} → (A → Type 0) → List A → Type 0
All P [] = Unit {0}
All P (x ∷ xs) = P x × All P xs

abbrev pub Lettered : Tree → Type 0
Lettered (nothing m) = Unit {0}
Lettered (letter m c) = is_letter c ≡ true
Lettered (range m low high) = Unit {0}
Lettered (seq m t u) = Lettered t × Lettered u
Lettered (alt m t u) = Lettered t × Lettered u
Lettered (star m again t) = Lettered t
