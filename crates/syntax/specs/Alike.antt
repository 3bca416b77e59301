-- Trees that are equal up to their labels: the same kinds, letters, ranges and stars at the same nodes, with any places and accounts.
use Rattle.std.specs.Prelude.{Bool, ℕ}
use Rattle.syntax.specs.Tree.{Label, Tree, nothing, letter, range, seq, alt, star}

pub data Alike : Tree → Tree → Type 0 where
  same_nothing : {m n : Label} → Alike (nothing m) (nothing n)
  same_letter : {m n : Label} {c : ℕ} → Alike (letter m c) (letter n c)
  same_range : {m n : Label} {low high : ℕ} → Alike (range m low high) (range n low high)
  same_seq : {m n : Label} {t u s r : Tree} → Alike t s → Alike u r → Alike (seq m t u) (seq n s r)
  same_alt : {m n : Label} {t u s r : Tree} → Alike t s → Alike u r → Alike (alt m t u) (alt n s r)
  same_star : {m n : Label} {again : Bool} {t s : Tree} → Alike t s → Alike (star m again t) (star n again s)

-- every label changed
abbrev pub relabel : (Label → Label) → Tree → Tree
relabel f (nothing m) = nothing (f m)
relabel f (letter m c) = letter (f m) c
relabel f (range m low high) = range (f m) low high
relabel f (seq m t u) = seq (f m) (relabel f t) (relabel f u)
relabel f (alt m t u) = alt (f m) (relabel f t) (relabel f u)
relabel f (star m again t) = star (f m) again (relabel f t)

pub alike_relabel : (f : Label → Label) (t : Tree) → Alike t (relabel f t)
alike_relabel f (nothing m) = same_nothing
alike_relabel f (letter m c) = same_letter
alike_relabel f (range m low high) = same_range
alike_relabel f (seq m t u) = same_seq (alike_relabel f t) (alike_relabel f u)
alike_relabel f (alt m t u) = same_alt (alike_relabel f t) (alike_relabel f u)
alike_relabel f (star m again t) = same_star (alike_relabel f t)
