-- Letters of entries, accounts of a tree, sums over accounts, and how many nodes a tree has: words of the laws and of what other crates define.
use Rattle.std.specs.Prelude.{List, map, ℕ, suc, zero, ◌+◌, ◌<◌}
use Rattle.syntax.specs.Tree.{Tree, nothing, letter, range, seq, alt, star}

abbrev pub letters : List (ℕ × ℕ) → List ℕ
letters es = map (λ e. e.0) es

abbrev pub Accounts : ℕ → Tree → Type 0
Accounts n (nothing m) = m.account < n
Accounts n (letter m c) = m.account < n
Accounts n (range m low high) = m.account < n
Accounts n (seq m t u) = (m.account < n) × Accounts n t × Accounts n u
Accounts n (alt m t u) = (m.account < n) × Accounts n t × Accounts n u
Accounts n (star m again t) = (m.account < n) × Accounts n t

-- the sum of f 0 to f (n - 1)
abbrev pub sum_below : ℕ → (ℕ → ℕ) → ℕ
sum_below zero f = 0
sum_below (suc n) f = sum_below n f + f n

-- every node of a tree, leaves included
abbrev pub nodes : Tree → ℕ
nodes (nothing m) = 1
nodes (letter m c) = 1
nodes (range m low high) = 1
nodes (seq m t u) = suc (nodes t + nodes u)
nodes (alt m t u) = suc (nodes t + nodes u)
nodes (star m again t) = suc (nodes t)
