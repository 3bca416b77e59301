-- The texts write the patterns that 01 writes short: what is loaded is the tree of crate semantics' table, but for places and accounts. The
-- texts with kind `Z` of 02, Job 2, and with letters of the hot side, 02, Job 3, write the trees that stand here.
use Rattle.std.specs.Prelude.{◌≡◌, refl, false, true, [], ◌∷◌, map}
use Rattle.syntax.specs.Letter.{is_letter}
use Rattle.syntax.specs.Table.{table, wrongly_names, unnamed, tree_fault}
use Rattle.syntax.specs.Tree.{Label, Tree, nothing, letter, range, seq, alt, star}
use Rattle.syntax.specs.Trees.{root, tree_of}
use Rattle.fields.specs.Text.{rows, digit, one_digit, two_digits, place, single, all_digits, decimal, account_number, account}
use Rattle.fields.specs.Text.{node_of_none, node_of_one, range_of, parts_of, node_of_two, node_of, line_of, row_line, forms}
use Rattle.loading.specs.Load.{load_answer, load_table}
use Rattle.semantics.proofs.Examples as short
use Rattle.worked_examples.specs.Texts.{P1, P2, P3, P4, P5, Z1, Z2, Z3, Z4, Z5, Z6, Z7, H1}

-- a tree whose nodes all have place 0 and no account
abbrev plain : Label
plain = record { index = 0; account = 0 }

abbrev pub bare : Tree → Tree
bare (nothing m) = nothing plain
bare (letter m c) = letter plain c
bare (range m low high) = range plain low high
bare (seq m t u) = seq plain (bare t) (bare u)
bare (alt m t u) = alt plain (bare t) (bare u)
bare (star m again t) = star plain again (bare t)

abbrev one : Tree
one = letter plain 97

abbrev one_or : Tree → Tree
one_or t = alt plain one t

-- kinds `K` and `Z`
abbrev rounds : Tree → Tree
rounds t = star plain false t

abbrev lazy : Tree → Tree
lazy t = star plain true t

-- "P1: (a|e)*. P2: (e|a)*. P3: (a*b*)*. P4: (a|ab)(b|e). P5: a*a."; then the patterns with `Z`, and that across
-- the gap
pub texts_write : map (λ text. bare (root (load_table text))) (P1 ∷ P2 ∷ P3 ∷ P4 ∷ P5 ∷ Z1 ∷ Z2 ∷ Z3 ∷ Z4 ∷ Z5 ∷ Z6 ∷ Z7 ∷ H1 ∷ [])
    ≡ short.P1
    ∷ short.P2
    ∷ short.P3
    ∷ short.P4
    ∷ short.P5
    ∷ lazy one
    ∷ lazy (one_or (nothing plain))
    ∷ lazy (one_or (seq plain one one))
    ∷ seq plain (lazy one) (rounds one)
    ∷ rounds (lazy one)
    ∷ rounds (lazy (one_or (nothing plain)))
    ∷ lazy (rounds (one_or (nothing plain)))
    ∷ rounds (range plain 126 161)
    ∷ []
unfolding P1 P2 P3 P4 P5 Z1 Z2 Z3 Z4 Z5 Z6 Z7 H1 rows digit one_digit two_digits place single all_digits decimal account_number account
    node_of_none node_of_one range_of parts_of node_of_two node_of line_of row_line forms table load_answer load_table is_letter wrongly_names
    unnamed tree_fault root tree_of
texts_write = refl
