-- The text of a table: the bytes that 01's "Pattern text" asks for its lines. Definitions only.
use Rattle.std.specs.Prelude.{true, false, cond, List, [], ◌∷◌, ◌++◌, ℕ, suc, eqb}
use Rattle.syntax.specs.declared.Leaf.TheVariants.{Nothing, Letter, Range}
use Rattle.syntax.specs.declared.Node.{Node}
use Rattle.syntax.specs.declared.Node.TheVariants.{Leaf as LeafNode, Sequence, Alternative, Star}
use Rattle.syntax.specs.declared.Line.{Line}
use Rattle.text.specs.Text.{decimal}

-- 01: "`E` nothing; `L` one letter; `R` two letters [..] `S` two places [..] `A` two places [..] `K` one place"; 02: "kind `Z`, one part"
abbrev pub kind_of : Node → ℕ
kind_of (LeafNode Nothing) = 69
kind_of (LeafNode (Letter c)) = 76
kind_of (LeafNode (Range a b)) = 82
kind_of (Sequence p q) = 83
kind_of (Alternative p q) = 65
kind_of (Star false p) = 75
kind_of (Star true p) = 90

-- "then what the kind needs"; "Places are decimal [..] without leading zeros"
abbrev pub needs_of : Node → List (List ℕ)
needs_of (LeafNode Nothing) = []
needs_of (LeafNode (Letter c)) = (c ∷ []) ∷ []
needs_of (LeafNode (Range a b)) = (a ∷ []) ∷ (b ∷ []) ∷ []
needs_of (Sequence p q) = decimal p ∷ decimal q ∷ []
needs_of (Alternative p q) = decimal p ∷ decimal q ∷ []
needs_of (Star again p) = decimal p ∷ []

-- "Account is `-` or" a number, which is above 0
abbrev pub account_field : (account : ℕ) → List ℕ
account_field a = cond (eqb a 0) (45 ∷ []) (decimal a)

-- "Fields: place, kind, account, then what the kind needs"; "the first field is the line's own, counted from 0"
abbrev pub fields_of : (i : ℕ) → Line → List (List ℕ)
fields_of i x = decimal i ∷ (kind_of x.node ∷ []) ∷ account_field x.account ∷ needs_of x.node

-- "fields parted by one tab (byte 9), each line ended by byte 10"
abbrev pub joined : (field : List ℕ) → (more : List (List ℕ)) → List ℕ
joined f [] = f ++ (10 ∷ [])
joined f (g ∷ gs) = f ++ (9 ∷ joined g gs)

abbrev pub row_text : (fields : List (List ℕ)) → List ℕ
row_text [] = 10 ∷ []
row_text (f ∷ fs) = joined f fs

-- the lines from line i on
abbrev pub text_from : (i : ℕ) → List Line → List ℕ
text_from i [] = []
text_from i (x ∷ xs) = row_text (fields_of i x) ++ text_from (suc i) xs

-- "One line a node"
unfoldable pub text_of : List Line → List ℕ
text_of xs = text_from 0 xs
