-- Pattern texts: lines, fields and what a line says. Definitions only.
use Rattle.std.specs.Prelude.{Bool, true, false, ◌&&◌, cond, List, [], ◌∷◌, ℕ, suc, ◌+◌, ◌*◌, ◌-◌, ltb, leb, eqb, Option, None, Some}
use Rattle.syntax.specs.declared.Leaf.TheVariants.{Nothing, Letter, Range}
use Rattle.syntax.specs.declared.Node.{Node}
use Rattle.syntax.specs.declared.Node.TheVariants.{Leaf as LeafNode, Sequence, Alternative, Star}
use Rattle.syntax.specs.declared.Line.{Line}
use Rattle.syntax.specs.Letter.{is_letter}
use Rattle.syntax.specs.Table.{account_limit}

-- a line of a text: its fields, and whether byte 10 ends it
pub record Row : Type 0 where
  pub fields : List (List ℕ)
  pub closed : Bool

-- a byte at the front of the first field
abbrev pub byte_front : ℕ → List (List ℕ) → List (List ℕ)
byte_front b [] = (b ∷ []) ∷ []
byte_front b (f ∷ fs) = (b ∷ f) ∷ fs

-- something at the front of the first line; where there is none yet, of a last line that nothing ends
abbrev pub row_front : (List (List ℕ) → List (List ℕ)) → List Row → List Row
row_front put [] = record { fields = put ([] ∷ []); closed = false } ∷ []
row_front put (r ∷ rs) = record { fields = put r.fields; closed = r.closed } ∷ rs

-- 01: "One line a node, fields parted by one tab (byte 9), each line ended by byte 10."
unfoldable pub rows : (text : List ℕ) → List Row
rows [] = []
rows (b ∷ bs) =
    cond (eqb b 10) (record { fields = [] ∷ []; closed = true } ∷ rows bs)
    (cond (eqb b 9) (row_front (λ fs. [] ∷ fs) (rows bs)) (row_front (byte_front b) (rows bs)))

-- the value of a decimal digit, 10 for any other byte
unfoldable pub digit : ℕ → ℕ
digit b = cond (leb 48 b && leb b 57) (b - 48) 10

unfoldable pub one_digit : ℕ → ℕ
one_digit a = cond (ltb a 10) a 64

unfoldable pub two_digits : ℕ → ℕ → ℕ
two_digits a b = cond ((leb 1 a && leb a 9) && (leb b 9 && ltb (10 * a + b) 64)) (10 * a + b) 64

-- 01: "Places are decimal, 0 to 63, without leading zeros." (A place is a node index.) 64 where the field is none.
unfoldable pub place : (field : List ℕ) → ℕ
place [] = 64
place (a ∷ []) = one_digit (digit a)
place (a ∷ b ∷ []) = two_digits (digit a) (digit b)
place (a ∷ b ∷ c ∷ more) = 64

-- the byte of a field of one byte; 0, which is neither letter nor kind, for any other field
unfoldable pub single : (field : List ℕ) → ℕ
single [] = 0
single (a ∷ []) = a
single (a ∷ b ∷ more) = 0

-- whether each byte is a decimal digit
unfoldable pub all_digits : List ℕ → Bool
all_digits [] = true
all_digits (b ∷ bs) = ltb (digit b) 10 && all_digits bs

-- the number that n and the digits behind it write
unfoldable pub decimal : (n : ℕ) → List ℕ → ℕ
decimal n [] = n
decimal n (b ∷ bs) = decimal (10 * n + digit b) bs

-- stands for a field that writes no account; accounts are below it
abbrev pub no_account : ℕ
no_account = account_limit + 1

-- the number of a first byte `1` to `9` and the digits behind it, if it is not above the limit
unfoldable pub account_number : (first : ℕ) → (more : List ℕ) → ℕ
account_number a more =
    cond ((leb 49 a && leb a 57) && (all_digits more && leb (decimal (digit a) more) account_limit)) (decimal (digit a) more) no_account

-- 02, Job 7: "The account field grows to 1 to 200, one to three digits without leading zeros"; or it is `-` (01), which is stored as 0.
-- No number to 200 has more than three digits (law `account_long`).
unfoldable pub account : (field : List ℕ) → ℕ
account [] = no_account
account (a ∷ []) = cond (eqb a 45) 0 (account_number a [])
account (a ∷ b ∷ more) = account_number a (b ∷ more)

abbrev pub when : {A : Type 0} → Bool → A → Option A
when true x = Some x
when false x = None

-- "Fields: place, kind, account, then what the kind needs." Kinds that need nothing more: `E`.
unfoldable pub node_of_none : (kind : ℕ) → Option Node
node_of_none k = when (eqb k 69) (LeafNode Nothing)

-- a star of one part, which takes another round for the bit `again`
abbrev pub star_of : (again : Bool) → (part : ℕ) → Option Node
star_of again p = when (ltb p 64) (Star again p)

-- 01: "`L` one letter"; "`K` one place, any number of rounds". 02: "kind `Z`, one part, which writes 0 to stop and 1 before a round".
unfoldable pub node_of_one : (kind : ℕ) → (x : List ℕ) → Option Node
node_of_one k x =
    cond (eqb k 76) (when (is_letter (single x)) (LeafNode (Letter (single x))))
    (cond (eqb k 75) (star_of false (place x)) (cond (eqb k 90) (star_of true (place x)) None))

-- "`R` two letters, the first not above the second"
unfoldable pub range_of : (low high : ℕ) → Option Node
range_of a b = when ((is_letter a && is_letter b) && leb a b) (LeafNode (Range a b))

-- `S` and `A` two places
unfoldable pub parts_of : (ℕ → ℕ → Node) → (p q : ℕ) → Option Node
parts_of make p q = when (ltb p 64 && ltb q 64) (make p q)

unfoldable pub node_of_two : (kind : ℕ) → (x y : List ℕ) → Option Node
node_of_two k x y =
    cond (eqb k 82) (range_of (single x) (single y))
    (cond (eqb k 83) (parts_of Sequence (place x) (place y)) (cond (eqb k 65) (parts_of Alternative (place x) (place y)) None))

unfoldable pub node_of : (kind : ℕ) → (more : List (List ℕ)) → Option Node
node_of k [] = node_of_none k
node_of k (x ∷ []) = node_of_one k x
node_of k (x ∷ y ∷ []) = node_of_two k x y
node_of k (x ∷ y ∷ z ∷ more) = None

abbrev pub with_account : ℕ → Option Node → Option Line
with_account a None = None
with_account a (Some n) = when (leb a account_limit) (record { account = a; node = n })

-- what the fields of line i say: "the first field is the line's own [place], counted from 0"
unfoldable pub line_of : (i : ℕ) → (fields : List (List ℕ)) → Option Line
line_of i [] = None
line_of i (p ∷ []) = None
line_of i (p ∷ k ∷ []) = None
line_of i (p ∷ k ∷ a ∷ more) = cond (eqb (place p) i) (with_account (account a) (node_of (single k) more)) None

-- the line of the table that row i writes, none where its form is at fault
unfoldable pub row_line : (i : ℕ) → Row → Option Line
row_line i r = cond r.closed (line_of i r.fields) None

-- a text's lines, or the first line at fault
pub data Forms : Type 0 where
  good : List Line → Forms
  fault : (line : ℕ) → Forms

abbrev pub line_front : (i : ℕ) → Option Line → Forms → Forms
line_front i None rest = fault i
line_front i (Some x) (good xs) = good (x ∷ xs)
line_front i (Some x) (fault j) = fault j

-- 01: "The line reported is the first line at fault"; "a 65th line 1 with line 64"
unfoldable pub forms : (i : ℕ) → List Row → Forms
forms i [] = good []
forms i (r ∷ rs) = cond (ltb i 64) (line_front i (row_line i r) (forms (suc i) rs)) (fault 64)
