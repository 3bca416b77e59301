-- Tables: the pattern rules of document 01. Definitions only.
use Rattle.std.specs.Prelude.{Bool, true, false, ◌&&◌, ◌||◌, not, cond, List, [], ◌∷◌, ◌++◌, ℕ, zero, suc, ◌-◌, ltb, leb, eqb, length, get_or, replicate, Option, None, Some}
pub use Rattle.std.specs.Prelude.{is_none}
use Rattle.syntax.specs.declared.Leaf.{Leaf}
use Rattle.syntax.specs.declared.Leaf.TheVariants.{Nothing, Letter, Range}
use Rattle.syntax.specs.declared.Node.{Node}
use Rattle.syntax.specs.declared.Node.TheVariants.{Leaf as LeafNode, Sequence, Alternative, Star}
use Rattle.syntax.specs.declared.Line.{Line}
use Rattle.syntax.specs.declared.Pattern.{Pattern}
use Rattle.syntax.specs.Letter.{is_letter}

abbrev pub blank : Line
blank = record { account = 0; node = LeafNode Nothing }

-- 01: "the table of the text: its line count, and each node as its line says"
unfoldable pub table : List Line → Pattern
table xs = record { count = length xs; lines = xs ++ replicate (64 - length xs) blank }

-- 01: "A refused load gives a table of no lines"
unfoldable pub no_lines : Pattern
no_lines = record { count = 0; lines = replicate 64 blank }

-- a line of a table by its index; nothing at or past the count is looked at
abbrev pub line_at : Pattern → ℕ → Line
line_at p i = get_or p.lines i blank

abbrev pub node_at : Pattern → ℕ → Node
node_at p i = (line_at p i).node

-- ── form: letters, ranges and accounts ──
abbrev pub leaf_good : Leaf → Bool
leaf_good Nothing = true
leaf_good (Letter c) = is_letter c
leaf_good (Range a b) = (is_letter a && is_letter b) && leb a b

abbrev pub node_good : Node → Bool
node_good (LeafNode x) = leaf_good x
node_good (Sequence p q) = true
node_good (Alternative p q) = true
node_good (Star again p) = true

-- 02, Job 7: "The account field grows to 1 to 200"; in code `Pattern::MAX_ACCOUNT`
abbrev pub account_limit : ℕ
account_limit = 200

-- 01: "Account is `-` or a digit 1 to 9". The limit before 02's Job 7: nothing is tested by it, and laws say by it what an old text still gives.
abbrev pub one_digit_limit : ℕ
one_digit_limit = 9

-- 02, Job 5: litres "at or under a node of account 9 are stale"; in code `Pattern::STALE_ACCOUNT`
abbrev pub stale : ℕ
stale = 9

unfoldable pub line_good : Line → Bool
line_good x = leb x.account account_limit && node_good x.node

abbrev pub badly_formed : Pattern → (line : ℕ) → Bool
badly_formed p i = not (line_good (line_at p i))

-- ── tree: the parts that nodes name ──
abbrev pub parts : Node → List ℕ
parts (LeafNode x) = []
parts (Sequence p q) = p ∷ q ∷ []
parts (Alternative p q) = p ∷ q ∷ []
parts (Star again p) = p ∷ []

-- all that the lines below i name
abbrev pub named_below : Pattern → ℕ → List ℕ
named_below p zero = []
named_below p (suc i) = parts (node_at p i) ++ named_below p i

abbrev pub member : ℕ → List ℕ → Bool
member l [] = false
member l (x ∷ xs) = eqb x l || member l xs

-- 01: "A place not below its naming line, or named before, is wrongly named."
abbrev pub rightly_named : (line : ℕ) → (before parts : List ℕ) → Bool
rightly_named i seen [] = true
rightly_named i seen (q ∷ qs) = (ltb q i && not (member q seen)) && rightly_named i (q ∷ seen) qs

unfoldable pub wrongly_names : Pattern → (line : ℕ) → Bool
wrongly_names p i = not (rightly_named i (named_below p i) (parts (node_at p i)))

unfoldable pub unnamed : Pattern → ℕ → Bool
unnamed p l = not (member l (named_below p p.count))

-- the lowest of the k numbers from i on of which f holds
abbrev pub lowest : (ℕ → Bool) → (i k : ℕ) → Option ℕ
lowest f i zero = None
lowest f i (suc k) = cond (f i) (Some i) (lowest f (suc i) k)

abbrev pub or_else : Option ℕ → Option ℕ → Option ℕ
or_else None y = y
or_else (Some x) y = Some x

-- 01: "among tree faults, a wrongly named part comes first, by its naming line, then the lowest place that no line names";
-- the last place need not be named
unfoldable pub tree_fault : Pattern → Option ℕ
tree_fault p = or_else (lowest (wrongly_names p) 0 p.count) (lowest (unnamed p) 0 (p.count - 1))

-- THE TEST of a table: 01, "any departure from the pattern rules, in its line count (1 to 64) or in a node below that count, is 2"
unfoldable pub obeys : Pattern → Bool
obeys p =
    (leb 1 p.count && leb p.count 64)
    && (is_none (lowest (badly_formed p) 0 p.count) && is_none (tree_fault p))
