-- Document 03's specs/Pattern.antt, word for word but for kind `Z` of 02, Job 2, the letters of 02, Job 3, and the accounts of 02, Job 7: pattern
-- texts, nodes, and refusals 1 and 2 with their lines.
-- Above each line that is not 03's a comment names the job; Paper03Plain has 03's own of these. Definitions only.
use Rattle.std.specs.Prelude.{Bool, true, false, ◌&&◌, ◌||◌, not, cond, List, [], ◌∷◌, ◌++◌, ℕ, zero, suc, ◌+◌, ◌*◌, ◌-◌, ltb, leb, eqb, length, get_or}

-- kinds: 0 nothing, 1 a letter, 2 a range, 3 one after the other, 4 either, 5 rounds; a and b are letters or places
-- 02, Job 2: 6 rounds that prefer to stop, "kind `Z`, one part, which writes 0 to stop and 1 before a round"
pub record Node : Type 0 where
  pub kind : ℕ
  pub account : ℕ
  pub a : ℕ
  pub b : ℕ

abbrev pub no_node : Node
-- 02, Job 2: 7 is no kind, where 03 has 6
no_node = record { kind = 7; account = 0; a = 0; b = 0 }

unfoldable pub node : List Node → (l : ℕ) → Node
node t l = get_or t l no_node

-- LINES: ended by byte 10; fields parted by byte 9
pub record Line : Type 0 where
  pub text : List ℕ
  pub closed : Bool

unfoldable pub put_front : ℕ → List Line → List Line
put_front b [] = record { text = b ∷ []; closed = false } ∷ []
put_front b (l ∷ ls) = record { text = b ∷ l.text; closed = l.closed } ∷ ls

abbrev pub closed_empty : Line
closed_empty = record { text = []; closed = true }

unfoldable pub lines : List ℕ → List Line
lines [] = []
lines (b ∷ bs) = cond (eqb b 10) (closed_empty ∷ lines bs) (put_front b (lines bs))

unfoldable pub put_piece : ℕ → List (List ℕ) → List (List ℕ)
put_piece b [] = (b ∷ []) ∷ []
put_piece b (p ∷ ps) = (b ∷ p) ∷ ps

unfoldable pub fields : List ℕ → List (List ℕ)
fields [] = [] ∷ []
fields (b ∷ bs) = cond (eqb b 9) ([] ∷ fields bs) (put_piece b (fields bs))

unfoldable pub is_digit : ℕ → Bool
is_digit b = leb 48 b && leb b 57

-- places 0 to 63 without leading zeros
unfoldable pub place_value : List ℕ → ℕ
place_value [] = 64
place_value (a ∷ []) = cond (is_digit a) (a - 48) 64
place_value (a ∷ b ∷ []) = cond (is_digit a && (is_digit b && not (eqb a 48))) (10 * (a - 48) + (b - 48)) 64
place_value (a ∷ b ∷ c ∷ more) = 64

unfoldable pub is_place : List ℕ → Bool
is_place w = ltb (place_value w) 64

-- 02, Job 3: "bytes 161 to 254. These become letters of tapes and patterns beside 33 to 126"
unfoldable pub letter_byte : ℕ → Bool
letter_byte c = (leb 33 c && leb c 126) || (leb 161 c && leb c 254)

unfoldable pub is_letter : List ℕ → Bool
-- 02, Job 3: a letter of either side, where 03 has 33 to 126
is_letter w = eqb (length w) 1 && letter_byte (get_or w 0 0)

-- 02, Job 7: "The account field grows to 1 to 200, one to three digits without leading zeros"; 201 is no account, where 03 has 10
unfoldable pub account_value : List ℕ → ℕ
account_value [] = 201
account_value (a ∷ []) = cond (eqb a 45) 0 (cond (leb 49 a && leb a 57) (a - 48) 201)
account_value (a ∷ b ∷ []) = cond ((leb 49 a && leb a 57) && is_digit b) (10 * (a - 48) + (b - 48)) 201
account_value (a ∷ b ∷ c ∷ []) =
    let v = 10 * (10 * (a - 48) + (b - 48)) + (c - 48) in cond ((leb 49 a && leb a 57) && (is_digit b && (is_digit c && leb v 200))) v 201
account_value (a ∷ b ∷ c ∷ d ∷ more) = 201

unfoldable pub kind_value : List ℕ → ℕ
kind_value w =
    let b = get_or w 0 0 in
    -- 02, Job 2: 7 is no kind, where 03 has 6; byte 90, `Z`, is kind 6
    cond (not (eqb (length w) 1)) 7
    (cond (eqb b 69) 0 (cond (eqb b 76) 1 (cond (eqb b 82) 2 (cond (eqb b 83) 3 (cond (eqb b 65) 4 (cond (eqb b 75) 5 (cond (eqb b 90) 6 7)))))))

unfoldable pub field : List (List ℕ) → (i : ℕ) → List ℕ
field ws i = get_or ws i []

-- a line's form, by its number from 0
unfoldable pub line_good : (number : ℕ) → Line → Bool
line_good i x =
    let ws = fields x.text in
    let k = kind_value (field ws 1) in
    let l3 = is_letter (field ws 3) in
    let l4 = is_letter (field ws 4) in
    let p3 = is_place (field ws 3) in
    let p4 = is_place (field ws 4) in
    -- 02, Job 2: kinds are below 7, where 03 has 6; Job 7: accounts are below 201, where 03 has 10
    let first = (x.closed && eqb (place_value (field ws 0)) i) && (ltb (account_value (field ws 2)) 201 && ltb k 7) in
    first
    && cond (eqb k 0) (eqb (length ws) 3)
    (cond (eqb k 1) (eqb (length ws) 4 && l3)
    (cond (eqb k 2) (eqb (length ws) 5 && ((l3 && l4) && leb (get_or (field ws 3) 0 0) (get_or (field ws 4) 0 0)))
    -- 02, Job 2: kind 6 has the form of kind 5
    (cond (eqb k 5 || eqb k 6) (eqb (length ws) 4 && p3) (eqb (length ws) 5 && (p3 && p4)))))

unfoldable pub node_in : Line → Node
node_in x =
    let ws = fields x.text in
    let k = kind_value (field ws 1) in
    let letters = leb k 2 in
    record {
      kind = k;
      account = account_value (field ws 2);
      a = cond letters (get_or (field ws 3) 0 0) (cond (eqb (length ws) 3) 0 (place_value (field ws 3)));
      b = cond (leb (length ws) 4) 0 (cond letters (get_or (field ws 4) 0 0) (place_value (field ws 4)));
    }

unfoldable pub nodes_in : List Line → List Node
nodes_in [] = []
nodes_in (x ∷ xs) = node_in x ∷ nodes_in xs

-- what is reported: a number and a line
pub record Refusal : Type 0 where
  pub number : ℕ
  pub line : ℕ

unfoldable pub refusal : (number line : ℕ) → Refusal
refusal n l = record { number = n; line = l }

unfoldable pub forms_from : (number : ℕ) → List Line → Refusal
forms_from i [] = refusal 0 0
forms_from i (x ∷ xs) = cond (leb 64 i) (refusal 1 64) (cond (line_good i x) (forms_from (suc i) xs) (refusal 1 i))

-- parts named by a line
unfoldable pub parts : Node → List ℕ
-- 02, Job 2: kind 6 names one part, as kind 5 does
parts x = cond (eqb x.kind 5 || eqb x.kind 6) (x.a ∷ []) (cond (eqb x.kind 3 || eqb x.kind 4) (x.a ∷ x.b ∷ []) [])

unfoldable pub member : ℕ → List ℕ → Bool
member v [] = false
member v (x ∷ xs) = eqb x v || member v xs

-- a wrongly named part, by its naming line: not below it, or named before
unfoldable pub part_bad : (line : ℕ) → (named ps : List ℕ) → Bool
part_bad i ns [] = false
part_bad i ns (p ∷ ps) = (leb i p || member p ns) || part_bad i (p ∷ ns) ps

unfoldable pub tree_from : (line : ℕ) → (named : List ℕ) → List Node → Refusal
tree_from i ns [] = refusal 0 0
tree_from i ns (x ∷ xs) = cond (part_bad i ns (parts x)) (refusal 2 i) (tree_from (suc i) (parts x ++ ns) xs)

unfoldable pub all_parts : List Node → List ℕ
all_parts [] = []
all_parts (x ∷ xs) = parts x ++ all_parts xs

-- the lowest place that no line names, but for the last
unfoldable pub unnamed_from : (left i : ℕ) → List ℕ → Refusal
unnamed_from zero i ns = refusal 0 0
unnamed_from (suc k) i ns = cond (member i ns) (unnamed_from k (suc i) ns) (refusal 2 i)

unfoldable pub or_else : Refusal → Refusal → Refusal
or_else r s = cond (eqb r.number 0) s r

unfoldable pub tree_refusal : List Node → Refusal
tree_refusal t = or_else (tree_from 0 [] t) (unnamed_from (length t - 1) 0 (all_parts t))

unfoldable pub load_refusal : (text : List ℕ) → Refusal
load_refusal bs =
    let ls = lines bs in cond (eqb (length ls) 0) (refusal 1 0) (or_else (forms_from 0 ls) (tree_refusal (nodes_in ls)))

unfoldable pub loaded : (text : List ℕ) → List Node
loaded bs = nodes_in (lines bs)

unfoldable pub root : List Node → ℕ
root t = length t - 1
