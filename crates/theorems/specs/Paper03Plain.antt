-- Document 03's own definitions, word for word, where kind `Z` of 02, Job 2, the letters of 02, Job 3, or the accounts of 02, Job 7, change them or
-- what they rest on: kinds 0 to 5, and 6 for none; letters 33 to 126; accounts 0 to 9, and 10 for none. Paper03PlainLaws says that nothing has
-- changed where no line is of kind `Z`, names a letter of the hot side or has an account above 9. Definitions only.
use Rattle.std.specs.Prelude.{Bool, true, false, ◌&&◌, ◌||◌, not, cond, List, [], ◌∷◌, ◌++◌, ℕ, zero, suc, ◌+◌, ◌-◌, ltb, leb, eqb, length, get_or, take, drop}
use Rattle.theorems.specs.Paper03Pattern.{Node, Line, lines, fields, place_value, is_place, field, Refusal, refusal}
use Rattle.theorems.specs.Paper03Pattern.{part_bad, unnamed_from, or_else, root}
use Rattle.theorems.specs.Paper03Codes.{Read, read, bad, joined, with_hollow, value_from, side_read}

-- ── specs/Pattern.antt ──
abbrev pub no_node : Node
no_node = record { kind = 6; account = 0; a = 0; b = 0 }

unfoldable pub node : List Node → (l : ℕ) → Node
node t l = get_or t l no_node

unfoldable pub is_letter : List ℕ → Bool
is_letter w = eqb (length w) 1 && (leb 33 (get_or w 0 0) && leb (get_or w 0 0) 126)

unfoldable pub account_value : List ℕ → ℕ
account_value w = cond (eqb (length w) 1) (cond (eqb (get_or w 0 0) 45) 0 (cond (leb 49 (get_or w 0 0) && leb (get_or w 0 0) 57) (get_or w 0 0 - 48) 10)) 10

unfoldable pub kind_value : List ℕ → ℕ
kind_value w =
    let b = get_or w 0 0 in
    cond (not (eqb (length w) 1)) 6
    (cond (eqb b 69) 0 (cond (eqb b 76) 1 (cond (eqb b 82) 2 (cond (eqb b 83) 3 (cond (eqb b 65) 4 (cond (eqb b 75) 5 6))))))

-- a line's form, by its number from 0
unfoldable pub line_good : (number : ℕ) → Line → Bool
line_good i x =
    let ws = fields x.text in
    let k = kind_value (field ws 1) in
    let l3 = is_letter (field ws 3) in
    let l4 = is_letter (field ws 4) in
    let p3 = is_place (field ws 3) in
    let p4 = is_place (field ws 4) in
    let first = (x.closed && eqb (place_value (field ws 0)) i) && (ltb (account_value (field ws 2)) 10 && ltb k 6) in
    first
    && cond (eqb k 0) (eqb (length ws) 3)
    (cond (eqb k 1) (eqb (length ws) 4 && l3)
    (cond (eqb k 2) (eqb (length ws) 5 && ((l3 && l4) && leb (get_or (field ws 3) 0 0) (get_or (field ws 4) 0 0)))
    (cond (eqb k 5) (eqb (length ws) 4 && p3) (eqb (length ws) 5 && (p3 && p4)))))

unfoldable pub node_in : Line → Node
node_in x =
    let ws = fields x.text in
    let k = kind_value (field ws 1) in
    let letters = leb k 2 in
    record {
      kind = k;
      account = account_value (field ws 2);
      a = cond letters (get_or (field ws 3) 0 0) (cond (eqb (length ws) 3) 0 (place_value (field ws 3)));
      b = cond (leb (length ws) 4) 0 (cond letters (get_or (field ws 4) 0 0) (place_value (field ws 4)));
    }

unfoldable pub nodes_in : List Line → List Node
nodes_in [] = []
nodes_in (x ∷ xs) = node_in x ∷ nodes_in xs

unfoldable pub forms_from : (number : ℕ) → List Line → Refusal
forms_from i [] = refusal 0 0
forms_from i (x ∷ xs) = cond (leb 64 i) (refusal 1 64) (cond (line_good i x) (forms_from (suc i) xs) (refusal 1 i))

-- parts named by a line
unfoldable pub parts : Node → List ℕ
parts x = cond (eqb x.kind 5) (x.a ∷ []) (cond (eqb x.kind 3 || eqb x.kind 4) (x.a ∷ x.b ∷ []) [])

unfoldable pub tree_from : (line : ℕ) → (named : List ℕ) → List Node → Refusal
tree_from i ns [] = refusal 0 0
tree_from i ns (x ∷ xs) = cond (part_bad i ns (parts x)) (refusal 2 i) (tree_from (suc i) (parts x ++ ns) xs)

unfoldable pub all_parts : List Node → List ℕ
all_parts [] = []
all_parts (x ∷ xs) = parts x ++ all_parts xs

unfoldable pub tree_refusal : List Node → Refusal
tree_refusal t = or_else (tree_from 0 [] t) (unnamed_from (length t - 1) 0 (all_parts t))

unfoldable pub load_refusal : (text : List ℕ) → Refusal
load_refusal bs =
    let ls = lines bs in cond (eqb (length ls) 0) (refusal 1 0) (or_else (forms_from 0 ls) (tree_refusal (nodes_in ls)))

unfoldable pub loaded : (text : List ℕ) → List Node
loaded bs = nodes_in (lines bs)

-- ── specs/Codes.antt ──
unfoldable pub range_read : (low high : ℕ) → List ℕ → Read
range_read a b bs =
    let v = value_from 0 (take 8 bs) in cond (leb 8 (length bs) && (leb a v && leb v b)) (read (v ∷ []) (drop 8 bs) false) bad

-- 0 and a round, again and again, then 1
unfoldable pub rounds_read : (fuel : ℕ) → (one : List ℕ → Read) → List ℕ → Read
rounds_read zero f bs = bad
rounds_read (suc n) f [] = bad
rounds_read (suc n) f (b ∷ bs) =
    let x = f bs in
    let more = rounds_read n f x.rest in
    let round = cond x.good (with_hollow (eqb (length x.letters) 0) (joined x more)) bad in cond (eqb b 1) (read [] bs false) round

unfoldable pub read_node : (fuel : ℕ) → List Node → (l : ℕ) → (bits : List ℕ) → Read
read_node zero t l bs = bad
read_node (suc n) t l bs =
    let x = node t l in
    let first = read_node n t x.a bs in
    let pair = cond first.good (joined first (read_node n t x.b first.rest)) bad in
    let side = side_read (λ cs. read_node n t x.a cs) (λ cs. read_node n t x.b cs) bs in
    let rounds = rounds_read (suc (length bs)) (λ cs. read_node n t x.a cs) bs in
    cond (eqb x.kind 0) (read [] bs false)
    (cond (eqb x.kind 1) (read (x.a ∷ []) bs false)
    (cond (eqb x.kind 2) (range_read x.a x.b bs)
    (cond (eqb x.kind 3) pair (cond (eqb x.kind 4) side (cond (eqb x.kind 5) rounds bad)))))

unfoldable pub read_code : List Node → (bits : List ℕ) → Read
read_code t bs = read_node 64 t (root t) bs

-- ── specs/Promise.antt ──
unfoldable pub letters_good : List ℕ → Bool
letters_good [] = true
letters_good (c ∷ cs) = (leb 33 c && leb c 126) && letters_good cs

unfoldable pub tape_good : List ℕ → Bool
tape_good cs = leb (length cs) 3600 && letters_good cs

-- bit bounds: a nodes of either and rounds, n letters
unfoldable pub choices : List Node → ℕ
choices [] = 0
choices (x ∷ xs) = cond (eqb x.kind 4 || eqb x.kind 5) 1 0 + choices xs
