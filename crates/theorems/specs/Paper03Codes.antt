-- Document 03's specs/Codes.antt, word for word but for kind `Z` of 02, Job 2, and the letters of 02, Job 3: what a code spells, empty rounds,
-- the order of codes, and the greedy reading of a tape by its code. Its bytes are in crate bits (Paper03). Above each line that is not 03's a
-- comment names the job; Paper03Plain has 03's own of these. Definitions only.
use Rattle.std.specs.Prelude.{◌≡◌, Bool, true, false, ◌&&◌, ◌||◌, cond, List, [], ◌∷◌, ◌++◌, ℕ, zero, suc, ◌+◌, ◌*◌, ltb, leb, eqb, length, take, drop}
use Rattle.bits.specs.Paper03.{is_bits}
use Rattle.theorems.specs.Paper03Pattern.{Node, letter_byte, node, root}

-- reading bits from a node: letters, what is left, whether a round spelled nothing
pub record Read : Type 0 where
  pub good : Bool
  pub letters : List ℕ
  pub rest : List ℕ
  pub hollow : Bool

unfoldable pub read : (letters rest : List ℕ) → (hollow : Bool) → Read
read ls rs h = record { good = true; letters = ls; rest = rs; hollow = h }

abbrev pub bad : Read
bad = record { good = false; letters = []; rest = []; hollow = false }

unfoldable pub joined : Read → Read → Read
joined x y =
    record { good = x.good && y.good; letters = x.letters ++ y.letters; rest = y.rest; hollow = x.hollow || y.hollow }

unfoldable pub with_hollow : Bool → Read → Read
with_hollow h x = record { good = x.good; letters = x.letters; rest = x.rest; hollow = h || x.hollow }

unfoldable pub value_from : ℕ → List ℕ → ℕ
value_from v [] = v
value_from v (b ∷ bs) = value_from (2 * v + b) bs

unfoldable pub range_read : (low high : ℕ) → List ℕ → Read
range_read a b bs =
    -- 02, Job 3: "A range may run across the gap; bytes 127 to 160 are still no letters, so a code naming one is no code"
    let v = value_from 0 (take 8 bs) in cond (leb 8 (length bs) && (letter_byte v && (leb a v && leb v b))) (read (v ∷ []) (drop 8 bs) false) bad

-- 0 and a round, again and again, then 1
-- 02, Job 2: `Z` "writes 0 to stop and 1 before a round", so the bit that stops is handed over; where it is 1 this is 03's
unfoldable pub rounds_read : (stop fuel : ℕ) → (one : List ℕ → Read) → List ℕ → Read
rounds_read stop zero f bs = bad
rounds_read stop (suc n) f [] = bad
rounds_read stop (suc n) f (b ∷ bs) =
    let x = f bs in
    let more = rounds_read stop n f x.rest in
    let round = cond x.good (with_hollow (eqb (length x.letters) 0) (joined x more)) bad in cond (eqb b stop) (read [] bs false) round

unfoldable pub side_read : (left right : List ℕ → Read) → List ℕ → Read
side_read f g [] = bad
side_read f g (b ∷ bs) = cond (eqb b 0) (f bs) (g bs)

unfoldable pub read_node : (fuel : ℕ) → List Node → (l : ℕ) → (bits : List ℕ) → Read
read_node zero t l bs = bad
read_node (suc n) t l bs =
    let x = node t l in
    let first = read_node n t x.a bs in
    let pair = cond first.good (joined first (read_node n t x.b first.rest)) bad in
    let side = side_read (λ cs. read_node n t x.a cs) (λ cs. read_node n t x.b cs) bs in
    -- 02, Job 2: 1 stops kind 5, as in 03, and 0 stops kind 6
    let rounds = rounds_read 1 (suc (length bs)) (λ cs. read_node n t x.a cs) bs in
    let lazy = rounds_read 0 (suc (length bs)) (λ cs. read_node n t x.a cs) bs in
    cond (eqb x.kind 0) (read [] bs false)
    (cond (eqb x.kind 1) (read (x.a ∷ []) bs false)
    (cond (eqb x.kind 2) (range_read x.a x.b bs)
    -- 02, Job 2: kind 6
    (cond (eqb x.kind 3) pair (cond (eqb x.kind 4) side (cond (eqb x.kind 5) rounds (cond (eqb x.kind 6) lazy bad))))))

unfoldable pub read_code : List Node → (bits : List ℕ) → Read
read_code t bs = read_node 64 t (root t) bs

-- a whole code of the pattern, in bits
unfoldable pub is_code : List Node → (bits : List ℕ) → Bool
is_code t bs = is_bits bs && (((read_code t bs).good && eqb (length (read_code t bs).rest) 0) && leb (length bs) 524288)

unfoldable pub spelled : List Node → (bits : List ℕ) → List ℕ
spelled t bs = (read_code t bs).letters

unfoldable pub hollow : List Node → (bits : List ℕ) → Bool
hollow t bs = (read_code t bs).hollow

-- the one with 0 at the first bit where they differ comes before
unfoldable pub before : (a b : List ℕ) → Bool
before [] ys = false
before (x ∷ xs) [] = false
before (x ∷ xs) (y ∷ ys) = cond (eqb x y) (before xs ys) (ltb x y)

-- THE GREEDY READING of a tape, by its code: no empty round, and before every other such code of the tape
pub record Greedy (t : List Node) (tape bits : List ℕ) : Type 0 where
  pub code : is_code t bits ≡ true
  pub spells : spelled t bits ≡ tape
  pub solid : hollow t bits ≡ false
  pub first :
      (cs : List ℕ) → is_code t cs ≡ true → spelled t cs ≡ tape → hollow t cs ≡ false → (cs ≡ bits → ⊥) → before bits cs ≡ true
