-- C1 to C11 of document 01, its whole listing, and rows for kind `Z` and the letters of the hot side of document 02, as one table; and one theorem
-- that proves the definitions on every row.
use Rattle.std.specs.Prelude.{◌≡◌, refl, Bool, cond, false, true, ◌⊎◌, ℕ}
use Rattle.std.proofs.Common.{ap, subst, inl, inr}
use Rattle.std.proofs.Math.Option.{Option, none, some}
use mathlib.Core.List.{◌∷◌, List, [], head-eq_of_cons-eq, map, tail-eq_of_cons-eq}
use Rattle.syntax.specs.Letter.{is_letter, in_range}
use Rattle.syntax.specs.LetterLaws.{across_gap}
use Rattle.syntax.specs.Tree.{Label, Tree, nothing, letter, range, seq, alt, star}
use Rattle.bits.specs.Bits.{bits_of}
use Rattle.semantics.specs.Value.{Value, flat}
use Rattle.semantics.specs.Code.{IsCode, Spells, Canonical}
use Rattle.semantics.specs.Visits.{Visit, visit}
use Rattle.semantics.specs.Accounts.{accounts, litres, total, totals_to}
use Rattle.semantics.specs.Decode.{value_of, is_code, spelled}
use Rattle.semantics.specs.Sweeps.{readable, greedy}
use Rattle.semantics.proofs.Basics.{not-both}
use Rattle.semantics.proofs.CodeLaws.{is_code_iff, spells_iff}
use Rattle.semantics.proofs.GreedyLaws.{greedy_canonical, readable_iff, code-readable}
use Rattle.semantics.specs.Every.{All}

-- what is asked: to read a tape, or to settle (canonicalize) a code
pub data Asked : Type 0 where
  tape : List ℕ → Asked
  settle : List Bool → Asked

-- what an answer means, in 001's and 01's words: the code of the greedy value (02: the preferred reading), or that no value spells the tape
abbrev pub Says : (t : Tree) → Asked → Option (List Bool) → Type 0
Says t (tape w) (some bs) = Canonical t w bs
Says t (tape w) none = (v : Value t) → flat t v ≡ w → ⊥
Says t (settle cs) (some bs) = (w : List ℕ) × Spells t cs w × Canonical t w bs
Says t (settle cs) none = IsCode t cs → ⊥

-- the answer computed
unfoldable pub answer : Tree → Asked → Option (List Bool)
answer t (tape w) = cond (readable t w) (some (greedy t w)) none
answer t (settle bs) = cond (is_code t bs) (some (greedy t (spelled t bs))) none

-- it is right for every tree, tape and code
pub answer-right : (t : Tree) (q : Asked) → Says t q (answer t q)
unfolding answer
answer-right t (tape w) = go (readable t w) refl
  where
    go : (b : Bool) → readable t w ≡ b → Says t (tape w) (cond b (some (greedy t w)) none)
    go true e = greedy_canonical t w e
    go false e = λ v p. not-both ((readable_iff t w).1 (v, p)) e
answer-right t (settle bs) = go (is_code t bs) refl
  where
    go : (b : Bool) → is_code t bs ≡ b → Says t (settle bs) (cond b (some (greedy t (spelled t bs))) none)
    go true e =
        (spelled t bs, (spells_iff t bs (spelled t bs)).0 (e, refl), greedy_canonical t (spelled t bs) (code-readable t bs ((is_code_iff t bs).0 e)))
    go false e = λ c. not-both ((is_code_iff t bs).1 c) e

-- ── 01, "Tapes to try" ──
abbrev plain : Label
plain = record { index = 0; account = 0 }

-- the letters a and b, the star of kind `K` (`rounds`) and that of kind `Z` (`lazy`)
abbrev a : Tree
a = letter plain 97

abbrev b : Tree
b = letter plain 98

abbrev e : Tree
e = nothing plain

abbrev rounds : Tree → Tree
rounds t = star plain false t

abbrev lazy : Tree → Tree
lazy t = star plain true t

abbrev either : Tree → Tree → Tree
either t u = alt plain t u

abbrev pair : Tree → Tree → Tree
pair t u = seq plain t u

-- 01: "P1: (a|e)*. P2: (e|a)*. P3: (a*b*)*. P4: (a|ab)(b|e). P5: a*a."
abbrev pub P1 : Tree
P1 = rounds (either a e)

abbrev pub P2 : Tree
P2 = rounds (either e a)

abbrev pub P3 : Tree
P3 = rounds (pair (rounds a) (rounds b))

abbrev pub P4 : Tree
P4 = pair (either a (pair a b)) (either b e)

abbrev pub P5 : Tree
P5 = pair (rounds a) a

abbrev mark : (index account : ℕ) → Label
mark i a = record { index = i; account = a }

-- 01, "A whole listing": the tree of its six lines
abbrev pub Listing : Tree
Listing = star (mark 5 0) false (alt (mark 4 0) (seq (mark 2 9) (letter (mark 1 0) 87) (range (mark 0 0) 48 57)) (range (mark 3 1) 48 57))

-- 02, Job 3: "A range may run across the gap." This one has the last letter below the gap and the first above it
abbrev across : Tree
across = range plain 126 161

abbrev O : Bool
O = false

abbrev I : Bool
I = true

-- 4cc328 without its three bits of padding
abbrev listing_code : List Bool
listing_code = O ∷ I ∷ O ∷ O ∷ I ∷ I ∷ O ∷ O ∷ I ∷ I ∷ O ∷ O ∷ O ∷ O ∷ I ∷ I ∷ O ∷ O ∷ I ∷ O ∷ I ∷ []

pub table : List (Tree × Asked × Option (List Bool))
table =
    -- C1 to C3
    (P1, tape [], some (I ∷ []))
    ∷ (P1, tape (97 ∷ []), some (O ∷ O ∷ I ∷ []))
    ∷ (P2, tape (97 ∷ []), some (O ∷ I ∷ I ∷ []))
    -- C4, C5
    ∷ (P3, tape (97 ∷ 98 ∷ []), some (O ∷ O ∷ I ∷ O ∷ I ∷ I ∷ []))
    ∷ (P3, tape (98 ∷ 97 ∷ []), some (O ∷ I ∷ O ∷ I ∷ O ∷ O ∷ I ∷ I ∷ I ∷ []))
    -- C6, both halves, and C7
    ∷ (P4, tape (97 ∷ 98 ∷ []), some (O ∷ O ∷ []))
    ∷ (P4, settle (I ∷ I ∷ []), some (O ∷ O ∷ []))
    ∷ (P4, tape (97 ∷ 98 ∷ 98 ∷ []), some (I ∷ O ∷ []))
    -- C8, C9 (5: no reading spells the tape)
    ∷ (P5, tape (97 ∷ 97 ∷ []), some (O ∷ I ∷ []))
    ∷ (P5, tape [], none)
    -- C10, C11
    ∷ (P1, settle (O ∷ I ∷ I ∷ []), some (I ∷ []))
    ∷ (P1, settle (O ∷ I ∷ O ∷ O ∷ I ∷ []), some (O ∷ O ∷ I ∷ []))
    -- the listing: `3W2`, 21 bits, 4cc328
    ∷ (Listing, tape (51 ∷ 87 ∷ 50 ∷ []), some listing_code)
    -- 02: `Z` "writes 0 to stop and 1 before a round". Nothing to read: it stops
    ∷ (lazy a, tape [], some (O ∷ []))
    -- 02: a round "only where they must". Here the letters are left to what follows, a `K`
    ∷ (pair (lazy a) (rounds a), tape (97 ∷ 97 ∷ []), some (O ∷ O ∷ O ∷ I ∷ []))
    -- 02: where both must go on the first round decides, and not how few there are: a and a, for a is the left side
    ∷ (lazy (either a (pair a a)), tape (97 ∷ 97 ∷ []), some (I ∷ O ∷ I ∷ O ∷ O ∷ []))
    -- 02: `Z` in `Z`. The inner one stops after a letter, so that the outer one must go on
    ∷ (lazy (lazy a), tape (97 ∷ 97 ∷ []), some (I ∷ I ∷ O ∷ I ∷ I ∷ O ∷ O ∷ []))
    -- 02: "a pattern may mix both kinds". In a round of `K` the `Z` must take a letter, and stops after it
    ∷ (rounds (lazy a), tape (97 ∷ []), some (O ∷ I ∷ O ∷ I ∷ []))
    ∷ (rounds (lazy a), tape (97 ∷ 97 ∷ []), some (O ∷ I ∷ O ∷ O ∷ I ∷ O ∷ I ∷ []))
    -- 02: `Z` follows the rules for `K` on "empty rounds". P1 with `Z`: C1, C2 and C10
    ∷ (lazy (either a e), tape [], some (O ∷ []))
    ∷ (lazy (either a e), tape (97 ∷ []), some (I ∷ O ∷ O ∷ []))
    ∷ (lazy (either a e), settle (I ∷ I ∷ O ∷ []), some (O ∷ []))
    -- 02: no empty round where one kind stands in a round of the other
    ∷ (rounds (lazy (either a e)), tape [], some (I ∷ []))
    ∷ (rounds (lazy (either a e)), tape (97 ∷ []), some (O ∷ I ∷ O ∷ O ∷ I ∷ []))
    ∷ (lazy (rounds (either a e)), tape [], some (O ∷ []))
    ∷ (lazy (rounds (either a e)), tape (97 ∷ []), some (I ∷ O ∷ O ∷ I ∷ O ∷ []))
    -- 02: `Z` follows the rules for `K` on "flags". P3 with both kinds, as C5: the round's flag goes from the `Z` that stops to the `K` behind it
    ∷ (lazy (pair (lazy a) (rounds b)), tape (98 ∷ 97 ∷ []), some (I ∷ O ∷ O ∷ I ∷ I ∷ I ∷ O ∷ I ∷ O ∷ []))
    -- 02, Job 3: letters of both sides, each in its 8 bits
    ∷ (across, tape (126 ∷ []), some (O ∷ I ∷ I ∷ I ∷ I ∷ I ∷ I ∷ O ∷ []))
    ∷ (across, tape (161 ∷ []), some (I ∷ O ∷ I ∷ O ∷ O ∷ O ∷ O ∷ I ∷ []))
    -- 02, Job 3: "bytes 127 to 160 are still no letters, so a code naming one is no code": 127, then 160
    ∷ (across, tape (127 ∷ []), none)
    ∷ (across, settle (O ∷ I ∷ I ∷ I ∷ I ∷ I ∷ I ∷ I ∷ []), none)
    ∷ (across, settle (I ∷ O ∷ I ∷ O ∷ O ∷ O ∷ O ∷ O ∷ []), none)
    ∷ (across, settle (I ∷ O ∷ I ∷ O ∷ O ∷ O ∷ O ∷ I ∷ []), some (I ∷ O ∷ I ∷ O ∷ O ∷ O ∷ O ∷ I ∷ []))
    ∷ []

-- ── the theorem ──
rows_say : (rows : List (Tree × Asked × Option (List Bool))) → map (λ r. answer r.0 r.1) rows ≡ map (λ r. r.2) rows
    → All (λ r. Says r.0 r.1 r.2) rows
rows_say [] h = tt
rows_say (r ∷ rows) h = (subst (Says r.0 r.1) (head-eq_of_cons-eq h) (answer-right r.0 r.1), rows_say rows (tail-eq_of_cons-eq h))

rows_compute : map (λ r. answer r.0 r.1) table ≡ map (λ r. r.2) table
unfolding table answer readable greedy is_code spelled value_of bits_of in_range is_letter
rows_compute = refl

-- every row holds: a row's code is that of the greedy value of its tape, or no value spells it
pub rows_hold : All (λ r. Says r.0 r.1 r.2) table
rows_hold = rows_say table rows_compute

-- the values of the range across the gap are those two letters, and no other
pub across_values : (v : Value across) → (flat across v ≡ 126 ∷ []) ⊎ (flat across v ≡ 161 ∷ [])
across_values v = go (across_gap v.0 v.1)
  where
    go : (v.0 ≡ 126) ⊎ (v.0 ≡ 161) → (flat across v ≡ 126 ∷ []) ⊎ (flat across v ≡ 161 ∷ [])
    go (inl h) = inl (ap (λ c. c ∷ []) h)
    go (inr h) = inr (ap (λ c. c ∷ []) h)

-- ── the listing's accounts: 3 litres to account 1, 2 to account 9; and visit 1 of node 4, which covers `W2` ──
abbrev totals_of : Option (Value Listing) → List ℕ
totals_of none = []
totals_of (some v) = totals_to 10 (accounts Listing v)

pub listing-totals : totals_of (value_of Listing listing_code) ≡ 0 ∷ 3 ∷ 0 ∷ 0 ∷ 0 ∷ 0 ∷ 0 ∷ 0 ∷ 0 ∷ 2 ∷ []
unfolding value_of totals_to accounts total litres in_range is_letter
listing-totals = refl

abbrev span_of : Option Visit → List ℕ
span_of none = []
span_of (some x) = x.start ∷ x.size ∷ []

abbrev visit_in : Option (Value Listing) → (l k : ℕ) → List ℕ
visit_in none l k = []
visit_in (some v) l k = span_of (visit Listing v l k)

-- there is no third visit
pub listing-visits : map (visit_in (value_of Listing listing_code) 4) (0 ∷ 1 ∷ 2 ∷ []) ≡ (0 ∷ 1 ∷ []) ∷ (1 ∷ 2 ∷ []) ∷ [] ∷ []
unfolding value_of visit in_range is_letter
listing-visits = refl
