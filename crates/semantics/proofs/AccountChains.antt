-- Chains of accounts that are computed, each from the root to the leaf: what 02's Job 5 says of account 9, and what it leaves as it was.
-- The values are written out, so that nothing here depends on how a tape is read.
use Rattle.std.specs.Prelude.{◌≡◌, refl, Bool, false, true, ◌∷◌, List, [], map, ℕ}
use Rattle.std.proofs.Common.{inl, inr}
use Rattle.syntax.specs.Letter.{is_letter, in_range}
use Rattle.syntax.specs.Tree.{Label, Tree, nothing, letter, range, seq, alt, star}
use Rattle.semantics.specs.Value.{Value}
use Rattle.semantics.specs.Accounts.{join_rounds, accounts, litres, total, totals_to}

-- a node of account a, 0 for none; no place matters here
abbrev of : (account : ℕ) → Label
of a = record { index = 0; account = a }

-- a pattern and a reading by it
abbrev Parsed : Type 0
Parsed = (t : Tree) × Value t

abbrev empty : (account : ℕ) → Parsed
empty a = (nothing (of a), tt)

pub is_5 : in_range 48 57 53 ≡ true
unfolding in_range is_letter
is_5 = refl

-- the digit 5
abbrev digit : (account : ℕ) → Parsed
digit a = (range (of a) 48 57, (53, is_5))

abbrev both : (account : ℕ) → (first second : Parsed) → Parsed
both a p q = (seq (of a) p.0 q.0, (p.1, q.1))

abbrev left : (account : ℕ) → Parsed → (other : Tree) → Parsed
left a p u = (alt (of a) p.0 u, inl p.1)

abbrev right : (account : ℕ) → (other : Tree) → Parsed → Parsed
right a t p = (alt (of a) t p.0, inr p.1)

-- one round of either kind of repetition
abbrev round : (again : Bool) → (account : ℕ) → Parsed → Parsed
round again a p = (star (of a) again p.0, p.1 ∷ [])

-- the accounts that the letters go to
abbrev charged : Parsed → List ℕ
charged p = map (λ e. e.1) (accounts p.0 p.1)

-- where no account is 9: 3-4, 3-none, none-4, 8-3, no account at all, a leaf of account 3 by itself
pub other-chains :
    join_rounds charged
    (round false 3 (digit 4) ∷ round false 3 (digit 0) ∷ round false 0 (digit 4) ∷ round false 8 (digit 3) ∷ round false 0 (digit 0) ∷ digit 3 ∷ [])
    ≡ 4 ∷ 3 ∷ 4 ∷ 3 ∷ 0 ∷ 3 ∷ []
unfolding accounts
other-chains = refl

-- 02, Job 5: "Litres at or under a node of account 9 are stale and go to account 9, however deep they stand, even if an inner node has another account."
pub stale-chains :
    join_rounds charged
    -- 9-3, 3-9 and 3-9-4, in sequences, both kinds of repetition and alternatives
    (both 9 (empty 0) (digit 3) ∷ round false 9 (digit 3) ∷ round true 9 (digit 3) ∷ left 9 (digit 3) (nothing (of 0))
    ∷ both 3 (digit 9) (empty 0) ∷ round false 3 (digit 9) ∷ round true 3 (digit 9) ∷ right 3 (nothing (of 0)) (digit 9)
    ∷ round false 3 (both 9 (digit 4) (empty 0)) ∷ both 3 (empty 0) (round true 9 (digit 4))
    -- 9 at the root, with accounts and without any below it; 9 at the leaf
    ∷ round false 9 (left 0 (both 3 (digit 4) (empty 5)) (nothing (of 0))) ∷ round true 9 (both 0 (empty 0) (digit 0)) ∷ digit 9
    ∷ round false 0 (digit 9) ∷ [])
    ≡ 9 ∷ 9 ∷ 9 ∷ 9 ∷ 9 ∷ 9 ∷ 9 ∷ 9 ∷ 9 ∷ 9 ∷ 9 ∷ 9 ∷ 9 ∷ 9 ∷ []
unfolding accounts
stale-chains = refl

-- 02, Job 7: "Account 9 keeps Job 5's meaning", and no account that is new has it: 90, 99, 109, 19, 20 and 200 above another account hand down
-- that one, below it they hide it, and under account 9 they are stale
abbrev far : Parsed
far = round false 99 (both 200 (digit 0) (digit 100))

abbrev new_ones : List ℕ
new_ones = 90 ∷ 99 ∷ 109 ∷ 19 ∷ 20 ∷ 200 ∷ []

pub nine-alone :
    join_rounds (λ a. charged (round false a (digit 3))) new_ones ∷ join_rounds (λ a. charged (both 3 (empty 0) (digit a))) new_ones
    ∷ join_rounds (λ a. charged (round true 9 (digit a))) new_ones ∷ charged far ∷ []
    ≡ (3 ∷ 3 ∷ 3 ∷ 3 ∷ 3 ∷ 3 ∷ []) ∷ (90 ∷ 99 ∷ 109 ∷ 19 ∷ 20 ∷ 200 ∷ []) ∷ (9 ∷ 9 ∷ 9 ∷ 9 ∷ 9 ∷ 9 ∷ []) ∷ (200 ∷ 100 ∷ []) ∷ []
unfolding accounts
nine-alone = refl

-- 9 beside a part does nothing: an `E` of account 9 before or behind it, or a repetition of account 9 without rounds
pub stale-beside :
    join_rounds charged
    (both 3 (empty 9) (digit 0) ∷ both 0 (empty 9) (digit 4) ∷ both 3 (digit 0) (empty 9) ∷ both 3 (star (of 9) false (letter (of 9) 87), []) (digit 4) ∷ [])
    ≡ 3 ∷ 4 ∷ 3 ∷ 4 ∷ []
unfolding accounts
stale-beside = refl

-- readings of account 3: `W` and a digit of account 4, both under account 9, or a digit without an account
abbrev stretch : Parsed
stretch = both 9 (letter (of 0) 87, tt) (digit 4)

abbrev reading : Tree
reading = alt (of 3) stretch.0 (digit 0).0

-- the other side of an alternative does nothing
pub stale_side : charged (left 3 stretch (digit 0).0) ∷ charged (right 3 stretch.0 (digit 0)) ∷ [] ≡ (9 ∷ 9 ∷ []) ∷ (3 ∷ []) ∷ []
unfolding accounts
stale_side = refl

-- `5W55`, a round for each reading
abbrev rounds : (again : Bool) → Parsed
rounds again = (star (of 0) again reading, inr (digit 0).1 ∷ inl stretch.1 ∷ inr (digit 0).1 ∷ [])

-- nor do the rounds before, of either kind
pub stale-rounds : map (λ again. charged (rounds again)) (false ∷ true ∷ []) ≡ (3 ∷ 9 ∷ 9 ∷ 3 ∷ []) ∷ (3 ∷ 9 ∷ 9 ∷ 3 ∷ []) ∷ []
unfolding accounts
stale-rounds = refl

-- its totals: 10 litres for account 3, 5 for account 9, none for account 4
pub stale-totals : totals_to 10 (accounts (rounds false).0 (rounds false).1) ≡ 0 ∷ 0 ∷ 0 ∷ 10 ∷ 0 ∷ 0 ∷ 0 ∷ 0 ∷ 0 ∷ 5 ∷ []
unfolding accounts totals_to total litres
stale-totals = refl

-- a digit 5 each for accounts 200 and 100, and nothing for accounts whose numbers are near or begin like these
pub far-totals : map (λ a. total a (accounts far.0 far.1)) (0 ∷ 1 ∷ 2 ∷ 9 ∷ 10 ∷ 20 ∷ 99 ∷ 100 ∷ 199 ∷ 200 ∷ [])
    ≡ 0 ∷ 0 ∷ 0 ∷ 0 ∷ 0 ∷ 0 ∷ 0 ∷ 5 ∷ 0 ∷ 5 ∷ []
unfolding accounts total litres
far-totals = refl
