-- LAWS of accounts: the letters with accounts are the tape's, what is stale goes to account 9, and the totals add up to the tape's digits.
use Rattle.std.proofs.Common.{◌∙◌, ap, ap₂, subst, sym, inl, inr, arith}
use Rattle.std.specs.Prelude.{◌≡◌, refl, ◌&&◌, Bool, cond, false, true, ◌++◌, ◌∷◌, List, [], map, ◌*◌, ◌+◌, ◌-◌, ◌<◌, ◌≤◌, suc, zero, ℕ, eqb, leb, length, get_or, replicate}
use Rattle.std.proofs.lemmas.List.{map-append}
use Rattle.syntax.specs.Table.{account_limit, one_digit_limit, stale}
use Rattle.syntax.specs.Tree.{Label, Tree, nothing, letter, range, seq, alt, star}
use Rattle.semantics.specs.Owned.{letters, Accounts, sum_below}
use Rattle.semantics.specs.Value.{Value, flat_rounds, flat}
use Rattle.semantics.specs.Visits.{label}
use Rattle.semantics.specs.Accounts.{handed_down, owner, join_rounds, entries, accounts, litres, total, count_from, totals_to, totals, digits}
use Rattle.semantics.specs.Innermost.{innermost, entries_with}
use Rattle.semantics.proofs.Basics.{and_snd, eqb_eq, eqb_no, leb_le}
use Rattle.semantics.specs.Every.{All}
use Rattle.semantics.proofs.VisitLaws.{all_append}

-- ── what a node hands down ──
-- handed 9 it hands down 9, whatever its own account is
pub handed-stale : (own : ℕ) → handed_down own stale ≡ stale
handed-stale own = refl

-- handed any other account it goes by 01's rule alone, as before 02's Job 5
pub handed_other : (own above : ℕ) → (above ≡ stale → ⊥) → handed_down own above ≡ innermost own above
handed_other own above h = go (eqb above stale) refl
  where
    go : (b : Bool) → eqb above stale ≡ b → cond b stale (innermost own above) ≡ innermost own above
    go true e = absurd (h (eqb_eq above stale e))
    go false e = refl

-- of account 9 it hands down 9, whatever it is handed
pub own-stale : (own above : ℕ) → own ≡ stale → handed_down own above ≡ stale
own-stale own above e = ap (λ a. handed_down a above) e ∙ go (eqb above stale)
  where
    go : (b : Bool) → cond b stale stale ≡ stale
    go true = refl
    go false = refl

-- without an account of its own it hands down what it is handed
pub handed_none : (above : ℕ) → handed_down 0 above ≡ above
handed_none above = go (eqb above stale) refl
  where
    go : (b : Bool) → eqb above stale ≡ b → cond b stale above ≡ above
    go true e = sym (eqb_eq above stale e)
    go false e = refl

join_letters : {A : Type 0} (f : A → List ℕ) (g : A → List (ℕ × ℕ)) → ((v : A) → letters (g v) ≡ f v) → (vs : List A)
    → letters (join_rounds g vs) ≡ flat_rounds f vs
join_letters f g one [] = refl
join_letters f g one (v ∷ vs) = map-append (λ e. e.0) (g v) (join_rounds g vs) ∙ ap₂ (λ a b. a ++ b) (one v) (join_letters f g one vs)

-- each letter of the tape goes to one account, in the tape's order
pub entries-flat : (t : Tree) (o : ℕ) (v : Value t) → letters (entries t o v) ≡ flat t v
entries-flat (nothing m) o v = refl
entries-flat (letter m c) o v = refl
entries-flat (range m low high) o v = refl
entries-flat (seq m t u) o v =
    map-append (λ e. e.0) (entries t (owner m o) v.0) (entries u (owner m o) v.1)
    ∙ ap₂ (λ a b. a ++ b) (entries-flat t (owner m o) v.0) (entries-flat u (owner m o) v.1)
entries-flat (alt m t u) o (inl v) = entries-flat t (owner m o) v
entries-flat (alt m t u) o (inr v) = entries-flat u (owner m o) v
entries-flat (star m again t) o vs = join_letters (flat t) (entries t (owner m o)) (entries-flat t (owner m o)) vs

-- a node with an account of its own hides those above it, where they are not 9
pub owner-own : (m : Label) (o p : ℕ) → (o ≡ stale → ⊥) → (p ≡ stale → ⊥) → (m.account ≡ 0 → ⊥) → owner m o ≡ owner m p
owner-own m o p i j h = handed_other m.account o i ∙ go (eqb m.account 0) refl ∙ sym (handed_other m.account p j)
  where
    go : (b : Bool) → eqb m.account 0 ≡ b → cond b o m.account ≡ cond b p m.account
    go true e = absurd (h (eqb_eq m.account 0 e))
    go false e = refl

-- what stands above a node changes its entries only by what the node hands down
entries-owner : (t : Tree) (o p : ℕ) (v : Value t) → owner (label t) o ≡ owner (label t) p → entries t o v ≡ entries t p v
entries-owner (nothing m) o p v e = refl
entries-owner (letter m c) o p v e = ap (λ a. (c, a) ∷ []) e
entries-owner (range m low high) o p v e = ap (λ a. (v.0, a) ∷ []) e
entries-owner (seq m t u) o p v e = ap (λ a. entries t a v.0 ++ entries u a v.1) e
entries-owner (alt m t u) o p (inl v) e = ap (λ a. entries t a v) e
entries-owner (alt m t u) o p (inr v) e = ap (λ a. entries u a v) e
entries-owner (star m again t) o p vs e = ap (λ a. join_rounds (entries t a) vs) e

-- "the innermost node, the leaf included, that has one": under a node that has one, what stands above it changes nothing, as long as it is not 9
pub entries-own : (t : Tree) (o p : ℕ) (v : Value t) → (o ≡ stale → ⊥) → (p ≡ stale → ⊥) → ((label t).account ≡ 0 → ⊥) → entries t o v ≡ entries t p v
entries-own t o p v i j h = entries-owner t o p v (owner-own (label t) o p i j h)

-- ── every account is below n where the tree's are ──

owner_lt : (n : ℕ) (m : Label) (o : ℕ) → m.account < n → o < n → owner m o < n
owner_lt n m o h k = go (eqb o stale) refl (eqb m.account 0)
  where
    go : (b : Bool) → eqb o stale ≡ b → (d : Bool) → cond b stale (cond d o m.account) < n
    go true e d = omega (arith, eqb_eq o stale e)
    go false e true = k
    go false e false = h

join_all : {A B : Type 0} (P : B → Type 0) (g : A → List B) → ((v : A) → All P (g v)) → (vs : List A) → All P (join_rounds g vs)
join_all P g one [] = tt
join_all P g one (v ∷ vs) = all_append P (g v) (join_rounds g vs) (one v) (join_all P g one vs)

pub entries_below : (n : ℕ) (t : Tree) (o : ℕ) (v : Value t) → Accounts n t → o < n → All (λ e. e.1 < n) (entries t o v)
entries_below n (nothing m) o v h k = tt
entries_below n (letter m c) o v h k = (owner_lt n m o h k, tt)
entries_below n (range m low high) o v h k = (owner_lt n m o h k, tt)
entries_below n (seq m t u) o v h k =
    let q = owner_lt n m o h.0 k in
    all_append (λ e. e.1 < n) (entries t (owner m o) v.0) (entries u (owner m o) v.1) (entries_below n t (owner m o) v.0 h.1 q)
    (entries_below n u (owner m o) v.1 h.2 q)
entries_below n (alt m t u) o (inl v) h k = entries_below n t (owner m o) v h.1 (owner_lt n m o h.0 k)
entries_below n (alt m t u) o (inr v) h k = entries_below n u (owner m o) v h.2 (owner_lt n m o h.0 k)
entries_below n (star m again t) o vs h k = join_all (λ e. e.1 < n) (entries t (owner m o))
    (λ v. entries_below n t (owner m o) v h.1 (owner_lt n m o h.0 k)) vs

-- ── 02, Job 5: stale litres "go to account 9, however deep they stand, even if an inner node has another account" ──
-- what is handed 9 is stale, all of it, whatever accounts stand in it
pub stale-below : (t : Tree) (v : Value t) → All (λ e. e.1 ≡ stale) (entries t stale v)
stale-below (nothing m) v = tt
stale-below (letter m c) v = (refl, tt)
stale-below (range m low high) v = (refl, tt)
stale-below (seq m t u) v =
    all_append (λ e. e.1 ≡ stale) (entries t stale v.0) (entries u stale v.1) (stale-below t v.0) (stale-below u v.1)
stale-below (alt m t u) (inl v) = stale-below t v
stale-below (alt m t u) (inr v) = stale-below u v
stale-below (star m again t) vs = join_all (λ e. e.1 ≡ stale) (entries t stale) (stale-below t) vs

-- what is at or under a node of account 9 is stale, whatever is handed to that node, and so wherever in a pattern it stands
pub stale-node : (t : Tree) (o : ℕ) (v : Value t) → (label t).account ≡ stale → All (λ e. e.1 ≡ stale) (entries t o v)
stale-node t o v h =
    subst (All (λ e. e.1 ≡ stale)) (sym (entries-owner t o stale v (own-stale (label t).account o h))) (stale-below t v)

-- ── and nothing else moves: without account 9, 01's rule alone decides, as before ──
join_same : {A B : Type 0} (f g : A → List B) → ((v : A) → f v ≡ g v) → (vs : List A) → join_rounds f vs ≡ join_rounds g vs
join_same f g one [] = refl
join_same f g one (v ∷ vs) = ap₂ (λ x y. x ++ y) (one v) (join_same f g one vs)

-- `entries_with` goes through a tree as `entries` does: only the rule is another
pub with_handed_down : (t : Tree) (o : ℕ) (v : Value t) → entries t o v ≡ entries_with handed_down t o v
with_handed_down (nothing m) o v = refl
with_handed_down (letter m c) o v = refl
with_handed_down (range m low high) o v = refl
with_handed_down (seq m t u) o v = ap₂ (λ x y. x ++ y) (with_handed_down t (owner m o) v.0) (with_handed_down u (owner m o) v.1)
with_handed_down (alt m t u) o (inl v) = with_handed_down t (owner m o) v
with_handed_down (alt m t u) o (inr v) = with_handed_down u (owner m o) v
with_handed_down (star m again t) o vs =
    join_same (entries t (owner m o)) (entries_with handed_down t (owner m o)) (with_handed_down t (owner m o)) vs

-- no node of the tree has account a
abbrev pub Without : ℕ → Tree → Type 0
Without a (nothing m) = m.account ≡ a → ⊥
Without a (letter m c) = m.account ≡ a → ⊥
Without a (range m low high) = m.account ≡ a → ⊥
Without a (seq m t u) = (m.account ≡ a → ⊥) × Without a t × Without a u
Without a (alt m t u) = (m.account ≡ a → ⊥) × Without a t × Without a u
Without a (star m again t) = (m.account ≡ a → ⊥) × Without a t

innermost-not : (a own above : ℕ) → (own ≡ a → ⊥) → (above ≡ a → ⊥) → innermost own above ≡ a → ⊥
innermost-not a own above h k = go (eqb own 0)
  where
    go : (b : Bool) → cond b above own ≡ a → ⊥
    go true = k
    go false = h

-- in a pattern without account 9 each letter goes to the account that 01's rule alone gives it to
pub no_stale : (t : Tree) (o : ℕ) (v : Value t) → Without stale t → (o ≡ stale → ⊥) → entries t o v ≡ entries_with innermost t o v
no_stale (nothing m) o v h k = refl
no_stale (letter m c) o v h k = ap (λ a. (c, a) ∷ []) (handed_other m.account o k)
no_stale (range m low high) o v h k = ap (λ a. (v.0, a) ∷ []) (handed_other m.account o k)
no_stale (seq m t u) o v h k =
    let w = innermost m.account o in
    let n = innermost-not stale m.account o h.0 k in
    ap (λ a. entries t a v.0 ++ entries u a v.1) (handed_other m.account o k)
    ∙ ap₂ (λ x y. x ++ y) (no_stale t w v.0 h.1 n) (no_stale u w v.1 h.2 n)
no_stale (alt m t u) o (inl v) h k =
    ap (λ a. entries t a v) (handed_other m.account o k)
    ∙ no_stale t (innermost m.account o) v h.1 (innermost-not stale m.account o h.0 k)
no_stale (alt m t u) o (inr v) h k =
    ap (λ a. entries u a v) (handed_other m.account o k)
    ∙ no_stale u (innermost m.account o) v h.2 (innermost-not stale m.account o h.0 k)
no_stale (star m again t) o vs h k =
    let w = innermost m.account o in
    let n = innermost-not stale m.account o h.0 k in
    ap (λ a. join_rounds (entries t a) vs) (handed_other m.account o k)
    ∙ join_same (entries t w) (entries_with innermost t w) (λ v. no_stale t w v h.1 n) vs

-- ── totals ──

sum_add : (n : ℕ) (f g : ℕ → ℕ) → sum_below n (λ i. f i + g i) ≡ sum_below n f + sum_below n g
sum_add zero f g = refl
sum_add (suc n) f g = omega (arith, sum_add n f g)

sum-zero : (n : ℕ) → sum_below n (λ i. 0) ≡ 0
sum-zero zero = refl
sum-zero (suc n) = omega (arith, sum-zero n)

-- what only account a has: nothing among those below a, all of it above
pick_none : (n a c : ℕ) → n ≤ a → sum_below n (λ i. cond (eqb a i) c 0) ≡ 0
pick_none zero a c h = refl
pick_none (suc n) a c h = go (pick_none n a c (omega arith)) (eqb a n) refl
  where
    go : sum_below n (λ i. cond (eqb a i) c 0) ≡ 0 → (b : Bool) → eqb a n ≡ b → sum_below n (λ i. cond (eqb a i) c 0) + cond b c 0 ≡ 0
    go ih true e = absurd (omega (arith, eqb_eq a n e))
    go ih false e = omega arith

pick_one : (n a c : ℕ) → a < n → sum_below n (λ i. cond (eqb a i) c 0) ≡ c
pick_one zero a c h = absurd (omega arith)
pick_one (suc n) a c h = go (pick_one n a c) (eqb a n) refl
  where
    go : (a < n → sum_below n (λ i. cond (eqb a i) c 0) ≡ c) → (b : Bool) → eqb a n ≡ b → sum_below n (λ i. cond (eqb a i) c 0) + cond b c 0 ≡ c
    go ih true e = omega (arith, pick_none n a c (omega (arith, eqb_eq a n e)))
    go ih false e = omega (arith, ih (omega (arith, eqb_no a n e)))

-- over accounts below n the totals add up to the digits of the letters
pub totals_add : (n : ℕ) (es : List (ℕ × ℕ)) → All (λ e. e.1 < n) es → sum_below n (λ a. total a es) ≡ digits (letters es)
unfolding total digits
totals_add n [] h = sum-zero n
totals_add n (e ∷ es) h =
    sum_add n (λ a. cond (eqb e.1 a) (litres e.0) 0) (λ a. total a es)
    ∙ ap₂ (λ x y. x + y) (pick_one n e.1 (litres e.0) h.0) (totals_add n es h.1)

-- the total of each account stands at the account's own place
totals_from : (n i a : ℕ) (es : List (ℕ × ℕ)) → a < n → get_or (map (λ b. total b es) (count_from i n)) a 0 ≡ total (i + a) es
totals_from zero i a es h = absurd (omega arith)
totals_from (suc n) i zero es h = let e : i + 0 ≡ i = omega arith in ap (λ b. total b es) (sym e)
totals_from (suc n) i (suc a) es h =
    let e : suc i + a ≡ i + suc a = omega arith in
    totals_from n (suc i) a es (omega arith) ∙ ap (λ b. total b es) e

pub getD_totals : (n a : ℕ) (es : List (ℕ × ℕ)) → a < n → get_or (totals_to n es) a 0 ≡ total a es
unfolding totals_to
getD_totals n a es h = let e : 0 + a ≡ a = omega arith in totals_from n 0 a es h ∙ ap (λ b. total b es) e

pub totals-length : (n : ℕ) (es : List (ℕ × ℕ)) → length (totals_to n es) ≡ n
unfolding totals_to
totals-length n es = go n 0
  where
    go : (n i : ℕ) → length (map (λ b. total b es) (count_from i n)) ≡ n
    go zero i = refl
    go (suc n) i = ap suc (go n (suc i))

-- 02, Job 7: "There are 201 totals", the last of them of account 200
pub totals_many : (es : List (ℕ × ℕ)) → length (totals es) ≡ 201
unfolding totals
totals_many es = totals-length (account_limit + 1) es

-- an account that no entry has is without litres
pub total_none : (n a : ℕ) (es : List (ℕ × ℕ)) → All (λ e. e.1 < n) es → n ≤ a → total a es ≡ 0
unfolding total
total_none n a [] h k = refl
total_none n a (e ∷ es) h k = go (eqb e.1 a) refl (total_none n a es h.1 k)
  where
    go : (b : Bool) → eqb e.1 a ≡ b → total a es ≡ 0 → cond b (litres e.0) 0 + total a es ≡ 0
    go true q z = absurd (omega (arith, eqb_eq e.1 a q, h.0))
    go false q z = omega arith

-- 02, Job 7: an old pattern's totals are "the old ten followed by zeros"; so for any two counts
pub totals-longer : (n m : ℕ) (es : List (ℕ × ℕ)) → All (λ e. e.1 < n) es → totals_to (n + m) es ≡ totals_to n es ++ replicate m 0
unfolding totals_to
totals-longer n m es h = go n 0 (omega arith)
  where
    zeros : (k i : ℕ) → n ≤ i → map (λ b. total b es) (count_from i k) ≡ replicate k 0
    zeros zero i l = refl
    zeros (suc k) i l = ap₂ (λ x xs. x ∷ xs) (total_none n i es h l) (zeros k (suc i) (omega arith))

    go : (k i : ℕ) → i + k ≡ n → map (λ b. total b es) (count_from i (k + m)) ≡ map (λ b. total b es) (count_from i k) ++ replicate m 0
    go zero i e = let z : 0 + m ≡ m = omega arith in ap (λ j. map (λ b. total b es) (count_from i j)) z ∙ zeros m i (omega arith)
    go (suc k) i e =
        let z : suc k + m ≡ suc (k + m) = omega arith in
        ap (λ j. map (λ b. total b es) (count_from i j)) z ∙ ap (λ xs. total i es ∷ xs) (go k (suc i) (omega arith))

-- of entries of 01's accounts the totals are the old ten, and 0 for each account that is new
pub totals_old : (es : List (ℕ × ℕ)) → All (λ e. e.1 < one_digit_limit + 1) es
    → totals es ≡ totals_to (one_digit_limit + 1) es ++ replicate (account_limit - one_digit_limit) 0
unfolding totals
totals_old es h = totals-longer (one_digit_limit + 1) (account_limit - one_digit_limit) es h

-- 01: the totals "add up to the tape's digits"
pub totals-digits : (n : ℕ) (t : Tree) (v : Value t) → Accounts n t → 0 < n → sum_below n (λ a. total a (accounts t v)) ≡ digits (flat t v)
unfolding accounts
totals-digits n t v h k = totals_add n (entries t 0 v) (entries_below n t 0 v h k) ∙ ap digits (entries-flat t 0 v)

pub total-append : (a : ℕ) (es fs : List (ℕ × ℕ)) → total a (es ++ fs) ≡ total a es + total a fs
unfolding total
total-append a [] fs = omega arith
total-append a (e ∷ es) fs = omega (arith, total-append a es fs)

pub litres_small : (c : ℕ) → litres c ≤ 9
unfolding litres
litres_small c = go (leb 48 c && leb c 57) refl
  where
    go : (b : Bool) → (leb 48 c && leb c 57) ≡ b → cond b (c - 48) 0 ≤ 9
    go true e = omega (arith, leb_le c 57 (and_snd (leb 48 c) (leb c 57) e))
    go false e = omega arith

-- no total passes nine litres a letter
pub total_small : (a : ℕ) (es : List (ℕ × ℕ)) → total a es ≤ 9 * length es
unfolding total
total_small a [] = omega arith
total_small a (e ∷ es) = go (total_small a es) (eqb e.1 a)
  where
    go : total a es ≤ 9 * length es → (b : Bool) → cond b (litres e.0) 0 + total a es ≤ 9 * length (e ∷ es)
    go ih true = omega (arith, litres_small e.0)
    go ih false = omega arith
