-- LAWS of reading from the start: what is computed by sets of leaves is the reach. First for sets of any kind, given what is known of a set after the
-- letters read; then for lists of leaves.
use Rattle.std.proofs.Common.{◌∙◌, ap, ap₂, arith}
use Rattle.std.specs.Prelude.{◌≡◌, refl, ◌&&◌, ◌||◌, Bool, cond, false, ◌↔◌, ◌≤◌, suc, zero, ℕ, length, take}
use Rattle.std.proofs.Math.Path.{sym}
use Rattle.std.proofs.lemmas.Bool.{false≢true}
use Rattle.std.proofs.Math.Bool.{or_assoc, or-false, true}
use mathlib.Core.List.{◌++◌, ◌∷◌, List, [], append_assoc, append-nil}
use Rattle.syntax.specs.Tree.{Tree, nothing, letter, range, seq, alt, star}
use Rattle.semantics.specs.Followed.{Follows}
use Rattle.semantics.specs.Automaton.{Location, top, fst, snd, lft, rgt, rnd}
use Rattle.semantics.specs.Sweeps.{can, readable}
use Rattle.semantics.specs.Begins.{Begins, Reach}
use Rattle.semantics.specs.Fronts.{reading, Taker, of_letter, of_range, some, takes, inside, behind, behind_leaf, matched, any_left, nexts, starts}
use Rattle.semantics.specs.Fronts.{reach_of}
use Rattle.semantics.proofs.Basics.{or_left, not-both}
use Rattle.semantics.proofs.FirstSweepLaws.{can_star}
use Rattle.semantics.specs.Passing.{after}
use Rattle.semantics.specs.Every.{All}
use Rattle.semantics.proofs.BeginLaws.{Stocked, onward, begins_iff, begins_front, begins_none, reach_one}

-- ---- sets of any kind

-- the reach of letters that stand after others
pub record ReachBehind (t : Tree) (u w : List ℕ) (k : ℕ) : Type 0 where
  pub within : k ≤ length w
  pub begins : Begins t (u ++ take k w)
  pub longest : (j : ℕ) → j ≤ length w → Begins t (u ++ take j w) → j ≤ k

module _ {S : Type 0} (match : S → ℕ → S) (alive : S → Bool) (next : S → S) (t : Tree) (good : ℕ → Type 0) (Known : S → List ℕ → Type 0)
    (laws : Follows match alive next t good Known) where
  one_more : (u z : List ℕ) (c : ℕ) → Begins t (u ++ (c ∷ z)) → Begins t (u ++ (c ∷ []))
  one_more u z c b = begins_front t (u ++ (c ∷ [])) z (rw append_assoc b)

  none_left : (u : List ℕ) → Begins t u → Begins t (u ++ [])
  none_left u b = rw (append-nil u) b

  goes_on : (u w : List ℕ) (c k : ℕ) → ReachBehind t (u ++ (c ∷ [])) w k → ReachBehind t u (c ∷ w) (suc k)
  goes_on u w c k r = record {
    within = omega (arith, r.within);
    begins = rw append_assoc at r.begins;
    longest = most;
  }
    where
      most : (j : ℕ) → j ≤ suc (length w) → Begins t (u ++ take j (c ∷ w)) → j ≤ suc k
      most zero h b = omega arith
      most (suc j) h b = omega (arith, r.longest j (omega arith) (rw append_assoc b))

  stops : (s : S) (u w : List ℕ) (c : ℕ) → good c → Known s u → alive (match s c) ≡ false → ReachBehind t u (c ∷ w) 0
  stops s u w c g i e = record { within = omega arith; begins = none_left u (laws.begun s u i); longest = most }
    where
      most : (j : ℕ) → j ≤ suc (length w) → Begins t (u ++ take j (c ∷ w)) → j ≤ 0
      most zero h b = omega arith
      most (suc j) h b = absurd (laws.stop s u c g i e (one_more u (take j w) c b))

  reading-behind : (w : List ℕ) → All good w → (s : S) (u : List ℕ) → Known s u → ReachBehind t u w (reading match alive next s w)
  reading-behind [] g s u i = record { within = omega arith; begins = none_left u (laws.begun s u i); longest = λ j h b. h }
  reading-behind (c ∷ w) g s u i =
      go (alive (match s c)) refl (λ e. reading-behind w g.1 (next (match s c)) (u ++ (c ∷ [])) (laws.on s u c g.0 i e))
    where
      go : (b : Bool) → alive (match s c) ≡ b
          → (alive (match s c) ≡ true → ReachBehind t (u ++ (c ∷ [])) w (reading match alive next (next (match s c)) w))
          → ReachBehind t u (c ∷ w) (cond b (suc (reading match alive next (next (match s c)) w)) 0)
      go true e r = goes_on u w c (reading match alive next (next (match s c)) w) (r e)
      go false e r = stops s u w c g.0 i e

  -- read from a set that is known at the start of the tape, the number of letters is the reach
  pub reading-reach : (w : List ℕ) → All good w → (s : S) → Known s [] → Reach t w (reading match alive next s w)
  reading-reach w g s i =
      let r = reading-behind w g s [] i in record { within = r.within; begins = r.begins; longest = r.longest }

-- ---- lists of leaves
module _ {A : Type 0} (g : A → Bool) where
  pub some-append : (xs ys : List A) → some g (xs ++ ys) ≡ (some g xs || some g ys)
  some-append [] ys = refl
  some-append (x ∷ xs) ys = ap (λ z. g x || z) (some-append xs ys) ∙ sym (or_assoc (g x) (some g xs) (some g ys))

module _ {root : Tree} where
  -- whether the letters can be read after a leaf, with flag 1
  abbrev pub opens : List ℕ → Taker root → Bool
  opens z (of_letter s) = after s true z
  opens z (of_range s) = after s true z

  -- whether a leaf takes the first letter, and the others can be read after it
  abbrev pub starts_with : (c : ℕ) → (others : List ℕ) → Taker root → Bool
  starts_with c z x = takes x c && opens z x

  module _ (c : ℕ) (z : List ℕ) where
    -- letters can be read from a node on exactly if a leaf that the node reaches takes the first and the others can be read after it
    pub inside-can : (t : Tree) (s : Location root t) (b : Bool) (k : List (Taker root)) → some (starts_with c z) k ≡ after s b (c ∷ z)
        → some (starts_with c z) (inside t s k) ≡ can t (after s) b (c ∷ z)
    inside-can (nothing m) s b k h = h
    inside-can (letter m a) s b k h = or-false (starts_with c z (of_letter s))
    inside-can (range m low high) s b k h = or-false (starts_with c z (of_range s))
    inside-can (seq m t u) s b k h = inside-can t (fst s) b (inside u (snd s) k) (inside-can u (snd s) b k h)
    inside-can (alt m t u) s b k h =
        some-append (starts_with c z) (inside t (lft s) k) (inside u (rgt s) k)
        ∙ ap₂ (λ x y. x || y) (inside-can t (lft s) b k h) (inside-can u (rgt s) b k h)
    inside-can (star m again t) s b k h =
        some-append (starts_with c z) (inside t (rnd s) []) k ∙ ap₂ (λ x y. x || y) (inside-can t (rnd s) false [] refl) h
        ∙ sym (can_star m again t (after s) b (c ∷ z))

    pub behind-after : {t : Tree} (s : Location root t) → some (starts_with c z) (behind s) ≡ after s true (c ∷ z)
    behind-after top = refl
    behind-after (fst {u = u} s) = inside-can u (snd s) true (behind s) (behind-after s)
    behind-after (snd s) = behind-after s
    behind-after (lft s) = behind-after s
    behind-after (rgt s) = behind-after s
    behind-after (rnd {l = l} {again = again} {t = t} s) = inside-can (star l again t) s true (behind s) (behind-after s)

    behind-opens : (x : Taker root) → some (starts_with c z) (behind_leaf x) ≡ opens (c ∷ z) x
    behind-opens (of_letter s) = behind-after s
    behind-opens (of_range s) = behind-after s

    pub nexts_open : (xs : List (Taker root)) → some (starts_with c z) (nexts xs) ≡ some (opens (c ∷ z)) xs
    nexts_open [] = refl
    nexts_open (x ∷ xs) = some-append (starts_with c z) (behind_leaf x) (nexts xs) ∙ ap₂ (λ a b. a || b) (behind-opens x) (nexts_open xs)

  pub matched_open : (c : ℕ) (z : List ℕ) (xs : List (Taker root)) → some (opens z) (matched xs c) ≡ some (starts_with c z) xs
  matched_open c z [] = refl
  matched_open c z (x ∷ xs) = go (takes x c) (matched_open c z xs)
    where
      go : (b : Bool) → some (opens z) (matched xs c) ≡ some (starts_with c z) xs
          → some (opens z) (cond b (x ∷ matched xs c) (matched xs c)) ≡ ((b && opens z x) || some (starts_with c z) xs)
      go true e = ap (λ y. opens z x || y) e
      go false e = e

  none_open : (z : List ℕ) (xs : List (Taker root)) → any_left xs ≡ false → some (opens z) xs ≡ false
  none_open z [] h = refl
  none_open z (x ∷ xs) h = absurd (not-both refl h)

  some_open : Stocked root → (xs : List (Taker root)) → any_left xs ≡ true → (z : List ℕ) × (some (opens z) xs ≡ true)
  some_open h [] e = absurd (false≢true e)
  some_open h (of_letter s ∷ xs) e = let q = onward h s in (q.0, or_left (some (opens q.0) xs) q.1)
  some_open h (of_range s ∷ xs) e = let q = onward h s in (q.0, or_left (some (opens q.0) xs) q.1)

-- the list of leaves after the letters u: u begins a tape, and what follows is read by one of these leaves
pub record Leaves-behind (t : Tree) (xs : List (Taker t)) (u : List ℕ) : Type 0 where
  pub begins : Begins t u
  pub reads : (c : ℕ) (z : List ℕ) → readable t (u ++ (c ∷ z)) ≡ some (starts_with c z) xs

module _ (t : Tree) (h : Stocked t) where
  pub starts-behind : Leaves-behind t (starts t) []
  unfolding readable
  starts-behind = record { begins = begins_none t h; reads = λ c z. sym (inside-can c z t top true [] refl) }

  module _ (xs : List (Taker t)) (u : List ℕ) (i : Leaves-behind t xs u) (c : ℕ) where
    pub reads-matched : (z : List ℕ) → readable t ((u ++ (c ∷ [])) ++ z) ≡ some (opens z) (matched xs c)
    reads-matched z = ap (readable t) (append_assoc u (c ∷ []) z) ∙ i.reads c z ∙ sym (matched_open c z xs)

    pub matched_on : any_left (matched xs c) ≡ true → Leaves-behind t (nexts (matched xs c)) (u ++ (c ∷ []))
    matched_on e = record {
      begins = let q = some_open h (matched xs c) e in (begins_iff t (u ++ (c ∷ []))).1 (q.0, reads-matched q.0 ∙ q.1);
      reads = λ d z. reads-matched (d ∷ z) ∙ sym (nexts_open d z (matched xs c));
    }

    pub matched_none : any_left (matched xs c) ≡ false → Begins t (u ++ (c ∷ [])) → ⊥
    matched_none e b =
        let q = (begins_iff t (u ++ (c ∷ []))).0 b in not-both q.1 (reads-matched q.0 ∙ none_open q.0 (matched xs c) e)

    -- which letters may follow u: those that one of its leaves takes
    pub allowed_iff : (any_left (matched xs c) ≡ true) ↔ Begins t (u ++ (c ∷ []))
    allowed_iff = (λ e. (matched_on e).begins, λ b. go (any_left (matched xs c)) refl b)
      where
        go : (a : Bool) → any_left (matched xs c) ≡ a → Begins t (u ++ (c ∷ [])) → a ≡ true
        go true e b = refl
        go false e b = absurd (matched_none e b)

  leaves_follow : Follows matched any_left nexts t (λ c. Unit {0}) (Leaves-behind t)
  leaves_follow = record {
    begun = λ s u i. i.begins;
    on = λ s u c g i e. matched_on s u i c e;
    stop = λ s u c g i e b. matched_none s u i c e b;
  }

  any-letters : (w : List ℕ) → All (λ c. Unit {0}) w
  any-letters [] = tt
  any-letters (c ∷ w) = (tt, any-letters w)

  -- THE COMPUTED NUMBER IS THE REACH, of every list of numbers
  pub reach_of-reach : (w : List ℕ) → Reach t w (reach_of t w)
  unfolding reach_of
  reach_of-reach w = reading-reach matched any_left nexts t (λ c. Unit {0}) (Leaves-behind t) leaves_follow w (any-letters w) (starts t) starts-behind

  pub reach_of_only : (w : List ℕ) (k : ℕ) → Reach t w k → k ≡ reach_of t w
  reach_of_only w k r = reach_one t w k (reach_of t w) r (reach_of-reach w)
