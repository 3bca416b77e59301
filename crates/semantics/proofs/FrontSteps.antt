-- WHAT THE LISTS OF LEAVES ARE: those that the automaton reaches by empty steps, from the root with flag 1 and from a leaf's follower with flag 1.
use Rattle.std.specs.Prelude.{◌≡◌, refl, Bool, cond, false, true, ◌↔◌, ◌⊎◌, ◌++◌, ◌∷◌, List, [], ℕ}
use Rattle.std.proofs.Common.{ap, subst, sym, inl, inr, ⊎_elim}
use Rattle.std.proofs.lemmas.Bool.{false≢true}
use Rattle.syntax.specs.Tree.{Label, Tree, nothing, letter, range, seq, alt, star}
use Rattle.semantics.specs.Automaton.{Location, top, fst, snd, lft, rgt, rnd, State, end, at, follower}
use Rattle.semantics.specs.Automaton.{Moves, to_first, to_left, to_right, to_round, skip, leave}
use Rattle.semantics.specs.Fronts.{Taker, of_letter, of_range, inside, behind, starts}
use Rattle.semantics.specs.Passing.{Passes}
use Rattle.semantics.proofs.AutomatonLaws.{guarded_iff}

-- from a state with a flag the automaton reaches a leaf by empty steps
pub data ComesTo (root : Tree) : State root → Bool → Taker root → Type 0 where
  at_letter : {m : Label} {c : ℕ} {s : Location root (letter m c)} {b : Bool} → ComesTo root (at (letter m c) s) b (of_letter s)
  at_range : {m : Label} {low high : ℕ} {s : Location root (range m low high)} {b : Bool} → ComesTo root (at (range m low high) s) b (of_range s)
  by_step : {q r : State root} {b g : Bool} {x : Taker root} → Moves root q b r g → ComesTo root r g x → ComesTo root q b x

module _ {A : Type 0} where
  abbrev pub In : A → List A → Type 0
  In x [] = ⊥
  In x (y ∷ ys) = (x ≡ y) ⊎ In x ys

  in_left : (x : A) (xs ys : List A) → In x xs → In x (xs ++ ys)
  in_left x [] ys i = absurd i
  in_left x (y ∷ xs) ys i = ⊎_elim (λ e. inl e) (λ j. inr (in_left x xs ys j)) i

  in_right : (x : A) (xs ys : List A) → In x ys → In x (xs ++ ys)
  in_right x [] ys i = i
  in_right x (y ∷ xs) ys i = inr (in_right x xs ys i)

  in_split : (x : A) (xs ys : List A) → In x (xs ++ ys) → In x xs ⊎ In x ys
  in_split x [] ys i = inr i
  in_split x (y ∷ xs) ys i = ⊎_elim (λ e. inl (inl e)) (λ j. ⊎_elim (λ k. inl (inr k)) (λ k. inr k) (in_split x xs ys j)) i

module _ {root : Tree} where
  -- the leaves that a node's follower reaches, with either flag
  abbrev behind_with : (flag : Bool) → {t : Tree} → Location root t → List (Taker root)
  behind_with b top = []
  behind_with b (fst {u = u} s) = inside u (snd s) (behind_with b s)
  behind_with b (snd s) = behind_with b s
  behind_with b (lft s) = behind_with b s
  behind_with b (rgt s) = behind_with b s
  behind_with b (rnd {l = l} {again = again} {t = t} s) = cond b (inside (star l again t) s (behind_with b s)) []

  behind_one : {t : Tree} (s : Location root t) → behind_with true s ≡ behind s
  behind_one top = refl
  behind_one (fst {u = u} s) = ap (inside u (snd s)) (behind_one s)
  behind_one (snd s) = behind_one s
  behind_one (lft s) = behind_one s
  behind_one (rgt s) = behind_one s
  behind_one (rnd {l = l} {again = again} {t = t} s) = ap (inside (star l again t) s) (behind_one s)

  abbrev listed : State root → (flag : Bool) → List (Taker root)
  listed end b = []
  listed (at t s) b = inside t s (behind_with b s)

  -- what is listed is reached
  abbrev Behind : {t : Tree} → Location root t → Bool → Taker root → Type 0
  Behind s b x = Passes s b × ComesTo root (follower s) b x

  inside_comes : (t : Tree) (s : Location root t) (b : Bool) (k : List (Taker root)) (x : Taker root) → (In x k → Behind s b x) → In x (inside t s k)
      → ComesTo root (at t s) b x
  inside_comes (nothing m) s b k x f i = let d = f i in by_step (skip ((guarded_iff s b).1 d.0)) d.1
  inside_comes (letter m c) s b k x f i = ⊎_elim (λ e. subst (ComesTo root (at (letter m c) s) b) (sym e) at_letter) (λ j. absurd j) i
  inside_comes (range m low high) s b k x f i = ⊎_elim (λ e. subst (ComesTo root (at (range m low high) s) b) (sym e) at_range) (λ j. absurd j) i
  inside_comes (seq m t u) s b k x f i =
      by_step to_first (inside_comes t (fst s) b (inside u (snd s) k) x (λ j. (λ y. absurd (false≢true y), inside_comes u (snd s) b k x f j)) i)
  inside_comes (alt m t u) s b k x f i =
      ⊎_elim (λ j. by_step to_left (inside_comes t (lft s) b k x f j)) (λ j. by_step to_right (inside_comes u (rgt s) b k x f j))
      (in_split x (inside t (lft s) k) (inside u (rgt s) k) i)
  inside_comes (star m again t) s b k x f i =
      ⊎_elim (λ j. by_step to_round (inside_comes t (rnd s) false [] x (λ y. absurd y) j))
      (λ j. let d = f j in by_step (leave ((guarded_iff s b).1 d.0)) d.1) (in_split x (inside t (rnd s) []) k i)

  behind_comes : {t : Tree} (s : Location root t) (b : Bool) (x : Taker root) → In x (behind_with b s) → Behind s b x
  behind_comes top b x i = absurd i
  behind_comes (fst {u = u} s) b x i = (λ y. absurd (false≢true y), inside_comes u (snd s) b (behind_with b s) x (λ j. behind_comes s b x j) i)
  behind_comes (snd s) b x i = behind_comes s b x i
  behind_comes (lft s) b x i = behind_comes s b x i
  behind_comes (rgt s) b x i = behind_comes s b x i
  behind_comes (rnd {l = l} {again = again} {t = t} s) true x i =
      (λ y. refl, inside_comes (star l again t) s true (behind_with true s) x (λ j. behind_comes s true x j) i)
  behind_comes (rnd s) false x i = absurd i

  -- and back: each step keeps what is listed
  follows_listed : {t : Tree} (s : Location root t) (b : Bool) (x : Taker root) → Passes s b → In x (listed (follower s) b) → In x (behind_with b s)
  follows_listed top b x f i = i
  follows_listed (fst s) b x f i = i
  follows_listed (snd s) b x f i = follows_listed s b x f i
  follows_listed (lft s) b x f i = follows_listed s b x f i
  follows_listed (rgt s) b x f i = follows_listed s b x f i
  follows_listed (rnd s) true x f i = i
  follows_listed (rnd s) false x f i = absurd (false≢true (f refl))

  moves_listed : {q r : State root} {b g : Bool} (x : Taker root) → Moves root q b r g → In x (listed r g) → In x (listed q b)
  moves_listed x to_first i = i
  moves_listed x (to_left {t = t} {u = u} {s = s} {b = b}) i = in_left x (inside t (lft s) (behind_with b s)) (inside u (rgt s) (behind_with b s)) i
  moves_listed x (to_right {t = t} {u = u} {s = s} {b = b}) i = in_right x (inside t (lft s) (behind_with b s)) (inside u (rgt s) (behind_with b s)) i
  moves_listed x (to_round {t = t} {s = s} {b = b}) i = in_left x (inside t (rnd s) []) (behind_with b s) i
  moves_listed x (skip {s = s} {b = b} f) i = follows_listed s b x ((guarded_iff s b).0 f) i
  moves_listed x (leave {t = t} {s = s} {b = b} f) i =
      in_right x (inside t (rnd s) []) (behind_with b s) (follows_listed s b x ((guarded_iff s b).0 f) i)

  comes_listed : {q : State root} {b : Bool} {x : Taker root} → ComesTo root q b x → In x (listed q b)
  comes_listed at_letter = inl refl
  comes_listed at_range = inl refl
  comes_listed (by_step {x = x} m c) = moves_listed x m (comes_listed c)

  -- the leaves after a node are those that its follower reaches with flag 1
  pub behind_iff : {t : Tree} (s : Location root t) (x : Taker root) → In x (behind s) ↔ ComesTo root (follower s) true x
  behind_iff s x = (
    λ i. (behind_comes s true x (subst (In x) (sym (behind_one s)) i)).1,
    λ c. subst (In x) (behind_one s) (follows_listed s true x (λ e. refl) (comes_listed c)),
  )

-- the leaves that may take the first letter are those that the root reaches with flag 1
pub starts_iff : (t : Tree) (x : Taker t) → In x (starts t) ↔ ComesTo t (at t top) true x
starts_iff t x = (λ i. inside_comes t top true [] x (λ y. absurd y) i, comes_listed)
