-- LAWS of what ends a tape: if some node reads letters to the end with flag 1, those letters end a tape, even if no reading enters that node with flag 1;
-- and if letters, at least one, end a tape, some leaf reads them to the end, with either flag.
use Rattle.std.proofs.Common.{◌∙◌, append_assoc, append-nil, arith, take-append-drop, drop-drop}
use Rattle.std.specs.Prelude.{◌≡◌, refl, ◌||◌, Bool, ◌↔◌, ◌++◌, ◌∷◌, List, [], ◌+◌, ◌-◌, ◌≤◌, ℕ, drop, take}
use Rattle.std.proofs.Math.Path.{ap, sym}
use Rattle.std.proofs.Math.Bool.{false, true}
use Rattle.std.proofs.lemmas.Bool.{false≢true}
use Rattle.std.proofs.Math.Logic.{⊎_elim}
use Rattle.syntax.specs.Tree.{Tree, letter, range, star}
use Rattle.semantics.specs.Passing.{OpenNode}
use Rattle.semantics.specs.Value.{Value, nonempty, flat}
use Rattle.semantics.specs.Automaton.{Location, top, fst, snd, lft, rgt, rnd}
use Rattle.semantics.specs.Sweeps.{after_round, can, at_end, readable}
use Rattle.semantics.specs.Begins.{Ends, Resumes}
use Rattle.semantics.specs.Fronts.{Taker, of_letter, of_range, some, matched, any_left, nexts, starts}
use Rattle.semantics.proofs.Basics.{or_left, or_right, or_cases}
use Rattle.semantics.proofs.CompleteLaws.{complete, after_round_on, after_round_yes}
use Rattle.semantics.proofs.FirstSweepLaws.{Fits, can_iff, can_star}
use Rattle.semantics.proofs.GreedyLaws.{readable_iff}
use Rattle.semantics.specs.Passing.{after}
use Rattle.semantics.proofs.AutomatonLaws.{can_iff_accepts, accepts_flag}
use Rattle.semantics.proofs.BeginLaws.{Stocked, some-value, some_solid, stocked_at, begins_iff}
use Rattle.semantics.proofs.FrontLaws.{starts_with, Leaves-behind, starts-behind, matched_on, matched_none}

pub ends_iff : (t : Tree) (w : List ℕ) → Ends t w ↔ ((front : List ℕ) × (readable t (front ++ w) ≡ true))
ends_iff t w = (
  λ b. (b.0, (readable_iff t (b.0 ++ w)).1 (b.1, b.2)),
  λ b. let q = (readable_iff t (b.0 ++ w)).0 b.1 in (b.0, q.0, q.1),
)

-- fewer letters end a tape too, and no letters always do
pub ends_back : (t : Tree) (u z : List ℕ) → Ends t (u ++ z) → Ends t z
ends_back t u z b = (b.0 ++ u, b.1, b.2 ∙ sym (append_assoc b.0 u z))

pub ends_later : (t : Tree) (w : List ℕ) (i j : ℕ) → i ≤ j → Ends t (drop i w) → Ends t (drop j w)
ends_later t w i j h b =
    let e : i + (j - i) ≡ j = omega arith in
    rw (← e, ← drop-drop (j - i) i w) (ends_back t (take (j - i) (drop i w)) (drop (j - i) (drop i w)) (rw (take-append-drop (j - i) (drop i w)) b))

pub ends_none : (t : Tree) → Stocked t → Ends t []
ends_none t h = let v = some-value t h in (flat t v, v, sym (append-nil (flat t v)))

-- a leaf of a set that reads the letters
found : {A : Type 0} (g : A → Bool) (xs : List A) → some g xs ≡ true → (x : A) × (g x ≡ true)
found g [] e = absurd (false≢true e)
found g (x ∷ xs) e = ⊎_elim (λ p. (x, p)) (λ p. found g xs p.1) (or_cases (g x) (some g xs) e)

-- a round that is read with flag 1: it takes a letter, and can be read with flag 0 too, or it takes none, and the star reads the letters
round_star : (t : Tree) (k : Bool → List ℕ → Bool) (w : List ℕ) → can t (after_round k) true w ≡ true
    → (can t (after_round k) false w || k true w) ≡ true
round_star t k w g = go ((can_iff t (after_round k) true w).0 g)
  where
    by : (v : Value t) (rest : List ℕ) (f : List ℕ) → flat t v ≡ f → w ≡ f ++ rest → k true rest ≡ true
        → (nonempty f ≡ true → can t (after_round k) false w ≡ true) → (can t (after_round k) false w || k true w) ≡ true
    by v rest [] e q p o = or_right (can t (after_round k) false w) (ap (k true) q ∙ p)
    by v rest (c ∷ f) e q p o = or_left (k true w) (o refl)

    go : Fits t (after_round k) true w → (can t (after_round k) false w || k true w) ≡ true
    go p =
        let on : k true p.rest ≡ true = after_round_on k (true || nonempty (flat t p.it)) p.rest p.goes in
        by p.it p.rest (flat t p.it) refl p.spells on (λ m. (can_iff t (after_round k) false w).1 (record {
          it = p.it;
          rest = p.rest;
          solid = p.solid;
          spells = p.spells;
          goes = after_round_yes k (false || nonempty (flat t p.it)) p.rest m on;
        }))

module _ {root : Tree} (h : Stocked root) where
  -- up from a node: letters that it reads to the end with flag 1 end a tape
  pub climb : {t : Tree} (s : Location root t) (w : List ℕ) → can t (after s) true w ≡ true → (front : List ℕ) × (readable root (front ++ w) ≡ true)
  unfolding readable
  climb top w g = ([], g)
  climb (fst s) w g = climb s w g
  climb (snd {t = t} {u = u} s) w g =
      let v = some-value t (stocked_at h (fst s)) in
      let q = climb s (flat t v ++ w) (complete t v (can u (after s)) true w (some_solid t (stocked_at h (fst s))) g) in
      (q.0 ++ flat t v, ap (can root at_end true) (append_assoc q.0 (flat t v) w) ∙ q.1)
  climb (lft {u = u} s) w g = climb s w (or_left (can u (after s) true w) g)
  climb (rgt {t = t} s) w g = climb s w (or_right (can t (after s) true w) g)
  climb (rnd {l = l} {again = again} {t = t} s) w g =
      climb s w (can_star l again t (after s) true w ∙ again_star (round_star t (can (star l again t) (after s)) w g))
    where
      again_star : (can t (after_round (can (star l again t) (after s))) false w || can (star l again t) (after s) true w) ≡ true
          → (can t (after_round (can (star l again t) (after s))) false w || after s true w) ≡ true
      again_star e =
          ⊎_elim (λ x. or_left (after s true w) x) (λ x. sym (can_star l again t (after s) true w) ∙ x.1)
          (or_cases (can t (after_round (can (star l again t) (after s))) false w) (can (star l again t) (after s) true w) e)

  -- with flag 1, of any letters
  pub open_ends : (w : List ℕ) → OpenNode root true w → Ends root w
  open_ends w n = (ends_iff root w).1 (climb n.place w n.goes)

  -- along the letters before them: after these there is a leaf that reads the others
  along : (f u : List ℕ) (c : ℕ) (z : List ℕ) (xs : List (Taker root)) → Leaves-behind root xs u → readable root (u ++ (f ++ (c ∷ z))) ≡ true
      → (x : Taker root) × (starts_with c z x ≡ true)
  along [] u c z xs i e = found (starts_with c z) xs (sym (i.reads c z) ∙ e)
  along (d ∷ f) u c z xs i e =
      along f (u ++ (d ∷ [])) c z (nexts (matched xs d)) (matched_on root h xs u i d (left (any_left (matched xs d)) refl))
      (ap (readable root) (append_assoc u (d ∷ []) (f ++ (c ∷ z))) ∙ e)
    where
      left : (b : Bool) → any_left (matched xs d) ≡ b → b ≡ true
      left true q = refl
      left false q = absurd (matched_none root h xs u i d q
          ((begins_iff root (u ++ (d ∷ []))).1 (f ++ (c ∷ z), ap (readable root) (append_assoc u (d ∷ []) (f ++ (c ∷ z))) ∙ e)))

  pub ends_leaf : (c : ℕ) (z : List ℕ) → Ends root (c ∷ z) → (x : Taker root) × (starts_with c z x ≡ true)
  ends_leaf c z e = let q = (ends_iff root (c ∷ z)).0 e in along q.0 [] c z (starts root) (starts-behind root h) q.1

  leaf_open : (b : Bool) (c : ℕ) (z : List ℕ) (x : Taker root) → starts_with c z x ≡ true → OpenNode root b (c ∷ z)
  leaf_open b c z (of_letter {m = m} {c = a} s) e = record { tree = letter m a; place = s; goes = e }
  leaf_open b c z (of_range {m = m} {low = low} {high = high} s) e = record { tree = range m low high; place = s; goes = e }

  with_flag : (b : Bool) (w : List ℕ) → OpenNode root b w → OpenNode root true w
  with_flag true w n = n
  with_flag false w n = record {
    tree = n.tree;
    place = n.place;
    goes = (can_iff_accepts n.tree n.place true w).1
        (accepts_flag n.tree n.place w ((can_iff_accepts n.tree n.place false w).0 n.goes));
  }

  -- LETTERS, AT LEAST ONE, END A TAPE EXACTLY IF SOME NODE IS OPEN BEFORE THEM, with either flag. No letters always end a tape, though no node may be
  -- open before them: none is in the pattern that is one letter.
  pub ends_open_iff : (b : Bool) (c : ℕ) (z : List ℕ) → Ends root (c ∷ z) ↔ OpenNode root b (c ∷ z)
  ends_open_iff b c z = (λ e. let x = ends_leaf c z e in leaf_open b c z x.0 x.1, λ n. open_ends (c ∷ z) (with_flag b (c ∷ z) n))

-- ---- from where on
pub resumes_one : (t : Tree) (w : List ℕ) (i j : ℕ) → Resumes t w i → Resumes t w j → i ≡ j
resumes_one t w i j p q = omega (arith, p.first j q.within q.ends, q.first i p.within p.ends)

-- a readable tape resumes at its start
pub resumes_readable : (t : Tree) (w : List ℕ) (i : ℕ) → Resumes t w i → readable t w ≡ true → i ≡ 0
resumes_readable t w i p h = let q = (readable_iff t w).0 h in omega (arith, p.first 0 (omega arith) ([], q.0, q.1))
