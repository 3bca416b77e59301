-- LAWS of visits: the piece of a visit is a part of the tape, and it is what that part of the value spells.
use Rattle.std.proofs.Common.{◌∙◌, ap, subst, sym, inl, inr, append_assoc, append-nil, arith, length-append, drop_at}
use Rattle.std.specs.Prelude.{◌≡◌, refl, Bool, cond, false, true, ◌↔◌, ◌++◌, ◌∷◌, List, [], ◌+◌, ◌≤◌, suc, zero, ℕ, eqb, drop, length, take}
use Rattle.std.proofs.Math.Option.{none-ne-some, some-injective, some-ne-none, none, some}
use Rattle.std.proofs.Math.Seq.{take-append_seam}
use Rattle.syntax.specs.Tree.{Tree, nothing, letter, range, seq, alt, star}
use Rattle.semantics.specs.Every.{All}
use Rattle.semantics.specs.Value.{Value, flat_rounds, flat}
use Rattle.semantics.specs.Automaton.{Location, top, fst, snd, lft, rgt, rnd}
use Rattle.semantics.specs.Visits.{label, Visit, visit_of, along, visits, visits_at, nth, visit}
use Rattle.semantics.proofs.Basics.{eqb_eq}

pub all_append : {A : Type 0} (P : A → Type 0) (xs ys : List A) → All P xs → All P ys → All P (xs ++ ys)
all_append P [] ys h k = k
all_append P (x ∷ xs) ys h k = (h.0, all_append P xs ys h.1 k)

-- a node of the tree and a value of it, whose letters the tape holds where the visit says
pub record Shows (root : Tree) (tape : List ℕ) (x : Visit) : Type 0 where
  pub node : Tree
  pub location : Location root node
  pub value : Value node
  pub index : (label node).index ≡ x.index
  pub size : length (flat node value) ≡ x.size
  pub fits : x.start + x.size ≤ length tape
  pub piece : take x.size (drop x.start tape) ≡ flat node value

-- s stands in w at i
pub record Sits {A : Type 0} (w s : List A) (i : ℕ) : Type 0 where
  pub pre : List A
  pub post : List A
  pub whole : w ≡ pre ++ (s ++ post)
  pub here : length pre ≡ i

module _ {A : Type 0} where
  pub sits_cut : {w s : List A} {i : ℕ} → Sits w s i → take (length s) (drop i w) ≡ s
  sits_cut {w} {s} {i} p = ap (λ x. take (length s) (drop i x)) p.whole ∙ ap (take (length s)) (drop_at p.pre (s ++ p.post) i p.here)
      ∙ take-append_seam s p.post

  pub sits_fits : {w s : List A} {i : ℕ} → Sits w s i → i + length s ≤ length w
  sits_fits {w} {s} {i} p = omega (arith, p.here, simp length-append at (ap length p.whole))

  pub sits_left : {w : List A} (a b : List A) {i : ℕ} → Sits w (a ++ b) i → Sits w a i
  sits_left a b p = record { pre = p.pre; post = b ++ p.post; whole = p.whole ∙ ap (λ x. p.pre ++ x) (append_assoc a b p.post); here = p.here }

  pub sits_right : {w : List A} (a b : List A) {i : ℕ} → Sits w (a ++ b) i → Sits w b (i + length a)
  sits_right a b {i} p = record {
    pre = p.pre ++ a;
    post = p.post;
    whole = p.whole ∙ simp append_assoc;
    here = rw length-append (ap (λ x. x + length a) p.here);
  }

module _ (root : Tree) (w : List ℕ) where
  abbrev Shown : {A : Type 0} → (A → List ℕ) → (A → ℕ → List Visit) → A → Type 0
  Shown f g v = (i : ℕ) → Sits w (f v) i → All (Shows root w) (g v i)

  along_shown : {A : Type 0} (f : A → List ℕ) (g : A → ℕ → List Visit) → ((v : A) → Shown f g v) → (vs : List A) → Shown (flat_rounds f) (along f g) vs
  along_shown f g one [] i p = tt
  along_shown f g one (v ∷ vs) i p =
      all_append (Shows root w) (g v i) (along f g vs (i + length (f v))) (one v i (sits_left (f v) (flat_rounds f vs) p))
      (along_shown f g one vs (i + length (f v)) (sits_right (f v) (flat_rounds f vs) p))

  here_shown : (t : Tree) (s : Location root t) (v : Value t) (i : ℕ) → Sits w (flat t v) i → Shows root w (visit_of t v i)
  here_shown t s v i p = record { node = t; location = s; value = v; index = refl; size = refl; fits = sits_fits p; piece = sits_cut p }

  visits_shown : (t : Tree) (s : Location root t) (v : Value t) → Shown (flat t) (visits t) v
  visits_shown (nothing m) s v i p = (here_shown (nothing m) s v i p, tt)
  visits_shown (letter m c) s v i p = (here_shown (letter m c) s v i p, tt)
  visits_shown (range m low high) s v i p = (here_shown (range m low high) s v i p, tt)
  visits_shown (seq m t u) s v i p = (
    here_shown (seq m t u) s v i p,
    all_append (Shows root w) (visits t v.0 i) (visits u v.1 (i + length (flat t v.0)))
        (visits_shown t (fst s) v.0 i (sits_left (flat t v.0) (flat u v.1) p))
        (visits_shown u (snd s) v.1 (i + length (flat t v.0)) (sits_right (flat t v.0) (flat u v.1) p)),
  )
  visits_shown (alt m t u) s (inl v) i p = (here_shown (alt m t u) s (inl v) i p, visits_shown t (lft s) v i p)
  visits_shown (alt m t u) s (inr v) i p = (here_shown (alt m t u) s (inr v) i p, visits_shown u (rgt s) v i p)
  visits_shown (star m again t) s vs i p = (here_shown (star m again t) s vs i p, along_shown (flat t) (visits t) (visits_shown t (rnd s)) vs i p)

pub all_shown : (t : Tree) (v : Value t) → All (Shows t (flat t v)) (visits t v 0)
all_shown t v = visits_shown t (flat t v) t top v 0 (record { pre = []; post = []; whole = sym (append-nil (flat t v)); here = refl })

pub nth_all : {A : Type 0} (P : A → Type 0) (k : ℕ) (xs : List A) (x : A) → All P xs → nth k xs ≡ some x → P x
nth_all P k [] x h e = absurd (none-ne-some x e)
nth_all P zero (y ∷ xs) x h e = subst P (some-injective y x e) h.0
nth_all P (suc k) (y ∷ xs) x h e = nth_all P k xs x h.1 e

at_all : (P : Visit → Type 0) (l : ℕ) (xs : List Visit) → All P xs → All (λ x. P x × (x.index ≡ l)) (visits_at l xs)
at_all P l [] h = tt
at_all P l (x ∷ xs) h = go (at_all P l xs h.1) (eqb x.index l) refl
  where
    go : All (λ x. P x × (x.index ≡ l)) (visits_at l xs) → (b : Bool) → eqb x.index l ≡ b
        → All (λ x. P x × (x.index ≡ l)) (cond b (x ∷ visits_at l xs) (visits_at l xs))
    go ih true e = ((h.0, eqb_eq x.index l e), ih)
    go ih false e = ih

-- the piece of visit k of node l is a part of the tape, and what a value of that node spells
pub visit_shows : (t : Tree) (v : Value t) (l k : ℕ) (x : Visit) → visit t v l k ≡ some x → Shows t (flat t v) x × (x.index ≡ l)
unfolding visit
visit_shows t v l k x e =
    nth_all (λ x. Shows t (flat t v) x × (x.index ≡ l)) k (visits_at l (visits t v 0)) x (at_all (Shows t (flat t v)) l (visits t v 0) (all_shown t v)) e

nth_none : {A : Type 0} (k : ℕ) (xs : List A) → (nth k xs ≡ none) ↔ (length xs ≤ k)
nth_none k [] = (λ e. omega arith, λ h. refl)
nth_none zero (x ∷ xs) = (λ e. absurd (some-ne-none x e), λ h. absurd (omega arith))
nth_none (suc k) (x ∷ xs) = (λ e. omega (arith, (nth_none k xs).0 e), λ h. (nth_none k xs).1 (omega arith))

-- there is no visit k exactly if the node is visited at most k times
pub visit_none : (t : Tree) (v : Value t) (l k : ℕ) → (visit t v l k ≡ none) ↔ (length (visits_at l (visits t v 0)) ≤ k)
unfolding visit
visit_none t v l k = nth_none k (visits_at l (visits t v 0))
