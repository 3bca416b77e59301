-- The visits of a walk: from a position of the tape on, the visits of a node and the position behind it. Searching them for visit k of a node.
use Rattle.std.specs.Prelude.{◌≡◌, Bool, ◌&&◌, List, [], ◌∷◌, ◌++◌}
use Rattle.std.proofs.Math.Path.{refl, sym, ap, ap₂}
use Rattle.std.proofs.Common.{◌∙◌, true≢false, inl, inr}
use Rattle.std.proofs.Math.Bool.{true, false, cond}
use Rattle.std.proofs.lemmas.Bool.{false≢true}
use Rattle.std.proofs.Math.Option.{Option, none, some, none-ne-some}
use Prim.Native.Nat.{ℕ, zero, suc, ◌+◌, ◌-◌, ◌≤◌}
use native.Mathlib.Omega.{arith}
use Rattle.std.proofs.Math.Dec.{eqb}
use borrow.Author.Tests.{eq-eqb}
use Rattle.std.proofs.Math.ListN.{length, length-append}
use Rattle.syntax.specs.Tree.{Tree, nothing, letter, range, seq, alt, star, index}
use Rattle.bits.specs.Bits.{held}
use Rattle.semantics.specs.Value.{Value, flat, flat_rounds}
use Rattle.semantics.specs.Visits.{Visit, visits, along, visits_at, nth}
use Rattle.semantics.specs.Positions.{Seen, see}
use Rattle.std.specs.declared.ops.ControlFlow.{ControlFlow}
use Rattle.std.specs.declared.ops.ControlFlow.TheVariants.{Continue, Break}
use Rattle.spans.specs.declared.find.Passed.{Passed}
use Rattle.spans.specs.declared.find.Span.{Span}

-- the visits passed, and the position behind them
abbrev pub Visited : Type 0
Visited = List Visit × ℕ

abbrev pub Trace : Type 0
Trace = ℕ → Visited

-- n letters and no node inside
abbrev pub letters_trace : ℕ → Trace
letters_trace n i = ([], i + n)

abbrev pub trace_then : Trace → Trace → Trace
trace_then f g i = ((f i).0 ++ (g (f i).1).0, (g (f i).1).1)

-- a node's own visit in front of those inside it
abbrev pub own : (index : ℕ) → Trace → Trace
own l f i = (record { index = l; start = i; size = (f i).1 - i } ∷ (f i).0, (f i).1)

abbrev pub rounds_trace : {A : Type 0} → (A → Trace) → List A → Trace
rounds_trace g [] = letters_trace 0
rounds_trace g (v ∷ vs) = trace_then (g v) (rounds_trace g vs)

abbrev pub trace : (t : Tree) → Value t → Trace
trace (nothing m) v = own m.index (letters_trace 0)
trace (letter m c) v = own m.index (letters_trace 1)
trace (range m low high) v = own m.index (letters_trace 1)
trace (seq m t u) v = own m.index (trace_then (trace t v.0) (trace u v.1))
trace (alt m t u) (inl v) = own m.index (trace t v)
trace (alt m t u) (inr v) = own m.index (trace u v)
trace (star m again t) vs = own m.index (rounds_trace (trace t) vs)

-- what a node's own visit stands in front of
abbrev pub inside : (t : Tree) → Value t → Trace
inside (nothing m) v = letters_trace 0
inside (letter m c) v = letters_trace 1
inside (range m low high) v = letters_trace 1
inside (seq m t u) v = trace_then (trace t v.0) (trace u v.1)
inside (alt m t u) (inl v) = trace t v
inside (alt m t u) (inr v) = trace u v
inside (star m again t) vs = rounds_trace (trace t) vs

pub trace-own : (t : Tree) (v : Value t) → trace t v ≡ own (index t) (inside t v)
trace-own (nothing m) v = refl
trace-own (letter m c) v = refl
trace-own (range m low high) v = refl
trace-own (seq m t u) v = refl
trace-own (alt m t u) (inl v) = refl
trace-own (alt m t u) (inr v) = refl
trace-own (star m again t) vs = refl

-- ── the trace is the visits of layer 1, and the letters spelled ──
abbrev visits_of : (t : Tree) → Value t → ℕ → Visited
visits_of t v i = (visits t v i, i + length (flat t v))

own-visit : (l i n : ℕ) (f : Trace) (vs : List Visit) → ◌≡◌ {A = Visited} (f i) (vs, i + n)
    → ◌≡◌ {A = Visited} (own l f i) (record { index = l; start = i; size = n } ∷ vs, i + n)
own-visit l i n f vs e =
    let g : i + n - i ≡ n = omega arith in
    ap (λ x. (record { index = l; start = i; size = x.1 - i } ∷ x.0, x.1)) e
    ∙ ap (λ z. (record { index = l; start = i; size = z } ∷ vs, i + n)) g

then_visits : (f g : Trace) (vs ws : List Visit) (i n k : ℕ) → ◌≡◌ {A = Visited} (f i) (vs, i + n) → ◌≡◌ {A = Visited} (g (i + n)) (ws, i + n + k)
    → ◌≡◌ {A = Visited} (trace_then f g i) (vs ++ ws, i + (n + k))
then_visits f g vs ws i n k e h =
    let a : i + n + k ≡ i + (n + k) = omega arith in
    ap (λ x. (x.0 ++ (g x.1).0, (g x.1).1)) e ∙ ap (λ y. (vs ++ y.0, y.1)) h ∙ ap (λ z. (vs ++ ws, z)) a

module _ {A : Type 0} (fl : A → List ℕ) (vi : A → ℕ → List Visit) (g : A → Trace)
    (one : (v : A) (i : ℕ) → ◌≡◌ {A = Visited} (g v i) (vi v i, i + length (fl v))) where
  pub rounds-visits : (vs : List A) (i : ℕ) → ◌≡◌ {A = Visited} (rounds_trace g vs i) (along fl vi vs i, i + length (flat_rounds fl vs))
  rounds-visits [] i = refl
  rounds-visits (v ∷ vs) i =
      let j = i + length (fl v) in
      then_visits (g v) (rounds_trace g vs) (vi v i) (along fl vi vs j) i (length (fl v)) (length (flat_rounds fl vs)) (one v i) (rounds-visits vs j)
      ∙ ap (λ n. (vi v i ++ along fl vi vs j, i + n)) (sym (length-append (fl v) (flat_rounds fl vs)))

pub trace-visits : (t : Tree) (v : Value t) (i : ℕ) → ◌≡◌ {A = Visited} (trace t v i) (visits_of t v i)
trace-visits (nothing m) v i = own-visit m.index i 0 (letters_trace 0) [] refl
trace-visits (letter m c) v i = own-visit m.index i 1 (letters_trace 1) [] refl
trace-visits (range m low high) v i = own-visit m.index i 1 (letters_trace 1) [] refl
trace-visits (seq m t u) v i =
    let x = trace t v.0 in
    let y = trace u v.1 in
    let n = length (flat t v.0) in
    let k = length (flat u v.1) in
    let vs = visits t v.0 i in
    let ws = visits u v.1 (i + n) in
    own-visit m.index i (length (flat t v.0 ++ flat u v.1)) (trace_then x y) (vs ++ ws)
    (then_visits x y vs ws i n k (trace-visits t v.0 i) (trace-visits u v.1 (i + n))
    ∙ ap (λ n. (vs ++ ws, i + n)) (sym (length-append (flat t v.0) (flat u v.1))))
trace-visits (alt m t u) (inl v) i = own-visit m.index i (length (flat t v)) (trace t v) (visits t v i) (trace-visits t v i)
trace-visits (alt m t u) (inr v) i = own-visit m.index i (length (flat u v)) (trace u v) (visits u v i) (trace-visits u v i)
trace-visits (star m again t) vs i =
    own-visit m.index i (length (flat_rounds (flat t) vs)) (rounds_trace (trace t) vs) (along (flat t) (visits t) vs i)
    (rounds-visits (flat t) (visits t) (trace t) (trace-visits t) vs i)

-- ── from a position of a code on ──
unfoldable pub trace_at : (code : List ℕ) → (count : ℕ) → Tree → (at : ℕ) → Seen Trace
trace_at code count t at = see (held 8 code count) t (trace t) at

-- without the node's own visit; for a star, the rounds that are left
unfoldable pub inside_at : (code : List ℕ) → (count : ℕ) → Tree → (at : ℕ) → Seen Trace
inside_at code count t at = see (held 8 code count) t (inside t) at

abbrev pub own_seen : ℕ → Seen Trace → Seen Trace
own_seen l none = none
own_seen l (some p) = some (own l p.0, p.1)

-- ── searching ──
abbrev pub Found : Type 0
Found = ControlFlow Span Passed

-- a visit that is found, by its start and size
abbrev pub hit : (start size : ℕ) → Found
hit a n = Break (record { start = a; length = n })

-- visits that are passed: the search goes on at bit j and letter i, and k visits are left to pass
abbrev pub passed : (j i k : ℕ) → Found
passed j i k = Continue (record { at = j; letter = i; left = k })

abbrev pub found_by : (left stop position : ℕ) → Option Visit → Found
found_by k j i none = passed j i k
found_by k j i (some x) = hit x.start x.size

-- visit k of a node among some visits; where there are too few, how many are still to be passed
unfoldable pub found_in : (node k stop : ℕ) → Visited → Found
found_in node k j x = found_by (k - length (visits_at node x.0)) j x.1 (nth k (visits_at node x.0))

-- a visit that starts at letter i ends where the search of its parts ends
abbrev pub ended : (start : ℕ) → Found → Found
ended i (Break s) = Break s
ended i (Continue p) = hit i (p.letter - i)

abbrev pub end_of : (start : ℕ) → Found → ℕ
end_of i (Break s) = i
end_of i (Continue p) = p.letter

-- what was found, in numbers
abbrev pub numbers : Found → Bool × (ℕ × (ℕ × ℕ))
numbers (Break s) = (true, (s.start, (s.length, 0)))
numbers (Continue p) = (false, (p.at, (p.letter, p.left)))

pub at_append : (l : ℕ) (xs ys : List Visit) → visits_at l (xs ++ ys) ≡ visits_at l xs ++ visits_at l ys
at_append l [] ys = refl
at_append l (x ∷ xs) ys = go (eqb x.index l) (at_append l xs ys)
  where
    go : (b : Bool) → visits_at l (xs ++ ys) ≡ visits_at l xs ++ visits_at l ys
        → cond b (x ∷ visits_at l (xs ++ ys)) (visits_at l (xs ++ ys)) ≡ cond b (x ∷ visits_at l xs) (visits_at l xs) ++ visits_at l ys
    go true e = ap (λ z. x ∷ z) e
    go false e = e

nth_miss : {A : Type 0} (k : ℕ) (xs ys : List A) → nth k xs ≡ none → (length xs ≤ k) × (nth k (xs ++ ys) ≡ nth (k - length xs) ys)
nth_miss k [] ys e = let z : k ≡ k - 0 = omega arith in (omega arith, ap (λ n. nth n ys) z)
nth_miss zero (a ∷ xs) ys e = absurd (none-ne-some a (sym e))
nth_miss (suc k) (a ∷ xs) ys e =
    let (h, g) = nth_miss k xs ys e in
    let z : k - length xs ≡ suc k - length (a ∷ xs) = omega arith in
    (omega arith, g ∙ ap (λ n. nth n ys) z)

nth_hit : {A : Type 0} (k : ℕ) (xs ys : List A) (x : A) → nth k xs ≡ some x → nth k (xs ++ ys) ≡ some x
nth_hit k [] ys x e = absurd (none-ne-some x e)
nth_hit zero (a ∷ xs) ys x e = e
nth_hit (suc k) (a ∷ xs) ys x e = nth_hit k xs ys x e

module _ (node k : ℕ) (vs ws : List Visit) (j j' i i' : ℕ) where
  abbrev As : List Visit
  As = visits_at node vs

  abbrev Bs : List Visit
  Bs = visits_at node ws

  abbrev Both : List Visit
  Both = visits_at node (vs ++ ws)

  -- found among the first
  pub found_first : (s : Span) → Break s ≡ found_in node k j (vs, i) → Break s ≡ found_in node k j' (vs ++ ws, i')
  unfolding found_in
  found_first s er = go (nth k As) refl
    where
      go : (o : Option Visit) → nth k As ≡ o → Break s ≡ found_by (k - length Both) j' i' (nth k Both)
      go none e = absurd (true≢false (ap (λ x. (numbers x).0) (er ∙ ap (found_by (k - length As) j i) e)))
      go (some x) e =
          er ∙ ap (found_by (k - length As) j i) e
          ∙ sym (ap (found_by (k - length Both) j' i') (ap (nth k) (at_append node vs ws) ∙ nth_hit k As Bs x e))

  -- or it goes on where that stopped
  pub found_second : (p : Passed) → Continue p ≡ found_in node k j (vs, i)
      → (p.at ≡ j) × (p.letter ≡ i) × (found_in node p.left j' (ws, i') ≡ found_in node k j' (vs ++ ws, i'))
  unfolding found_in
  found_second p er = go (nth k As) refl
    where
      go : (o : Option Visit) → nth k As ≡ o
          → (p.at ≡ j) × (p.letter ≡ i) × (found_by (p.left - length Bs) j' i' (nth p.left Bs) ≡ found_by (k - length Both) j' i' (nth k Both))
      go (some x) e = absurd (false≢true (ap (λ x. (numbers x).0) (er ∙ ap (found_by (k - length As) j i) e)))
      go none e =
          let q = er ∙ ap (found_by (k - length As) j i) e in
          let f : p.left ≡ k - length As = ap (λ x. (numbers x).1.1.1) q in
          let (_, g) = nth_miss k As Bs e in
          let both = at_append node vs ws in
          let z : p.left - length Bs ≡ k - length Both = omega (arith, f, ap length both, length-append As Bs) in (
            ap (λ x. (numbers x).1.0) q,
            ap (λ x. (numbers x).1.1.0) q,
            ap₂ (λ a b. found_by a j' i' b) z (ap (λ n. nth n Bs) f ∙ sym g ∙ ap (nth k) (sym both)),
          )

-- the node itself
module _ (node k j l i : ℕ) (vs : List Visit) (i' : ℕ) where
  abbrev mine : Visit
  mine = record { index = l; start = i; size = i' - i }

  abbrev inner : List Visit
  inner = visits_at node vs

  abbrev outer : List Visit
  outer = cond (eqb l node) (mine ∷ visits_at node vs) (visits_at node vs)

  -- its own visit is looked for, and none inside is one of the node
  pub found_own : l ≡ node → k ≡ 0 → inner ≡ [] → (left : ℕ) → ended i (found_in node left j (vs, i')) ≡ found_in node k j (mine ∷ vs, i')
  unfolding found_in
  found_own e z none_inside left = rw (eq-eqb l node e, z, none_inside)

  -- passed, or another node
  pub found_inside : (eqb l node && eqb k 0) ≡ false → (left : ℕ) → left ≡ cond (eqb l node) (k - 1) k
      → found_in node left j (vs, i') ≡ found_in node k j (mine ∷ vs, i')
  unfolding found_in
  found_inside other left is = go (eqb l node) refl k refl
    where
      go : (b : Bool) → eqb l node ≡ b → (c : ℕ) → c ≡ k
          → found_by (left - length inner) j i' (nth left inner) ≡ found_by (k - length outer) j i' (nth k outer)
      go false q c ec = rw (q, is ∙ ap (λ b. cond b (k - 1) k) q)
      go true q zero ec = absurd (false≢true (sym other ∙ rw (q, eq-eqb k 0 (sym ec))))
      go true q (suc c) ec =
          let f : left ≡ c = is ∙ ap (λ b. cond b (k - 1) k) q ∙ omega arith in
          rw (q, sym ec, f) (ap (λ z. found_by z j i' (nth c inner)) (omega arith))

  -- a search ends no further left than it started
  pub found_end : i ≤ i' → i ≤ end_of i (found_in node k j (vs, i'))
  unfolding found_in
  found_end h = go (nth k inner)
    where
      go : (o : Option Visit) → i ≤ end_of i (found_by (k - length inner) j i' o)
      go none = h
      go (some x) = omega arith
