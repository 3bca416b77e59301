-- Empty steps: which nodes are open, once it is known which letter leaves are. A leaf is open if it takes the letter here and its follower
-- is open behind it with flag 1; every other node is open if it comes by steps that read nothing to an open leaf or to the accepting end.
use Rattle.std.specs.Prelude.{◌≡◌, refl, Bool, true, false, ◌&&◌, ◌||◌, List, ℕ, zero, suc, ◌≤◌, ◌<◌, eqb}
use Rattle.std.proofs.Common.{sym, ap, ap₂, ◌∙◌, arith}
use Rattle.std.proofs.Math.Path.{fun_ext}
use Rattle.std.proofs.Math.Bool.{and-false, or-false}
use Rattle.std.proofs.Math.Decide.{dec_lt}
use Rattle.syntax.specs.Tree.{Label, Tree, nothing, letter, range, seq, alt, star}
use Rattle.bits.specs.Unions.{any_to, any_none, any_one}
use Rattle.semantics.specs.Automaton.{Location, top, fst, snd, lft, rgt, rnd}
use Rattle.semantics.specs.Sweeps.{can, at_end}
use Rattle.semantics.proofs.FirstSweepLaws.{can_star}
use Rattle.semantics.specs.Passing.{after}
use Rattle.masks.specs.Nodes.{Predicate, node_word}

-- Whether a node is open, where the leaf with index x is open if g x, and v says whether the node's follower is open with the node's flag
-- and may be stepped to. 01: "`K` enters its child with flag 0", and from inside it is reached with flag 1 only, so that a child of a
-- star has nowhere to go. 02: "`Z` follows every rule for `K` on followers, flags".
abbrev pub reach : (g : ℕ → Bool) → Tree → (v : Bool) → Bool
reach g (nothing m) v = v
reach g (letter m c) v = g m.index
reach g (range m a e) v = g m.index
reach g (seq m t u) v = reach g t (reach g u v)
reach g (alt m t u) v = reach g t v || reach g u v
reach g (star m again t) v = reach g t false || v

-- what v is at a node, where e says whether the end accepts here. 01: "where the follower is a `K` above them, only with flag 1"
abbrev pub passes : {root : Tree} → (flag : Bool) → (g : ℕ → Bool) → (e : Bool) → {t : Tree} → Location root t → Bool
passes b g e top = e
passes b g e (fst {u = u} s) = reach g u (passes b g e s)
passes b g e (snd s) = passes b g e s
passes b g e (lft s) = passes b g e s
passes b g e (rgt s) = passes b g e s
passes b g e (rnd {l = l} {again = again} {t = t} s) = b && reach g (star l again t) (passes b g e s)

abbrev pub reaches : {root : Tree} → (flag : Bool) → (g : ℕ → Bool) → (e : Bool) → Predicate root
reaches b g e t s = reach g t (passes b g e s)

abbrev pub nowhere : ℕ → Bool
nowhere x = false

-- THE MASKS of a tree of n nodes. For a leaf: the nodes that come to it by empty steps, with the flag.
unfoldable pub leaf_mask : Tree → (n : ℕ) → (flag : Bool) → (leaf : ℕ) → ℕ
leaf_mask root n b x = node_word root n (reaches b (eqb x) false)

-- and for the end
unfoldable pub end_mask : Tree → (n : ℕ) → (flag : Bool) → ℕ
end_mask root n b = node_word root n (reaches b nowhere true)

-- ---- unions
swap4 : (a b c d : Bool) → ((a || b) || (c || d)) ≡ ((a || c) || (b || d))
swap4 true b c d = refl
swap4 false true true d = refl
swap4 false true false d = refl
swap4 false false true d = refl
swap4 false false false d = refl

dist : (e x y : Bool) → (e && (x || y)) ≡ ((e && x) || (e && y))
dist true x y = refl
dist false x y = refl

abbrev pub either : (ℕ → Bool) → (ℕ → Bool) → ℕ → Bool
either g h x = g x || h x

module _ (g h : ℕ → Bool) where
  pub reach-or : (t : Tree) (v w : Bool) → reach (either g h) t (v || w) ≡ (reach g t v || reach h t w)
  reach-or (nothing m) v w = refl
  reach-or (letter m c) v w = refl
  reach-or (range m a e) v w = refl
  reach-or (seq m t u) v w = ap (reach (either g h) t) (reach-or u v w) ∙ reach-or t (reach g u v) (reach h u w)
  reach-or (alt m t u) v w = ap₂ (λ x y. x || y) (reach-or t v w) (reach-or u v w) ∙ swap4 (reach g t v) (reach h t w) (reach g u v) (reach h u w)
  reach-or (star m again t) v w = ap (λ x. x || (v || w)) (reach-or t false false) ∙ swap4 (reach g t false) (reach h t false) v w

  passes-or : {root t : Tree} (s : Location root t) (b v w : Bool) → passes b (either g h) (v || w) s ≡ (passes b g v s || passes b h w s)
  passes-or top b v w = refl
  passes-or (fst {u = u} s) b v w = ap (reach (either g h) u) (passes-or s b v w) ∙ reach-or u (passes b g v s) (passes b h w s)
  passes-or (snd s) b v w = passes-or s b v w
  passes-or (lft s) b v w = passes-or s b v w
  passes-or (rgt s) b v w = passes-or s b v w
  passes-or (rnd {l = l} {again = again} {t = t} s) b v w =
      ap (λ z. b && reach (either g h) (star l again t) z) (passes-or s b v w)
      ∙ ap (λ z. b && z) (reach-or (star l again t) (passes b g v s) (passes b h w s))
      ∙ dist b (reach g (star l again t) (passes b g v s)) (reach h (star l again t) (passes b h w s))

  -- what is open by two sets of open leaves is open by the one or by the other
  pub reaches-or :
      {root : Tree} (t : Tree) (s : Location root t) (b v w : Bool) → reaches b (either g h) (v || w) t s ≡ (reaches b g v t s || reaches b h w t s)
  reaches-or t s b v w = ap (reach (either g h) t) (passes-or s b v w) ∙ reach-or t (passes b g v s) (passes b h w s)

pub reach_none : (t : Tree) → reach nowhere t false ≡ false
reach_none (nothing m) = refl
reach_none (letter m c) = refl
reach_none (range m a e) = refl
reach_none (seq m t u) = rw (reach_none u, reach_none t) refl
reach_none (alt m t u) = rw (reach_none t, reach_none u) refl
reach_none (star m again t) = rw (reach_none t) refl

passes_none : {root t : Tree} (s : Location root t) (b : Bool) → passes b nowhere false s ≡ false
passes_none top b = refl
passes_none (fst {u = u} s) b = rw (passes_none s b) (reach_none u)
passes_none (snd s) b = passes_none s b
passes_none (lft s) b = passes_none s b
passes_none (rgt s) b = passes_none s b
passes_none (rnd {t = t} s) b = rw (passes_none s b, reach_none t) (and-false b)

reaches_none : {root : Tree} (t : Tree) (s : Location root t) (b : Bool) → reaches b nowhere false t s ≡ false
reaches_none t s b = ap (reach nowhere t) (passes_none s b) ∙ reach_none t

-- ---- one leaf after the other
module _ {root : Tree} (t : Tree) (s : Location root t) (b : Bool) (g : ℕ → Bool) where
  by_leaf : (n : ℕ) → reaches b (λ y. any_to n (λ x. g x && eqb x y)) false t s ≡ any_to n (λ x. g x && reaches b (eqb x) false t s)
  by_leaf zero = reaches_none t s b
  by_leaf (suc n) =
      reaches-or (λ y. g n && eqb n y) (λ y. any_to n (λ x. g x && eqb x y)) t s b false false ∙ ap₂ (λ x y. x || y) (one n (g n)) (by_leaf n)
    where
      one : (n : ℕ) (v : Bool) → reaches b (λ y. v && eqb n y) false t s ≡ (v && reaches b (eqb n) false t s)
      one n true = refl
      one n false = reaches_none t s b

  -- a node is open if it comes to the end, where that accepts, or to one of the open leaves
  pub reaches_split : (n : ℕ) (v : Bool) → ((x : ℕ) → n ≤ x → g x ≡ false)
      → reaches b g v t s ≡ ((v && reaches b nowhere true t s) || any_to n (λ x. g x && reaches b (eqb x) false t s))
  reaches_split n v out =
      ap₂ (λ h z. reaches b h z t s) (fun_ext (λ y. sym (same y (dec_lt y n)))) (sym (or-false v))
      ∙ reaches-or nowhere (λ y. any_to n (λ x. g x && eqb x y)) t s b v false
      ∙ ap₂ (λ x y. x || y) (ends v) (by_leaf n)
    where
      same : (y : ℕ) → Dec (y < n) → any_to n (λ x. g x && eqb x y) ≡ g y
      same y (yes h) = any_one n y g h
      same y (no h) = any_none n y g (omega arith) ∙ sym (out y (omega arith))

      ends : (v : Bool) → reaches b nowhere v t s ≡ (v && reaches b nowhere true t s)
      ends true = refl
      ends false = reaches_none t s b

-- ---- the first sweep's answer is this closure
module _ (root : Tree) (w : List ℕ) (g : ℕ → Bool)
    (letters : (m : Label) (c : ℕ) (s : Location root (letter m c)) (b : Bool) → g m.index ≡ can (letter m c) (after s) b w)
    (ranges : (m : Label) (a e : ℕ) (s : Location root (range m a e)) (b : Bool) → g m.index ≡ can (range m a e) (after s) b w) where
  reach-can : (t : Tree) (s : Location root t) (b : Bool) → reach g t (after s b w) ≡ can t (after s) b w
  reach-can (nothing m) s b = refl
  reach-can (letter m c) s b = letters m c s b
  reach-can (range m a e) s b = ranges m a e s b
  reach-can (seq m t u) s b = ap (reach g t) (reach-can u (snd s) b) ∙ reach-can t (fst s) b
  reach-can (alt m t u) s b = ap₂ (λ x y. x || y) (reach-can t (lft s) b) (reach-can u (rgt s) b)
  reach-can (star m again t) s b = ap (λ x. x || after s b w) (reach-can t (rnd s) false) ∙ sym (can_star m again t (after s) b w)

  passes-after : {t : Tree} (s : Location root t) (b : Bool) → passes b g (at_end b w) s ≡ after s b w
  passes-after top b = refl
  passes-after (fst {u = u} s) b = ap (reach g u) (passes-after s b) ∙ reach-can u (snd s) b
  passes-after (snd s) b = passes-after s b
  passes-after (lft s) b = passes-after s b
  passes-after (rgt s) b = passes-after s b
  passes-after (rnd {l = l} {again = again} {t = t} s) b =
      ap (λ z. b && reach g (star l again t) z) (passes-after s b) ∙ ap (λ z. b && z) (reach-can (star l again t) s b) ∙ flag b
    where
      flag : (b : Bool) → (b && can (star l again t) (after s) b w) ≡ (b && can (star l again t) (after s) true w)
      flag true = refl
      flag false = refl

  pub reaches-can : (t : Tree) (s : Location root t) (b : Bool) → reaches b g (at_end b w) t s ≡ can t (after s) b w
  reaches-can t s b = ap (reach g t) (passes-after s b) ∙ reach-can t s b
