-- LAWS of the pattern of a node: it obeys the pattern rules if the whole does, and its root is the node's tree with places counted afresh.
use Rattle.std.specs.Prelude.{◌≡◌, refl, Bool, true, false, ◌&&◌, ◌||◌, cond, ◌⊎◌, List, [], ◌∷◌, ◌++◌, map, ℕ, zero, suc, ◌+◌, ◌-◌, ◌≤◌, ◌<◌, eqb, leb, get_or, replicate}
use Rattle.std.proofs.Common.{sym, ap₂, subst, ◌∙◌, inl, inr, append_assoc, arith, eqb-true, eq-eqb, length-append}
use Rattle.std.proofs.Math.Path.{ap}
use Rattle.std.proofs.lemmas.Bool.{false≢true, eqb-false}
use Rattle.std.proofs.Math.Decide.{dec_lt}
use Rattle.std.proofs.Math.ListN.{length}
use Rattle.std.proofs.lemmas.List.{get_or_at}
use Rattle.syntax.specs.declared.Leaf.TheVariants.{Nothing, Letter, Range}
use Rattle.syntax.specs.declared.Node.{Node}
use Rattle.syntax.specs.declared.Node.TheVariants.{Leaf as LeafNode, Sequence, Alternative, Star}
use Rattle.syntax.specs.declared.Line.{Line}
use Rattle.syntax.specs.declared.Pattern.{Pattern}
use Rattle.syntax.specs.Tree.{Label, Tree, seq, alt, star}
use Rattle.syntax.specs.Table.{blank, table, line_at, node_at, account_limit, node_good, line_good, parts, named_below, member, obeys}
use Rattle.syntax.specs.Trees.{made, tree_of, root}
use Rattle.syntax.specs.TreeLaws.{bit, times, Below, Rules, AllUnder, parts_below, times-append, named_mono, obeys_iff, tree-line}
use Rattle.syntax.specs.Alike.{Alike, relabel, alike_relabel}
use Rattle.syntax.specs.Subpattern.{stands, kept, rank, renumbered, afresh, chosen, sub_lines, sub_pattern, new_label}

-- ── numbers of which a test holds, counted afresh ──
module _ (f : ℕ → Bool) where
  rank_step : (i k : ℕ) → rank f i ≤ rank f (i + k)
  rank_step i zero = let e : i + 0 ≡ i = omega arith in rw e (omega arith)
  rank_step i (suc k) = let e : i + suc k ≡ suc (i + k) = omega arith in rw e (go (f (i + k)) (rank_step i k))
    where
      go : (b : Bool) → rank f i ≤ rank f (i + k) → rank f i ≤ cond b (suc (rank f (i + k))) (rank f (i + k))
      go true h = omega arith
      go false h = h

  rank_on : (i : ℕ) → f i ≡ true → rank f (suc i) ≡ suc (rank f i)
  rank_on i h = rw h

  -- a number of which it holds stands in front of those above it
  pub rank_less : (i n : ℕ) → i < n → f i ≡ true → rank f i < rank f n
  rank_less i n l h =
      let e : suc i + (n - suc i) ≡ n = omega arith in
      let m : rank f (suc i) ≤ rank f n = rw e at (rank_step (suc i) (n - suc i)) in
      omega (arith, rank_on i h)

  rank_most : (n : ℕ) → rank f n ≤ n
  rank_most zero = omega arith
  rank_most (suc n) = go (f n) (rank_most n)
    where
      go : (b : Bool) → rank f n ≤ n → cond b (suc (rank f n)) (rank f n) ≤ suc n
      go true h = omega arith
      go false h = omega arith

  -- every number below the count is the new place of one
  pub rank_of : (n r : ℕ) → r < rank f n → (i : ℕ) × (i < n) × (f i ≡ true) × (rank f i ≡ r)
  rank_of zero r h = absurd (omega arith)
  rank_of (suc n) r h = go (f n) refl (rank_of n r) h (dec_lt r (rank f n))
    where
      go : (b : Bool) → f n ≡ b → (r < rank f n → (i : ℕ) × (i < n) × (f i ≡ true) × (rank f i ≡ r)) → r < cond b (suc (rank f n)) (rank f n)
          → Dec (r < rank f n) → (i : ℕ) × (i < suc n) × (f i ≡ true) × (rank f i ≡ r)
      go b e ih h (yes l) = let x = ih l in (x.0, omega (arith, x.1), x.2, x.3)
      go true e ih h (no l) = (n, omega arith, e, omega arith)
      go false e ih h (no l) = absurd (l h)

  rank-eqb : (i j : ℕ) → f i ≡ true → f j ≡ true → eqb (rank f i) (rank f j) ≡ eqb i j
  rank-eqb i j h k = go (eqb i j) refl
    where
      apart : (eqb i j ≡ false) → (b : Bool) → eqb (rank f i) (rank f j) ≡ b → Dec (i < j) → b ≡ false
      apart e false q d = refl
      apart e true q (yes l) = absurd (omega (arith, rank_less i j l h, eqb-true (rank f i) (rank f j) q))
      apart e true q (no l) =
          let m : j < i = omega (arith, eqb-false i j e) in absurd (omega (arith, rank_less j i m k, eqb-true (rank f i) (rank f j) q))

      go : (b : Bool) → eqb i j ≡ b → eqb (rank f i) (rank f j) ≡ b
      go true e = eq-eqb (rank f i) (rank f j) (ap (rank f) (eqb-true i j e))
      go false e = apart e (eqb (rank f i) (rank f j)) refl (dec_lt i j)

  module _ (line : ℕ → Line) where
    length-chosen : (n : ℕ) → length (chosen f line n) ≡ rank f n
    length-chosen zero = refl
    length-chosen (suc n) = go (f n) (length-chosen n)
      where
        go : (b : Bool) → length (chosen f line n) ≡ rank f n → length (chosen f line n ++ cond b (line n ∷ []) []) ≡ cond b (suc (rank f n)) (rank f n)
        go true h = simp length-append (omega arith)
        go false h = simp length-append (omega arith)

    chosen_at : (n i : ℕ) (rest : List Line) → i < n → f i ≡ true → get_or (chosen f line n ++ rest) (rank f i) blank ≡ line i
    chosen_at zero i rest l h = absurd (omega arith)
    chosen_at (suc n) i rest l h =
        ap (λ x. get_or x (rank f i) blank) (append_assoc (chosen f line n) (cond (f n) (line n ∷ []) []) rest)
        ∙ go (dec_lt i n) (chosen_at n i (cond (f n) (line n ∷ []) [] ++ rest))
      where
        go : Dec (i < n) → (i < n → f i ≡ true → get_or (chosen f line n ++ (cond (f n) (line n ∷ []) [] ++ rest)) (rank f i) blank ≡ line i)
            → get_or (chosen f line n ++ (cond (f n) (line n ∷ []) [] ++ rest)) (rank f i) blank ≡ line i
        go (yes k) ih = ih k h
        go (no k) ih =
            let e : i ≡ n = omega arith in
            let y : f n ≡ true = ap f (sym e) ∙ h in
            ap (λ b. get_or (chosen f line n ++ (cond b (line n ∷ []) [] ++ rest)) (rank f i) blank) y
            ∙ get_or_at (chosen f line n) (line n) rest blank (rank f i) (length-chosen n ∙ ap (rank f) (sym e)) ∙ ap line (sym e)

-- ── lists of places ──
member-here : (q : ℕ) (xs : List ℕ) → member q (q ∷ xs) ≡ true
member-here q xs = rw (eq-eqb q q refl)

member_next : (q x : ℕ) (xs : List ℕ) → member q xs ≡ true → member q (x ∷ xs) ≡ true
member_next q x xs h = go (eqb x q)
  where
    go : (b : Bool) → (b || member q xs) ≡ true
    go true = refl
    go false = h

member_cases : (q x : ℕ) (xs : List ℕ) → member q (x ∷ xs) ≡ true → (x ≡ q) ⊎ (member q xs ≡ true)
member_cases q x xs h = go (eqb x q) refl h
  where
    go : (b : Bool) → eqb x q ≡ b → (b || member q xs) ≡ true → (x ≡ q) ⊎ (member q xs ≡ true)
    go true e h = inl (eqb-true x q e)
    go false e h = inr h

under-member : (n : ℕ) (xs : List ℕ) → AllUnder n xs → (q : ℕ) → member q xs ≡ true → q < n
under-member n [] u q h = absurd (false≢true h)
under-member n (x ∷ xs) u q h = go (member_cases q x xs h) (under-member n xs u.1 q)
  where
    go : (x ≡ q) ⊎ (member q xs ≡ true) → (member q xs ≡ true → q < n) → q < n
    go (inl e) ih = omega (arith, u.0)
    go (inr k) ih = ih k

member_once : (q : ℕ) (xs : List ℕ) → member q xs ≡ true → 1 ≤ times q xs
member_once q [] h = absurd (false≢true h)
member_once q (x ∷ xs) h = go (eqb x q) (member_once q xs) h
  where
    go : (b : Bool) → (member q xs ≡ true → 1 ≤ times q xs) → (b || member q xs) ≡ true → 1 ≤ bit b + times q xs
    go true ih h = omega arith
    go false ih h = omega (arith, ih h)

abbrev any : (ℕ → Bool) → List ℕ → Bool
any g [] = false
any g (x ∷ xs) = g x || any g xs

any_found : (g : ℕ → Bool) (xs : List ℕ) → any g xs ≡ true → (q : ℕ) × (member q xs ≡ true) × (g q ≡ true)
any_found g [] h = absurd (false≢true h)
any_found g (x ∷ xs) h = go (g x) refl h (any_found g xs)
  where
    go : (b : Bool) → g x ≡ b → (b || any g xs) ≡ true → (any g xs ≡ true → (q : ℕ) × (member q xs ≡ true) × (g q ≡ true))
        → (q : ℕ) × (member q (x ∷ xs) ≡ true) × (g q ≡ true)
    go true e h ih = (x, member-here x xs, e)
    go false e h ih = let y = ih h in (y.0, member_next y.0 x xs y.1, y.2)

found_any : (g : ℕ → Bool) (xs : List ℕ) (q : ℕ) → member q xs ≡ true → g q ≡ true → any g xs ≡ true
found_any g [] q h k = absurd (false≢true h)
found_any g (x ∷ xs) q h k = go (member_cases q x xs h) (λ m. found_any g xs q m k)
  where
    there : (b : Bool) → any g xs ≡ true → (b || any g xs) ≡ true
    there true e = refl
    there false e = e

    go : (x ≡ q) ⊎ (member q xs ≡ true) → (member q xs ≡ true → any g xs ≡ true) → (g x || any g xs) ≡ true
    go (inl e) ih = let y : g x ≡ true = ap g e ∙ k in rw y
    go (inr m) ih = there (g x) (ih m)

-- ── nodes by their parts ──
or_false : (b : Bool) → (b || false) ≡ b
or_false true = refl
or_false false = refl

stands-made : (m : Label) (t : ℕ → Tree) (k : Node) (j : ℕ) → stands (made m t k) j ≡ (eqb m.index j || any (λ q. stands (t q) j) (parts k))
stands-made m t (LeafNode Nothing) j = sym (or_false (eqb m.index j))
stands-made m t (LeafNode (Letter c)) j = sym (or_false (eqb m.index j))
stands-made m t (LeafNode (Range a b)) j = sym (or_false (eqb m.index j))
stands-made m t (Sequence a b) j = ap (λ x. eqb m.index j || (stands (t a) j || x)) (sym (or_false (stands (t b) j)))
stands-made m t (Alternative a b) j = ap (λ x. eqb m.index j || (stands (t a) j || x)) (sym (or_false (stands (t b) j)))
stands-made m t (Star again a) j = ap (λ x. eqb m.index j || x) (sym (or_false (stands (t a) j)))

node_good-renumbered : (g : ℕ → ℕ) (k : Node) → node_good (renumbered g k) ≡ node_good k
node_good-renumbered g (LeafNode x) = refl
node_good-renumbered g (Sequence a b) = refl
node_good-renumbered g (Alternative a b) = refl
node_good-renumbered g (Star again a) = refl

good-afresh : (g : ℕ → ℕ) (x : Line) → line_good (afresh g x) ≡ line_good x
unfolding line_good
good-afresh g x = ap (λ b. leb x.account account_limit && b) (node_good-renumbered g x.node)

parts-renumbered : (g : ℕ → ℕ) (k : Node) → parts (renumbered g k) ≡ map g (parts k)
parts-renumbered g (LeafNode x) = refl
parts-renumbered g (Sequence a b) = refl
parts-renumbered g (Alternative a b) = refl
parts-renumbered g (Star again a) = refl

below-renumbered : (g : ℕ → ℕ) (i : ℕ) (k : Node) → ((q : ℕ) → member q (parts k) ≡ true → g q < i) → Below i (renumbered g k)
below-renumbered g i (LeafNode x) h = tt
below-renumbered g i (Sequence a b) h = (h a (member-here a (b ∷ [])), h b (member_next b a (b ∷ []) (member-here b [])))
below-renumbered g i (Alternative a b) h = (h a (member-here a (b ∷ [])), h b (member_next b a (b ∷ []) (member-here b [])))
below-renumbered g i (Star again a) h = h a (member-here a [])

-- a node over the trees of its parts: at their new places, and with new labels
made-renumbered : (m : Label) (g : ℕ → ℕ) (t u : ℕ → Tree) (k : Node) → ((q : ℕ) → member q (parts k) ≡ true → t (g q) ≡ relabel (new_label g) (u q))
    → made (new_label g m) t (renumbered g k) ≡ relabel (new_label g) (made m u k)
made-renumbered m g t u (LeafNode Nothing) h = refl
made-renumbered m g t u (LeafNode (Letter c)) h = refl
made-renumbered m g t u (LeafNode (Range a b)) h = refl
made-renumbered m g t u (Sequence a b) h =
    ap₂ (λ x y. seq (new_label g m) x y) (h a (member-here a (b ∷ []))) (h b (member_next b a (b ∷ []) (member-here b [])))
made-renumbered m g t u (Alternative a b) h =
    ap₂ (λ x y. alt (new_label g m) x y) (h a (member-here a (b ∷ []))) (h b (member_next b a (b ∷ []) (member-here b [])))
made-renumbered m g t u (Star again a) h = ap (λ x. star (new_label g m) again x) (h a (member-here a []))

-- ── the lines of a tree ──
module _ (p : Pattern) (r : Rules p) where
  abbrev tree : ℕ → Tree
  tree i = tree_of (line_at p) i

  -- q is a part of line i
  abbrev Part : ℕ → ℕ → Type 0
  Part q i = member q (parts (node_at p i)) ≡ true

  part-below : (i q : ℕ) → i < p.count → Part q i → q < i
  part-below i q l h = under-member i (parts (node_at p i)) (parts_below i (node_at p i) (r.lower i l)) q h

  stands-line : (i j : ℕ) → i < p.count → stands (tree i) j ≡ (eqb i j || any (λ q. stands (tree q) j) (parts (node_at p i)))
  stands-line i j l =
      ap (λ x. stands x j) (tree-line (line_at p) i (r.lower i l))
      ∙ stands-made (record { index = i; account = (line_at p i).account }) tree (node_at p i) j

  pub stands_self : (i : ℕ) → i < p.count → stands (tree i) i ≡ true
  stands_self i l = stands-line i i l ∙ rw (eq-eqb i i refl)

  -- what stands in the tree of a part stands in the tree
  stands-part : (i q j : ℕ) → i < p.count → Part q i → stands (tree q) j ≡ true → stands (tree i) j ≡ true
  stands-part i q j l h s = stands-line i j l ∙ go (eqb i j) (found_any (λ x. stands (tree x) j) (parts (node_at p i)) q h s)
    where
      go : (b : Bool) → any (λ x. stands (tree x) j) (parts (node_at p i)) ≡ true → (b || any (λ x. stands (tree x) j) (parts (node_at p i))) ≡ true
      go true e = refl
      go false e = e

  -- line i itself, or in the tree of one of its parts
  stands_cases : (i j : ℕ) → i < p.count → stands (tree i) j ≡ true → (i ≡ j) ⊎ ((q : ℕ) × Part q i × (stands (tree q) j ≡ true))
  stands_cases i j l h = go (eqb i j) refl (sym (stands-line i j l) ∙ h)
    where
      go : (b : Bool) → eqb i j ≡ b → (b || any (λ q. stands (tree q) j) (parts (node_at p i))) ≡ true
          → (i ≡ j) ⊎ ((q : ℕ) × Part q i × (stands (tree q) j ≡ true))
      go true e h = inl (eqb-true i j e)
      go false e h = inr (any_found (λ q. stands (tree q) j) (parts (node_at p i)) h)

  -- all that stands in a tree: it is not above its root, its parts stand there too, and if it is not the root a line that stands there names it
  record Within (i j : ℕ) : Type 0 where
    low : j ≤ i
    parts_too : (q : ℕ) → Part q j → stands (tree i) q ≡ true
    named : (i ≡ j) ⊎ ((k : ℕ) × (k ≤ i) × (stands (tree i) k ≡ true) × Part j k)

  within : (n i j : ℕ) → i < n → i < p.count → stands (tree i) j ≡ true → Within i j
  within zero i j b l h = absurd (omega arith)
  within (suc n) i j b l h = go (stands_cases i j l h) (λ x. within n x j)
    where
      deeper : (q : ℕ) → Part q i → Within q j → Within i j
      deeper q a w = record {
        low = omega (arith, w.low, part-below i q l a);
        parts_too = λ x y. stands-part i q x l a (w.parts_too x y);
        named = above w.named;
      }
        where
          above : (q ≡ j) ⊎ ((k : ℕ) × (k ≤ q) × (stands (tree q) k ≡ true) × Part j k)
              → (i ≡ j) ⊎ ((k : ℕ) × (k ≤ i) × (stands (tree i) k ≡ true) × Part j k)
          above (inl e) = inr (i, omega arith, stands_self i l, subst (λ x. Part x i) e a)
          above (inr y) = inr (y.0, omega (arith, y.1, part-below i q l a), stands-part i q y.0 l a y.2, y.3)

      go : (i ≡ j) ⊎ ((q : ℕ) × Part q i × (stands (tree q) j ≡ true))
          → ((x : ℕ) → x < n → x < p.count → stands (tree x) j ≡ true → Within x j) → Within i j
      go (inl e) ih = record {
        low = omega arith;
        parts_too = λ q a.
            let c : Part q i = subst (λ x. Part q x) (sym e) a in
            stands-part i q q l c (stands_self q (omega (arith, part-below i q l c)));
        named = inl e;
      }
      go (inr y) ih =
          let c = part-below i y.0 l y.1 in
          deeper y.0 y.1 (ih y.0 (omega arith) (omega arith) y.2)

  -- ── the pattern of node l ──
  module _ (l : ℕ) (h : l < p.count) where
    abbrev keep : ℕ → Bool
    keep i = kept p l i

    abbrev new : ℕ → ℕ
    new i = rank keep i

    abbrev q : Pattern
    q = sub_pattern p l

    all_within : (j : ℕ) → keep j ≡ true → Within l j
    all_within j k = within (suc l) l j (omega arith) h k

    pub sub-count : q.count ≡ suc (new l)
    unfolding sub_pattern table
    sub-count = length-chosen keep (λ i. afresh new (line_at p i)) (suc l) ∙ rank_on keep l (stands_self l h)

    pub sub_line : (i : ℕ) → i ≤ l → keep i ≡ true → line_at q (new i) ≡ afresh new (line_at p i)
    unfolding sub_pattern table
    sub_line i b k =
        chosen_at keep (λ x. afresh new (line_at p x)) (suc l) i (replicate (64 - length (sub_lines p l)) blank) (omega arith) k

    -- every line of it is a line of the tree
    pub sub_of : (x : ℕ) → x < q.count → (i : ℕ) × (i ≤ l) × (keep i ≡ true) × (new i ≡ x)
    sub_of x b =
        let y = rank_of keep (suc l) x (omega (arith, sub-count, rank_on keep l (stands_self l h))) in (y.0, omega (arith, y.1), y.2, y.3)

    sub_lower : (i : ℕ) → i ≤ l → keep i ≡ true → Below (new i) (node_at q (new i))
    sub_lower i b k =
        subst (λ x. Below (new i) x.node) (sym (sub_line i b k))
        (below-renumbered new (new i) (node_at p i)
        (λ x a. rank_less keep x i (part-below i x (omega arith) a) ((all_within i k).parts_too x a)))

    -- how often the kept lines below n name line j
    abbrev named : (j n : ℕ) → ℕ
    named j zero = 0
    named j (suc n) = cond (keep n) (times j (parts (node_at p n))) 0 + named j n

    times-new : (j : ℕ) → keep j ≡ true → (xs : List ℕ) → ((x : ℕ) → member x xs ≡ true → keep x ≡ true) → times (new j) (map new xs) ≡ times j xs
    times-new j k [] a = refl
    times-new j k (x ∷ xs) a =
        ap₂ (λ b n. bit b + n) (rank-eqb keep x j (a x (member-here x xs)) k) (times-new j k xs (λ y m. a y (member_next y x xs m)))

    sub_named : (j : ℕ) → keep j ≡ true → (n : ℕ) → n ≤ suc l → times (new j) (named_below q (new n)) ≡ named j n
    sub_named j k zero b = refl
    sub_named j k (suc n) b = go (keep n) refl (sub_named j k n (omega arith))
      where
        go : (c : Bool) → keep n ≡ c → times (new j) (named_below q (new n)) ≡ named j n
            → times (new j) (named_below q (cond c (suc (new n)) (new n))) ≡ cond c (times j (parts (node_at p n))) 0 + named j n
        go true e ih =
            let s : parts (node_at q (new n)) ≡ map new (parts (node_at p n)) =
            ap (λ x. parts x.node) (sub_line n (omega arith) e) ∙ parts-renumbered new (node_at p n) in
            let z : times (new j) (parts (node_at q (new n))) ≡ times j (parts (node_at p n)) =
            ap (times (new j)) s ∙ times-new j k (parts (node_at p n)) (λ x a. (all_within n e).parts_too x a) in
            omega (arith, times-append (new j) (parts (node_at q (new n))) (named_below q (new n)), z, ih)
        go false e ih = omega (arith, ih)

    named_most : (j n : ℕ) → named j n ≤ times j (named_below p n)
    named_most j zero = omega arith
    named_most j (suc n) = go (keep n) (named_most j n)
      where
        go : (b : Bool) → named j n ≤ times j (named_below p n)
            → cond b (times j (parts (node_at p n))) 0 + named j n ≤ times j (parts (node_at p n) ++ named_below p n)
        go true ih = omega (arith, ih, times-append j (parts (node_at p n)) (named_below p n))
        go false ih = omega (arith, ih, times-append j (parts (node_at p n)) (named_below p n))

    named_least : (j k n : ℕ) → k < n → keep k ≡ true → Part j k → 1 ≤ named j n
    named_least j k zero b e a = absurd (omega arith)
    named_least j k (suc n) b e a = go (dec_lt k n) (named_least j k n)
      where
        go : Dec (k < n) → (k < n → keep k ≡ true → Part j k → 1 ≤ named j n) → 1 ≤ cond (keep n) (times j (parts (node_at p n))) 0 + named j n
        go (yes c) ih = omega (arith, ih c e a)
        go (no c) ih =
            let d : k ≡ n = omega arith in
            let y : keep n ≡ true = ap keep (sym d) ∙ e in
            let z : 1 ≤ times j (parts (node_at p n)) = member_once j (parts (node_at p n)) (subst (λ x. Part j x) d a) in
            rw y (omega arith)

    sub_once : (x : ℕ) → suc x < q.count → times x (named_below q q.count) ≡ 1
    sub_once x b = go (sub_of x (omega arith))
      where
        go : (i : ℕ) × (i ≤ l) × (keep i ≡ true) × (new i ≡ x) → times x (named_below q q.count) ≡ 1
        go (j, m, k, e) =
            let w = all_within j k in
            let s : times (new j) (named_below q (new (suc l))) ≡ named j (suc l) = sub_named j k (suc l) (omega arith) in
            let c : new (suc l) ≡ q.count = rank_on keep l (stands_self l h) ∙ sym sub-count in
            let d : suc l + (p.count - suc l) ≡ p.count = omega arith in
            let t : times j (named_below p (suc l)) ≤ times j (named_below p p.count) = rw d at (named_mono p j (suc l) (p.count - suc l)) in
            let u : l ≡ j → ⊥ = λ y. omega (arith, ap new y, sub-count) in
            let o : 1 ≤ named j (suc l) = once u w.named in
            let v : j < l = omega (arith, u) in
            subst (λ y. times y (named_below q q.count) ≡ 1) e
            (subst (λ y. times (new j) (named_below q y) ≡ 1) c
            (omega (arith, s, t, o, named_most j (suc l), r.once j (omega arith))))
          where
            once : (l ≡ j → ⊥) → (l ≡ j) ⊎ ((k : ℕ) × (k ≤ l) × (stands (tree l) k ≡ true) × Part j k) → 1 ≤ named j (suc l)
            once u (inl y) = absurd (u y)
            once u (inr y) = named_least j y.0 (suc l) (omega (arith, y.1)) y.2 y.3

    pub sub_rules : Rules q
    sub_rules = record {
      one = omega (arith, sub-count);
      few = omega (arith, sub-count, rank_most keep l, r.few);
      formed = λ x b. formed x (sub_of x b);
      lower = λ x b. lower x (sub_of x b);
      once = sub_once;
    }
      where
        formed : (x : ℕ) → (i : ℕ) × (i ≤ l) × (keep i ≡ true) × (new i ≡ x) → line_good (line_at q x) ≡ true
        formed x (i, b, k, e) =
            ap (λ y. line_good (line_at q y)) (sym e) ∙ ap line_good (sub_line i b k) ∙ good-afresh new (line_at p i) ∙ r.formed i (omega arith)

        lower : (x : ℕ) → (i : ℕ) × (i ≤ l) × (keep i ≡ true) × (new i ≡ x) → Below x (node_at q x)
        lower x (i, b, k, e) = subst (λ y. Below y (node_at q y)) e (sub_lower i b k)

    -- the tree of a kept line, by its new place
    sub_trees : (n i : ℕ) → i < n → i ≤ l → keep i ≡ true → tree_of (line_at q) (new i) ≡ relabel (new_label new) (tree i)
    sub_trees zero i a b k = absurd (omega arith)
    sub_trees (suc n) i a b k =
        tree-line (line_at q) (new i) (sub_lower i b k)
        ∙ ap (λ x. made (record { index = new i; account = x.account }) (tree_of (line_at q)) x.node) (sub_line i b k)
        ∙ made-renumbered (record { index = i; account = (line_at p i).account }) new (tree_of (line_at q)) tree (node_at p i)
        (λ x y. let c = part-below i x (omega arith) y in sub_trees n x (omega arith) (omega arith) ((all_within i k).parts_too x y))
        ∙ ap (relabel (new_label new)) (sym (tree-line (line_at p) i (r.lower i (omega arith))))

    pub sub-root : root q ≡ relabel (new_label new) (tree l)
    unfolding root
    sub-root =
        let e : q.count - 1 ≡ new l = omega (arith, sub-count) in
        ap (tree_of (line_at q)) e ∙ sub_trees (suc l) l (omega arith) (omega arith) (stands_self l h)

    pub sub_tree : Alike (tree l) (root q)
    sub_tree = subst (λ t. Alike (tree l) t) (sym sub-root) (alike_relabel (new_label new) (tree l))

-- 01's rules hold of it if they hold of the whole
pub sub_obeys : (p : Pattern) (l : ℕ) → obeys p ≡ true → l < p.count → obeys (sub_pattern p l) ≡ true
sub_obeys p l o h = (obeys_iff (sub_pattern p l)).1 (sub_rules p ((obeys_iff p).0 o) l h)
