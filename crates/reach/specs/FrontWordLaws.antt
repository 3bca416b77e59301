-- LAWS of reading from the start over the masks: what is computed by words is the reach.
use Rattle.std.specs.Prelude.{◌≡◌, refl, ◌&&◌, ◌||◌, not, ◌↔◌, List, [], ◌∷◌, ◌++◌, eqb}
use Rattle.std.proofs.Math.Path.{sym, ap}
use Rattle.std.proofs.Common.{◌∙◌, ⊎_elim, append_assoc, arith, pow_pos}
use Rattle.std.proofs.Math.Bool.{Bool, true, false, cond, and-true}
use Rattle.std.proofs.lemmas.Bool.{false≢true}
use Prim.Native.Nat.{ℕ, zero, suc, ◌-◌, ◌*◌, ◌^◌, ◌≤◌, ◌<◌}
use Rattle.std.proofs.Math.Decide.{dec_lt}
use Rattle.std.proofs.Math.Dec.{ltb}
use Rattle.std.specs.Int.Bits.{bit_and}
use Rattle.std.proofs.lemmas.Nat.{and_le_r}
use Rattle.std.specs.Int.Count.{count_trailing_zeros}
use borrow.Author.Tests.{lt-ltb, le-ltb}
use Rattle.syntax.specs.declared.Pattern.{Pattern}
use Rattle.syntax.specs.Letter.{is_letter}
use Rattle.syntax.specs.Table.{line_at}
use Rattle.syntax.specs.Tree.{index}
use Rattle.syntax.specs.Trees.{tree_of, root}
use Rattle.syntax.specs.TreeLaws.{Rules, made-index, tree-line}
use Rattle.bits.specs.Bits.{bit, test_bit}
use Rattle.bits.specs.Numbers.{test_small}
use Rattle.bits.specs.Words.{test_and, test_single, single_lt}
use Rattle.bits.specs.Lowest.{lowest_set}
use Rattle.bits.specs.Unions.{any_to, any_same, any_one, union, union-bit, union_lt}
use Rattle.semantics.specs.Automaton.{top}
use Rattle.semantics.specs.Sweeps.{at_end, readable}
use Rattle.semantics.proofs.Basics.{and_fst, and_snd, and_intro, or_left, or_right, or_cases, not-both, eqb_self, eqb_eq}
use Rattle.semantics.proofs.FirstSweepLaws.{bool_ext}
use Rattle.semantics.specs.Every.{All}
use Rattle.semantics.specs.Begins.{Begins, Reach}
use Rattle.semantics.proofs.BeginLaws.{root_stocked, onward, begins_iff, begins_none}
use Rattle.semantics.specs.Fronts.{reach_of}
use Rattle.semantics.specs.Followed.{Follows}
use Rattle.semantics.proofs.FrontLaws.{reading-reach, reach_of_only}
use Rattle.table.specs.Cells.{follower_in, loops_in, Followed, Holds}
use Rattle.masks.specs.Leaves.{takes, takers, entry}
use Rattle.masks.specs.Masks.{MasksOf}
use Rattle.masks.specs.Nodes.{word_past_last}
use Rattle.steps.specs.StateSets.{state_set}
use Rattle.steps.specs.StateLaws.{state_bit}
use Rattle.steps.specs.Steps.{open_next, live, next-node, stepped-right, step-stepped}
use Rattle.reach.specs.FrontWords.{has_any, matched_leaves, state_word, following, root_word, reach_from, reach_words}

-- ---- whether some number passes
pub any_in : (n : ℕ) (g : ℕ → Bool) (x : ℕ) → x < n → g x ≡ true → any_to n g ≡ true
any_in zero g x h e = absurd (omega arith)
any_in (suc n) g x h e = go (λ l. any_in n g x l e) (dec_lt x n)
  where
    go : (x < n → any_to n g ≡ true) → Dec (x < n) → (g n || any_to n g) ≡ true
    go ih (yes l) = or_right (g n) (ih l)
    go ih (no l) = let q : x ≡ n = omega arith in or_left (any_to n g) (ap g (sym q) ∙ e)

pub any_out : (n : ℕ) (g : ℕ → Bool) → any_to n g ≡ true → (x : ℕ) × (x < n) × (g x ≡ true)
any_out zero g e = absurd (false≢true e)
any_out (suc n) g e =
    ⊎_elim (λ h. (n, omega arith, h)) (λ h. let q = any_out n g h.1 in (q.0, omega (arith, q.1), q.2)) (or_cases (g n) (any_to n g) e)

-- two searches, one within the other, in either order
any-across : (n m : ℕ) (a b : ℕ → Bool) (r : ℕ → ℕ → Bool)
    → any_to n (λ x. a x && any_to m (λ y. b y && r y x)) ≡ any_to m (λ y. b y && any_to n (λ x. a x && r y x))
any-across n m a b r =
    bool_ext (any_to n (λ x. a x && any_to m (λ y. b y && r y x))) (any_to m (λ y. b y && any_to n (λ x. a x && r y x)))
    (λ e.
    let (x, hx, f) = any_out n (λ x. a x && any_to m (λ y. b y && r y x)) e in
    let (y, hy, g) = any_out m (λ y. b y && r y x) (and_snd (a x) (any_to m (λ y. b y && r y x)) f) in
    any_in m (λ y. b y && any_to n (λ x. a x && r y x)) y hy (and_intro (and_fst (b y) (r y x) g)
    (any_in n (λ x. a x && r y x) x hx (and_intro (and_fst (a x) (any_to m (λ y. b y && r y x)) f) (and_snd (b y) (r y x) g)))))
    (λ e.
    let (y, hy, f) = any_out m (λ y. b y && any_to n (λ x. a x && r y x)) e in
    let (x, hx, g) = any_out n (λ x. a x && r y x) (and_snd (b y) (any_to n (λ x. a x && r y x)) f) in
    any_in n (λ x. a x && any_to m (λ y. b y && r y x)) x hx (and_intro (and_fst (a x) (r y x) g)
    (any_in m (λ y. b y && r y x) y hy (and_intro (and_fst (b y) (any_to n (λ x. a x && r y x)) f) (and_snd (a x) (r y x) g)))))

-- a word is empty exactly if no bit is set
pub any-bit : (x : ℕ) → x < 2 ^ 64 → has_any x ≡ any_to 64 (test_bit x)
any-bit x h = bool_ext (has_any x) (any_to 64 (test_bit x))
    (λ e. let l = lowest_set 64 x (some x e) h in any_in 64 (test_bit x) (count_trailing_zeros 64 x) l.0 l.1)
    (λ e. let (y, hy, f) = any_out 64 (test_bit x) e in other (eqb x 0) refl y f)
  where
    some : (x : ℕ) → not (eqb x 0) ≡ true → 1 ≤ x
    some zero e = absurd (false≢true e)
    some (suc x) e = omega arith

    other : (b : Bool) → eqb x 0 ≡ b → (y : ℕ) → test_bit x y ≡ true → not b ≡ true
    other true e y f = absurd (not-both f (ap (λ z. test_bit z y) (eqb_eq x 0 e) ∙ test_small 0 y (pow_pos y)))
    other false e y f = refl

and_swap : (a b : Bool) → (a && b) ≡ (b && a)
and_swap true true = refl
and_swap true false = refl
and_swap false true = refl
and_swap false false = refl

-- two words meet where both have a bit
pub meets_bit : (a n : ℕ) → n < 2 ^ 64 → has_any (bit_and a n) ≡ any_to 64 (λ x. test_bit n x && test_bit a x)
meets_bit a n h =
    any-bit (bit_and a n) (omega (arith, and_le_r a n))
    ∙ any_same 64 (test_bit (bit_and a n)) (λ x. test_bit n x && test_bit a x) (λ x l. test_and a n x ∙ and_swap (test_bit a x) (test_bit n x))

-- ---- the leaves that are matched, and their followers, by bits
pub matched-bit : (os : List ℕ) (n k y : ℕ) → y < 64 → test_bit (matched_leaves os n k) y ≡ (test_bit k y && has_any (bit_and (entry os y) n))
unfolding matched_leaves
matched-bit os n k y h =
    union-bit 64 (λ x. test_bit k x && has_any (bit_and (entry os x) n)) (λ x. 1 * 2 ^ x) y
    ∙ any_same 64 (λ x. (test_bit k x && has_any (bit_and (entry os x) n)) && test_bit (1 * 2 ^ x) y)
    (λ x. (test_bit k x && has_any (bit_and (entry os x) n)) && eqb x y)
    (λ x l. ap (λ z. (test_bit k x && has_any (bit_and (entry os x) n)) && z) (test_single x true y ∙ and-true (eqb x y)))
    ∙ any_one 64 y (λ x. test_bit k x && has_any (bit_and (entry os x) n)) h

pub matched_lt : (os : List ℕ) (n k : ℕ) → matched_leaves os n k < 2 ^ 64
unfolding matched_leaves
matched_lt os n k = union_lt 64 64 (λ x. test_bit k x && has_any (bit_and (entry os x) n)) (λ x. 1 * 2 ^ x) (λ x h. single_lt x true 64 h)

state_lt : (f : ℕ) → state_word f < 2 ^ 64
state_lt f = go (dec_lt f 64)
  where
    go : Dec (f < 64) → bit (ltb f 64) * 2 ^ f < 2 ^ 64
    go (yes h) = single_lt f (ltb f 64) 64 h
    go (no h) = rw (le-ltb f 64 (omega arith)) (omega (arith, pow_pos 64))

pub following_lt : (ts : List ℕ) (m : ℕ) → following ts m < 2 ^ 64
unfolding following
following_lt ts m = union_lt 64 64 (test_bit m) (λ y. state_word (follower_in ts y)) (λ x h. state_lt (follower_in ts x))

-- the only bit of a state's word is the state's own
state_any : (s : ℕ → Bool) (f : ℕ) → any_to 64 (λ x. s x && test_bit (state_word f) x) ≡ cond (ltb f 64) (s f) false
state_any s f =
    any_same 64 (λ x. s x && test_bit (state_word f) x) (λ x. (s x && ltb f 64) && eqb x f) (λ x l. bits x)
    ∙ go (dec_lt f 64)
  where
    turn : (a b c : Bool) → (a && (b && c)) ≡ ((a && c) && b)
    turn true true c = sym (and-true c)
    turn true false true = refl
    turn true false false = refl
    turn false b c = refl

    eqb_swap : (m n : ℕ) → eqb m n ≡ eqb n m
    eqb_swap m n = bool_ext (eqb m n) (eqb n m) (λ e. ap (λ x. eqb n x) (eqb_eq m n e) ∙ eqb_self n) (λ e. ap (λ x. eqb m x) (eqb_eq n m e) ∙ eqb_self m)

    bits : (x : ℕ) → (s x && test_bit (state_word f) x) ≡ ((s x && ltb f 64) && eqb x f)
    bits x = ap (λ z. s x && z) (test_single f (ltb f 64) x ∙ ap (λ z. z && ltb f 64) (eqb_swap f x)) ∙ turn (s x) (eqb x f) (ltb f 64)

    none : (n : ℕ) (g : ℕ → Bool) → ((x : ℕ) → g x ≡ false) → any_to n g ≡ false
    none zero g h = refl
    none (suc n) g h = rw (h n) (none n g h)

    shut : (a b c : Bool) → c ≡ false → ((a && c) && b) ≡ false
    shut true b c e = ap (λ z. z && b) e
    shut false b c e = refl

    go : Dec (f < 64) → any_to 64 (λ x. (s x && ltb f 64) && eqb x f) ≡ cond (ltb f 64) (s f) false
    go (yes h) =
        any_one 64 f (λ x. s x && ltb f 64) h ∙ ap (λ z. s f && z) (lt-ltb f 64 h) ∙ and-true (s f)
        ∙ sym (ap (λ z. cond z (s f) false) (lt-ltb f 64 h))
    go (no h) =
        let l : ltb f 64 ≡ false = le-ltb f 64 (omega arith) in
        none 64 (λ x. (s x && ltb f 64) && eqb x f) (λ x. shut (s x) (eqb x f) (ltb f 64) l) ∙ sym (ap (λ z. cond z (s f) false) l)

-- ---- what the words are after the letters read
module _ (p : Pattern) (r : Rules p) (zs os ts ks : List ℕ) (e : ℕ) (held : Holds p ts) (good : MasksOf (root p) p.count zs os ks e) where
  -- the flag 1 word of letters, by the leaves that are open before them
  open_word : (c : ℕ) (z : List ℕ) → is_letter c ≡ true
      → state_set p true (c ∷ z) ≡ union 64 (live (entry ks c) (state_set p true z) (at_end true z) (follower_in ts)) (entry os)
  open_word c z h =
      sym (ap (λ x. x.one) (step-stepped p r zs os ts ks e held good c (state_set p true z) (at_end true z) h) ∙ stepped-right p r true c z)

  -- from a set of nodes on: letters that one of them reads are read by one of the leaves that are matched
  module _ (n : ℕ) (few : n < 2 ^ 64) (c : ℕ) (h : is_letter c ≡ true) where
    leaves : ℕ
    leaves = matched_leaves os n (entry ks c)

    nodes_leaves : (z : List ℕ)
        → any_to 64 (λ x. test_bit n x && test_bit (state_set p true (c ∷ z)) x) ≡ any_to 64
        (λ y. test_bit leaves y && open_next (state_set p true z) (at_end true z) (follower_in ts y))
    unfolding leaves
    nodes_leaves z =
        any_same 64 (λ x. test_bit n x && test_bit (state_set p true (c ∷ z)) x)
        (λ x. test_bit n x && any_to 64 (λ y. here y && test_bit (entry os y) x))
        (λ x l. ap (λ v. test_bit n x && v) (ap (λ v. test_bit v x) (open_word c z h) ∙ union-bit 64 here (entry os) x))
        ∙ any-across 64 64 (test_bit n) here (λ y x. test_bit (entry os y) x)
        ∙ any_same 64 (λ y. here y && any_to 64 (λ x. test_bit n x && test_bit (entry os y) x))
        (λ y. test_bit leaves y && open_next (state_set p true z) (at_end true z) (follower_in ts y))
        (λ y l. ap (λ v. here y && v) (sym (meets_bit (entry os y) n few))
        ∙ turn (test_bit (entry ks c) y) (open_next (state_set p true z) (at_end true z) (follower_in ts y)) (has_any (bit_and (entry os y) n))
        ∙ ap (λ v. v && open_next (state_set p true z) (at_end true z) (follower_in ts y)) (sym (matched-bit os n (entry ks c) y l)))
      where
        here : ℕ → Bool
        here = live (entry ks c) (state_set p true z) (at_end true z) (follower_in ts)

        turn : (a b d : Bool) → ((a && b) && d) ≡ ((a && d) && b)
        turn true b d = and_swap b d
        turn false b d = refl

    -- and after one letter more, by one of their followers
    leaves_nodes : (d : ℕ) (z : List ℕ)
        → any_to 64 (λ y. test_bit leaves y && open_next (state_set p true (d ∷ z)) false (follower_in ts y)) ≡ any_to 64
        (λ x. test_bit (following ts leaves) x && test_bit (state_set p true (d ∷ z)) x)
    unfolding following
    leaves_nodes d z =
        any_same 64 (λ y. test_bit leaves y && open_next next false (follower_in ts y))
        (λ y. test_bit leaves y && any_to 64 (λ x. test_bit next x && test_bit (state_word (follower_in ts y)) x))
        (λ y l. ap (λ v. test_bit leaves y && v) (sym (state_any (test_bit next) (follower_in ts y))))
        ∙ any-across 64 64 (test_bit leaves) (test_bit next) (λ x y. test_bit (state_word (follower_in ts y)) x)
        ∙ any_same 64 (λ x. test_bit next x && any_to 64 (λ y. test_bit leaves y && test_bit (state_word (follower_in ts y)) x))
        (λ x. test_bit (union 64 (test_bit leaves) (λ y. state_word (follower_in ts y))) x && test_bit next x)
        (λ x l. and_swap (test_bit next x) (any_to 64 (λ y. test_bit leaves y && test_bit (state_word (follower_in ts y)) x))
        ∙ ap (λ v. v && test_bit next x) (sym (union-bit 64 (test_bit leaves) (λ y. state_word (follower_in ts y)) x)))
      where
        next : ℕ
        next = state_set p true (d ∷ z)

    -- after a leaf that is matched some letters can be read
    leaf_onward : (y : ℕ) → y < 64 → test_bit leaves y ≡ true
        → (z : List ℕ) × (open_next (state_set p true z) (at_end true z) (follower_in ts y) ≡ true)
    unfolding leaves takers
    leaf_onward y l b = go (dec_lt y p.count)
      where
        takes_it : test_bit (takers (root p) p.count c) y ≡ true
        takes_it =
            ap (λ k. test_bit k y) (sym (good.letters c h))
            ∙ and_fst (test_bit (entry ks c) y) (has_any (bit_and (entry os y) n)) (sym (matched-bit os n (entry ks c) y l) ∙ b)

        line : Followed (root p) y (follower_in ts y) (loops_in ts y)
            → (z : List ℕ) × (open_next (state_set p true z) (at_end true z) (follower_in ts y) ≡ true)
        line q =
            let o = onward (root_stocked p r) q.node.place in (
              o.0,
              and_snd (not (loops_in ts y) || true) (open_next (state_set p true o.0) (at_end true o.0) (follower_in ts y))
                  (next-node p r true o.0 (follower_in ts y) (loops_in ts y) q.node.tree q.node.place
                  (record { node = record { tree = q.node.tree; place = q.node.place; is = refl }; is = q.is; above = q.above }) ∙ o.1),
            )

        go : Dec (y < p.count) → (z : List ℕ) × (open_next (state_set p true z) (at_end true z) (follower_in ts y) ≡ true)
        go (yes k) = line (held.follows y k)
        go (no k) = absurd (not-both takes_it (word_past_last (root p) p.count (λ t s. takes t c) y (omega arith)))

  -- the nodes that are entered with flag 1 after the letters u: u begins a tape, and what follows is read by one of these nodes
  pub record NodesBehind (n : ℕ) (u : List ℕ) : Type 0 where
    pub few : n < 2 ^ 64
    pub begins : Begins (root p) u
    pub reads : (c : ℕ) (z : List ℕ) → is_letter c ≡ true
        → readable (root p) (u ++ (c ∷ z)) ≡ any_to 64 (λ x. test_bit n x && test_bit (state_set p true (c ∷ z)) x)

  root-index : index (root p) ≡ p.count - 1
  unfolding root
  root-index =
      let one = r.one in
      ap index (tree-line (line_at p) (p.count - 1) (r.lower (p.count - 1) (omega arith)))
      ∙ made-index (record { index = p.count - 1; account = (line_at p (p.count - 1)).account }) (tree_of (line_at p)) (line_at p (p.count - 1)).node

  last_lt : p.count - 1 < 64
  last_lt = let one = r.one in let few = r.few in omega arith

  root-behind : NodesBehind (root_word p.count) []
  unfolding readable
  root-behind = record {
    few = single_lt (p.count - 1) true 64 last_lt;
    begins = begins_none (root p) (root_stocked p r);
    reads = λ c z h. sym (only (test_bit (state_set p true (c ∷ z))) ∙ ap (test_bit (state_set p true (c ∷ z))) (sym root-index)
        ∙ state_bit p r true (c ∷ z) (root p) top);
  }
    where
      only : (s : ℕ → Bool) → any_to 64 (λ x. test_bit (1 * 2 ^ (p.count - 1)) x && s x) ≡ s (p.count - 1)
      only s =
          let l : ltb (p.count - 1) 64 ≡ true = lt-ltb (p.count - 1) 64 last_lt in
          any_same 64 (λ x. test_bit (1 * 2 ^ (p.count - 1)) x && s x) (λ x. s x && test_bit (state_word (p.count - 1)) x)
          (λ x k. and_swap (test_bit (1 * 2 ^ (p.count - 1)) x) (s x) ∙ ap (λ v. s x && test_bit (bit v * 2 ^ (p.count - 1)) x) (sym l))
          ∙ state_any s (p.count - 1) ∙ ap (λ v. cond v (s (p.count - 1)) false) l

  module _ (n : ℕ) (u : List ℕ) (c : ℕ) (h : is_letter c ≡ true) (i : NodesBehind n u) where
    reads_leaves : (z : List ℕ)
        → readable (root p) ((u ++ (c ∷ [])) ++ z) ≡ any_to 64
        (λ y. test_bit (leaves n i.few c h) y && open_next (state_set p true z) (at_end true z) (follower_in ts y))
    reads_leaves z = ap (readable (root p)) (append_assoc u (c ∷ []) z) ∙ i.reads c z h ∙ nodes_leaves n i.few c h z

    leaves_on : has_any (matched_leaves os n (entry ks c)) ≡ true → NodesBehind (following ts (matched_leaves os n (entry ks c))) (u ++ (c ∷ []))
    unfolding leaves
    leaves_on a = record {
      few = following_lt ts (matched_leaves os n (entry ks c));
      begins = begin (any_out 64 (test_bit (matched_leaves os n (entry ks c)))
          (sym (any-bit (matched_leaves os n (entry ks c)) (matched_lt os n (entry ks c))) ∙ a));
      reads = λ d z g. reads_leaves (d ∷ z) ∙ leaves_nodes n i.few c h d z;
    }
      where
        begin : (y : ℕ) × (y < 64) × (test_bit (matched_leaves os n (entry ks c)) y ≡ true) → Begins (root p) (u ++ (c ∷ []))
        begin (y, l, b) =
            let o = leaf_onward n i.few c h y l b in
            (begins_iff (root p) (u ++ (c ∷ []))).1 (
              o.0,
              reads_leaves o.0
                  ∙ any_in 64
                  (λ y. test_bit (matched_leaves os n (entry ks c)) y && open_next (state_set p true o.0) (at_end true o.0) (follower_in ts y)) y l
                  (and_intro b o.1),
            )

    leaves_none : has_any (matched_leaves os n (entry ks c)) ≡ false → Begins (root p) (u ++ (c ∷ [])) → ⊥
    unfolding leaves
    leaves_none a b =
        let q = (begins_iff (root p) (u ++ (c ∷ []))).0 b in
        let (y, l, g) = any_out 64
        (λ y. test_bit (matched_leaves os n (entry ks c)) y && open_next (state_set p true q.0) (at_end true q.0) (follower_in ts y))
        (sym (reads_leaves q.0) ∙ q.1) in
        not-both
        (any-bit (matched_leaves os n (entry ks c)) (matched_lt os n (entry ks c))
        ∙ any_in 64 (test_bit (matched_leaves os n (entry ks c))) y l
        (and_fst (test_bit (matched_leaves os n (entry ks c)) y) (open_next (state_set p true q.0) (at_end true q.0) (follower_in ts y)) g)) a

    -- which letters may follow u: those by which some leaf is matched
    pub allowed_words_iff : (has_any (matched_leaves os n (entry ks c)) ≡ true) ↔ Begins (root p) (u ++ (c ∷ []))
    allowed_words_iff = (λ a. (leaves_on a).begins, λ b. go (has_any (matched_leaves os n (entry ks c))) refl b)
      where
        go : (v : Bool) → has_any (matched_leaves os n (entry ks c)) ≡ v → Begins (root p) (u ++ (c ∷ [])) → v ≡ true
        go true a b = refl
        go false a b = absurd (leaves_none a b)

  abbrev Letter : ℕ → Type 0
  Letter c = is_letter c ≡ true

  nodes_follow : Follows (λ x c. matched_leaves os x (entry ks c)) has_any (following ts) (root p) Letter NodesBehind
  nodes_follow = record {
    begun = λ n u i. i.begins;
    on = λ n u c h i a. leaves_on n u c h i a;
    stop = λ n u c h i a b. leaves_none n u c h i a b;
  }

  -- THE NUMBER COMPUTED BY WORDS IS THE REACH, of every list of letters
  pub reach_words-reach : (w : List ℕ) → All (λ c. is_letter c ≡ true) w → Reach (root p) w (reach_words os ts ks p.count w)
  unfolding reach_words reach_from
  reach_words-reach w g =
      reading-reach (λ x c. matched_leaves os x (entry ks c)) has_any (following ts) (root p) Letter NodesBehind nodes_follow w g
      (root_word p.count) root-behind

  -- so it is the number computed over the tree
  pub reach_words_of : (w : List ℕ) → All (λ c. is_letter c ≡ true) w → reach_words os ts ks p.count w ≡ reach_of (root p) w
  reach_words_of w g = reach_of_only (root p) (root_stocked p r) w (reach_words os ts ks p.count w) (reach_words-reach w g)
