-- ONE POSITION FROM THE NEXT: the state sets of a position from the letter there and the flag 1 state set of the next position,
-- as the union of the masks of the leaves that take the letter and whose follower is open behind it.
use Rattle.std.specs.Prelude.{◌≡◌, refl, Bool, ◌&&◌, ◌||◌, not, cond, List, [], ◌∷◌, ℕ, zero, suc, ◌≤◌, ◌<◌, ltb}
use Rattle.std.proofs.Math.Path.{sym, ap, ap₂}
use Rattle.std.proofs.Common.{◌∙◌, true≢false, arith, lt-ltb, le-ltb}
use Rattle.std.proofs.Math.Bool.{true, false, or-true}
use Rattle.std.proofs.Math.Decide.{dec_lt}
use Rattle.std.specs.Int.Bits.{bit_or, or_zero_l, or_zero_r}
use Rattle.syntax.specs.declared.Pattern.{Pattern}
use Rattle.syntax.specs.Letter.{is_letter}
use Rattle.syntax.specs.Tree.{Tree, letter, range, index}
use Rattle.syntax.specs.Trees.{root}
use Rattle.syntax.specs.TreeLaws.{Rules}
use Rattle.bits.specs.Bits.{test_bit}
use Rattle.semantics.specs.Automaton.{Location, State, end, at, follower}
use Rattle.semantics.specs.Sweeps.{at_end}
use Rattle.semantics.specs.Passing.{loops, after, can_from}
use Rattle.semantics.proofs.AutomatonLaws.{after-follower}
use Rattle.steps.specs.declared.Words.{Words}
use Rattle.masks.specs.Nodes.{node_word, index_lt, word-says, word_past_last}
use Rattle.table.specs.Cells.{follower_in, loops_in, state_index, Followed, Holds}
use Rattle.masks.specs.Leaves.{takes, takers, entry}
use Rattle.masks.specs.Planting.{root_planted, same_node}
use Rattle.masks.specs.Closure.{reaches, nowhere, leaf_mask, end_mask}
use Rattle.masks.specs.Masks.{MasksOf}
use Rattle.bits.specs.Unions.{pick, union, union_same}
use Rattle.steps.specs.StateSets.{state_set}
use Rattle.steps.specs.StateLaws.{state_bit, state_reached, reached_masks}

-- whether a state is open after a letter, with flag 1: a node by its bit in the state set there, the end if that is the tape's end
abbrev pub open_next : (next : ℕ) → (last : Bool) → (state : ℕ) → Bool
open_next next last f = cond (ltb f 64) (test_bit next f) last

-- the leaves that are open: they take the letter here, and their followers are open after it
abbrev pub live : (takers next : ℕ) → (last : Bool) → (followers : ℕ → ℕ) → (leaf : ℕ) → Bool
live k next last f x = test_bit k x && open_next next last (f x)

-- the leaves that are open before a letter, by the tree: they take it, and their followers are open behind it. Behind it may stand any word,
-- a state set or not: 02, Job 6, "If before a call the marks are those of the joined letters under its table, they are so after it".
unfoldable pub open_leaves : Pattern → (letter next : ℕ) → (last : Bool) → ℕ
open_leaves p c next last = node_word (root p) p.count (λ t s. takes t c && open_next next last (state_index (follower s)))

-- THE STEP: the word of a position that has a letter, from the flag 1 word of the next. The nodes that come to an open leaf by empty steps;
-- to the end none comes, since a letter stands before it.
unfoldable pub stepped : Pattern → (flag : Bool) → (letter next : ℕ) → (last : Bool) → ℕ
stepped p b c next last = node_word (root p) p.count (reaches b (test_bit (open_leaves p c next last)) false)

union_none : (n : ℕ) (m : ℕ → ℕ) → union n nowhere m ≡ 0
union_none zero m = refl
union_none (suc n) m = or_zero_l (union n nowhere m) ∙ union_none n m

module _ (p : Pattern) (r : Rules p) where
  -- a node's index is that of a line
  pub place_lt : {t : Tree} (s : Location (root p) t) → index t < p.count
  place_lt s = index_lt (root_planted p r) s

  next_state : (b : Bool) (w : List ℕ) (q : State (root p)) → open_next (state_set p b w) (at_end b w) (state_index q) ≡ can_from q b w
  next_state b w end = ap (λ z. cond z (test_bit (state_set p b w) 64) (at_end b w)) (le-ltb 64 64 (omega arith))
  next_state b w (at t s) =
      ap (λ z. cond z (test_bit (state_set p b w) (index t)) (at_end b w)) (lt-ltb (index t) 64 (omega (arith, index_lt (root_planted p r) s, r.few)))
      ∙ state_bit p r b w t s

  -- a node's follower is open exactly if the rest can be read behind the node; to a star above it is stepped with flag 1 only
  pub next-node :
      (b : Bool) (w : List ℕ) (f : ℕ) (above : Bool) (t : Tree) (s : Location (root p) t) → Followed (root p) (index t) f above
      → ((not above || b) && open_next (state_set p b w) (at_end b w) f) ≡ after s b w
  next-node b w f above t s q =
      ap₂ (λ g y. (not g || b) && y) q.above
      (ap (open_next (state_set p b w) (at_end b w)) q.is ∙ next_state b w (follower q.node.place))
      ∙ sym (after-follower q.node.place b w)
      ∙ same_node (root_planted p r) (λ t s. after s b w) q.node.tree t q.node.place s q.node.is

  -- a letter leaf steps with flag 1
  next_leaf : (w : List ℕ) (t : Tree) (s : Location (root p) t) → open_next (state_set p true w) (at_end true w) (state_index (follower s)) ≡ after s true w
  next_leaf w t s =
      ap (λ g. g && open_next (state_set p true w) (at_end true w) (state_index (follower s))) (sym (or-true (not (loops s))))
      ∙ next-node true w (state_index (follower s)) (loops s) t s (record { node = record { tree = t; place = s; is = refl }; is = refl; above = refl })

  -- THE TAPE'S END: 01, "The end accepts with flag 1." With flag 0 nothing is open there.
  pub state_end : (b : Bool) → state_set p b [] ≡ pick b (end_mask (root p) p.count b)
  state_end b =
      sym (state_reached p r [] nowhere (λ m a s g. refl) (λ m a e s g. refl) b) ∙ reached_masks p r nowhere (λ x h. refl) b b
      ∙ ap (bit_or (pick b (end_mask (root p) p.count b))) (union_none 64 (leaf_mask (root p) p.count b))
      ∙ or_zero_r (pick b (end_mask (root p) p.count b))

  module _ (c next : ℕ) (last : Bool) where
    open-says :
        (t : Tree) (s : Location (root p) t) → test_bit (open_leaves p c next last) (index t) ≡ (takes t c && open_next next last (state_index (follower s)))
    unfolding open_leaves
    open-says t s = word-says (root_planted p r) (λ t s. takes t c && open_next next last (state_index (follower s))) t s

    open_past : (x : ℕ) → p.count ≤ x → test_bit (open_leaves p c next last) x ≡ false
    unfolding open_leaves
    open_past x h = word_past_last (root p) p.count (λ t s. takes t c && open_next next last (state_index (follower s))) x h

    open_inside : (x : ℕ) → test_bit (open_leaves p c next last) x ≡ true → x < p.count
    open_inside x h = go (dec_lt x p.count)
      where
        go : Dec (x < p.count) → x < p.count
        go (yes y) = y
        go (no y) = absurd (true≢false (sym h ∙ open_past x (omega arith)))

  -- A STEP FROM WHAT IS RIGHT IS RIGHT: from the flag 1 state set of some letters, the two of those letters with one more in front
  pub stepped-right : (b : Bool) (c : ℕ) (w : List ℕ) → stepped p b c (state_set p true w) (at_end true w) ≡ state_set p b (c ∷ w)
  unfolding stepped
  stepped-right b c w =
      state_reached p r (c ∷ w) (test_bit (open_leaves p c (state_set p true w) (at_end true w))) (λ m a s g. leaf (letter m a) s)
      (λ m a e s g. leaf (range m a e) s) b
    where
      leaf :
          (t : Tree) (s : Location (root p) t) → test_bit (open_leaves p c (state_set p true w) (at_end true w)) (index t) ≡ (takes t c && after s true w)
      leaf t s = open-says c (state_set p true w) (at_end true w) t s ∙ ap (λ y. takes t c && y) (next_leaf w t s)

-- ---- over what is stored
-- the step over the masks as they are stored and the followers of a packed table
abbrev pub step_of : (zero one table : List ℕ) → (takers next : ℕ) → (last : Bool) → Words
step_of zs os ts k next last =
    record { zero = union 64 (live k next last (follower_in ts)) (entry zs); one = union 64 (live k next last (follower_in ts)) (entry os) }

-- masks that are not chosen do not count
union-chosen : (n : ℕ) (g : ℕ → Bool) (m k : ℕ → ℕ) → ((x : ℕ) → x < n → g x ≡ true → m x ≡ k x) → union n g m ≡ union n g k
union-chosen zero g m k e = refl
union-chosen (suc n) g m k e = ap₂ bit_or (go (g n) (e n (omega arith))) (union-chosen n g m k (λ x l. e x (omega arith)))
  where
    go : (v : Bool) → (v ≡ true → m n ≡ k n) → pick v (m n) ≡ pick v (k n)
    go true f = f refl
    go false f = refl

module _ (p : Pattern) (r : Rules p) (zs os ts ks : List ℕ) (e : ℕ) (held : Holds p ts) (good : MasksOf (root p) p.count zs os ks e) where
  module _ (c next : ℕ) (last : Bool) where
    -- by the table's followers, the leaves that are open
    live_open : (x : ℕ) → live (takers (root p) p.count c) next last (follower_in ts) x ≡ test_bit (open_leaves p c next last) x
    unfolding takers
    live_open x = go (dec_lt x p.count)
      where
        line : Followed (root p) x (follower_in ts x) (loops_in ts x)
            → live (takers (root p) p.count c) next last (follower_in ts) x ≡ test_bit (open_leaves p c next last) x
        line q =
            ap₂ (λ y z. y && z)
            (ap (test_bit (takers (root p) p.count c)) (sym q.node.is)
            ∙ word-says (root_planted p r) (λ t s. takes t c) q.node.tree q.node.place)
            (ap (open_next next last) q.is)
            ∙ sym (open-says p r c next last q.node.tree q.node.place) ∙ ap (test_bit (open_leaves p c next last)) q.node.is

        go : Dec (x < p.count) → live (takers (root p) p.count c) next last (follower_in ts) x ≡ test_bit (open_leaves p c next last) x
        go (yes h) = line (held.follows x h)
        go (no h) =
            ap (λ z. z && open_next next last (follower_in ts x)) (word_past_last (root p) p.count (λ t s. takes t c) x (omega arith))
            ∙ sym (open_past p r c next last x (omega arith))

    by-masks :
        (b : Bool) (m : ℕ → ℕ) → ((x : ℕ) → x < p.count → m x ≡ leaf_mask (root p) p.count b x)
        → union 64 (live (takers (root p) p.count c) next last (follower_in ts)) m ≡ stepped p b c next last
    unfolding stepped
    by-masks b m f =
        union_same 64 (live (takers (root p) p.count c) next last (follower_in ts)) (test_bit (open_leaves p c next last)) m m
        (λ x h. live_open x) (λ x h. refl)
        ∙ union-chosen 64 (test_bit (open_leaves p c next last)) m (leaf_mask (root p) p.count b) (λ x h o. f x (open_inside p r c next last x o))
        ∙ sym (reached_masks p r (test_bit (open_leaves p c next last)) (λ x h. open_past p r c next last x (omega (arith, r.few))) false b
        ∙ or_zero_l (union 64 (test_bit (open_leaves p c next last)) (leaf_mask (root p) p.count b)))

    -- THE STORED STEP IS THE STEP, from every word
    pub step-stepped :
        is_letter c ≡ true → step_of zs os ts (entry ks c) next last ≡ record { zero = stepped p false c next last; one = stepped p true c next last }
    step-stepped h =
        ap (λ k. step_of zs os ts k next last) (good.letters c h)
        ∙ ap₂ (λ x y. record { zero = x; one = y }) (by-masks false (entry zs) good.leaves.zeros) (by-masks true (entry os) good.leaves.ones)
