-- LAWS of state sets: the computed word is the one that the definition describes, and one position follows from the next by masks made once a pattern.
use Rattle.std.specs.Prelude.{◌≡◌, Bool, true, false, ◌&&◌, ◌||◌, List, eqb}
use Rattle.std.proofs.Math.Path.{sym}
use Rattle.std.proofs.Common.{ap, ap₂, ◌∙◌, arith, pow_mono}
use Prim.Native.Nat.{ℕ, ◌^◌, ◌≤◌, ◌<◌}
use Rattle.std.proofs.Math.Decide.{dec_lt}
use Rattle.std.specs.Int.Bits.{bit_or}
use Rattle.std.proofs.lemmas.Nat.{or_lt}
use Rattle.syntax.specs.declared.Pattern.{Pattern}
use Rattle.syntax.specs.Tree.{Label, Tree, letter, range, index}
use Rattle.syntax.specs.Trees.{root}
use Rattle.syntax.specs.TreeLaws.{Rules}
use Rattle.bits.specs.Bits.{test_bit}
use Rattle.bits.specs.Words.{word_self, word_unique, test_or}
use Rattle.semantics.specs.Automaton.{Location}
use Rattle.semantics.specs.Sweeps.{can, at_end}
use Rattle.semantics.proofs.FirstSweepLaws.{bool_ext}
use Rattle.semantics.specs.Passing.{after}
use Rattle.semantics.proofs.AutomatonLaws.{can_iff_accepts}
use Rattle.table.specs.Cells.{NodeAt}
use Rattle.masks.specs.Nodes.{node_word, Planted, node_at, word_small, word-says, word_is, word_past_last}
use Rattle.masks.specs.Closure.{reaches, nowhere, leaf_mask, end_mask, reaches_split, reaches-can}
use Rattle.bits.specs.Unions.{any_same, pick, union, pick-bit, union-bit, pick_lt, union_lt}
use Rattle.masks.specs.Planting.{root_planted}
use Rattle.steps.specs.StateSets.{IsStateSet, state_set}

module _ (p : Pattern) (r : Rules p) where
  abbrev good : Planted (root p) p.count
  good = root_planted p r

  pub state_bit : (b : Bool) (w : List ℕ) (t : Tree) (s : Location (root p) t) → test_bit (state_set p b w) (index t) ≡ can t (after s) b w
  unfolding state_set
  state_bit b w t s = word-says good (λ t s. can t (after s) b w) t s

  pub state_lt : (b : Bool) (w : List ℕ) → state_set p b w < 2 ^ p.count
  unfolding state_set
  state_lt b w = word_small good (λ t s. can t (after s) b w)

  pub state_fits : (b : Bool) (w : List ℕ) → state_set p b w < 2 ^ 64
  state_fits b w = omega (arith, state_lt b w, pow_mono r.few)

  state_past : (b : Bool) (w : List ℕ) (l : ℕ) → p.count ≤ l → test_bit (state_set p b w) l ≡ false
  unfolding state_set
  state_past b w l h = word_past_last (root p) p.count (λ t s. can t (after s) b w) l h

  -- THE COMPUTED WORD is the state set of the definition
  pub state_set_is : (b : Bool) (w : List ℕ) → IsStateSet p b w (state_set p b w)
  state_set_is b w = record {
    says = λ t s. (λ h. (can_iff_accepts t s b w).0 (sym (state_bit b w t s) ∙ h), λ a. state_bit b w t s ∙ (can_iff_accepts t s b w).1 a);
    past = state_past b w;
    fits = state_fits b w;
  }

  -- and no other number is
  pub state_set_unique : (b : Bool) (w : List ℕ) (x y : ℕ) → IsStateSet p b w x → IsStateSet p b w y → x ≡ y
  state_set_unique b w x y f g = word_unique 64 x (test_bit y) f.fits (λ l h. bits l (dec_lt l p.count)) ∙ sym (word_self 64 y g.fits)
    where
      at_node : (l : ℕ) → NodeAt (root p) l → test_bit x l ≡ test_bit y l
      at_node l q =
          ap (test_bit x) (sym q.is)
          ∙ bool_ext (test_bit x (index q.tree)) (test_bit y (index q.tree))
          (λ h. (g.says q.tree q.place).1 ((f.says q.tree q.place).0 h))
          (λ h. (f.says q.tree q.place).1 ((g.says q.tree q.place).0 h))
          ∙ ap (test_bit y) q.is

      bits : (l : ℕ) → Dec (l < p.count) → test_bit x l ≡ test_bit y l
      bits l (yes h) = at_node l (node_at good l h)
      bits l (no h) = f.past l (omega arith) ∙ sym (g.past l (omega arith))

  -- ---- by leaves
  -- the word of a position is that of the nodes which come to one of the open leaves by empty steps, or to the end where the tape ends
  pub state_reached : (w : List ℕ) (g : ℕ → Bool)
      → ((m : Label) (c : ℕ) (s : Location (root p) (letter m c)) (b : Bool) → g m.index ≡ can (letter m c) (after s) b w)
      → ((m : Label) (a e : ℕ) (s : Location (root p) (range m a e)) (b : Bool) → g m.index ≡ can (range m a e) (after s) b w)
      → (b : Bool) → node_word (root p) p.count (reaches b g (at_end b w)) ≡ state_set p b w
  unfolding state_set
  state_reached w g letters ranges b =
      word_is good (λ t s. can t (after s) b w) (node_word (root p) p.count (reaches b g (at_end b w))) (word_small good (reaches b g (at_end b w)))
      (λ t s. word-says good (reaches b g (at_end b w)) t s ∙ reaches-can (root p) w g letters ranges t s b)

  -- ---- by masks
  -- the word of the nodes that come to one of some leaves, or to the end where e allows it, is the union of the masks of those leaves, with
  -- that of the end
  pub reached_masks : (g : ℕ → Bool) → ((x : ℕ) → 64 ≤ x → g x ≡ false) → (e b : Bool)
      → node_word (root p) p.count (reaches b g e) ≡ bit_or (pick e (end_mask (root p) p.count b)) (union 64 g (leaf_mask (root p) p.count b))
  unfolding leaf_mask end_mask
  reached_masks g out e b = sym (word_is good (reaches b g e) word small bits)
    where
      leaves : ℕ → ℕ
      leaves x = node_word (root p) p.count (reaches b (eqb x) false)

      ends : ℕ
      ends = node_word (root p) p.count (reaches b nowhere true)

      word : ℕ
      word = bit_or (pick e ends) (union 64 g leaves)

      small : word < 2 ^ p.count
      small = or_lt p.count (pick e ends) (union 64 g leaves)
          (pick_lt p.count e ends (word_small good (reaches b nowhere true)))
          (union_lt p.count 64 g leaves (λ x h. word_small good (reaches b (eqb x) false)))

      bits : (t : Tree) (s : Location (root p) t) → test_bit word (index t) ≡ reaches b g e t s
      bits t s =
          test_or (pick e ends) (union 64 g leaves) (index t)
          ∙ ap₂ (λ x y. x || y)
          (pick-bit e ends (index t) ∙ ap (λ z. e && z) (word-says good (reaches b nowhere true) t s))
          (union-bit 64 g leaves (index t)
          ∙ any_same 64 (λ x. g x && test_bit (leaves x) (index t)) (λ x. g x && reaches b (eqb x) false t s)
          (λ x h. ap (λ z. g x && z) (word-says good (reaches b (eqb x) false) t s)))
          ∙ sym (reaches_split t s b g 64 e out)
