-- WHAT THE WORDS AND MASKS SAY: every word of a fill is the state set of the definition, and a mask is the nodes from which the automaton
-- comes to its leaf, or to the end, by steps that read nothing.
use Rattle.std.specs.Prelude.{◌≡◌, refl, Bool, true, false, ◌↔◌, List, [], ◌∷◌, ℕ, zero, suc, ◌+◌, ◌*◌, ◌≤◌, eqb, length, get_or, drop}
use Rattle.std.proofs.Common.{sym, ap, subst, ◌∙◌, ⊎_elim, arith}
use Rattle.std.proofs.lemmas.Bool.{false≢true}
use Rattle.syntax.specs.declared.Pattern.{Pattern}
use Rattle.syntax.specs.Tree.{Label, Tree, nothing, letter, range, seq, alt, star, index}
use Rattle.syntax.specs.Trees.{root}
use Rattle.syntax.specs.TreeLaws.{Rules}
use Rattle.bits.specs.Bits.{bit, test_bit, count_below}
use Rattle.bits.specs.Words.{count_word}
use Rattle.semantics.proofs.Basics.{and_fst, and_snd, and_intro, or_left, or_right, or_cases}
use Rattle.semantics.specs.Automaton.{Location, top, fst, snd, lft, rgt, rnd, State, end}
use Rattle.semantics.specs.Automaton.{at, follower, Moves, to_first, to_left, to_right, to_round, skip, leave}
use Rattle.semantics.specs.Sweeps.{can, readable}
use Rattle.semantics.specs.Passing.{after, Passes}
use Rattle.semantics.proofs.AutomatonLaws.{guarded_iff}
use Rattle.masks.specs.Nodes.{said, node_word, word-says}
use Rattle.masks.specs.Closure.{reach, passes, reaches, nowhere, leaf_mask, end_mask}
use Rattle.steps.specs.StateSets.{IsStateSet, state_set, words}
use Rattle.masks.specs.Planting.{root_planted}
use Rattle.steps.specs.StateLaws.{state_bit, state_set_is}

-- ---- the words of a fill
pub words-length : (p : Pattern) (tape : List ℕ) → length (words p tape) ≡ 2 * (length tape + 1)
words-length p [] = refl
words-length p (c ∷ w) = omega (arith, words-length p w)

-- word 2 × i + b is the state set of position i with flag b
pub words_at : (p : Pattern) (tape : List ℕ) (i : ℕ) (b : Bool) → i ≤ length tape → get_or (words p tape) (2 * i + bit b) 0 ≡ state_set p b (drop i tape)
words_at p [] zero true h = refl
words_at p [] zero false h = refl
words_at p [] (suc i) b h = absurd (omega arith)
words_at p (c ∷ w) zero true h = refl
words_at p (c ∷ w) zero false h = refl
words_at p (c ∷ w) (suc i) b h =
    let e : 2 * suc i + bit b ≡ suc (suc (2 * i + bit b)) = omega arith in
    ap (λ k. get_or (words p (c ∷ w)) k 0) e ∙ words_at p w i b (omega arith)

-- 01: "Bit l of word 2 × i + b says that the letters from i on are in the language of node l with flag b"
pub words-say :
    (p : Pattern) → Rules p → (tape : List ℕ) (i : ℕ) (b : Bool) → i ≤ length tape
    → IsStateSet p b (drop i tape) (get_or (words p tape) (2 * i + bit b) 0)
words-say p r tape i b h = subst (IsStateSet p b (drop i tape)) (sym (words_at p tape i b h)) (state_set_is p r b (drop i tape))

-- 01: "Reading starts at the root with flag 1": the root's bit of the first flag 1 word says whether the tape can be read
pub root-says : (p : Pattern) → Rules p → (tape : List ℕ) → test_bit (get_or (words p tape) 1 0) (index (root p)) ≡ readable (root p) tape
unfolding readable
root-says p r tape = ap (λ x. test_bit x (index (root p))) (words_at p tape 0 true (omega arith)) ∙ state_bit p r true tape (root p) top

-- the ones of a word are the nodes that are open
pub open-count :
    (p : Pattern) → Rules p → (b : Bool) (w : List ℕ)
    → count_below 64 (test_bit (state_set p b w)) ≡ count_below p.count (said (λ t s. can t (after s) b w) (root p) top)
unfolding state_set node_word
open-count p r b w = count_word 64 p.count (said (λ t s. can t (after s) b w) (root p) top) r.few

-- ---- empty steps
-- from a state with a flag the automaton comes by steps that read nothing to a leaf whose index g holds of, or to the end where e allows it
pub data Comes (root : Tree) (g : ℕ → Bool) (e : Bool) : State root → Bool → Type 0 where
  to_letter : {m : Label} {c : ℕ} {s : Location root (letter m c)} {b : Bool} → g m.index ≡ true → Comes root g e (at (letter m c) s) b
  to_range : {m : Label} {low high : ℕ} {s : Location root (range m low high)} {b : Bool} → g m.index ≡ true → Comes root g e (at (range m low high) s) b
  to_end : {b : Bool} → e ≡ true → Comes root g e end b
  by_move : {q r : State root} {b f : Bool} → Moves root q b r f → Comes root g e r f → Comes root g e q b

module _ {root : Tree} (g : ℕ → Bool) (e : Bool) where
  abbrev reaches_from : State root → Bool → Bool
  reaches_from end b = e
  reaches_from (at t s) b = reaches b g e t s

  follows : {t : Tree} (s : Location root t) (b : Bool) → Passes s b → reaches_from (follower s) b ≡ true → passes b g e s ≡ true
  follows top b f h = h
  follows (fst s) b f h = h
  follows (snd s) b f h = follows s b f h
  follows (lft s) b f h = follows s b f h
  follows (rgt s) b f h = follows s b f h
  follows (rnd s) b f h = and_intro (f refl) h

  moves_reach : {q r : State root} {b f : Bool} → Moves root q b r f → reaches_from r f ≡ true → reaches_from q b ≡ true
  moves_reach to_first h = h
  moves_reach (to_left {u = u} {s = s} {b = b}) h = or_left (reach g u (passes b g e s)) h
  moves_reach (to_right {t = t} {s = s} {b = b}) h = or_right (reach g t (passes b g e s)) h
  moves_reach (to_round {s = s} {b = b}) h = or_left (passes b g e s) h
  moves_reach (skip {s = s} {b = b} f) h = follows s b ((guarded_iff s b).0 f) h
  moves_reach (leave {t = t} {s = s} {b = b} f) h = or_right (reach g t false) (follows s b ((guarded_iff s b).0 f) h)

  comes_reach : {q : State root} {b : Bool} → Comes root g e q b → reaches_from q b ≡ true
  comes_reach (to_letter h) = h
  comes_reach (to_range h) = h
  comes_reach (to_end h) = h
  comes_reach (by_move m c) = moves_reach m (comes_reach c)

  -- behind a node: its follower, where the guard lets it pass
  abbrev Behind : {t : Tree} → Location root t → Bool → Type 0
  Behind s b = Passes s b × Comes root g e (follower s) b

  reach_comes : (t : Tree) (s : Location root t) (b v : Bool) → (v ≡ true → Behind s b) → reach g t v ≡ true → Comes root g e (at t s) b
  reach_comes (nothing m) s b v k h = let d = k h in by_move (skip ((guarded_iff s b).1 d.0)) d.1
  reach_comes (letter m c) s b v k h = to_letter h
  reach_comes (range m x y) s b v k h = to_range h
  reach_comes (seq m t u) s b v k h =
      by_move to_first (reach_comes t (fst s) b (reach g u v) (λ x. (λ y. absurd (false≢true y), reach_comes u (snd s) b v k x)) h)
  reach_comes (alt m t u) s b v k h =
      ⊎_elim (λ x. by_move to_left (reach_comes t (lft s) b v k x)) (λ x. by_move to_right (reach_comes u (rgt s) b v k x.1))
      (or_cases (reach g t v) (reach g u v) h)
  reach_comes (star m again t) s b v k h =
      ⊎_elim (λ x. by_move to_round (reach_comes t (rnd s) false false (λ y. absurd (false≢true y)) x))
      (λ x. let d = k x.1 in by_move (leave ((guarded_iff s b).1 d.0)) d.1) (or_cases (reach g t false) v h)

  passes_comes : {t : Tree} (s : Location root t) (b : Bool) → passes b g e s ≡ true → Behind s b
  passes_comes top b h = (λ y. absurd (false≢true y), to_end h)
  passes_comes (fst {u = u} s) b h = (λ y. absurd (false≢true y), reach_comes u (snd s) b (passes b g e s) (λ x. passes_comes s b x) h)
  passes_comes (snd s) b h = passes_comes s b h
  passes_comes (lft s) b h = passes_comes s b h
  passes_comes (rgt s) b h = passes_comes s b h
  passes_comes (rnd {l = l} {again = again} {t = t} s) b h =
      let x : b ≡ true = and_fst b (reach g (star l again t) (passes b g e s)) h in
      (λ y. x, reach_comes (star l again t) s b (passes b g e s) (λ y. passes_comes s b y) (and_snd b (reach g (star l again t) (passes b g e s)) h))

  pub reaches_iff_comes : (t : Tree) (s : Location root t) (b : Bool) → (reaches b g e t s ≡ true) ↔ Comes root g e (at t s) b
  reaches_iff_comes t s b = (reach_comes t s b (passes b g e s) (passes_comes s b), comes_reach)

-- bit l of a leaf's mask: node l comes to that leaf by empty steps
pub leaf_mask-says : (p : Pattern) → Rules p → (b : Bool) (x : ℕ) (t : Tree) (s : Location (root p) t)
    → (test_bit (leaf_mask (root p) p.count b x) (index t) ≡ true) ↔ Comes (root p) (eqb x) false (at t s) b
unfolding leaf_mask
leaf_mask-says p r b x t s =
    let q = word-says (root_planted p r) (reaches b (eqb x) false) t s in
    let i = reaches_iff_comes (eqb x) false t s b in
    (λ h. i.0 (sym q ∙ h), λ c. q ∙ i.1 c)

-- bit l of the end's mask: node l comes to the end by empty steps
pub end_mask-says : (p : Pattern) → Rules p → (b : Bool) (t : Tree) (s : Location (root p) t)
    → (test_bit (end_mask (root p) p.count b) (index t) ≡ true) ↔ Comes (root p) nowhere true (at t s) b
unfolding end_mask
end_mask-says p r b t s =
    let q = word-says (root_planted p r) (reaches b nowhere true) t s in
    let i = reaches_iff_comes nowhere true t s b in
    (λ h. i.0 (sym q ∙ h), λ c. q ∙ i.1 c)
