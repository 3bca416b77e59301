-- FOLLOW, Glushkov's set, by a loop over the lines from the last to the first: the leaves that can be reached after a node by empty steps, with flag 0 and
-- with flag 1, and whether the end is with flag 1. A line hands on to its parts.
use Rattle.std.specs.Prelude.{◌≡◌, refl, Bool, true, ◌&&◌, ◌||◌, List, ℕ, suc, ◌-◌, ◌≤◌, ◌<◌, eqb, length, set, cond}
use Rattle.std.proofs.Common.{sym, ap, ap₂, subst, ◌∙◌, arith}
use Rattle.std.proofs.Math.Bool.{false}
use Rattle.std.specs.Int.Bits.{bit_or}
use Rattle.std.proofs.Math.ListN.{get_or, length-set}
use Rattle.std.proofs.Math.Seq.{get_or-set_same, get_or-set_other}
use Rattle.syntax.specs.declared.Node.{Node}
use Rattle.syntax.specs.declared.Node.TheVariants.{Leaf as LeafNode, Sequence, Alternative, Star}
use Rattle.syntax.specs.declared.Line.{Line}
use Rattle.syntax.specs.Tree.{Tree}
use Rattle.syntax.specs.Trees.{tree_of}
use Rattle.syntax.specs.TreeLaws.{Below}
use Rattle.bits.specs.Bits.{test_bit}
use Rattle.bits.specs.Words.{test_or}
use Rattle.semantics.specs.Automaton.{Location}
use Rattle.table.specs.HandDown.{first_part, second_part, parts-inside, Rooted, Known, Stores, stores_same}
use Rattle.table.specs.HandDown.{Given, AllGiven, Hands, given-start, given-next, given_end}
use Rattle.masks.specs.declared.firsts.First.{First}
use Rattle.masks.specs.declared.follows.Follow.{Follow}
use Rattle.masks.specs.Closure.{passes, nowhere, reach_none}
use Rattle.bits.specs.Unions.{pick}
use Rattle.masks.specs.Firsts.{first_at, Firsts, nothing-bit, follow-bit, nowhere_through}

-- what follows the root: the end
abbrev pub end_follow : Follow
end_follow = record { zero = 0; one = 0; end = true }

-- what follows a line, from an array
abbrev pub follow_at : List Follow → ℕ → Follow
follow_at ks l = get_or ks l (record { zero = 0; one = 0; end = false })

-- the leaves that follow, with a flag
abbrev pub leaves_of : Follow → (flag : Bool) → ℕ
leaves_of f flag = cond flag f.one f.zero

-- what follows the first part of a sequence: the second, and what follows that where it is nullable
abbrev pub before_second : First → Follow → Follow
before_second b f = record {
  zero = bit_or b.leaves (pick b.nullable f.zero);
  one = bit_or b.leaves (pick b.nullable f.one);
  end = b.nullable && f.end;
}

-- what follows the child of a star: the star, with flag 1 only
abbrev pub before_round : First → Follow → Follow
before_round a f = record { zero = 0; one = bit_or a.leaves f.one; end = f.end }

-- what follows the first part of a line, from the first of the second part and what follows the line
abbrev pub to_first : First → Node → Follow → Follow
to_first b (LeafNode x) f = f
to_first b (Sequence p q) f = before_second b f
to_first b (Alternative p q) f = f
to_first b (Star again p) f = before_round b f

-- the follow of a node
pub record FollowOf (root t : Tree) (place : Location root t) (f : Follow) : Type 0 where
  pub zeros : (y : ℕ) → test_bit f.zero y ≡ passes false (eqb y) false place
  pub ones : (y : ℕ) → test_bit f.one y ≡ passes true (eqb y) false place
  pub ends : f.end ≡ passes true nowhere true place

-- ---- the array
pub stored_stores : (ks : List Follow) (a : ℕ) (v : Follow) → length ks ≡ 64 → a < 64 → Stores (follow_at ks) a v (follow_at (set ks a v))
stored_stores ks a v z h = record {
  here = get_or-set_same ks a v _ (omega (arith, z));
  other = λ l n. get_or-set_other ks a l v _ n;
}

-- line i has handed on to its parts: to the second what follows the line, then to the first; b is the first of the second part
pub record Handed (i : ℕ) (k : Node) (b : First) (ks ys : List Follow) : Type 0 where
  pub long : length ys ≡ 64
  pub between : ℕ → Follow
  pub second : Stores (follow_at ks) (second_part i k) (follow_at ks i) between
  pub first : Stores between (first_part i k) (to_first b k (follow_at ks i)) (follow_at ys)

pub handed :
    {ks : List Follow} {x y : ℕ} {w : Follow} (i : ℕ) (k : Node) (b : First) → i < 64 → Below i k → length ks ≡ 64
    → y ≡ second_part i k → x ≡ first_part i k → w ≡ to_first b k (follow_at ks i)
    → Handed i k b ks (set (set ks y (follow_at ks i)) x w)
handed {ks = ks} {y = y} {w = w} i k b h l z ey ex ew =
    let inside = parts-inside i k l in
    let q : length (set ks y (follow_at ks i)) ≡ 64 = simp length-set z in
    record {
      long = simp length-set z;
      between = follow_at (set ks y (follow_at ks i));
      second = stores_same ey refl (stored_stores ks y (follow_at ks i) z (omega (arith, inside.second, ey)));
      first = stores_same ex ew (stored_stores (set ks y (follow_at ks i)) _ w q (omega (arith, inside.first, ex)));
    }

-- ---- on the way down, at line i: every line that is known has its follow
pub record Down (f : ℕ → Line) (n i : ℕ) (ks : List Follow) : Type 0 where
  pub inside : i ≤ n
  pub long : length ks ≡ 64
  pub given : AllGiven f n (FollowOf (tree_of f (n - 1))) i (follow_at ks)

module _ {f : ℕ → Line} {n : ℕ} (whole : Rooted f n) where
  pub down_start : (ks : List Follow) (v : Follow) → length ks ≡ 64 → v ≡ end_follow → Down f n n (set ks (n - 1) v)
  down_start ks v z e = record {
    inside = omega arith;
    long = simp length-set z;
    given = given-start f n (FollowOf (tree_of f (n - 1))) (follow_at (set ks (n - 1) v))
        (rw ((stored_stores ks (n - 1) v z (omega (arith, whole.one, whole.few))).here, e)
        (record { zeros = nothing-bit; ones = nothing-bit; ends = refl }));
  }

  module _ (xs : List First) (firsts : Firsts f n xs) where
    abbrev hand : (i : ℕ) → Node → Follow → Follow
    hand i k v = to_first (first_at xs (second_part i k)) k v

    -- one law for each way down
    follow_hands : (i : ℕ) → i < n → Hands f n (FollowOf (tree_of f (n - 1))) i (hand i)
    follow_hands i h = record {
      leaf = λ x v. refl;
      sequence = λ x y a b s v q.
          let g = firsts.right y (omega arith) in (
            record {
              zeros =
                  λ z. follow-bit (eqb z) (tree_of f y) (first_at xs y) v.zero z (passes false (eqb z) false s) (g.leaves z) g.nullable
                  (q.zeros z);
              ones = λ z. follow-bit (eqb z) (tree_of f y) (first_at xs y) v.one z (passes true (eqb z) false s) (g.leaves z) g.nullable (q.ones z);
              ends = ap₂ (λ a b. a && b) g.nullable q.ends ∙ sym (nowhere_through (tree_of f y) (passes true nowhere true s));
            },
            record { zeros = q.zeros; ones = q.ones; ends = q.ends },
          );
      alternative = λ x y s v q. (record { zeros = q.zeros; ones = q.ones; ends = q.ends }, record { zeros = q.zeros; ones = q.ones; ends = q.ends });
      round = λ again x a s v q.
          let g = firsts.right x (omega arith) in
          record {
            zeros = nothing-bit;
            ones = λ z. test_or (first_at xs x).leaves v.one z ∙ ap₂ (λ a b. a || b) (g.leaves z) (q.ones z);
            ends = q.ends ∙ sym (ap (λ z. z || passes true nowhere true s) (reach_none (tree_of f x)));
          };
    }

    pub down_next : {ks ys : List Follow} (i : ℕ) → 0 < i → Down f n i ks
        → Handed (i - 1) (f (i - 1)).node (first_at xs (second_part (i - 1) (f (i - 1)).node)) ks ys → Down f n (i - 1) ys
    down_next {ks} {ys} i o d s = record {
      inside = omega (arith, d.inside);
      long = s.long;
      given = given-next f n (FollowOf (tree_of f (n - 1))) whole (i - 1) (omega (arith, d.inside)) (hand (i - 1))
          (follow_hands (i - 1) (omega (arith, d.inside))) (follow_at ks) s.between (follow_at ys)
          (λ l h m. d.given l h (subst (λ j. Known f n j l) (let q : suc (i - 1) ≡ i = omega arith in q) m)) s.second s.first;
    }

    -- as code does it: k is the node of the line, and b the first of its second part y
    pub down_at : {ks ys : List Follow} {k : Node} {y : ℕ} (i : ℕ) → 0 < i → Down f n i ks → k ≡ (f (i - 1)).node
        → y ≡ second_part (i - 1) k → Handed (i - 1) k (first_at xs y) ks ys → Down f n (i - 1) ys
    down_at {ks} {ys} {k} i o d e ey s =
        down_next i o d (subst (λ m. Handed (i - 1) m (first_at xs (second_part (i - 1) m)) ks ys) e
        (subst (λ u. Handed (i - 1) k u ks ys) (ap (first_at xs) ey) s))

  -- when all lines have been passed every line has its follow
  pub follow-given :
      {ks : List Follow} → Down f n 0 ks → (l : ℕ) → l < n → Given f n (FollowOf (tree_of f (n - 1))) (tree_of f l) (follow_at ks l)
  follow-given {ks} d = given_end f n (FollowOf (tree_of f (n - 1))) whole (follow_at ks) d.given
