-- THE MASKS as they are stored.
use Rattle.std.specs.Prelude.{◌≡◌, Bool, false, ◌&&◌, List, eqb, length, get_or}
use Rattle.std.proofs.Math.Path.{refl, sym, ap₂}
use Rattle.std.proofs.Common.{ap, ◌∙◌}
use Rattle.std.proofs.Math.Bool.{true}
use Prim.Native.Nat.{ℕ, ◌-◌, ◌<◌}
use Rattle.std.specs.Int.Bits.{bit_or}
use Rattle.syntax.specs.declared.Leaf.{Leaf}
use Rattle.syntax.specs.declared.Leaf.TheVariants.{Nothing, Letter, Range}
use Rattle.syntax.specs.declared.Node.{Node}
use Rattle.syntax.specs.declared.Node.TheVariants.{Leaf as LeafNode, Sequence, Alternative, Star}
use Rattle.syntax.specs.declared.Line.{Line}
use Rattle.syntax.specs.Letter.{is_letter, in_range}
use Rattle.syntax.specs.Tree.{Label, Tree, index}
use Rattle.syntax.specs.Trees.{made, tree_of}
use Rattle.bits.specs.Bits.{test_bit, word_of}
use Rattle.bits.specs.Words.{word_lt, word-bit}
use Rattle.semantics.specs.Automaton.{Location}
use Rattle.table.specs.HandDown.{Rooted, label_of, line_made, made_has_index, Given}
use Rattle.masks.specs.Nodes.{Predicate, node_word, Planted, index_lt, word_is}
use Rattle.masks.specs.Closure.{passes, reaches, nowhere, leaf_mask, end_mask}
use Rattle.bits.specs.Unions.{pick}
use Rattle.masks.specs.Planting.{same_node, line-place}
use Rattle.masks.specs.Leaves.{takes, takers, entry}
use Rattle.masks.specs.Firsts.{first_at, Firsts, follow-bit, nowhere_through}
use Rattle.masks.specs.declared.firsts.First.{First}
use Rattle.masks.specs.declared.follows.Follow.{Follow}
use Rattle.masks.specs.Follows.{follow_at, leaves_of, FollowOf, Down, follow-given}

-- ---- arrays whose cells below i are told by a function
pub record Filled {A : Type 0} (d : A) (f : ℕ → A) (size i : ℕ) (xs : List A) : Type 0 where
  pub long : length xs ≡ size
  pub cells : (l : ℕ) → l < i → get_or xs l d ≡ f l

-- ---- rows: for each node the leaves that it reaches with a flag, those of its first and, where it is nullable, those of its follow
abbrev pub row : (firsts : List First) → (follows : List Follow) → (flag : Bool) → ℕ → ℕ
row xs ks b l = bit_or (first_at xs l).leaves (pick (first_at xs l).nullable (leaves_of (follow_at ks l) b))

-- whether a node comes to the end
abbrev pub comes_to_end : (firsts : List First) → (follows : List Follow) → ℕ → Bool
comes_to_end xs ks l = (first_at xs l).nullable && (follow_at ks l).end

-- ---- columns: for each leaf the nodes that come to it
abbrev pub column : (count : ℕ) → (rows : ℕ → ℕ) → (leaf : ℕ) → ℕ
column n rows x = word_of n (λ l. test_bit (rows l) x)

-- ---- the leaves that take a letter, by the lines
abbrev pub leaf_takes : Leaf → ℕ → Bool
leaf_takes Nothing c = false
leaf_takes (Letter a) c = eqb a c
leaf_takes (Range a b) c = in_range a b c

abbrev pub node_takes : Node → ℕ → Bool
node_takes (LeafNode x) c = leaf_takes x c
node_takes (Sequence a b) c = false
node_takes (Alternative a b) c = false
node_takes (Star again a) c = false

abbrev pub line_takers : (f : ℕ → Line) → (letter : ℕ) → (n : ℕ) → ℕ
line_takers f c n = word_of n (λ l. node_takes (f l).node c)

-- lines that are a tree in which each stands once
module _ {f : ℕ → Line} {n : ℕ} (whole : Rooted f n) (good : Planted (tree_of f (n - 1)) n) where
  -- a word by the lines is the word of a predicate, if line by line they say the same
  word-by-lines :
      (g : Predicate (tree_of f (n - 1))) (h : ℕ → Bool) → ((l : ℕ) (k : l < n) (s : Location (tree_of f (n - 1)) (tree_of f l)) → h l ≡ g (tree_of f l) s)
      → word_of n h ≡ node_word (tree_of f (n - 1)) n g
  word-by-lines g h e =
      word_is good g (word_of n h) (word_lt n h) (λ t s. word-bit n h (index t) (index_lt good s) ∙ at t s (index_lt good s))
    where
      at : (t : Tree) (s : Location (tree_of f (n - 1)) t) → index t < n → h (index t) ≡ g t s
      at t s k =
          let q = line-place whole (index t) k in
          e (index t) k q ∙ same_node good g (tree_of f (index t)) t q s (made_has_index whole (index t) k)

  pub line_takers_are : (c : ℕ) → line_takers f c n ≡ takers (tree_of f (n - 1)) n c
  unfolding takers
  line_takers_are c =
      word-by-lines (λ t s. takes t c) (λ l. node_takes (f l).node c)
      (λ l h s. go (label_of f l) (tree_of f) (f l).node ∙ sym (ap (λ t. takes t c) (line_made whole l h)))
    where
      go : (m : Label) (u : ℕ → Tree) (k : Node) → node_takes k c ≡ takes (made m u k) c
      go m u (LeafNode Nothing) = refl
      go m u (LeafNode (Letter a)) = refl
      go m u (LeafNode (Range a b)) = refl
      go m u (Sequence a b) = refl
      go m u (Alternative a b) = refl
      go m u (Star again a) = refl

-- what the masks of leaves are made of
module _ {f : ℕ → Line} {n : ℕ} (whole : Rooted f n) (good : Planted (tree_of f (n - 1)) n) (xs : List First) (ks : List Follow)
    (firsts : Firsts f n xs) (down : Down f n 0 ks) where
  -- what follows a line
  after : (l : ℕ) → l < n → Given f n (FollowOf (tree_of f (n - 1))) (tree_of f l) (follow_at ks l)
  after = follow-given whole down

  -- what a node comes to, at the place where what follows it was found; so wherever it stands, since it stands once
  row-reaches :
      (b : Bool) (l y k : ℕ) (h : l < n) → test_bit k y ≡ passes b (eqb y) false (after l h).place
      → (s : Location (tree_of f (n - 1)) (tree_of f l))
      → test_bit (bit_or (first_at xs l).leaves (pick (first_at xs l).nullable k)) y ≡ reaches b (eqb y) false (tree_of f l) s
  row-reaches b l y k h e s =
      follow-bit (eqb y) (tree_of f l) (first_at xs l) k y (passes b (eqb y) false (after l h).place) ((firsts.right l h).leaves y)
      (firsts.right l h).nullable e
      ∙ same_node good (reaches b (eqb y) false) (tree_of f l) (tree_of f l) (after l h).place s refl

  follow_says : (b : Bool) (l y : ℕ) (h : l < n) → test_bit (leaves_of (follow_at ks l) b) y ≡ passes b (eqb y) false (after l h).place
  follow_says false l y h = (after l h).right.zeros y
  follow_says true l y h = (after l h).right.ones y

  pub column-says : (b : Bool) (x : ℕ) → column n (row xs ks b) x ≡ leaf_mask (tree_of f (n - 1)) n b x
  unfolding leaf_mask
  column-says b x =
      word-by-lines whole good (reaches b (eqb x) false) (λ l. test_bit (row xs ks b l) x)
      (λ l h s. row-reaches b l x (leaves_of (follow_at ks l) b) h (follow_says b l x h) s)

  pub row_ends : word_of n (comes_to_end xs ks) ≡ end_mask (tree_of f (n - 1)) n true
  unfolding end_mask
  row_ends = word-by-lines whole good (reaches true nowhere true) (comes_to_end xs ks) (λ l h s.
      ap₂ (λ x z. x && z) (firsts.right l h).nullable (after l h).right.ends
      ∙ sym (nowhere_through (tree_of f l) (passes true nowhere true (after l h).place))
      ∙ same_node good (reaches true nowhere true) (tree_of f l) (tree_of f l) (after l h).place s refl)

-- ---- the masks of a tree of n nodes, stored: those of its leaves and of the end,
pub record LeafMasks (root : Tree) (n : ℕ) (zs os : List ℕ) (e : ℕ) : Type 0 where
  pub zeros : (x : ℕ) → x < n → entry zs x ≡ leaf_mask root n false x
  pub ones : (x : ℕ) → x < n → entry os x ≡ leaf_mask root n true x
  pub ends : e ≡ end_mask root n true

-- and those of letters
pub record MasksOf (root : Tree) (n : ℕ) (zs os ks : List ℕ) (e : ℕ) : Type 0 where
  pub leaves : LeafMasks root n zs os e
  pub letters : (c : ℕ) → is_letter c ≡ true → entry ks c ≡ takers root n c
