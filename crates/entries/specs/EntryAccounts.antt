-- Every entry of a code has an account of the pattern: none is above 200.
use Rattle.std.specs.Prelude.{◌≡◌, true, List, ℕ, zero, suc, ◌+◌, ◌-◌, ◌<◌, leb}
use Rattle.std.proofs.Common.{sym, subst, arith, leb-true}
use Rattle.std.proofs.Math.Option.{Option, none, some}
use Rattle.syntax.specs.declared.Pattern.{Pattern}
use Rattle.syntax.specs.declared.Line.{Line}
use Rattle.syntax.specs.declared.Leaf.TheVariants.{Nothing, Letter, Range}
use Rattle.syntax.specs.declared.Node.{Node}
use Rattle.syntax.specs.declared.Node.TheVariants.{Leaf as LeafNode, Sequence, Alternative, Star}
use Rattle.syntax.specs.Bools.{and_fst}
use Rattle.syntax.specs.Tree.{Label, Tree}
use Rattle.syntax.specs.Trees.{made, tree_of, root}
use Rattle.syntax.specs.TreeLaws.{Below, obeys_iff, tree-line}
use Rattle.syntax.specs.Table.{obeys, line_at, node_at, node_good, line_good, account_limit}
use Rattle.bits.specs.Bits.{held}
use Rattle.semantics.specs.Value.{Value}
use Rattle.semantics.specs.Decode.{value_of}
use Rattle.semantics.specs.Accounts.{accounts}
use Rattle.semantics.specs.Owned.{Accounts}
use Rattle.semantics.proofs.AccountLaws.{entries_below}
use Rattle.semantics.specs.Every.{All}
use Rattle.entries.specs.Gather.{entries_by, entries_of}

-- ── where the accounts of a table's lines are below a, so are those of its tree ──
module _ (a : ℕ) where
  made-accounts : (m : Label) (t : ℕ → Tree) (i : ℕ) (x : Node) → m.account < a → Below i x → ((q : ℕ) → q < i → Accounts a (t q))
      → Accounts a (made m t x)
  made-accounts m t i (LeafNode Nothing) h b r = h
  made-accounts m t i (LeafNode (Letter c)) h b r = h
  made-accounts m t i (LeafNode (Range x y)) h b r = h
  made-accounts m t i (Sequence p q) h b r = (h, r p b.0, r q b.1)
  made-accounts m t i (Alternative p q) h b r = (h, r p b.0, r q b.1)
  made-accounts m t i (Star again p) h b r = (h, r p b)

  module _ (f : ℕ → Line) (n : ℕ) (lower : (l : ℕ) → l < n → Below l (f l).node) (few : (l : ℕ) → l < n → (f l).account < a) where
    tree-accounts : (k l : ℕ) → l < k → l < n → Accounts a (tree_of f l)
    tree-accounts zero l h s = absurd (omega arith)
    tree-accounts (suc k) l h s =
        subst (Accounts a) (sym (tree-line f l (lower l s)))
        (made-accounts (record { index = l; account = (f l).account }) (tree_of f) l (f l).node (few l s) (lower l s)
        (λ q b. tree-accounts k q (omega arith) (omega arith)))

  pub root_below : (p : Pattern) → obeys p ≡ true → ((l : ℕ) → l < p.count → (line_at p l).account < a) → Accounts a (root p)
  unfolding root
  root_below p o few =
      let r = (obeys_iff p).0 o in
      let one = r.one in
      tree-accounts (line_at p) p.count r.lower few p.count (p.count - 1) (omega arith) (omega arith)

-- every account of a pattern that obeys the rules is an account
pub root-accounts : (p : Pattern) → obeys p ≡ true → Accounts (account_limit + 1) (root p)
unfolding line_good
root-accounts p o =
    let r = (obeys_iff p).0 o in
    let few : (l : ℕ) → l < p.count → leb (line_at p l).account account_limit ≡ true =
    λ l k. and_fst (leb (line_at p l).account account_limit) (node_good (node_at p l)) (r.formed l k) in
    root_below (account_limit + 1) p o (λ l k. omega (arith, leb-true (line_at p l).account account_limit (few l k)))

-- where a tree's accounts are below a, so are those of the entries of a value, and of a code
pub by_few : (a : ℕ) (t : Tree) → Accounts a t → 0 < a → (v : Option (Value t)) → All (λ e. e.1 < a) (entries_by t v)
unfolding accounts
by_few a t h k none = tt
by_few a t h k (some v) = entries_below a t 0 v h k

pub entries_few : (a : ℕ) (t : Tree) → Accounts a t → 0 < a → (code : List ℕ) (count : ℕ) → All (λ e. e.1 < a) (entries_of t code count)
unfolding entries_of
entries_few a t h k code count = by_few a t h k (value_of t (held 8 code count))
