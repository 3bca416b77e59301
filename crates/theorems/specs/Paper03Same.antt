-- Document 03's codes of a list of nodes are the codes of the table whose lines these nodes are: the same bits are whole codes, spell the same
-- and hold the same empty rounds, so the same code is the greedy one.
use Rattle.std.specs.Prelude.{◌≡◌, true, false, ◌&&◌, not, length}
use Rattle.std.proofs.Math.Path.{refl, sym, ap, ap₂, subst}
use Rattle.std.proofs.Common.{◌∙◌, arith}
use Rattle.std.proofs.Math.Bool.{Bool}
use Rattle.std.proofs.Math.Option.{Option, none, some, bind}
use mathlib.Core.List.{List, [], ◌∷◌, append-nil}
use Prim.Native.Nat.{ℕ, suc, ◌-◌, ◌<◌}
use borrow.Author.Tests.{ne_eqb}
use Rattle.std.proofs.Math.Dec.{leb, eqb}
use Rattle.syntax.specs.declared.Pattern.{Pattern}
use Rattle.syntax.specs.Table.{obeys, line_at}
use Rattle.syntax.specs.Tree.{Tree}
use Rattle.syntax.specs.Trees.{tree_of, root as root_of}
use Rattle.syntax.specs.TreeLaws.{obeys_iff}
use Rattle.bits.specs.Paper03.{is_bits, numbers, bools}
use Rattle.semantics.specs.Value.{Value, flat, nonproblematic}
use Rattle.semantics.specs.Code.{code, IsCode}
use Rattle.semantics.specs.Decode.{whole_of, value_of, there, is_code as is_code_of, read as decoded}
use Rattle.semantics.proofs.DecodeLaws.{read_code as decoded_code, decode-read}
use Rattle.semantics.proofs.CodeLaws.{is_code_iff, spelled_is, hollow_is}
use Rattle.theorems.specs.Paper03Pattern.{Node, node, root}
use Rattle.theorems.specs.Paper03Codes.{Read, read, read_node, read_code, is_code, spelled, hollow, Greedy}
use Rattle.theorems.specs.Paper03.{is_code as is_code_in, spelled as spelled_in, hollow as hollow_in, Greedy as GreedyIn}
use Rattle.theorems.specs.Paper03Laws.{bits_are, code_of}
use Rattle.theorems.specs.Numbers.{numbers-bools, length-numbers}
use Rattle.theorems.specs.Paper03Read.{Same, ReadsAs, line_as, reads-node}

-- the nodes are the table's lines
pub record Lists (p : Pattern) (ns : List Node) : Type 0 where
  pub good : obeys p ≡ true
  pub size : length ns ≡ p.count
  pub same : (l : ℕ) → l < p.count → node ns l ≡ line_as (line_at p l)

module _ (p : Pattern) (ns : List Node) (h : Lists p ns) where
  abbrev t : Tree
  t = root_of p

  reads-root : ReadsAs (read_code ns) (root_of p)
  unfolding read_code root root_of
  reads-root =
      let r = (obeys_iff p).0 h.good in
      let one = r.one in
      let few = r.few in
      subst (λ l. ReadsAs (read_node 64 ns l) (tree_of (line_at p) (p.count - 1))) (ap (λ k. k - 1) (sym h.size))
      (reads-node p r ns h.same 64 (p.count - 1) (omega arith) (omega arith))

  whole_so : (x : Read) (o : Option (Value t × List Bool)) → Same t x o
      → (x.good && eqb (length x.rest) 0) ≡ there (bind o (λ q. whole_of q.0 q.1))
  unfolding read bind
  whole_so x none e = rw e refl
  whole_so x (some q) e = rw e (by q.1)
    where
      by : (r : List Bool) → eqb (length (numbers r)) 0 ≡ there (whole_of q.0 r)
      by [] = refl
      by (b ∷ r) = ne_eqb (suc (length (numbers r))) 0 (λ z. omega arith)

  -- the same bits are codes
  code-numbers : (cs : List Bool)
      → (((read_code ns (numbers cs)).good && eqb (length (read_code ns (numbers cs)).rest) 0) && leb (length (numbers cs)) 524288) ≡ is_code_of t cs
  unfolding is_code_of value_of
  code-numbers cs =
      ap₂ (λ a b. a && b) (whole_so (read_code ns (numbers cs)) (decoded t cs) (reads-root cs) ∙ ap there (sym (decode-read t whole_of cs)))
      (ap (λ n. leb n 524288) (length-numbers cs))

  pub code_same : (bs : List ℕ) → is_code ns bs ≡ is_code_in p bs
  unfolding is_code is_code_in
  code_same bs = go (is_bits bs) refl
    where
      whole : List ℕ → Bool
      whole l = ((read_code ns l).good && eqb (length (read_code ns l).rest) 0) && leb (length l) 524288

      go : (b : Bool) → is_bits bs ≡ b → (b && (((read_code ns bs).good && eqb (length (read_code ns bs).rest) 0) && leb (length bs) 524288))
          ≡ (b && is_code_of t (bools bs))
      go false e = refl
      go true e = ap whole (sym (numbers-bools bs e)) ∙ code-numbers (bools bs)

  -- and are read alike
  code_read : (cs : List Bool) (c : IsCode t cs) → read_code ns (numbers cs) ≡ read (flat t c.value) [] (not (nonproblematic t c.value))
  code_read cs c =
      let e : decoded t cs ≡ some (c.value, []) =
      ap (decoded t) (sym (append-nil (code t c.value) ∙ c.written)) ∙ decoded_code t c.value [] in
      subst (Same t (read_code ns (numbers cs))) e (reads-root cs)

  module _ (bs : List ℕ) (c : is_code_in p bs ≡ true) where
    value_read : read_code ns bs ≡ read (flat t ((is_code_iff t (bools bs)).0 (code_of p bs c)).value) []
        (not (nonproblematic t ((is_code_iff t (bools bs)).0 (code_of p bs c)).value))
    value_read =
        ap (read_code ns) (sym (numbers-bools bs (bits_are p bs c))) ∙ code_read (bools bs) ((is_code_iff t (bools bs)).0 (code_of p bs c))

    pub spelled_same : spelled ns bs ≡ spelled_in p bs
    unfolding spelled spelled_in read
    spelled_same = ap (λ x. x.letters) value_read ∙ sym (spelled_is t (bools bs) ((is_code_iff t (bools bs)).0 (code_of p bs c)))

    pub hollow_same : hollow ns bs ≡ hollow_in p bs
    unfolding hollow hollow_in read
    hollow_same = ap (λ x. x.hollow) value_read ∙ sym (hollow_is t (bools bs) ((is_code_iff t (bools bs)).0 (code_of p bs c)))

  -- so one code is the greedy one
  pub greedy_in : (tape gs : List ℕ) → Greedy ns tape gs → GreedyIn p tape gs
  greedy_in tape gs g =
      let c : is_code_in p gs ≡ true = sym (code_same gs) ∙ g.code in
      record {
        code = c;
        spells = sym (spelled_same gs c) ∙ g.spells;
        solid = sym (hollow_same gs c) ∙ g.solid;
        first = λ cs k e o d. g.first cs (code_same cs ∙ k) (spelled_same cs k ∙ e) (hollow_same cs k ∙ o) d;
      }

  pub greedy_out : (tape gs : List ℕ) → GreedyIn p tape gs → Greedy ns tape gs
  greedy_out tape gs g = record {
    code = code_same gs ∙ g.code;
    spells = spelled_same gs g.code ∙ g.spells;
    solid = hollow_same gs g.code ∙ g.solid;
    first = λ cs k e o d.
        let c : is_code_in p cs ≡ true = sym (code_same cs) ∙ k in
        g.first cs c (sym (spelled_same cs c) ∙ e) (sym (hollow_same cs c) ∙ o) d;
  }
