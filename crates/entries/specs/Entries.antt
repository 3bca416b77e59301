-- The entries from a position of a code on, and the position behind them: the equations of a walk for entries.
-- The walk sees every bit of the bytes: where they begin with a code it stops by itself at the code's end.
use Rattle.std.specs.Prelude.{◌≡◌, Bool, cond, ℕ, ◌+◌, ◌*◌, ◌≤◌, ◌<◌, length, drop}
use Rattle.std.proofs.Math.Path.{refl, ap, ap₂}
use Rattle.std.proofs.Common.{sym, ◌∙◌, arith}
use Rattle.std.proofs.Math.Bool.{true, false}
use Rattle.std.proofs.Math.Option.{none, some}
use mathlib.Core.List.{List, [], ◌∷◌, ◌++◌, map}
use Rattle.syntax.specs.declared.Leaf.{Leaf}
use Rattle.syntax.specs.declared.Leaf.TheVariants.{Nothing, Letter, Range}
use Rattle.syntax.specs.declared.Node.TheVariants.{Leaf as LeafNode}
use Rattle.syntax.specs.Letter.{in_range}
use Rattle.syntax.specs.Tree.{Label, Tree, range, seq, alt, star}
use Rattle.syntax.specs.Trees.{made, unplanted}
use Rattle.bits.specs.Bits.{bit_at, number_at, held}
use Rattle.semantics.specs.Accounts.{owner, entries}
use Rattle.semantics.proofs.AccountLaws.{handed_none}
use Rattle.semantics.specs.Decode.{Read, read}
use Rattle.semantics.specs.Positions.{Seen, see, seen, and_then}
use Rattle.walks.specs.Looks.{look_stays, look-nothing, look_letter, look_short, look_range, look_outside, look_seq, look_alt_none, look-left}
use Rattle.walks.specs.Looks.{stops, look-right, look_star_none, look_stop, look-round}

abbrev pub Entries : Type 0
Entries = List (ℕ × ℕ)

-- the accounts of entries; `letters` of semantics' AccountLaws are their letters
abbrev pub accounts_in : Entries → List ℕ
accounts_in es = map (λ e. e.1) es

-- `above` is the account that is handed down to the node
unfoldable pub entries_at : (code : List ℕ) → Tree → (above at : ℕ) → Seen Entries
entries_at code t o at = see (held 8 code (length code * 8)) t (entries t o) at

abbrev pub entries_then : Seen Entries → (ℕ → Seen Entries) → Seen Entries
entries_then = and_then ◌++◌

-- a leaf that has been handed its account: it has none of its own
abbrev pub leaf_tree : Leaf → Tree
leaf_tree x = made (record { index = 0; account = 0 }) (λ q. unplanted) (LeafNode x)

pub leaf_entries : (code : List ℕ) (m : Label) (f : ℕ → Tree) (x : Leaf) (o at : ℕ)
    → entries_at code (made m f (LeafNode x)) o at ≡ entries_at code (leaf_tree x) (owner m o) at
unfolding entries_at see read
leaf_entries code m f Nothing o at = refl
leaf_entries code m f (Letter c) o at =
    ap (λ a. see (held 8 code (length code * 8)) (leaf_tree (Letter c)) (λ v. (c, a) ∷ []) at) (sym (handed_none (owner m o)))
leaf_entries code m f (Range a b) o at = go (read (leaf_tree (Range a b)) (drop at (held 8 code (length code * 8))))
  where
    go : (r : Read (leaf_tree (Range a b))) → seen (length (held 8 code (length code * 8))) (range m a b) (entries (range m a b) o) r
        ≡ seen (length (held 8 code (length code * 8))) (leaf_tree (Range a b)) (entries (leaf_tree (Range a b)) (owner m o)) r
    go none = refl
    go (some p) =
        ap (λ z. seen (length (held 8 code (length code * 8))) (leaf_tree (Range a b)) (λ v. (v.0, z) ∷ []) (some p)) (sym (handed_none (owner m o)))

module _ (code : List ℕ) where
  module _ (o at : ℕ) where
    pub entries_stays : (t : Tree) → at ≤ length code * 8 → (w : Entries) (j : ℕ) → entries_at code t o at ≡ some (w, j)
        → (at ≤ j) × (j ≤ length code * 8)
    unfolding entries_at
    entries_stays t le w j e = look_stays code (length code * 8) (omega arith) t (entries t o) at le w j e

    -- leaves
    pub entries-nothing : (x : Leaf) → x ≡ Nothing → at ≤ length code * 8 → entries_at code (leaf_tree x) o at ≡ some ([], at)
    unfolding entries_at
    entries-nothing x e le =
        ap (λ y. entries_at code (leaf_tree y) o at) e ∙ look-nothing code (length code * 8) (omega arith) _ at (entries (leaf_tree Nothing) o) le

    pub entries_letter : (x : Leaf) (c : ℕ) → x ≡ Letter c → at ≤ length code * 8 → entries_at code (leaf_tree x) o at ≡ some ((c, o) ∷ [], at)
    unfolding entries_at
    entries_letter x c e le =
        ap (λ y. entries_at code (leaf_tree y) o at) e ∙ look_letter code (length code * 8) (omega arith) _ at c (entries (leaf_tree (Letter c)) o) le
        ∙ ap (λ z. some ((c, z) ∷ [], at)) (handed_none o)

    module _ (a b : ℕ) where
      pub entries_short : length code * 8 < at + 8 → entries_at code (leaf_tree (Range a b)) o at ≡ none
      unfolding entries_at
      entries_short h = look_short code (length code * 8) (omega arith) _ a b (entries (leaf_tree (Range a b)) o) at h

      module _ (c : ℕ) (h : at + 8 ≤ length code * 8) (e : c ≡ number_at 8 code at 8) where
        pub entries_range : in_range a b c ≡ true → entries_at code (leaf_tree (Range a b)) o at ≡ some ((c, o) ∷ [], at + 8)
        unfolding entries_at
        entries_range q =
            look_range code (length code * 8) (omega arith) _ a b (entries (leaf_tree (Range a b)) o) at c h e q
            ∙ ap (λ z. some ((c, z) ∷ [], at + 8)) (handed_none o)

        pub entries_outside : in_range a b c ≡ false → entries_at code (leaf_tree (Range a b)) o at ≡ none
        unfolding entries_at
        entries_outside q = look_outside code (length code * 8) (omega arith) _ a b (entries (leaf_tree (Range a b)) o) at c h e q

    module _ (m : Label) (t u : Tree) where
      pub entries_seq : at ≤ length code * 8
          → entries_at code (seq m t u) o at ≡ entries_then (entries_at code t (owner m o) at) (entries_at code u (owner m o))
      unfolding entries_at
      entries_seq le =
          look_seq code (length code * 8) (omega arith) ◌++◌ m t u (entries (seq m t u) o) (entries t (owner m o)) (entries u (owner m o)) (λ v w. refl) at le

      pub entries_alt_none : length code * 8 ≤ at → entries_at code (alt m t u) o at ≡ none
      unfolding entries_at
      entries_alt_none h = look_alt_none code (length code * 8) (omega arith) m t u (entries (alt m t u) o) at h

      pub entries_side : at < length code * 8
          → entries_at code (alt m t u) o at ≡ entries_at code (cond (bit_at 8 code at) u t) (owner m o) (at + 1)
      unfolding entries_at
      entries_side h = go (bit_at 8 code at) refl
        where
          go : (b : Bool) → bit_at 8 code at ≡ b
              → see (held 8 code (length code * 8)) (alt m t u) (entries (alt m t u) o) at
              ≡ see (held 8 code (length code * 8)) (cond b u t) (entries (cond b u t) (owner m o)) (at + 1)
          go true e = look-right code (length code * 8) (omega arith) m t u (entries (alt m t u) o) at h e
          go false e = look-left code (length code * 8) (omega arith) m t u (entries (alt m t u) o) at h e

    -- a star, whichever bit means another round
    module _ {t u : Tree} {m : Label} {again : Bool} (e : t ≡ star m again u) where
      as_star : entries_at code t o at ≡ entries_at code (star m again u) o at
      as_star = ap (λ z. entries_at code z o at) e

      pub entries_star_none : length code * 8 ≤ at → entries_at code t o at ≡ none
      unfolding entries_at
      entries_star_none h = as_star ∙ look_star_none code (length code * 8) (omega arith) m again u (entries (star m again u) o) at h

      pub entries_stop : at < length code * 8 → (s : Bool) → s ≡ stops again (bit_at 8 code at) → s ≡ true → entries_at code t o at ≡ some ([], at + 1)
      unfolding entries_at
      entries_stop h s es z = as_star ∙ look_stop code (length code * 8) (omega arith) m again u (entries (star m again u) o) at h (sym es ∙ z)

      pub entries-round : at < length code * 8 → (s : Bool) → s ≡ stops again (bit_at 8 code at) → s ≡ false → (w : ℕ) → w ≡ owner m o
          → entries_at code t o at ≡ entries_then (entries_at code u w (at + 1)) (entries_at code t o)
      unfolding entries_at
      entries-round h s es z w ew =
          as_star
          ∙ look-round code (length code * 8) (omega arith) m again u (entries (star m again u) o) at ◌++◌ (entries u (owner m o)) (entries (star m again u) o)
          (λ v vs. refl) h (sym es ∙ z)
          ∙ ap₂ (λ y z. entries_then (entries_at code u y (at + 1)) (entries_at code z o)) (sym ew) (sym e)
