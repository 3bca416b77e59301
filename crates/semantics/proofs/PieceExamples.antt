-- The law of pieces does not hold of a code that is not settled, and nothing like it holds of totals.
use Rattle.std.proofs.Common.{◌∙◌, sym}
use Rattle.std.specs.Prelude.{◌≡◌, refl, Bool, false, true, ℕ}
use Rattle.std.proofs.lemmas.Bool.{false≢true}
use Rattle.std.proofs.Math.Option.{Option, none, some}
use mathlib.Core.List.{◌∷◌, List, [], head-eq_of_cons-eq}
use Rattle.syntax.specs.declared.Pattern.{Pattern}
use Rattle.syntax.specs.Letter.{is_letter, in_range}
use Rattle.syntax.specs.Tree.{Tree}
use Rattle.syntax.specs.Table.{table}
use Rattle.syntax.specs.Trees.{root, tree_of}
use Rattle.syntax.specs.Subpattern.{sub_pattern}
use Rattle.syntax.proofs.SubpatternCases.{mixed, fourth}
use Rattle.bits.specs.Bits.{bits_of}
use Rattle.semantics.specs.Value.{Value}
use Rattle.semantics.specs.Accounts.{accounts, litres, total}
use Rattle.semantics.specs.Cuts.{Cut, cut, code_cut}
use Rattle.semantics.specs.Decode.{value_of}
use Rattle.semantics.specs.Sweeps.{greedy}
use Rattle.semantics.proofs.GreedyLaws.{canonical_greedy}
use Rattle.semantics.proofs.CutCases.{seven, settled}
use Rattle.semantics.specs.Stands.{Stands}

abbrev pub whole : Cut
whole = record { visit = record { index = 8; start = 0; size = 2 }; from = 0; bits = 2 }

-- "C6 P4, ab: `00`; code `11` settles to `00`": the cut of `11` at the root is there, and does not stand by itself
pub unsettled_cut : code_cut (root fourth) (true ∷ true ∷ []) 8 0 ≡ some whole
unfolding table code_cut cut value_of root tree_of in_range is_letter
unsettled_cut = refl

earlier : greedy (root (sub_pattern fourth 8)) (97 ∷ 98 ∷ []) ≡ false ∷ false ∷ []
unfolding table greedy root tree_of sub_pattern in_range is_letter
earlier = refl

pub unsettled_falls : Stands fourth (97 ∷ 98 ∷ []) (true ∷ true ∷ []) 8 whole → ⊥
unsettled_falls s =
    false≢true (head-eq_of_cons-eq
    (sym earlier ∙ (canonical_greedy (root (sub_pattern fourth 8)) (97 ∷ 98 ∷ []) (true ∷ true ∷ []) s.canonical).1))

-- ── totals ──
abbrev total_by : (t : Tree) → (account : ℕ) → Option (Value t) → ℕ
total_by t a none = 0
total_by t a (some v) = total a (accounts t v)

abbrev litres_in : Pattern → (code : List Bool) → (account : ℕ) → ℕ
litres_in p code a = total_by (root p) a (value_of (root p) code)

-- a range of account 3 under a `K` of account 9: its 7 litres are account 9's in the whole, and account 3's in the piece
pub totals_differ : (litres_in mixed settled 9 ≡ 7) × (litres_in mixed settled 3 ≡ 0) × (litres_in (sub_pattern mixed 1) seven 3 ≡ 7)
unfolding table value_of root tree_of sub_pattern bits_of in_range is_letter total accounts litres
totals_differ = (refl, refl, refl)
