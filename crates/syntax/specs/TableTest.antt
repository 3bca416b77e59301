-- Laws of the table test and of the tree fault that it looks for.
use Rattle.std.specs.Prelude.{◌≡◌, refl, true, ℕ, ◌-◌, ◌≤◌, ◌<◌, Option, None, Some, take, length, not}
use Rattle.std.proofs.Common.{◌∙◌, ap, arith}
use borrow.Author.Tests.{le-leb}
use Rattle.std.specs.List.{list_all}
use Rattle.syntax.specs.declared.Pattern.{Pattern}
use Rattle.syntax.specs.Table.{badly_formed, wrongly_names, unnamed, lowest, or_else, tree_fault, is_none, obeys, blank, line_good}
use Rattle.syntax.specs.Lowest.{lowest-within, lowest_position, none_position}

-- ── a tree fault lies below the count ──
pub fault_within : (p : Pattern) (l : ℕ) → tree_fault p ≡ Some l → l < p.count
unfolding tree_fault
fault_within p l h = go (lowest (wrongly_names p) 0 p.count) refl h
  where
    go : (o : Option ℕ) → lowest (wrongly_names p) 0 p.count ≡ o → or_else o (lowest (unnamed p) 0 (p.count - 1)) ≡ Some l → l < p.count
    go None e q = omega (arith, lowest-within (unnamed p) 0 (p.count - 1) l q)
    go (Some j) e q = let s : j ≡ l = (cc) in omega (arith, lowest-within (wrongly_names p) 0 p.count j e)

-- ── the table test ──
module _ (p : Pattern) (one : 1 ≤ p.count) (few : p.count ≤ 64) (h : is_none (lowest (badly_formed p) 0 p.count) ≡ true) where
  pub good-table : tree_fault p ≡ None → true ≡ obeys p
  unfolding obeys
  good-table e = rw (le-leb 1 p.count one, le-leb p.count 64 few, h, e)

-- no line is badly formed where all lines in front of the count are good
pub good_lines_are : (p : Pattern) → p.count ≤ length p.lines → is_none (lowest (badly_formed p) 0 p.count) ≡ list_all line_good (take p.count p.lines)
good_lines_are p l =
    ap is_none (lowest_position (λ x. not (line_good x)) blank (badly_formed p) p.lines p.count l (λ j h. refl)) ∙ none_position line_good (take p.count p.lines)
