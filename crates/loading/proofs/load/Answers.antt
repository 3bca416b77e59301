-- `loading::load` meets its contract.
use Rattle.std.proofs.Common.{rules, ◌≡◌, Err, sym, ◌∙◌, arith}
use Rattle.syntax.specs.TableTest.{fault_within}
use Rattle.loading.specs.Loading.{load_form, load_few, load_empty, load_tree, load_good}
use Rattle.loading.proofs.load.Goals as goal

pub returns-in_err-pattern : goal.returns-in_err-pattern
returns-in_err-pattern c = let e : c.from_residual.result ≡ Err c.in_err-pattern.field-0.0 = search rules in
    rw e (load_form _ _ c.read_lines.ensures _ c.in_err-pattern.was)

pub returns-then-pattern-eq0 : goal.returns-then-pattern-eq0
returns-then-pattern-eq0 c = load_empty _ _ c.read_lines.ensures _ c.in_ok-pattern.was c.if-pattern-eq0.true

pub tree_fault_of-requires : goal.tree_fault_of-requires
tree_fault_of-requires c = load_few _ _ c.read_lines.ensures _ c.in_ok-pattern.was

pub overflow_cast-result : goal.overflow_cast-result
overflow_cast-result c = omega (arith, fault_within _ _ (sym c.tree_fault_of.ensures ∙ c.in-Some.is), load_few _ _ c.read_lines.ensures _ c.in_ok-pattern.was)

pub returns-in-Some : goal.returns-in-Some
returns-in-Some c = load_tree _ _ c.read_lines.ensures _ c.in_ok-pattern.was c.if-pattern-eq0.false _ (sym c.tree_fault_of.ensures ∙ c.in-Some.is)

pub returns-in-None : goal.returns-in-None
returns-in-None c = load_good _ _ c.read_lines.ensures _ c.in_ok-pattern.was c.if-pattern-eq0.false (sym c.tree_fault_of.ensures ∙ c.in-None.is)
