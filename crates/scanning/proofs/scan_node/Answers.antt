-- `scanning::scan_node` meets its contract.
use Rattle.std.proofs.Common.{◌∙◌}
use Rattle.scanning.specs.Scanning.{node_one, node_two}
use Rattle.scanning.proofs.scan_node.Goals as goal

pub returns-in_err-parse_one : goal.returns-in_err-parse_one
returns-in_err-parse_one c = c.from_residual-in_err-parse_one.ensures
    ∙ node_one _ _ _ _ c.if-account.false c.in_ok-x.ensures.0 c.if-x.true c.in_err-parse_one.ensures

pub returns-then-x : goal.returns-then-x
returns-then-x c = node_one _ _ _ _ c.if-account.false c.in_ok-x.ensures.0 c.if-x.true c.in_ok-parse_one.ensures

pub returns-in_err-parse_two : goal.returns-in_err-parse_two
returns-in_err-parse_two c = c.from_residual-in_err-parse_two.ensures
    ∙ node_two _ _ _ _ c.if-account.false c.in_ok-x.ensures.0 c.if-x.false c.in_ok-y.ensures.0 c.if-y.true c.in_err-parse_two.ensures

pub returns-then-y : goal.returns-then-y
returns-then-y c = node_two _ _ _ _ c.if-account.false c.in_ok-x.ensures.0 c.if-x.false c.in_ok-y.ensures.0 c.if-y.true c.in_ok-parse_two.ensures
