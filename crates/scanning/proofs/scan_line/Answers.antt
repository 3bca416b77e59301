-- `scanning::scan_line` meets its contract.
use Rattle.std.proofs.Common.{◌∙◌}
use Rattle.scanning.specs.Scanning.{
  Numbered,
  placed,
  line_no_kind_field,
  line_no_account_field,
  line_numbered,
  line_no_account,
  line_no_single,
  line_no_node,
  line_good,
}
use Rattle.scanning.proofs.scan_line.Goals as goal
use Rattle.scanning.proofs.scan_line.Goals.{After-account_of}

-- the fields of its kind and its account are read
numbered : (c : After-account_of)
    → Numbered c.args.text.now c.args.at c.args.i c.in_ok-kind.kind.bytes.now c.in_ok-number.number.bytes.now c.in_ok-number.number.last
    c.in_ok-number.number.next
numbered c = line_numbered c.args.text.now c.args.at c.args.i c.in_ok-place.ensures.0
    (placed c.in_ok-place.place.bytes.now c.in_ok-place_of.ensures c.from.ensures c.if-from-i.false)
    c.in_ok-kind.ensures.0 c.in_ok-number.ensures.0

pub returns : goal.returns
returns c = line_good (numbered (goal.at.returns c).After-account_of)
    c.in_ok-single_of.ensures c.in_ok-account.ensures c.in_ok-node.ensures

pub returns-in_err-kind : goal.returns-in_err-kind
returns-in_err-kind c = c.from_residual-in_err-kind.ensures
    ∙ line_no_kind_field c.args.text.now c.args.at c.args.i c.in_ok-place.ensures.0 c.in_err-kind.ensures

pub returns-in_err-number : goal.returns-in_err-number
returns-in_err-number c = c.from_residual-in_err-number.ensures
    ∙ line_no_account_field c.args.text.now c.args.at c.args.i c.in_ok-place.ensures.0
    (placed c.in_ok-place.place.bytes.now c.in_ok-place_of.ensures c.from.ensures c.if-from-i.false)
    c.in_ok-kind.ensures.0 c.in_err-number.ensures

pub returns-in_err-account : goal.returns-in_err-account
returns-in_err-account c = c.from_residual-in_err-account.ensures
    ∙ line_no_account (numbered (goal.at.returns-in_err-account c).After-account_of) c.in_err-account.ensures

pub returns-in_err-single_of : goal.returns-in_err-single_of
returns-in_err-single_of c = c.from_residual-in_err-single_of.ensures
    ∙ line_no_single (numbered (goal.at.returns-in_err-single_of c).After-account_of) c.in_err-single_of.ensures

pub returns-in_err-node : goal.returns-in_err-node
returns-in_err-node c = c.from_residual-in_err-node.ensures
    ∙ line_no_node (numbered (goal.at.returns-in_err-node c).After-account_of) c.in_ok-single_of.ensures c.in_err-node.ensures
