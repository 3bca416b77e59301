-- `listing_lines::put_account` meets its contract: no line for 0 litres.
use Rattle.std.proofs.Common.{refl}
use Rattle.listing_lines.specs.Lines.{account-nothing, account_done}
use Rattle.listing_lines.proofs.put_account.Goals as goal

pub returns-then-litres-eq0 : goal.returns-then-litres-eq0
returns-then-litres-eq0 c =
    account-nothing _ _ c.args.account c.args.litres _ c.if-litres-eq0.true c.min.ensures

pub returns : goal.returns
returns c =
    account_done _ _ c.args.account c.args.litres _ _ _ _ c.if-litres-eq0.false c.put_line.ensures refl c.from.ensures
