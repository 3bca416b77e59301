-- `listing::list` meets its contract.
use native.Mathlib.Omega.{arith}
use Rattle.listing.specs.ListingLaws.{list_done}
use Rattle.listing.proofs.list.Goals as goal

pub returns : goal.returns
returns c = list_done _ _ c.args.out.now _ _ (omega arith) c.list_text.ensures
