-- `listing_lines::put_accounts` meets its contract. The invariant: what is left to put gives what was to be put.
use Rattle.std.proofs.Common.{length, drop}
use Rattle.text.specs.Putting.{ToPut}
use Rattle.listing_lines.specs.LineBytes.{account_lines}
use Rattle.listing_lines.proofs.put_accounts.Given as goal

abbrev pub invariant-loop-i : goal.invariant-loop-i
invariant-loop-i l = ToPut (length l.initial.out) l.initial.out l.at (account_lines 0 l.litres) l.out l.end (account_lines l.i (drop l.i l.litres))
