-- `text::put::put_bytes` meets its contract. The invariant: what is left to put gives what was to be put.
use Rattle.std.proofs.Common.{length, drop}
use Rattle.text.specs.Putting.{ToPut}
use Rattle.text.proofs.put.put_bytes.Given as goal

abbrev pub invariant-loop-byte : goal.invariant-loop-byte
invariant-loop-byte l = ToPut (length l.initial.out) l.initial.out l.at l.bytes l.out l.end (drop l.byte-index l.bytes)
