-- `vector_text::hex::decode` meets its contract. The invariant: what is left to decode gives what was to be put.
use Rattle.std.proofs.Common.{◌*◌, length, drop}
use Rattle.vector_text.specs.Cases.{hex_bytes}
use Rattle.text.specs.Putting.{ToPut}
use Rattle.vector_text.proofs.hex.decode.Given as goal

abbrev pub invariant-loop-n : goal.invariant-loop-n
invariant-loop-n l = ToPut (length l.initial.text) l.initial.text 0 (hex_bytes l.digits) l.text l.n (hex_bytes (drop (2 * l.n) l.digits))
