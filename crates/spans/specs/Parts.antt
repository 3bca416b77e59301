-- The piece itself, a part of the lent tape: which letters it has, and where they lie. Definitions only.
use Rattle.std.specs.Prelude.{◌≡◌, List, ℕ, ◌+◌}
use Rattle.std.proofs.Math.Option.{Option}
use Rattle.std.specs.Borrow.{Bor}
use Rattle.semantics.specs.Visits.{Visit}
use Rattle.spans.specs.Spans.{start_of, piece_of}

-- 01: "a part of the lent tape slice is returned, not copied". A reference points to an offset in a block of memory, and a letter takes one
-- byte: the piece lies in the tape's block, as many bytes behind the tape's start as letters stand before the visit. So of two equal letters
-- it is the visit's own. 01: "a refused piece is empty": the empty part at the tape's start.
pub record Part-of-tape (shown : Option Visit) (tape piece : Bor (List ℕ)) : Type 0 where
  pub letters : piece.now ≡ piece_of shown tape.now
  pub block : piece.ref_ptr.0 ≡ tape.ref_ptr.0
  pub offset : piece.ref_ptr.1 ≡ start_of shown + tape.ref_ptr.1
