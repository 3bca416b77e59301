-- The piece that is returned lies where its visit does.
use Rattle.std.specs.Prelude.{◌≡◌, List, ℕ, ◌-◌}
use Rattle.std.proofs.Common.{sym, ap, ◌∙◌, arith}
use Rattle.std.proofs.Math.Option.{Option}
use Rattle.std.specs.Borrow.{Bor}
use Rattle.semantics.specs.Visits.{Visit}
use Rattle.spans.specs.Spans.{start_of}
use Rattle.spans.specs.Parts.{Part-of-tape}

-- Visits that start apart have pieces that lie apart, though their letters may be equal: on tape `aa` the first `a` is no piece of the second visit.
pub pieces_apart : (v w : Option Visit) (tape one two : Bor (List ℕ)) → Part-of-tape v tape one → Part-of-tape w tape two
    → (start_of v ≡ start_of w → ⊥) → one.ref_ptr ≡ two.ref_ptr → ⊥
pieces_apart v w tape one two a b apart e = apart (omega (arith, a.offset, b.offset, ap (λ x. x.1) e))

-- the promise fixes letters and place
pub piece_one : (v : Option Visit) (tape one two : Bor (List ℕ)) → Part-of-tape v tape one → Part-of-tape v tape two
    → (one.now ≡ two.now) × (one.ref_ptr.0 ≡ two.ref_ptr.0) × (one.ref_ptr.1 ≡ two.ref_ptr.1)
piece_one v tape one two a b = (a.letters ∙ sym b.letters, a.block ∙ sym b.block, a.offset ∙ sym b.offset)
