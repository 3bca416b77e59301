-- What writing a code finds missing in the buffer, in each of its cases. No answer needs these laws, since `then_some` makes the case.
use Rattle.std.specs.Prelude.{◌≡◌, refl, List, ℕ, ◌+◌, ◌≤◌, ◌<◌, length, Option, Some, None}
use Rattle.std.specs.Bool.{then_some}
use borrow.Author.Tests.{lt-ltb, le-ltb}
use Rattle.bits.specs.Bits.{cell_count, byte_limit}
use Rattle.parser.specs.Writing.{missing, Writable}
use Rattle.parser.specs.ParseLaws.{needed_bits, missing_counted, write_short}

module _ {table words tape : List ℕ} {l : ℕ} (s : Writable table words tape l) (size : ℕ) where
  pub missing-some : (at : ℕ) → at ≡ 0 + needed_bits s size → (m : ℕ) → m ≡ cell_count 8 at → size < m → Some m ≡ missing (needed_bits s size) size
  missing-some at e m f h = missing_counted s size at e m f (Some m) (rw (lt-ltb size m h) refl)

  pub missing_enough : (at : ℕ) → at ≡ 0 + needed_bits s size → (m : ℕ) → m ≡ cell_count 8 at → m ≤ size → None ≡ missing (needed_bits s size) size
  missing_enough at e m f h = missing_counted s size at e m f None (rw (le-ltb size m h) refl)

-- no code needs more bytes than the longest
module _ {table words tape : List ℕ} {l : ℕ} (s : Writable table words tape l) (xs : List ℕ) where
  pub needed_small : {needed : ℕ} → Some needed ≡ missing (length s.ready.it.bits) (length xs) → needed ≤ byte_limit
  needed_small e = (write_short s xs e).1
