-- A page desk in the bytes that a caller from C lends: the count, and behind it the 30 lengths. Definitions only.
use Rattle.std.specs.Prelude.{cond, List, [], ◌∷◌, ℕ, suc, eqb, length, get_or, drop, replicate}
use Rattle.syntax.specs.declared.Pattern.{Pattern}
use Rattle.refusals.specs.Refusals.{Answer}
use Rattle.refusals.specs.Checks.{first_of}
use Rattle.desk.specs.declared.Desk.{Desk}
use Rattle.desk.specs.declared.DeskRefusal.TheVariants.{DeskLimits}
use Rattle.desk.specs.Desks.{page_limit, desk_refused, table_check, cells_check, open_order}

-- the bytes of a desk: 31
abbrev pub desk_bytes : ℕ
desk_bytes = suc page_limit

-- 02: "At most 30 pages are held": this desk breaks that limit
abbrev pub broken_desk : Desk
broken_desk = record { count = suc page_limit; lengths = replicate page_limit 0 }

-- the desk that bytes are taken for: the first is the count, the others are the lengths. A desk of another length breaks the limits, and is
-- refused where those are looked at (laws `put_other` and `withdraw_other`).
unfoldable pub desk_of_bytes : (bytes : List ℕ) → Desk
desk_of_bytes bytes = cond (eqb (length bytes) desk_bytes) (record { count = get_or bytes 0 0; lengths = drop 1 bytes }) broken_desk

abbrev pub bytes_of_desk : Desk → List ℕ
bytes_of_desk d = d.count ∷ d.lengths

-- what a desk of another length is answered: 13, at opening behind 2 and 6, at putting and withdrawing behind 2 and 9
unfoldable pub other_opened : Pattern → (words : ℕ) → Answer
other_opened p words = first_of desk_refused (open_order p words) (desk_refused DeskLimits)

abbrev pub other_held : Pattern → (cells : ℕ) → Answer
other_held p cells = first_of desk_refused (table_check p ∷ cells_check cells ∷ []) (desk_refused DeskLimits)

-- lent bytes into which a desk was written; a desk of another length is not written
unfoldable pub desk_laid : Desk → (bytes : List ℕ) → List ℕ
desk_laid d bytes = cond (eqb (length bytes) desk_bytes) (bytes_of_desk d) bytes
