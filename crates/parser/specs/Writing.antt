-- The second half of reading: what is known once the state sets are filled and the tape is known to be readable, and what is written then.
use Rattle.std.specs.Prelude.{◌≡◌, Bool, true, List, ℕ, ◌+◌, ◌*◌, ◌≤◌, ◌<◌, ltb, length, get_or, drop, Err, Ok, Result, Option}
use Rattle.std.specs.Bool.{then_some}
use Rattle.refusals.specs.declared.Refusal.{Refusal}
use Rattle.syntax.specs.declared.Pattern.{Pattern}
use Rattle.refusals.specs.declared.Refusal.TheVariants.{CodeTooShort}
use Rattle.syntax.specs.Letter.{letter_limit}
use Rattle.syntax.specs.Table.{obeys}
use Rattle.syntax.specs.Trees.{root}
use Rattle.bits.specs.Bits.{bit, cell_count, pack, in_front}
use Rattle.semantics.specs.Sweeps.{readable}
use Rattle.steps.specs.StateSets.{state_set}
use Rattle.second_sweep.specs.Sweeping.{Ready}

-- what the tests and the first sweep leave for a tape that is readable
pub record FirstSwept (p : Pattern) (tape words : List ℕ) : Type 0 where
  pub good : obeys p ≡ true
  pub few : length tape ≤ letter_limit
  pub room : 2 * length tape + 1 < length words
  pub filled : (i : ℕ) → i ≤ length tape → (b : Bool) → get_or words (2 * i + bit b) 0 ≡ state_set p b (drop i tape)
  pub reads : readable (root p) tape ≡ true

-- node l of a table can be swept over the whole tape, and its bits are within 01's bound for 64 choices
pub record Writable (table words tape : List ℕ) (l : ℕ) : Type 0 where
  pub ready : Ready table words tape l 0 true 0
  pub bound : length ready.it.bits ≤ 136 * length tape + 64

-- how many bytes so many bits need, where a buffer has fewer
abbrev pub missing : (bits size : ℕ) → Option ℕ
missing n size = then_some (ltb size (cell_count 8 n)) (cell_count 8 n)

abbrev pub Misses : (table words tape : List ℕ) → (l size : ℕ) → Option ℕ → Type 0
Misses table words tape l size m = (s : Writable table words tape l) → m ≡ missing (length s.ready.it.bits) size

-- bits in front of the code if they fit, else the bytes needed and the code as it was
pub record Writes (bits : List Bool) (code code_now : List ℕ) (r : Result ℕ Refusal) : Type 0 where
  pub fits : cell_count 8 (length bits) ≤ length code → (r ≡ Ok (length bits)) × (code_now ≡ in_front (pack 8 bits) code)
  pub short : length code < cell_count 8 (length bits) → (r ≡ Err (CodeTooShort (cell_count 8 (length bits)))) × (code_now ≡ code)

abbrev pub WritesAll : (table words tape : List ℕ) → (l : ℕ) → (code code_now : List ℕ) → Result ℕ Refusal → Type 0
WritesAll table words tape l code code_now r = (s : Writable table words tape l) → Writes s.ready.it.bits code code_now r
