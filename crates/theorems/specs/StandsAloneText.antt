-- EVERY PIECE STANDS BY ITSELF (02, Job 10), for pattern texts and the calls from C, as one type. It speaks of the program through the promises
-- of `wumbyra_parse`, `wumbyra_canonicalize` and `wumbyra_span` only. Definitions only.
use Rattle.std.specs.Prelude.{◌≡◌, Bool, List, ℕ, ◌+◌, ◌*◌, ◌≤◌, length}
use Rattle.std.proofs.Math.Option.{Option, none, some}
use Rattle.refusals.specs.declared.Refusal.TheVariants.{NoSuchVisit}
use Rattle.refusals.specs.Refusals.{Answer, answer, refused}
use Rattle.syntax.specs.Trees.{root}
use Rattle.syntax.specs.Alike.{Alike}
use Rattle.syntax.specs.Subpattern.{sub_lines, sub_pattern}
use Rattle.loading.specs.Load.{load_answer, load_table}
use Rattle.bits.specs.Bits.{cell_count, pack, held, in_front}
use Rattle.semantics.specs.Cuts.{Cut, code_cut, piece, bits_cut}
use Rattle.canonical.specs.Demand.{spells}
use Rattle.packing.specs.Packing.{unpacked}
use Rattle.wumbyra.specs.Packed.{ParsesText, span_text}
use Rattle.theorems.specs.PatternText.{text_of}
use Rattle.theorems.specs.RoundTrip.{written}
use Rattle.theorems.specs.ThirdDemand.{CodeOf, Call}

-- the text of the pattern made of node l and all below it
abbrev pub sub_text : (text : List ℕ) → (l : ℕ) → List ℕ
sub_text text l = text_of (sub_lines (load_table text) l)

-- start and length of the visit, 16 bits each; a visit without a cut is refused with 10
abbrev pub cut_answer : Option Cut → Answer
cut_answer none = refused NoSuchVisit
cut_answer (some x) = answer 0 (x.visit.start * 65536 + x.visit.size)

-- by the text the letters have this code
pub record HasCode (text letters : List ℕ) (bits : List Bool) : Type 0 where
  -- whatever `wumbyra_parse` may answer and leave on them, in buffers that suffice
  pub read :
      (words words_now code code_now : List ℕ) (r : ℕ) → ParsesText text letters words words_now code code_now r
      → 2 * (length letters + 1) ≤ length words → cell_count 8 (length bits) ≤ length code
      → (unpacked r ≡ answer 0 (length bits)) × (code_now ≡ in_front (pack 8 bits) code)
  -- and `wumbyra_canonicalize`, on any code of the text's pattern that spells them
  pub settled :
      (c : CodeOf text) → spells c ≡ letters → (x : Call text c)
      → (unpacked x.result ≡ answer 0 (length bits)) × (x.out_now ≡ in_front (pack 8 bits) x.out)

-- the cut of a visit of node l: the piece lies in the tape and the bits lie in the code; node l's pattern has a text that loads; by it, and by
-- every text of a pattern of that shape, those bits are the code of that piece
pub record CutAlone (text tape : List ℕ) (bits : List Bool) (l : ℕ) (x : Cut) : Type 0 where
  pub in_tape : x.visit.start + x.visit.size ≤ length tape
  pub in_code : x.from + x.bits ≤ length bits
  pub loads : (load_answer (sub_text text l)).number ≡ 0
  pub table_is : load_table (sub_text text l) ≡ sub_pattern (load_table text) l
  pub alone : HasCode (sub_text text l) (piece tape x) (bits_cut bits x)
  pub alike :
      (other : List ℕ) → (load_answer other).number ≡ 0 → Alike (root (load_table (sub_text text l))) (root (load_table other))
      → HasCode other (piece tape x) (bits_cut bits x)

-- visit k of node l, in a code of the tape: its bytes and bit count, and the bits that these hold
pub record AloneAt (text tape code : List ℕ) (count : ℕ) (bits : List Bool) (l k : ℕ) : Type 0 where
  pub shown : (r : ℕ) → unpacked r ≡ span_text text tape code count l k → unpacked r ≡ cut_answer (code_cut (root (load_table text)) bits l k)
  pub cut : (x : Cut) → code_cut (root (load_table text)) bits l k ≡ some x → CutAlone text tape bits l x

-- of every tape that `wumbyra_parse` reads: it answers 0 and n bits
unfoldable pub StandsAloneText : Type 0
StandsAloneText =
    (text tape words words_now code code_now : List ℕ) (r n : ℕ) → ParsesText text tape words words_now code code_now r → unpacked r ≡ answer 0 n
    → (l k : ℕ) → AloneAt text tape (written n code_now) n (held 8 (written n code_now) n) l k
