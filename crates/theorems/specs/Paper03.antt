-- THE STATEMENTS OF DOCUMENT 03 (its specs/Promise.antt), over pattern texts, under 03's names and in 03's form. Definitions only; Paper03Laws
-- has the proofs. Bits are the numbers 0 and 1, as 03 writes them; `is_bits`, `packed`, `handed` and `mark_bit` are 03's own (crate bits), and `before`.
-- What 03 says of the nodes of a text is said here of the table that loading gives, by the definitions that the contracts cite; Paper03Promise
-- has the statements by 03's own. Where a statement's form differs from 03's, the words above it say how, and why it says no less.
use Rattle.std.specs.Prelude.{◌≡◌, Bool, true, false, ◌&&◌, List, [], ◌∷◌, ◌++◌, ℕ, ◌+◌, ◌*◌, ◌-◌, ◌≤◌, leb, eqb, length, get_or}
use Rattle.syntax.specs.declared.Pattern.{Pattern}
use Rattle.syntax.specs.Table.{node_at}
use Rattle.syntax.specs.Trees.{root as tree_of}
use Rattle.loading.specs.Load.{load_answer, load_table}
use Rattle.bits.specs.Bits.{count_below}
use Rattle.bits.specs.Paper03.{is_bits, bools, mark_bit, PacksBack}
use Rattle.semantics.specs.Decode.{is_code as is_code_of, spelled as spelled_of, hollow as hollow_of}
use Rattle.steps.specs.StateSets.{words}
use Rattle.parser.specs.ChoiceLaws.{is_choice}
use Rattle.theorems.specs.Paper03Pattern.{letter_byte}
use Rattle.theorems.specs.Paper03Codes.{before}

-- ── 03's words, by the definitions of this repository ──

-- 03: eqb (load-refusal bs).number 0. The two numbers are one for every text: Paper03Refusals, `same_refusal`.
unfoldable pub is_pattern : (text : List ℕ) → Bool
is_pattern text = eqb (load_answer text).number 0

-- 03: the nodes of the text's lines. Here the table that loading gives; both are read only where the text is a pattern.
abbrev pub loaded : (text : List ℕ) → Pattern
loaded text = load_table text

-- 03: root t = length t - 1
abbrev pub root : Pattern → ℕ
root p = p.count - 1

-- 03: "a whole code of the pattern, in bits": is-bits, all bits read by the root and none left, at most 524,288 of them
unfoldable pub is_code : Pattern → (bits : List ℕ) → Bool
is_code p bs = is_bits bs && is_code_of (tree_of p) (bools bs)

-- 03: the letters that reading the bits gives. Of bits that are no code 03 gives the letters of a front, and this none; no statement below
-- asks for these.
unfoldable pub spelled : Pattern → (bits : List ℕ) → List ℕ
spelled p bs = spelled_of (tree_of p) (bools bs)

-- 03: "whether a round spelled nothing"
unfoldable pub hollow : Pattern → (bits : List ℕ) → Bool
hollow p bs = hollow_of (tree_of p) (bools bs)

-- 03, as it stands: "THE GREEDY READING of a tape, by its code: no empty round, and before every other such code of the tape"
pub record Greedy (p : Pattern) (tape bits : List ℕ) : Type 0 where
  pub code : is_code p bits ≡ true
  pub spells : spelled p bits ≡ tape
  pub solid : hollow p bits ≡ false
  pub first :
      (cs : List ℕ) → is_code p cs ≡ true → spelled p cs ≡ tape → hollow p cs ≡ false → (cs ≡ bits → ⊥) → before bits cs ≡ true

-- 03, as they stand. 02, Job 3: a letter of either side, where 03 has 33 to 126
unfoldable pub letters_good : List ℕ → Bool
letters_good [] = true
letters_good (c ∷ cs) = letter_byte c && letters_good cs

unfoldable pub tape_good : List ℕ → Bool
tape_good cs = leb (length cs) 3600 && letters_good cs

-- 03: how many of the text's nodes are of kind 4 or 5 (`A` or `K`). 02, Job 2: or 6 (`Z`)
unfoldable pub choices : Pattern → ℕ
choices p = count_below p.count (λ l. is_choice (node_at p l))

-- 03: "two words for each place: flag 0, then flag 1". Of a tape of letters 03's own, with fuel, are these: Paper03MarksSame, `marks_same`.
abbrev pub marks : Pattern → (tape : List ℕ) → List ℕ
marks p cs = words p cs

-- ── the statements ──

-- 03: "THE THIRD DEMAND: [..] a settled code is there, spells its tape, has no empty round, comes before all others". In 03's form.
unfoldable pub Settles : Type 0
Settles =
    (text bs : List ℕ) → is_pattern text ≡ true → is_bits bs ≡ true → is_code (loaded text) bs ≡ true → length (spelled (loaded text) bs) ≤ 3600 →
    (gs : List ℕ) × Greedy (loaded text) (spelled (loaded text) bs) gs

-- 03: "of two codes, the settled ones are equal exactly when they spell the same tape". In 03's form.
unfoldable pub SettledEqual : Type 0
SettledEqual =
    (text bs cs gs hs : List ℕ) → is_pattern text ≡ true → is_code (loaded text) bs ≡ true → is_code (loaded text) cs ≡ true →
    Greedy (loaded text) (spelled (loaded text) bs) gs → Greedy (loaded text) (spelled (loaded text) cs) hs →
    (gs ≡ hs → spelled (loaded text) bs ≡ spelled (loaded text) cs) × (spelled (loaded text) bs ≡ spelled (loaded text) cs → gs ≡ hs)

-- 03: "settled again it is itself". 03 says it of tapes of the form spelled bs, for any bits bs, a code or not; this of any tape, so of these
-- too, whatever is given for bits that are no code.
unfoldable pub SettledAgain : Type 0
SettledAgain =
    (text tape gs hs : List ℕ) → is_pattern text ≡ true → Greedy (loaded text) tape gs → Greedy (loaded text) (spelled (loaded text) gs) hs → hs ≡ gs

-- 03: "of two different codes neither begins the other". In 03's form.
unfoldable pub CodesPart : Type 0
CodesPart =
    (text bs cs : List ℕ) → is_pattern text ≡ true → is_code (loaded text) bs ≡ true → is_code (loaded text) (bs ++ cs) ≡ true → cs ≡ []

-- 03: "bit bounds: a nodes of either and rounds, n letters". In 03's form, for texts;
unfoldable pub FewBits : Type 0
FewBits =
    (text bs : List ℕ) → is_pattern text ≡ true → is_code (loaded text) bs ≡ true → hollow (loaded text) bs ≡ false →
    (spelled (loaded text) bs ≡ [] → length bs ≤ choices (loaded text))
    × (1 ≤ length (spelled (loaded text) bs) →
    length bs ≤ 2 * choices (loaded text) * length (spelled (loaded text) bs) + 8 * length (spelled (loaded text) bs))

-- 03: "THE SECOND DEMAND: the root's mark with flag 1 at the tape's start says whether some reading spells it". In 03's form.
unfoldable pub MarksRight : Type 0
MarksRight =
    (text cs : List ℕ) → is_pattern text ≡ true → tape_good cs ≡ true →
    (mark_bit (get_or (marks (loaded text) cs) 1 0) (root (loaded text)) ≡ true →
    (bs : List ℕ) × (is_code (loaded text) bs ≡ true) × (spelled (loaded text) bs ≡ cs))
    × ((bs : List ℕ) → is_code (loaded text) bs ≡ true → spelled (loaded text) bs ≡ cs →
    mark_bit (get_or (marks (loaded text) cs) 1 0) (root (loaded text)) ≡ true)

-- all of them. `PacksBack` ("a code packed and handed in is itself") speaks of no pattern: 03's own, of crate bits.
pub record Promise : Type 0 where
  pub settles : Settles
  pub settled_equal : SettledEqual
  pub settled_again : SettledAgain
  pub codes_part : CodesPart
  pub few_bits : FewBits
  pub marks-right : MarksRight
  pub packs_back : PacksBack
