-- 01, the bodies to try: "Settling that hands its code back (demand 3)". On two codes of document 01: no answer and buffers that the contract of
-- `canonicalize` allows are those of a settling that hands the code back.
use Rattle.std.specs.Prelude.{◌≡◌, refl, true, false, [], ◌∷◌, ℕ, zero, suc, ◌≤◌, get_or, replicate}
use Rattle.std.proofs.Common.{sym, ap, ◌∙◌, true≢false, arith}
use Rattle.std.proofs.lemmas.Bool.{false≢true}
use Rattle.syntax.specs.declared.Leaf.TheVariants.{Nothing, Letter}
use Rattle.syntax.specs.declared.Line.{Line}
use Rattle.syntax.specs.declared.Node.{Node}
use Rattle.syntax.specs.declared.Node.TheVariants.{Leaf as LeafNode, Sequence, Alternative, Star}
use Rattle.syntax.specs.declared.Pattern.{Pattern}
use Rattle.syntax.specs.Letter.{is_letter}
use Rattle.syntax.specs.Table.{blank, obeys, line_good, wrongly_names, unnamed, tree_fault}
use Rattle.syntax.specs.Trees.{root, tree_of}
use Rattle.bits.specs.Bits.{Small, bits_of, held, exact, handed_good}
use Rattle.semantics.specs.Code.{NoEmptyRound, before}
use Rattle.semantics.specs.Decode.{value_of, is_code, spelled, hollow}
use Rattle.semantics.proofs.CodeLaws.{solid_iff}
use Rattle.walks.specs.Whole.{whole_code, letters_of}
use Rattle.canonical.specs.Demand.{IsCode, Code, Run, Settled, bytes_of, Equal}
use Rattle.canonical.proofs.Demanded.{spells_same, handed-back, empty-round-kept}

abbrev pub line : Node → Line
line k = record { account = 0; node = k }

abbrev pub one_letter : ℕ → Line
one_letter c = line (LeafNode (Letter c))

-- ── an empty round is not kept ──

-- "P1: (a|e)*"
abbrev pub P1 : Pattern
P1 = record { count = 4; lines = one_letter 97 ∷ line (LeafNode Nothing) ∷ line (Alternative 0 1) ∷ line (Star false 2) ∷ replicate 60 blank }

obeys_P1 : obeys P1 ≡ true
unfolding obeys line_good wrongly_names unnamed tree_fault is_letter
obeys_P1 = refl

-- a code of one byte
pub small_byte : (x : ℕ) → x ≤ 255 → Small 8 (x ∷ [])
small_byte x h zero = omega arith
small_byte x h (suc k) = omega arith

-- "C10 P1, code `011` settles to `1`": the bits 011 are the byte 96
pub whole-C10 : whole_code (root P1) (96 ∷ []) 3 ≡ true
unfolding whole_code handed_good exact held bits_of is_code value_of root tree_of is_letter
whole-C10 = refl

pub spells-C10 : letters_of (root P1) (96 ∷ []) 3 ≡ []
unfolding letters_of held bits_of spelled value_of root tree_of is_letter
spells-C10 = refl

hollow-C10 : hollow (root P1) (held 8 (96 ∷ []) 3) ≡ true
unfolding hollow held bits_of value_of root tree_of is_letter
hollow-C10 = refl

abbrev pub C10 : Code P1
C10 = record { bytes = 96 ∷ []; count = 3; is = record { small = small_byte 96 (omega arith); whole = whole-C10 }; few = rw spells-C10 (omega arith) }

pub C10NotHandedBack : (x : Run P1 C10) (s : Settled x) → Equal (bytes_of x s) (96 ∷ []) s.count 3 → ⊥
C10NotHandedBack x s =
    empty-round-kept P1 obeys_P1 C10 x s (λ solid. true≢false (sym hollow-C10 ∙ ((solid_iff (root P1) (held 8 (96 ∷ []) 3)).1 solid).1))

-- ── nor is a code that another comes before ──

-- "P4: (a|ab)(b|e)"
abbrev pub P4 : Pattern
P4 = record {
  count = 9;
  lines =
      one_letter 97 ∷ one_letter 97 ∷ one_letter 98 ∷ line (Sequence 1 2) ∷ line (Alternative 0 3) ∷ one_letter 98 ∷ line (LeafNode Nothing)
      ∷ line (Alternative 5 6) ∷ line (Sequence 4 7) ∷ replicate 55 blank;
}

obeys_P4 : obeys P4 ≡ true
unfolding obeys line_good wrongly_names unnamed tree_fault is_letter
obeys_P4 = refl

-- "C6 [..] code `11` settles to `00`": the bytes 192 and 0
pub whole_C6 : whole_code (root P4) (192 ∷ []) 2 ≡ true
unfolding whole_code handed_good exact held bits_of is_code value_of root tree_of is_letter
whole_C6 = refl

pub spells_C6 : letters_of (root P4) (192 ∷ []) 2 ≡ 97 ∷ 98 ∷ []
unfolding letters_of held bits_of spelled value_of root tree_of is_letter
spells_C6 = refl

abbrev pub C6 : Code P4
C6 = record { bytes = 192 ∷ []; count = 2; is = record { small = small_byte 192 (omega arith); whole = whole_C6 }; few = rw spells_C6 (omega arith) }

whole_00 : whole_code (root P4) (0 ∷ []) 2 ≡ true
unfolding whole_code handed_good exact held bits_of is_code value_of root tree_of is_letter
whole_00 = refl

spells_00 : letters_of (root P4) (0 ∷ []) 2 ≡ 97 ∷ 98 ∷ []
unfolding letters_of held bits_of spelled value_of root tree_of is_letter
spells_00 = refl

is_00 : IsCode P4 (0 ∷ []) 2
is_00 = record { small = small_byte 0 (omega arith); whole = whole_00 }

solid_00 : NoEmptyRound (root P4) (held 8 (0 ∷ []) 2)
unfolding hollow held bits_of is_code value_of root tree_of is_letter
solid_00 = (solid_iff (root P4) (held 8 (0 ∷ []) 2)).0 (refl, refl)

later_C6 : before (held 8 (192 ∷ []) 2) (held 8 (0 ∷ []) 2) ≡ false
unfolding held bits_of
later_C6 = refl

pub C6NotHandedBack : (x : Run P4 C6) (s : Settled x) → Equal (bytes_of x s) (192 ∷ []) s.count 2 → ⊥
C6NotHandedBack x s e =
    let other : Equal (0 ∷ []) (192 ∷ []) 2 2 → ⊥ = λ q. let z : ◌≡◌ {A = ℕ} 0 192 = ap (λ l. get_or l 0 0) q.1 in omega arith in
    false≢true
    (sym later_C6
    ∙ (handed-back P4 obeys_P4 C6 x s e).first (0 ∷ []) 2 is_00
    ((spells_same P4 (0 ∷ []) 2 is_00 (letters_of (root P4) (192 ∷ []) 2)).0 (spells_00 ∙ sym spells_C6)) solid_00 other)
