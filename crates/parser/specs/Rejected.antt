-- 01, the bodies to try on reading: "The first round read, then stop bits (2)", "One code for all tapes (2, 3)", "Every tape unreadable (2)".
-- On the pattern a* the contract of `parse` leaves one answer for each of two tapes, so each of these bodies breaks it.
use Rattle.std.proofs.Math.Path.{◌≡◌, ap}
use Rattle.std.specs.Prelude.{refl, true, false, List, [], ◌∷◌, ℕ, ◌+◌, ◌*◌, ◌≤◌, length, replicate, Result}
use Rattle.std.proofs.Common.{sym, ◌∙◌}
use native.Mathlib.Omega.{arith}
use Rattle.std.proofs.Math.ListN.{get_or}
use Rattle.refusals.specs.declared.Refusal.{Refusal}
use Rattle.syntax.specs.declared.Leaf.TheVariants.{Letter}
use Rattle.syntax.specs.declared.Node.TheVariants.{Leaf as LeafNode, Star}
use Rattle.syntax.specs.declared.Pattern.{Pattern}
use Rattle.refusals.specs.declared.Refusal.TheVariants.{Unreadable}
use Rattle.syntax.specs.Letter.{is_letter, first_bad, letter_limit}
use Rattle.refusals.specs.Refusals.{answer, refused}
use Rattle.syntax.specs.Table.{blank, obeys, line_good, wrongly_names, unnamed, tree_fault}
use Rattle.syntax.specs.Trees.{root, tree_of}
use Rattle.bits.specs.Bits.{cell_count, pack, in_front}
use Rattle.semantics.specs.Sweeps.{readable, greedy}
use Rattle.semantics.proofs.GreedyLaws.{greedy_canonical}
use Rattle.parser.specs.Parse.{parsed_answer, Parses}
use Rattle.parser.specs.ParseLaws.{Tested, tested_zero}

-- what reading answers and leaves where a tape is readable and the buffers suffice
pub reads-greedy : (p : Pattern) (tape ws us xs ys : List ℕ) (r : Result ℕ Refusal) → Parses p tape ws us xs ys r →
    obeys p ≡ true → length tape ≤ letter_limit → length tape ≤ first_bad tape → 2 * (length tape + 1) ≤ length ws →
    readable (root p) tape ≡ true → cell_count 8 (length (greedy (root p) tape)) ≤ length xs →
    (parsed_answer r ≡ answer 0 (length (greedy (root p) tape))) × (ys ≡ in_front (pack 8 (greedy (root p) tape)) xs)
reads-greedy p tape ws us xs ys r h good few letters room reads fit =
    let d : Tested p tape ws = record { good = good; few = few; letters = letters; room = room } in
    (h.reads (tested_zero d)).1.fits (greedy (root p) tape) (greedy_canonical (root p) tape reads) fit

-- the pattern a*, as a table of 64 lines
abbrev pub rounds : Pattern
rounds = record { count = 2; lines = record { account = 0; node = LeafNode (Letter 97) } ∷ record { account = 0; node = Star false 0 } ∷ replicate 62 blank }

obeys-rounds : obeys rounds ≡ true
unfolding obeys line_good wrongly_names unnamed tree_fault is_letter
obeys-rounds = refl

bits_a : greedy (root rounds) (97 ∷ []) ≡ false ∷ true ∷ []
unfolding greedy root tree_of
bits_a = refl

bits_aa : greedy (root rounds) (97 ∷ 97 ∷ []) ≡ false ∷ false ∷ true ∷ []
unfolding greedy root tree_of
bits_aa = refl

bytes_aa : pack 8 (false ∷ false ∷ true ∷ []) ≡ 32 ∷ []
unfolding pack
bytes_aa = refl

readable_a : readable (root rounds) (97 ∷ []) ≡ true
unfolding readable root tree_of
readable_a = refl

readable_aa : readable (root rounds) (97 ∷ 97 ∷ []) ≡ true
unfolding readable root tree_of
readable_aa = refl

letters_a : first_bad (97 ∷ []) ≡ 1
unfolding first_bad is_letter
letters_a = refl

letters_aa : first_bad (97 ∷ 97 ∷ []) ≡ 2
unfolding first_bad is_letter
letters_aa = refl

module _ (ws us xs ys : List ℕ) (r : Result ℕ Refusal) (room : 6 ≤ length ws) (fits : 1 ≤ length xs) where
  -- the tape a: two bits, 01
  pub one_round : Parses rounds (97 ∷ []) ws us xs ys r → parsed_answer r ≡ answer 0 2
  one_round h =
      (reads-greedy rounds (97 ∷ []) ws us xs ys r h obeys-rounds (omega arith) (rw letters_a (omega arith)) (omega arith) readable_a
      (rw bits_a (omega arith))).0
      ∙ ap (λ bits. answer 0 (length bits)) bits_a

  -- the tape aa: three bits, 001
  pub two_rounds : Parses rounds (97 ∷ 97 ∷ []) ws us xs ys r → (parsed_answer r ≡ answer 0 3) × (ys ≡ in_front (32 ∷ []) xs)
  two_rounds h =
      let w = reads-greedy rounds (97 ∷ 97 ∷ []) ws us xs ys r h obeys-rounds (omega arith) (rw letters_aa (omega arith)) (omega arith) readable_aa
      (rw bits_aa (omega arith)) in
      (w.0 ∙ ap (λ bits. answer 0 (length bits)) bits_aa, w.1 ∙ ap (λ bits. in_front (pack 8 bits) xs) bits_aa ∙ ap (λ bytes. in_front bytes xs) bytes_aa)

  -- not the first round and stop bits, 011, with the right bit count
  pub first_round_alone : Parses rounds (97 ∷ 97 ∷ []) ws us xs ys r → ys ≡ in_front (96 ∷ []) xs → ⊥
  unfolding in_front
  first_round_alone h e = let z : ◌≡◌ {A = ℕ} 32 96 = ap (λ bytes. get_or bytes 0 0) (sym (two_rounds h).1 ∙ e) in omega arith

  pub never_unreadable : Parses rounds (97 ∷ []) ws us xs ys r → parsed_answer r ≡ refused Unreadable → ⊥
  never_unreadable h e = let z : ◌≡◌ {A = ℕ} 0 5 = ap (λ a. a.number) (sym (one_round h) ∙ e) in omega arith

  -- the two tapes have not one code
  pub not_one_code : (vs zs : List ℕ) (q : Result ℕ Refusal) → Parses rounds (97 ∷ []) ws us xs ys r → Parses rounds (97 ∷ 97 ∷ []) ws vs xs zs q →
      parsed_answer r ≡ parsed_answer q → ⊥
  not_one_code vs zs q h k e =
      let w = (reads-greedy rounds (97 ∷ 97 ∷ []) ws vs xs zs q k obeys-rounds (omega arith) (rw letters_aa (omega arith)) (omega arith) readable_aa
      (rw bits_aa (omega arith))).0 in
      let z : ◌≡◌ {A = ℕ} 2 3 = ap (λ a. a.value) (sym (one_round h) ∙ e ∙ w ∙ ap (λ bits. answer 0 (length bits)) bits_aa) in omega arith
