-- The promise of settling fixes everything: on the same pattern, code and buffers two runs answer the same and leave the same.
use Rattle.std.specs.Prelude.{◌≡◌, List, ℕ, ◌≤◌, length, Result}
use Rattle.std.proofs.Common.{sym, ◌∙◌, arith}
use Rattle.std.proofs.Math.Decide.{dec_le}
use Rattle.refusals.specs.declared.Refusal.{Refusal}
use Rattle.syntax.specs.declared.Pattern.{Pattern}
use Rattle.refusals.specs.Refusals.{refused}
use Rattle.refusals.specs.RefusalLaws.{answer_same, refused_same, number_positive}
use Rattle.syntax.specs.Trees.{root}
use Rattle.walks.specs.Whole.{letters_of}
use Rattle.parser.specs.Unique.{greedily_one}
use Rattle.canonical.specs.Canonicalize.{canonicalized_answer, settle_early, Canonicalizes}

-- number and value fix the answer
pub canonicalized_same : (r s : Result ℕ Refusal) → canonicalized_answer r ≡ canonicalized_answer s → r ≡ s
canonicalized_same = answer_same refused refused_same number_positive

module _ (p : Pattern) (code : List ℕ) (count : ℕ)
    (tape tape_now tape_too words words_now words_too canonical canonical_now canonical_too : List ℕ) (r s : Result ℕ Refusal) where
  pub canonicalizes_one : Canonicalizes p code count tape tape_now words words_now canonical canonical_now r
      → Canonicalizes p code count tape tape_too words words_too canonical canonical_too s
      → (r ≡ s) × (tape_now ≡ tape_too) × (words_now ≡ words_too) × (canonical_now ≡ canonical_too)
  canonicalizes_one f g = go (dec_le 1 (settle_early p code count (length tape) (length words)).number)
    where
      go : Dec (1 ≤ (settle_early p code count (length tape) (length words)).number)
          → (r ≡ s) × (tape_now ≡ tape_too) × (words_now ≡ words_too) × (canonical_now ≡ canonical_too)
      go (yes n) =
          let a = f.refuses n in
          let b = g.refuses n in
          (canonicalized_same r s (a.0 ∙ sym b.0), f.spells ∙ sym g.spells, a.1 ∙ sym b.1, a.2 ∙ sym b.2)
      go (no n) =
          let z : (settle_early p code count (length tape) (length words)).number ≡ 0 = omega arith in
          let e = greedily_one (root p) (letters_of (root p) code count) canonical canonical_now canonical_too
          (canonicalized_answer r) (canonicalized_answer s) (f.reads z) (g.reads z) in
          (canonicalized_same r s e.0, f.spells ∙ sym g.spells, f.fills z ∙ sym (g.fills z), e.1)
