-- The promise of reading fixes everything: on the same pattern, tape and buffers two runs answer the same and leave the same.
use Rattle.std.specs.Prelude.{◌≡◌, refl, Bool, true, false, List, ℕ, ◌≤◌, length, Result}
use Rattle.std.proofs.Common.{sym, ◌∙◌, true≢false, arith}
use Rattle.std.proofs.Math.Decide.{dec_le}
use Rattle.refusals.specs.declared.Refusal.{Refusal}
use Rattle.syntax.specs.declared.Pattern.{Pattern}
use Rattle.refusals.specs.Refusals.{Answer, refused}
use Rattle.refusals.specs.RefusalLaws.{answer_same, refused_same, number_positive}
use Rattle.syntax.specs.Tree.{Tree}
use Rattle.syntax.specs.Trees.{root}
use Rattle.bits.specs.Bits.{cell_count}
use Rattle.semantics.specs.Value.{Value, flat}
use Rattle.semantics.specs.Sweeps.{readable, greedy}
use Rattle.semantics.proofs.GreedyLaws.{greedy_canonical, readable_iff}
use Rattle.parser.specs.Parse.{parsed_answer, early, ReadsGreedily, Parses}

-- there is no third case: the tape is unreadable, or its greedy code fits, or it does not
pub greedily_one : (t : Tree) (tape xs ys zs : List ℕ) (a b : Answer) → ReadsGreedily t tape xs ys a → ReadsGreedily t tape xs zs b → (a ≡ b) × (ys ≡ zs)
greedily_one t tape xs ys zs a b f g = go (readable t tape) refl
  where
    both : (e : Answer) (us : List ℕ) → (a ≡ e) × (ys ≡ us) → (b ≡ e) × (zs ≡ us) → (a ≡ b) × (ys ≡ zs)
    both e us p q = (p.0 ∙ sym q.0, p.1 ∙ sym q.1)

    fit : readable t tape ≡ true → Dec (cell_count 8 (length (greedy t tape)) ≤ length xs) → (a ≡ b) × (ys ≡ zs)
    fit e (yes l) = let k = greedy_canonical t tape e in both _ _ (f.1.fits (greedy t tape) k l) (g.1.fits (greedy t tape) k l)
    fit e (no l) = let k = greedy_canonical t tape e in both _ _ (f.1.short (greedy t tape) k (omega arith)) (g.1.short (greedy t tape) k (omega arith))

    go : (r : Bool) → readable t tape ≡ r → (a ≡ b) × (ys ≡ zs)
    go true e = fit e (dec_le (cell_count 8 (length (greedy t tape))) (length xs))
    go false e =
        let none : (v : Value t) → flat t v ≡ tape → ⊥ = λ v q. true≢false (sym ((readable_iff t tape).1 (v, q)) ∙ e) in
        both _ _ (f.0.unreadable none) (g.0.unreadable none)

-- number and value fix the answer
pub parsed_same : (r s : Result ℕ Refusal) → parsed_answer r ≡ parsed_answer s → r ≡ s
parsed_same = answer_same refused refused_same number_positive

pub parses_one : (p : Pattern) (tape words words_now words_too code code_now code_too : List ℕ) (r s : Result ℕ Refusal)
    → Parses p tape words words_now code code_now r → Parses p tape words words_too code code_too s
    → (r ≡ s) × (words_now ≡ words_too) × (code_now ≡ code_too)
parses_one p tape words words_now words_too code code_now code_too r s f g = go (dec_le 1 (early p tape (length words)).number)
  where
    go : Dec (1 ≤ (early p tape (length words)).number) → (r ≡ s) × (words_now ≡ words_too) × (code_now ≡ code_too)
    go (yes n) =
        let a = f.refuses n in
        let b = g.refuses n in
        (parsed_same r s (a.0 ∙ sym b.0), a.1 ∙ sym b.1, a.2 ∙ sym b.2)
    go (no n) =
        let z : (early p tape (length words)).number ≡ 0 = omega arith in
        let e = greedily_one (root p) tape code code_now code_too (parsed_answer r) (parsed_answer s) (f.reads z) (g.reads z) in
        (parsed_same r s e.0, f.fills z ∙ sym (g.fills z), e.1)
