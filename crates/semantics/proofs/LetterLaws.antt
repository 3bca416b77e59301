-- LAWS of letters: what a value spells is made of letters, if the tree's letter leaves are letters (a range has no others).
use Rattle.std.specs.Prelude.{◌≡◌, true, ◌∷◌, List, [], ℕ}
use Rattle.std.proofs.Common.{inl, inr}
use Rattle.syntax.specs.Letter.{is_letter, in_range}
use Rattle.syntax.specs.Tree.{Tree, nothing, letter, range, seq, alt, star}
use Rattle.semantics.specs.Every.{Lettered}
use Rattle.semantics.specs.Value.{Value, flat_rounds, flat}
use Rattle.semantics.proofs.Basics.{and_fst}
use Rattle.semantics.specs.Every.{All}
use Rattle.semantics.proofs.VisitLaws.{all_append}

rounds-letters : {A : Type 0} (P : ℕ → Type 0) (f : A → List ℕ) → ((v : A) → All P (f v)) → (vs : List A) → All P (flat_rounds f vs)
rounds-letters P f one [] = tt
rounds-letters P f one (v ∷ vs) = all_append P (f v) (flat_rounds f vs) (one v) (rounds-letters P f one vs)

pub flat-letters : (t : Tree) → Lettered t → (v : Value t) → All (λ c. is_letter c ≡ true) (flat t v)
unfolding in_range
flat-letters (nothing m) h v = tt
flat-letters (letter m c) h v = (h, tt)
flat-letters (range m low high) h v = (and_fst (is_letter v.0) _ v.1, tt)
flat-letters (seq m t u) h v = all_append (λ c. is_letter c ≡ true) (flat t v.0) (flat u v.1) (flat-letters t h.0 v.0)
    (flat-letters u h.1 v.1)
flat-letters (alt m t u) h (inl v) = flat-letters t h.0 v
flat-letters (alt m t u) h (inr v) = flat-letters u h.1 v
flat-letters (star m again t) h vs = rounds-letters (λ c. is_letter c ≡ true) (flat t) (flat-letters t h) vs
