-- Bits as document 03 writes them, the numbers 0 and 1, and as truth values: one list for the other.
use Rattle.std.specs.Prelude.{◌≡◌, refl, Bool, true, false, List, [], ◌∷◌, ◌++◌, ℕ, zero, suc, ltb, eqb, length, drop}
use Rattle.std.proofs.Common.{ap, arith, ltb-true}
use Rattle.syntax.specs.Bools.{and_fst}
use Rattle.bits.specs.Paper03.{is_bits, numbers, bools}
use Rattle.semantics.specs.Code.{before as before_bits}
use Rattle.theorems.specs.Paper03Codes.{before}

pub numbers-bools : (bs : List ℕ) → is_bits bs ≡ true → numbers (bools bs) ≡ bs
unfolding is_bits
numbers-bools [] h = refl
numbers-bools (zero ∷ bs) h = ap (λ l. 0 ∷ l) (numbers-bools bs h)
numbers-bools (suc zero ∷ bs) h = ap (λ l. 1 ∷ l) (numbers-bools bs h)
numbers-bools (suc (suc b) ∷ bs) h = absurd (omega (arith, ltb-true (suc (suc b)) 2 (and_fst (ltb (suc (suc b)) 2) (is_bits bs) h)))

pub bools-numbers : (bs : List Bool) → bools (numbers bs) ≡ bs
bools-numbers [] = refl
bools-numbers (true ∷ bs) = ap (λ l. true ∷ l) (bools-numbers bs)
bools-numbers (false ∷ bs) = ap (λ l. false ∷ l) (bools-numbers bs)

pub numbers_are : (bs : List Bool) → is_bits (numbers bs) ≡ true
unfolding is_bits
numbers_are [] = refl
numbers_are (true ∷ bs) = numbers_are bs
numbers_are (false ∷ bs) = numbers_are bs

pub bools-append : (bs cs : List ℕ) → bools (bs ++ cs) ≡ bools bs ++ bools cs
bools-append [] cs = refl
bools-append (b ∷ bs) cs = ap (λ l. eqb b 1 ∷ l) (bools-append bs cs)

pub length-bools : (bs : List ℕ) → length (bools bs) ≡ length bs
length-bools [] = refl
length-bools (b ∷ bs) = ap suc (length-bools bs)

pub before-numbers : (xs ys : List Bool) → before (numbers xs) (numbers ys) ≡ before_bits xs ys
unfolding before
before-numbers [] ys = refl
before-numbers (x ∷ xs) [] = refl
before-numbers (false ∷ xs) (false ∷ ys) = before-numbers xs ys
before-numbers (false ∷ xs) (true ∷ ys) = refl
before-numbers (true ∷ xs) (false ∷ ys) = refl
before-numbers (true ∷ xs) (true ∷ ys) = before-numbers xs ys

pub length-numbers : (bs : List Bool) → length (numbers bs) ≡ length bs
length-numbers [] = refl
length-numbers (b ∷ bs) = ap suc (length-numbers bs)

pub drop-numbers : (n : ℕ) (bs : List Bool) → drop n (numbers bs) ≡ numbers (drop n bs)
drop-numbers zero bs = refl
drop-numbers (suc n) [] = refl
drop-numbers (suc n) (b ∷ bs) = drop-numbers n bs
