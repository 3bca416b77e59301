-- LAWS of trees that are equal up to their labels: both sweeps do the same on them, whatever may follow, so places and accounts play no part
-- in which tapes are read and what their codes are.
use Rattle.std.proofs.Common.{◌∙◌, ap, ap₂, subst, sym}
use Rattle.std.specs.Prelude.{◌≡◌, refl, ◌&&◌, ◌||◌, Bool, cond, false, not, true, ◌++◌, ◌∷◌, List, [], suc, zero, ℕ, eqb, length}
use Rattle.syntax.specs.Letter.{in_range}
use Rattle.syntax.specs.Tree.{Tree}
use Rattle.syntax.specs.Alike.{Alike, same_nothing, same_letter, same_range, same_seq, same_alt, same_star}
use Rattle.bits.specs.Bits.{bits_of}
use Rattle.semantics.specs.Code.{Canonical}
use Rattle.semantics.specs.Sweeps.{After, after_round, on_letter, can_rounds, can, BitsAfter, emit, another, write_rounds, write, at_end}
use Rattle.semantics.specs.Sweeps.{readable, greedy}
use Rattle.semantics.proofs.GreedyLaws.{canonical_greedy, greedy_canonical}

-- what may follow, and the bits of what follows, are functions: alike where they are equal on each flag and letters
abbrev SameAfter : After → After → Type 0
SameAfter j k = (b : Bool) (w : List ℕ) → j b w ≡ k b w

abbrev SameBits : BitsAfter → BitsAfter → Type 0
SameBits q r = (b : Bool) (w : List ℕ) → q b w ≡ r b w

same_letter_after : (p : ℕ → Bool) (j k : After) → SameAfter j k → SameAfter (on_letter p j) (on_letter p k)
same_letter_after p j k e b [] = refl
same_letter_after p j k e b (c ∷ w) = ap (λ x. p c && x) (e true w)

same_round : (j k : After) → SameAfter j k → SameAfter (after_round j) (after_round k)
same_round j k e b w = ap (λ x. b && x) (e true w)

module _ (c d : After → After) (same : (j k : After) → SameAfter j k → SameAfter (c j) (d k)) where
  same_rounds : (n : ℕ) (j k : After) → SameAfter j k → SameAfter (can_rounds c n j) (can_rounds d n k)
  same_rounds zero j k e b w = e b w
  same_rounds (suc n) j k e b w =
      ap₂ (λ x y. x || y)
      (same (after_round (can_rounds c n j)) (after_round (can_rounds d n k)) (same_round (can_rounds c n j) (can_rounds d n k) (same_rounds n j k e)) false w)
      (e b w)

pub alike_can : {t u : Tree} → Alike t u → (j k : After) → SameAfter j k → SameAfter (can t j) (can u k)
alike_can same_nothing j k e b w = e b w
alike_can (same_letter {c = c}) j k e b w = same_letter_after (eqb c) j k e b w
alike_can (same_range {low = low} {high = high}) j k e b w = same_letter_after (in_range low high) j k e b w
alike_can (same_seq {u = u} {r = r} x y) j k e b w = alike_can x (can u j) (can r k) (alike_can y j k e) b w
alike_can (same_alt x y) j k e b w = ap₂ (λ x y. x || y) (alike_can x j k e b w) (alike_can y j k e b w)
alike_can (same_star {t = t} {s = s} x) j k e b w = same_rounds (can t) (can s) (alike_can x) (suc (length w)) j k e b w

same_emit : (f : ℕ → List Bool) (q r : BitsAfter) → SameBits q r → SameBits (emit f q) (emit f r)
same_emit f q r e b [] = refl
same_emit f q r e b (c ∷ w) = ap (λ x. f c ++ x) (e true w)

module _ (again : Bool) (c d : After → After) (same : (j k : After) → SameAfter j k → SameAfter (c j) (d k)) (f g : After → BitsAfter → BitsAfter)
    (alike : (j k : After) → SameAfter j k → (q r : BitsAfter) → SameBits q r → SameBits (f j q) (g k r)) where
  same_write : (n : ℕ) (j k : After) → SameAfter j k → (q r : BitsAfter) → SameBits q r
      → SameBits (write_rounds again c f n j q) (write_rounds again d g n k r)
  same_write zero j k e q r h b w = ap (λ x. not again ∷ x) (h b w)
  same_write (suc n) j k e q r h b w =
      let o = same_round (can_rounds c n j) (can_rounds d n k) (same_rounds c d same n j k e) in
      ap₂ (λ x y. cond x y (not again ∷ q b w))
      (ap₂ (another again) (same (after_round (can_rounds c n j)) (after_round (can_rounds d n k)) o false w) (e b w))
      (ap (λ x. again ∷ x)
      (alike (after_round (can_rounds c n j)) (after_round (can_rounds d n k)) o (λ z x. write_rounds again c f n j q true x)
      (λ z x. write_rounds again d g n k r true x) (λ z x. same_write n j k e q r h true x) false w))
      ∙ ap (λ x. cond (another again (d (after_round (can_rounds d n k)) false w) (k b w))
      (again ∷ g (after_round (can_rounds d n k)) (λ z y. write_rounds again d g n k r true y) false w) (not again ∷ x)) (h b w)

pub alike_write : {t u : Tree} → Alike t u → (j k : After) → SameAfter j k → (q r : BitsAfter) → SameBits q r
    → SameBits (write t j q) (write u k r)
alike_write same_nothing j k e q r h b w = h b w
alike_write same_letter j k e q r h b w = same_emit (λ x. []) q r h b w
alike_write same_range j k e q r h b w = same_emit (bits_of 8) q r h b w
alike_write (same_seq {u = u} {r = v} x y) j k e q r h b w =
    alike_write x (can u j) (can v k) (alike_can y j k e) (write u j q) (write v k r) (alike_write y j k e q r h) b w
alike_write (same_alt {t = t} {u = u} {s = s} {r = v} x y) j k e q r h b w =
    ap₂ (λ c z. cond c z (true ∷ write u j q b w)) (alike_can x j k e b w) (ap (λ z. false ∷ z) (alike_write x j k e q r h b w))
    ∙ ap (λ z. cond (can s k b w) (false ∷ write s k r b w) (true ∷ z)) (alike_write y j k e q r h b w)
alike_write (same_star {again = again} {t = t} {s = s} x) j k e q r h b w =
    same_write again (can t) (can s) (alike_can x) (write t) (write s) (alike_write x) (suc (length w)) j k e q r h b w

pub alike_readable : {t u : Tree} → Alike t u → (w : List ℕ) → readable t w ≡ readable u w
unfolding readable
alike_readable a w = alike_can a at_end at_end (λ b x. refl) true w

pub alike_greedy : {t u : Tree} → Alike t u → (w : List ℕ) → greedy t w ≡ greedy u w
unfolding greedy
alike_greedy a w = alike_write a at_end at_end (λ b x. refl) (λ b x. []) (λ b x. []) (λ b x. refl) true w

-- so a canonical code is one of both
pub alike_canonical : {t u : Tree} → Alike t u → (w : List ℕ) (bs : List Bool) → Canonical t w bs → Canonical u w bs
alike_canonical {t} {u} a w bs c =
    let (e, g) = canonical_greedy t w bs c in
    subst (Canonical u w) (sym (alike_greedy a w) ∙ g) (greedy_canonical u w (sym (alike_readable a w) ∙ e))
