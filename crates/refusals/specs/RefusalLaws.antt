-- A cause is known by its number and value: a refusal, and a cause of an enum that wraps it.
use Rattle.std.specs.Prelude.{◌≡◌, refl, cond, List, [], ◌∷◌, ℕ, zero, suc, ◌≤◌, eqb, Result, Ok, Err}
use Rattle.std.proofs.Common.{sym, ap, ◌∙◌, arith, ne_eqb}
use Rattle.refusals.specs.declared.Refusal.{Refusal}
use Rattle.refusals.specs.declared.Refusal.TheVariants.{LineForm, Tree, TapeTooLong, TapeByte, Unreadable, WordsTooShort, CodeTooShort}
use Rattle.refusals.specs.declared.Refusal.TheVariants.{NotACode, TapeTooShort, NoSuchVisit}
use Rattle.refusals.specs.Refusals.{number, Answer, answer_by, refused}

-- an answer is no refusal
pub ok≢err : {T E : Type 0} {x : T} {e : E} → Ok x ≡ Err e → ⊥
ok≢err q = cc

-- ── of any causes: number and value tell them apart, where a function takes each cause's number and value back to the cause ──
pub said_same : {Cause : Type 0} (says : Cause → Answer) (back : Answer → Cause) → ((c : Cause) → back (says c) ≡ c) → (c d : Cause) → says c ≡ says d
    → c ≡ d
said_same says back known c d e = sym (known c) ∙ ap back e ∙ known d

-- and they fix what a service answers, where 0 is no cause's number
pub answer_same : {Cause : Type 0} (says : Cause → Answer) → ((c d : Cause) → says c ≡ says d → c ≡ d) → ((c : Cause) → 1 ≤ (says c).number)
    → (r s : Result ℕ Cause) → answer_by says r ≡ answer_by says s → r ≡ s
answer_same says same positive (Ok n) (Ok m) e = ap (λ a. Ok a.value) e
answer_same says same positive (Ok n) (Err d) e = let z : 0 ≡ (says d).number = ap (λ a. a.number) e in absurd (omega (arith, positive d))
answer_same says same positive (Err c) (Ok m) e = let z : (says c).number ≡ 0 = ap (λ a. a.number) e in absurd (omega (arith, positive c))
answer_same says same positive (Err c) (Err d) e = ap Err (same c d e)

-- ── of 01's causes ──
abbrev refusal_of : (number value : ℕ) → Refusal
refusal_of (suc zero) v = LineForm v
refusal_of (suc (suc zero)) v = Tree v
refusal_of (suc (suc (suc zero))) v = TapeTooLong
refusal_of (suc (suc (suc (suc zero)))) v = TapeByte v
refusal_of (suc (suc (suc (suc (suc zero))))) v = Unreadable
refusal_of (suc (suc (suc (suc (suc (suc zero)))))) v = WordsTooShort v
refusal_of (suc (suc (suc (suc (suc (suc (suc zero))))))) v = CodeTooShort v
refusal_of (suc (suc (suc (suc (suc (suc (suc (suc zero)))))))) v = NotACode
refusal_of (suc (suc (suc (suc (suc (suc (suc (suc (suc zero))))))))) v = TapeTooShort v
refusal_of zero v = NoSuchVisit
refusal_of (suc (suc (suc (suc (suc (suc (suc (suc (suc (suc n)))))))))) v = NoSuchVisit

abbrev cause_of : Answer → Refusal
cause_of a = refusal_of a.number a.value

known_by : (r : Refusal) → cause_of (refused r) ≡ r
known_by (LineForm l) = refl
known_by (Tree l) = refl
known_by TapeTooLong = refl
known_by (TapeByte i) = refl
known_by Unreadable = refl
known_by (WordsTooShort n) = refl
known_by (CodeTooShort n) = refl
known_by NotACode = refl
known_by (TapeTooShort n) = refl
known_by NoSuchVisit = refl

-- so a contract that fixes number and value fixes the case
pub refused_same : (r s : Refusal) → refused r ≡ refused s → r ≡ s
refused_same = said_same refused cause_of known_by

-- 0 is no cause's number
pub number_positive : (r : Refusal) → 1 ≤ number r
number_positive (LineForm l) = omega arith
number_positive (Tree l) = omega arith
number_positive TapeTooLong = omega arith
number_positive (TapeByte i) = omega arith
number_positive Unreadable = omega arith
number_positive (WordsTooShort n) = omega arith
number_positive (CodeTooShort n) = omega arith
number_positive NotACode = omega arith
number_positive (TapeTooShort n) = omega arith
number_positive NoSuchVisit = omega arith

-- 01 numbers its causes from 1 to 10, so that a cause added later is another one
pub number_few : (r : Refusal) → number r ≤ 10
number_few (LineForm l) = omega arith
number_few (Tree l) = omega arith
number_few TapeTooLong = omega arith
number_few (TapeByte i) = omega arith
number_few Unreadable = omega arith
number_few (WordsTooShort n) = omega arith
number_few (CodeTooShort n) = omega arith
number_few NotACode = omega arith
number_few (TapeTooShort n) = omega arith
number_few NoSuchVisit = omega arith

-- ── of an enum that wraps 01's causes and adds others that return 0, each with a number from 11 on ──
module _ {Wider : Type 0} (says : Wider → Answer) (wrap : Refusal → Wider) where
  -- the added cause that has the number, or else 01's
  abbrev pub wider_of : (added : List Wider) → Answer → Wider
  wider_of [] a = wrap (cause_of a)
  wider_of (w ∷ ws) a = cond (eqb a.number (says w).number) w (wider_of ws a)

  abbrev pub Later : (added : List Wider) → Type 0
  Later [] = Unit {0}
  Later (w ∷ ws) = (11 ≤ (says w).number) × Later ws

  -- 01's causes keep their numbers; that each added cause is known by its own is `refl`
  pub wrapped_known : (added : List Wider) → Later added → (r : Refusal) → wider_of added (refused r) ≡ wrap r
  wrapped_known [] l r = ap wrap (known_by r)
  wrapped_known (w ∷ ws) l r =
      ap (λ b. cond b w (wider_of ws (refused r))) (ne_eqb (number r) (says w).number (λ e. omega (arith, e, l.0, number_few r)))
      ∙ wrapped_known ws l.1 r
