-- What single steps of the memo come to: a pair that is found or not, that gets a number or none, a column that is claimed, a step that is noted. No answer
-- needs these laws, since Options and the check itself take the steps; they say what each of the definitions does in each of its cases.
use Rattle.std.specs.Prelude.{◌≡◌, refl, Bool, true, false, ◌&&◌, List, ℕ, ◌+◌, ◌≤◌, ◌<◌, eqb, length, set, Option, Some, None}
use Rattle.std.proofs.Common.{sym, ap, ap₂, ◌∙◌, arith, length-set, get_or-set_same, get_or-set_other, ne_eqb}
use Rattle.semantics.proofs.Basics.{eqb_self, eqb_eq}
use Rattle.steps.specs.declared.Words.{Words}
use Rattle.steps.specs.declared.memory.Memo.{Memo}
use Rattle.steps.specs.Steps.{step_of}
use Rattle.masks.specs.Leaves.{entry}
use Rattle.steps.specs.Memo.{pair_at, same_words, same_is, Stands, Extends, extends_self, Number, Numbers, Claims, Notes}

-- ── two numbers are those asked for ──
pub same_other : (a b c d : ℕ) → (a ≡ b → ⊥) → false ≡ (eqb a b && eqb c d)
same_other a b c d h = sym (ap (λ z. z && eqb c d) (ne_eqb a b h))

pub same_first : (a b c d : ℕ) → a ≡ b → eqb c d ≡ (eqb a b && eqb c d)
same_first a b c d h = sym (ap (λ z. z && eqb c d) (ap (eqb a) (sym h) ∙ eqb_self a))

-- ── a pair is found, or none is ──
-- the pair that the search comes to
pub found_here : (pairs : List Words) (count : ℕ) (w : Words) (n : ℕ) (b : Bool) → b ≡ same_words w (pair_at pairs n) → b ≡ true → n < count
    → Number pairs count w (Some n)
found_here pairs count w n b e t small = (small, same_is w (pair_at pairs n) (sym e ∙ t))

pub found_none : (pairs : List Words) (count : ℕ) (w : Words) (r : Option ℕ) → r ≡ None → Number pairs count w r
found_none pairs count w r e = rw e tt

-- ── pairs ──
-- that one step less may be noted changes no pair
abbrev pub counted : Memo → (left : ℕ) → Memo
counted m v = record { pairs = m.pairs; count = m.count; left = v; owners = m.owners; ways = m.ways }

pub extends_counted : (old : Memo) (v : ℕ) → length old.pairs ≡ 40 → old.count ≤ 40 → Extends old.pairs old.count (counted old v).pairs (counted old v).count
extends_counted old v l f = extends_self old.pairs old.count l f

module _ (old : Memo) (long : length old.pairs ≡ 40) (few : old.count ≤ 40) (w : Words) where
  -- the pair has a number
  pub numbers_old : (n : ℕ) → Number old.pairs old.count w (Some n) → Numbers old old w (Some n)
  numbers_old n h = record { extends = extends_self old.pairs old.count long few; owners = refl; ways = refl; number = h }

  -- it has none, and there is no room for one
  pub numbers_none : (r : Option ℕ) → r ≡ None → Numbers old old w r
  numbers_none r e = record { extends = extends_self old.pairs old.count long few; owners = refl; ways = refl; number = rw e tt }

  -- the pair gets the next number
  abbrev pub numbered : Memo
  numbered = record { pairs = set old.pairs old.count w; count = old.count + 1; left = old.left; owners = old.owners; ways = old.ways }

  pub numbers-new : (old.count ≡ 40 → ⊥) → Numbers old numbered w (Some old.count)
  numbers-new room =
      let some : old.count < 40 = omega arith in
      record {
        extends = record {
          long = simp length-set long;
          few = omega arith;
          more = omega arith;
          same = λ t h. get_or-set_other old.pairs old.count t w _ (λ q. omega arith);
        };
        owners = refl;
        ways = refl;
        number = (omega arith, get_or-set_same old.pairs old.count w _ (omega arith));
      }

-- ── columns ──
pub claims_none : (old : List ℕ) (k takers : ℕ) (r : Bool) → length old ≡ 64 → r ≡ false → Claims old old k takers r
claims_none old k takers r l e = record {
  long = l;
  same = λ j h. refl;
  owned = λ t. absurd (let z : true ≡ false = sym t ∙ e in differ z);
  some = λ t. absurd (let z : true ≡ false = sym t ∙ e in differ z);
}
  where
    differ : true ≡ false → ⊥
    differ e = let z : ◌≡◌ {A = ℕ} 0 1 = (cc) in omega arith

pub claims_free : (old : List ℕ) (k takers : ℕ) (r : Bool) → k < 64 → length old ≡ 64 → (takers ≡ 0 → ⊥) → entry old k ≡ 0
    → Claims old (set old k takers) k takers r
claims_free old k takers r h l some free = record {
  long = simp length-set l;
  same = λ j n. get_or-set_other old k j takers 0 (λ q. n (ap (entry old) q ∙ free));
  owned = λ _. get_or-set_same old k takers 0 (omega arith);
  some = λ _. some;
}

pub claims_own : (old : List ℕ) (k takers : ℕ) (r : Bool) → length old ≡ 64 → (takers ≡ 0 → ⊥) → r ≡ eqb (entry old k) takers → Claims old old k takers r
claims_own old k takers r l some e = record {
  long = l;
  same = λ j h. refl;
  owned = λ t. eqb_eq (entry old k) takers (sym e ∙ t);
  some = λ _. some;
}

-- ── a step is noted ──
-- what is made is the step from a pair to a pair
module _ (zs os ts : List ℕ) (old new : Memo) (takers next s : ℕ) (last : Bool) (p : Stands old.pairs old.count next last (Some s))
    (w : Words) (r : Option ℕ) (m : Numbers old new w r) where
  pub noted_from : s < new.count
  noted_from = omega (arith, p.0, m.extends.more)

  pub noted_right : (t : ℕ) → w ≡ step_of zs os ts takers next last → r ≡ Some t → step_of zs os ts takers (pair_at new.pairs s).one false ≡ pair_at new.pairs t
  noted_right t e b =
      let there : Number new.pairs new.count w (Some t) = rw b at m.number in
      ap (λ x. step_of zs os ts takers x.one false) (m.extends.same s p.0) ∙ ap₂ (step_of zs os ts takers) p.1 (sym p.2) ∙ sym e ∙ sym there.1

-- nothing noted, nothing wrong
pub notes_none : (owners ways : List ℕ) (takers s t : ℕ) → Notes owners ways takers s t owners ways
notes_none owners ways takers s t = record { learned = λ zs os ts pairs count l a b c. l }

-- ── where a sweep stands ──
-- from no number on all is made anew
pub stands-start : (pairs : List Words) (count next : ℕ) (last : Bool) → Stands pairs count next last None
stands-start pairs count next last = tt

pub stands_past : (pairs : List Words) (count next : ℕ) (last : Bool) (r : Option ℕ) → r ≡ None → Stands pairs count next last r
stands_past pairs count next last r e = rw e tt

pub stands_extends : (old new : List Words) (count n next : ℕ) (last : Bool) (r : Option ℕ) → Stands old count next last r → Extends old count new n
    → Stands new n next last r
stands_extends old new count n next last None p e = tt
stands_extends old new count n next last (Some s) p e = (omega (arith, p.0, e.more), ap (λ x. x.one) (e.same s p.0) ∙ p.1, p.2)
