-- Steps remembered: pairs of state sets are numbered as they come, and where a pair leads is noted by numbers.
use Rattle.std.specs.Prelude.{◌≡◌, refl, Bool, true, false, ◌&&◌, List, ℕ, zero, suc, ◌+◌, ◌*◌, ◌≤◌, ◌<◌, eqb, length, get_or, take, set, replicate, Option, Some, None}
use Rattle.std.proofs.Common.{sym, ap, ap₂, subst, length-take-le, get_or-take, ◌∙◌, arith, length-set, get_or-set_same, get_or-set_other}
use Rattle.std.proofs.lemmas.List.{length-replicate}
use Rattle.semantics.proofs.Basics.{eqb_eq, and_fst, and_snd}
use Rattle.std.specs.List.{position}
use Rattle.std.proofs.lemmas.List.Quantifiers.{position-Some}
use Rattle.steps.specs.declared.Words.{Words}
use Rattle.steps.specs.declared.memory.Memo.{Memo}
use Rattle.table.specs.HandDown.{equal}
use Rattle.steps.specs.Steps.{step_of}
use Rattle.masks.specs.Leaves.{entry}

-- the pair of a number
abbrev pub pair_at : List Words → ℕ → Words
pair_at pairs n = get_or pairs n (record { zero = 0; one = 0 })

abbrev pub same_words : Words → Words → Bool
same_words w p = eqb p.zero w.zero && eqb p.one w.one

-- pair s leads to pair t by the leaves that column k belongs to: both are numbered, and the step is one that starts before a letter, not at the end
pub record Leads (zs os ts owners : List ℕ) (pairs : List Words) (count s k t : ℕ) : Type 0 where
  pub numbered : s < count
  pub there : t < count
  pub owned : entry owners k ≡ 0 → ⊥
  pub right : step_of zs os ts (entry owners k) (pair_at pairs s).one false ≡ pair_at pairs t

-- WHAT IS REMEMBERED: every number noted is that of the pair to which the row's pair leads by the column's leaves
pub record Learned (zs os ts owners : List ℕ) (pairs : List Words) (count : ℕ) (ways : List ℕ) : Type 0 where
  pub owners_long : length owners ≡ 64
  pub pairs_long : length pairs ≡ 40
  pub ways_long : length ways ≡ 2560
  pub few : count ≤ 40
  pub leads : (s k t : ℕ) → s < 40 → k < 64 → entry ways (40 * k + s) ≡ t + 1 → Leads zs os ts owners pairs count s k t

abbrev pub Remembers : (zs os ts : List ℕ) → Memo → Type 0
Remembers zs os ts m = Learned zs os ts m.owners m.pairs m.count m.ways

-- where a sweep stands: a number is that of a pair whose flag 1 state set is the next position's
abbrev pub Stands : (pairs : List Words) → (count next : ℕ) → (last : Bool) → Option ℕ → Type 0
Stands pairs count next last None = Unit {0}
Stands pairs count next last (Some n) = (n < count) × ((pair_at pairs n).one ≡ next) × (last ≡ false)

-- what `learn` gives: a memory that is right if the step is, and the number of the pair from which to go on
pub record Learns (old : Memo) (takers : ℕ) (from : Option ℕ) (w : Words) (new : Memo) (r : Option ℕ) : Type 0 where
  pub learned : (zs os ts : List ℕ) (next : ℕ) (last : Bool) → Remembers zs os ts old → Stands old.pairs old.count next last from
      → w ≡ step_of zs os ts takers next last → Remembers zs os ts new
  pub stands : Stands new.pairs new.count w.one false r

-- a number that is noted for a pair and these leaves
pub record Way (m : Memo) (takers : ℕ) (from : Option ℕ) (t : ℕ) : Type 0 where
  pub pair : ℕ
  pub column : ℕ
  pub is : from ≡ Some pair
  pub small : column < 64
  pub noted : entry m.ways (40 * column + pair) ≡ t + 1
  pub owned : entry m.owners column ≡ takers

-- what `known` gives: a number only if it is noted
abbrev pub Knows : Memo → (takers : ℕ) → (from : Option ℕ) → (r : Option ℕ) → Type 0
Knows m takers from None = Unit {0}
Knows m takers from (Some t) = Way m takers from t

-- pairs that were numbered keep their numbers
pub record Extends (old : List Words) (count : ℕ) (new : List Words) (count_now : ℕ) : Type 0 where
  pub long : length new ≡ 40
  pub few : count_now ≤ 40
  pub more : count ≤ count_now
  pub same : (t : ℕ) → t < count → pair_at new t ≡ pair_at old t

-- a number is that of a pair
abbrev pub Number : (pairs : List Words) → (count : ℕ) → Words → Option ℕ → Type 0
Number pairs count w None = Unit {0}
Number pairs count w (Some n) = (n < count) × (pair_at pairs n ≡ w)

-- what `number_of` gives: the number of a pair that is numbered now
pub record Numbers (old new : Memo) (w : Words) (r : Option ℕ) : Type 0 where
  pub extends : Extends old.pairs old.count new.pairs new.count
  pub owners : new.owners ≡ old.owners
  pub ways : new.ways ≡ old.ways
  pub number : Number new.pairs new.count w r

-- what `claims` gives: true only if the column belongs to these leaves now; columns that had an owner keep it
pub record Claims (old new : List ℕ) (k takers : ℕ) (r : Bool) : Type 0 where
  pub long : length new ≡ 64
  pub same : (j : ℕ) → (entry old j ≡ 0 → ⊥) → entry new j ≡ entry old j
  pub owned : r ≡ true → entry new k ≡ takers
  pub some : r ≡ true → takers ≡ 0 → ⊥

-- what is remembered stays right, if a step from the one pair to the other is
pub record Notes (owners ways : List ℕ) (takers s t : ℕ) (owners_now ways_now : List ℕ) : Type 0 where
  pub learned : (zs os ts : List ℕ) (pairs : List Words) (count : ℕ) → Learned zs os ts owners pairs count ways → s < count → t < count
      → step_of zs os ts takers (pair_at pairs s).one false ≡ pair_at pairs t
      → Learned zs os ts owners_now pairs count ways_now

-- ---- pairs
pub same_is : (w p : Words) → same_words w p ≡ true → p ≡ w
same_is w p e =
    ap₂ (λ a b. record { zero = a; one = b }) (eqb_eq p.zero w.zero (and_fst (eqb p.zero w.zero) (eqb p.one w.one) e))
    (eqb_eq p.one w.one (and_snd (eqb p.zero w.zero) (eqb p.one w.one) e))

pub extends_self : (old : List Words) (count : ℕ) → length old ≡ 40 → count ≤ 40 → Extends old count old count
extends_self old count l f = record { long = l; few = f; more = omega arith; same = λ t h. refl }

-- a pair that was found
pub found : (pairs : List Words) (count : ℕ) (w : Words) (n : ℕ) → count ≤ length pairs → position (same_words w) (take count pairs) ≡ Some n
    → Number pairs count w (Some n)
found pairs count w n h e =
    let q = position-Some (same_words w) (take count pairs) n (record { zero = 0; one = 0 }) e in
    let k : n < count = omega (arith, q.0, length-take-le count pairs h) in
    (k, sym (get_or-take count pairs n (record { zero = 0; one = 0 }) k) ∙ same_is w (pair_at (take count pairs) n) q.1)

-- ---- what is remembered
module _ (zs os ts : List ℕ) where
  zeros : (n x : ℕ) → entry (replicate n 0) x ≡ 0
  zeros zero x = refl
  zeros (suc n) zero = refl
  zeros (suc n) (suc x) = zeros n x

  pub learned_start : (pairs : List Words) → length pairs ≡ 40 → Learned zs os ts (replicate 64 0) pairs 0 (replicate 2560 0)
  learned_start pairs l = record {
    owners_long = length-replicate {A = ℕ} 64 0;
    pairs_long = l;
    ways_long = length-replicate {A = ℕ} 2560 0;
    few = omega arith;
    leads = λ s k t h j e. absurd (let z = zeros 2560 (40 * k + s) in omega arith);
  }

  module _ (owners : List ℕ) (pairs : List Words) (count : ℕ) (ways : List ℕ) (l : Learned zs os ts owners pairs count ways) where
    pub learned_extends : (new : List Words) (n : ℕ) → Extends pairs count new n → Learned zs os ts owners new n ways
    learned_extends new n x = record {
      owners_long = l.owners_long;
      pairs_long = x.long;
      ways_long = l.ways_long;
      few = x.few;
      leads = λ s k t h j e. go s k t (l.leads s k t h j e);
    }
      where
        go : (s k t : ℕ) → Leads zs os ts owners pairs count s k t → Leads zs os ts owners new n s k t
        go s k t q = record {
          numbered = omega (arith, q.numbered, x.more);
          there = omega (arith, q.there, x.more);
          owned = q.owned;
          right = ap (λ y. step_of zs os ts (entry owners k) y.one false) (x.same s q.numbered) ∙ q.right ∙ sym (x.same t q.there);
        }

    -- a column that gets an owner had none, so nothing was noted in it
    pub learned_claimed : (new : List ℕ) (k takers : ℕ) (b : Bool) → Claims owners new k takers b → Learned zs os ts new pairs count ways
    learned_claimed new k takers b c = record {
      owners_long = c.long;
      pairs_long = l.pairs_long;
      ways_long = l.ways_long;
      few = l.few;
      leads = λ s j t h g e. go s j t (l.leads s j t h g e);
    }
      where
        go : (s j t : ℕ) → Leads zs os ts owners pairs count s j t → Leads zs os ts new pairs count s j t
        go s j t q = record {
          numbered = q.numbered;
          there = q.there;
          owned = λ z. q.owned (sym (c.same j q.owned) ∙ z);
          right = ap (λ x. step_of zs os ts x (pair_at pairs s).one false) (c.same j q.owned) ∙ q.right;
        }

    pub learned_noted :
        (s k t : ℕ) → s < 40 → k < 64 → Leads zs os ts owners pairs count s k t → Learned zs os ts owners pairs count (set ways (40 * k + s) (t + 1))
    learned_noted s k t h j q = record {
      owners_long = l.owners_long;
      pairs_long = l.pairs_long;
      ways_long = simp length-set l.ways_long;
      few = l.few;
      leads = λ x y u a b e. go x y u a b e (equal s x) (equal k y);
    }
      where
        room : Learned zs os ts owners pairs count ways → 40 * k + s < length ways
        room l = omega (arith, l.ways_long)

        new : List ℕ
        new = set ways (40 * k + s) (t + 1)

        here : entry new (40 * k + s) ≡ t + 1
        here = get_or-set_same ways (40 * k + s) (t + 1) 0 (room l)

        apart : (x y : ℕ) → (40 * y + x ≡ 40 * k + s → ⊥) → entry new (40 * y + x) ≡ entry ways (40 * y + x)
        apart x y d = get_or-set_other ways (40 * k + s) (40 * y + x) (t + 1) 0 d

        kept : (x y u : ℕ) → x < 40 → y < 64 → entry new (40 * y + x) ≡ u + 1 → (40 * y + x ≡ 40 * k + s → ⊥) → Leads zs os ts owners pairs count x y u
        kept x y u a b e d = l.leads x y u a b (sym (apart x y d) ∙ e)

        go : (x y u : ℕ) → x < 40 → y < 64 → entry new (40 * y + x) ≡ u + 1 → Dec (s ≡ x) → Dec (k ≡ y) → Leads zs os ts owners pairs count x y u
        go x y u a b e (yes f) (yes g) =
            let i : 40 * k + s ≡ 40 * y + x = omega arith in
            let v : t ≡ u = omega (arith, sym here ∙ ap (entry new) i ∙ e) in
            subst (λ z. Leads zs os ts owners pairs count x y z) v
            (subst (λ z. Leads zs os ts owners pairs count x z t) g (subst (λ z. Leads zs os ts owners pairs count z k t) f q))
        go x y u a b e (no f) d = kept x y u a b e (λ z. f (omega arith))
        go x y u a b e (yes f) (no g) = kept x y u a b e (λ z. g (omega arith))

-- ---- what is read is the step
module _ (zs os ts : List ℕ) (m : Memo) (l : Remembers zs os ts m) (takers next t : ℕ) (last : Bool) (at : Option ℕ)
    (p : Stands m.pairs m.count next last at) (v : Way m takers at t) where
  here : (v.pair < m.count) × ((pair_at m.pairs v.pair).one ≡ next) × (last ≡ false)
  here = rw v.is at p

  lead : Leads zs os ts m.owners m.pairs m.count v.pair v.column t
  lead = l.leads v.pair v.column t (omega (arith, here.0, l.few)) v.small v.noted

  pub known_small : t < 40
  known_small = omega (arith, lead.there, l.few)

  pub known_step : pair_at m.pairs t ≡ step_of zs os ts takers next last
  known_step = sym lead.right ∙ ap₂ (λ x y. step_of zs os ts x y false) v.owned here.1 ∙ ap (step_of zs os ts takers next) (sym here.2)

  pub known_stands : Stands m.pairs m.count (pair_at m.pairs t).one false (Some t)
  known_stands = (lead.there, refl, refl)

pub notes_other : (owners new ways : List ℕ) (takers k s t : ℕ) (b : Bool) → Claims owners new k takers b → Notes owners ways takers s t new ways
notes_other owners new ways takers k s t b c =
    record { learned = λ zs os ts pairs count l x y z. learned_claimed zs os ts owners pairs count ways l new k takers b c }

pub notes_way : (owners new ways : List ℕ) (takers k s t : ℕ) (b : Bool) → Claims owners new k takers b → b ≡ true → k < 64 → s < 40
    → Notes owners ways takers s t new (set ways (40 * k + s) (t + 1))
notes_way owners new ways takers k s t b c e h j = record {
  learned = λ zs os ts pairs count l x y z.
      learned_noted zs os ts new pairs count ways (learned_claimed zs os ts owners pairs count ways l new k takers b c) s k t j h (record {
        numbered = x;
        there = y;
        owned = λ q. c.some e (sym (c.owned e) ∙ q);
        right = ap (λ v. step_of zs os ts v (pair_at pairs s).one false) (c.owned e) ∙ z;
      });
}

-- a new step from pair s to pair t
module _ (zs os ts : List ℕ) (old new : Memo) (w : Words) (r : Option ℕ) (m : Numbers old new w r) (takers next : ℕ) (last : Bool) (l : Remembers zs os ts old) where
  pub learned_numbered : Remembers zs os ts new
  learned_numbered = rw (m.owners, m.ways) (learned_extends zs os ts old.owners old.pairs old.count old.ways l new.pairs new.count m.extends)

  pub learned_step : (s t : ℕ) (owners ways : List ℕ) → r ≡ Some t → Stands old.pairs old.count next last (Some s) → w ≡ step_of zs os ts takers next last
      → Notes new.owners new.ways takers s t owners ways → Learned zs os ts owners new.pairs new.count ways
  learned_step s t owners ways e p q n =
      let there : (t < new.count) × (pair_at new.pairs t ≡ w) = rw e at m.number in
      n.learned zs os ts new.pairs new.count learned_numbered (omega (arith, p.0, m.extends.more)) there.0
      (ap (λ x. step_of zs os ts takers x.one false) (m.extends.same s p.0) ∙ ap₂ (step_of zs os ts takers) p.1 (sym p.2) ∙ sym q ∙ sym there.1)

pub stands_numbered : (pairs : List Words) (count : ℕ) (w : Words) (r : Option ℕ) → Number pairs count w r → Stands pairs count w.one false r
stands_numbered pairs count w None n = tt
stands_numbered pairs count w (Some t) n = (n.0, ap (λ x. x.one) n.1, refl)
