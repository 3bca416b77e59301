-- Laws of naming: the flags say what the tree rules say.
use Rattle.std.specs.Prelude.{◌≡◌, Bool, ◌&&◌, ◌||◌, List, [], ◌∷◌, ◌++◌, ℕ, ◌+◌, ◌-◌, ◌≤◌, ◌<◌, eqb, ltb, length, get_or, set, replicate, Option, None, Some, option_and_then, Ok, Err}
use Rattle.std.proofs.Math.Path.{refl, sym, ap}
use Rattle.std.proofs.Common.{◌∙◌, add-one, arith, le-ltb, ltb-true, eqb-true, length-set, get_or-set_same, get_or-set_other}
use Rattle.std.proofs.Math.Bool.{true, false, not, cond}
use Rattle.std.proofs.lemmas.Bool.{eqb-false}
use Rattle.std.proofs.Math.Decide.{dec_lt}
use Rattle.std.proofs.lemmas.List.{get_or-replicate}
use Rattle.syntax.specs.declared.Pattern.{Pattern}
use Rattle.syntax.specs.Table.{node_at, parts, named_below, member, rightly_named, wrongly_names, unnamed, tree_fault}
use Rattle.syntax.specs.Bools.{and_fst}
use Rattle.syntax.specs.Lowest.{lowest_same, searched_start, searched_end, searched_here, searched_on}
use Rattle.syntax.specs.Naming.{name_one, name_all, Flags, NamedSoFar, NamesWrongly, not_flagged, first_unnamed}

-- ── flags and the places named ──
flag_set : (m : List Bool) (seen : List ℕ) (q : ℕ) → q < 64 → Flags m seen → Flags (set m q true) (q ∷ seen)
flag_set m seen q l f = (length-set m q true ∙ f.0, λ j h. go j h (eqb q j) refl)
  where
    go : (j : ℕ) → j < 64 → (b : Bool) → eqb q j ≡ b → get_or (set m q true) j false ≡ (b || member j seen)
    go j h true e =
        let s : q ≡ j = eqb-true q j e in
        let k : q < length m = omega (arith, f.0) in
        ap (λ x. get_or (set m q true) x false) (sym s) ∙ get_or-set_same m q true false k
    go j h false e = get_or-set_other m q j true false (λ s. eqb-false q j e (sym s)) ∙ f.1 j h

member_mid : (j q : ℕ) (xs ys : List ℕ) → member j (xs ++ (q ∷ ys)) ≡ (eqb q j || member j (xs ++ ys))
member_mid j q [] ys = refl
member_mid j q (x ∷ xs) ys = rw (member_mid j q xs ys) (swap (eqb x j) (eqb q j) (member j (xs ++ ys)))
  where
    swap : (a b c : Bool) → (a || (b || c)) ≡ (b || (a || c))
    swap true true c = refl
    swap true false c = refl
    swap false b c = refl

-- naming parts one by one finds a wrongly named one where the tree rules do, or else sets the flags of all
abbrev pub Told : (i : ℕ) → (seen qs : List ℕ) → Option (List Bool) → Type 0
Told i seen qs None = rightly_named i seen qs ≡ false
Told i seen qs (Some n) = (rightly_named i seen qs ≡ true) × Flags n (qs ++ seen)

same_test : (i q : ℕ) (m : List Bool) (seen : List ℕ) → i ≤ 64 → Flags m seen → (ltb q i && not (get_or m q false)) ≡ (ltb q i && not (member q seen))
same_test i q m seen l f = go (dec_lt q i)
  where
    go : Dec (q < i) → (ltb q i && not (get_or m q false)) ≡ (ltb q i && not (member q seen))
    go (yes h) = ap (λ b. ltb q i && not b) (f.1 q (omega arith))
    go (no h) = rw (le-ltb q i (omega arith))

pub told : (qs : List ℕ) (i : ℕ) (m : List Bool) (seen : List ℕ) → i ≤ 64 → Flags m seen → Told i seen qs (name_all i m qs)
unfolding name_one
told [] i m seen l f = (refl, f)
told (q ∷ qs) i m seen l f = go (ltb q i && not (get_or m q false)) refl (λ n g. told qs i n (q ∷ seen) l g)
  where
    go : (b : Bool) → (ltb q i && not (get_or m q false)) ≡ b → ((n : List Bool) → Flags n (q ∷ seen) → Told i (q ∷ seen) qs (name_all i n qs))
        → Told i seen (q ∷ qs) (option_and_then (λ n. name_all i n qs) (cond b (Some (set m q true)) None))
    go false e ih = let t : (ltb q i && not (member q seen)) ≡ false = sym (same_test i q m seen l f) ∙ e in rw t
    go true e ih =
        let t : (ltb q i && not (member q seen)) ≡ true = sym (same_test i q m seen l f) ∙ e in
        let below : q < i = ltb-true q i (and_fst (ltb q i) (not (get_or m q false)) e) in
        moved t (name_all i (set m q true) qs) (ih (set m q true) (flag_set m seen q (omega arith) f))
      where
        moved : (ltb q i && not (member q seen)) ≡ true → (o : Option (List Bool)) → Told i (q ∷ seen) qs o → Told i seen (q ∷ qs) o
        moved t None s = rw t s
        moved t (Some n) s = (rw t s.0, (s.1.0, λ j k. s.1.1 j k ∙ member_mid j q qs seen))

-- ── line by line ──
pub names_start : (p : Pattern) → NamedSoFar p (replicate 64 false) 0
names_start p = record { flags = (refl, λ j h. get_or-replicate 64 j false false h); search = searched_start (wrongly_names p) p.count }

module _ (p : Pattern) (named : List Bool) (i : ℕ) (s : NamedSoFar p named i) where
  pub names_end : p.count ≤ i → NamesWrongly p (Ok named)
  names_end h =
      let e : i ≡ p.count = omega (arith, s.search.within) in
      (searched_end (wrongly_names p) p.count i s.search h, rw e at s.flags)

  module _ (l : i < p.count) (few : p.count ≤ 64) where
    abbrev named_next : Option (List Bool)
    named_next = name_all i named (parts (node_at p i))

    tells : Told i (named_below p i) (parts (node_at p i)) named_next
    tells = told (parts (node_at p i)) i named (named_below p i) (omega arith) s.flags

    pub names_wrong : named_next ≡ None → NamesWrongly p (Err i)
    unfolding wrongly_names
    names_wrong h = searched_here (wrongly_names p) p.count i s.search l (ap not (rw h at tells))

    pub names_on : (n : List Bool) → named_next ≡ Some n → NamedSoFar p n (i + 1)
    unfolding wrongly_names
    names_on n h =
        let t : (rightly_named i (named_below p i) (parts (node_at p i)) ≡ true) × Flags n (parts (node_at p i) ++ named_below p i) = rw h at tells in
        record { flags = rw add-one t.1; search = searched_on (wrongly_names p) p.count i s.search l (ap not t.0) }

-- ── the tree fault ──
module _ (p : Pattern) where
  pub fault_wrong : (line : ℕ) → NamesWrongly p (Err line) → Some line ≡ tree_fault p
  unfolding tree_fault
  fault_wrong line e = rw e

  pub fault_unnamed : (named : List Bool) → NamesWrongly p (Ok named) → p.count ≤ 64 → first_unnamed named p.count ≡ tree_fault p
  unfolding tree_fault unnamed
  fault_unnamed named w few =
      rw w.0 (lowest_same (not_flagged named) (unnamed p) (p.count - 1) 0 (λ j a b. ap not (w.1.1 j (omega arith))))
