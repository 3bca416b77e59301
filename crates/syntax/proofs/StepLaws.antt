-- What single steps come to: of the search for a byte that is no letter, of naming a part, and of the table test. No answer needs these laws, since
-- iterators and Options take the steps; they say what each of the definitions does in each of its cases.
use Rattle.std.specs.Prelude.{◌≡◌, Bool, ◌&&◌, cond, List, [], ◌∷◌, ℕ, suc, ◌+◌, ◌≤◌, ◌<◌, ltb, length, get_or, drop, set, replicate, Option, None, Some, option_and_then}
use Rattle.std.proofs.Math.Path.{refl, sym, ap}
use Rattle.std.proofs.Common.{◌∙◌, arith, drop_of_length-le, drop-cons, lt-ltb, le-ltb}
use Rattle.std.proofs.Math.Bool.{true, false, not}
use Rattle.std.proofs.Math.Nat.{add-zero}
use Rattle.std.proofs.lemmas.List.{get_or-replicate}
use borrow.Author.Tests.{le-leb, lt-leb}
use Rattle.syntax.specs.declared.Pattern.{Pattern}
use Rattle.syntax.specs.Letter.{is_letter, first_bad}
use Rattle.syntax.specs.Table.{badly_formed, lowest, tree_fault, is_none, obeys}
use Rattle.syntax.specs.Naming.{name_one, name_all, Flags}

-- ── the first byte that is no letter ──
-- what is found from position i on is what was to be found
pub record BadFrom (tape : List ℕ) (i : ℕ) : Type 0 where
  pub within : i ≤ length tape
  pub rest : first_bad tape ≡ i + first_bad (drop i tape)

pub bad-start : (tape : List ℕ) → BadFrom tape 0
bad-start tape = record { within = omega arith; rest = omega arith }

module _ (tape : List ℕ) (i : ℕ) (s : BadFrom tape i) where
  pub bad_end : length tape ≤ i → i ≡ first_bad tape
  unfolding first_bad
  bad_end h = sym (s.rest ∙ ap (λ w. i + first_bad w) (drop_of_length-le tape h) ∙ add-zero i)

  module _ (l : i < length tape) where
    next : first_bad tape ≡ i + cond (is_letter (get_or tape i 0)) (suc (first_bad (drop (suc i) tape))) 0
    unfolding first_bad
    next = s.rest ∙ ap (λ w. i + first_bad w) (drop-cons tape i 0 l)

    pub bad-here : is_letter (get_or tape i 0) ≡ false → i ≡ first_bad tape
    bad-here e = sym (next ∙ ap (λ b. i + cond b (suc (first_bad (drop (suc i) tape))) 0) e ∙ add-zero i)

    pub bad_next : is_letter (get_or tape i 0) ≡ true → BadFrom tape (i + 1)
    bad_next e =
        let f : first_bad tape ≡ i + suc (first_bad (drop (suc i) tape)) = next ∙ ap (λ b. i + cond b (suc (first_bad (drop (suc i) tape))) 0) e in
        let g : suc i ≡ i + 1 = omega arith in
        record {
          within = omega arith;
          rest = f ∙ (let k : i + suc (first_bad (drop (suc i) tape)) ≡ i + 1 + first_bad (drop (suc i) tape) = omega arith in k)
              ∙ ap (λ j. i + 1 + first_bad (drop j tape)) g;
        }

-- ── one part ──
module _ (i : ℕ) (m : List Bool) (q : ℕ) where
  pub one_high : i ≤ q → None ≡ name_one i m q
  unfolding name_one
  one_high h = rw (le-ltb q i h)

  pub one_again : q < i → get_or m q false ≡ true → None ≡ name_one i m q
  unfolding name_one
  one_again h e = rw (lt-ltb q i h, e)

  pub one_new : q < i → get_or m q false ≡ false → Some (set m q true) ≡ name_one i m q
  unfolding name_one
  one_new h e = rw (lt-ltb q i h, e)

  -- naming one part is naming all of one
  pub one_all : name_one i m q ≡ name_all i m (q ∷ [])
  unfolding name_one
  one_all = go (ltb q i && not (get_or m q false))
    where
      go : (b : Bool) → cond b (Some (set m q true)) None ≡ option_and_then (λ n. name_all i n []) (cond b (Some (set m q true)) None)
      go true = refl
      go false = refl

pub next_stop : (f : List Bool → Option (List Bool)) (r : Option (List Bool)) → r ≡ None → r ≡ option_and_then f r
next_stop f r h = rw h

pub next_on : (f : List Bool → Option (List Bool)) (r : Option (List Bool)) (n : List Bool) → r ≡ Some n → f n ≡ option_and_then f r
next_on f r n h = rw h

pub flags_start : Flags (replicate 64 false) []
flags_start = (refl, λ j h. get_or-replicate 64 j false false h)

-- ── the tree fault that the program answers ──
pub fault_found : (p : Pattern) (r : Option ℕ) (l : ℕ) → r ≡ tree_fault p → r ≡ Some l → tree_fault p ≡ Some l
fault_found p r l e h = sym e ∙ h

pub fault_none : (p : Pattern) (r : Option ℕ) → r ≡ tree_fault p → r ≡ None → tree_fault p ≡ None
fault_none p r e h = sym e ∙ h

-- ── the ways of the table test ──
module _ (p : Pattern) where
  pub no_count : p.count < 1 → false ≡ obeys p
  unfolding obeys
  no_count h = rw (lt-leb 1 p.count h)

  module _ (one : 1 ≤ p.count) where
    pub big_count : 64 < p.count → false ≡ obeys p
    unfolding obeys
    big_count h = rw (le-leb 1 p.count one, lt-leb p.count 64 h)

    module _ (few : p.count ≤ 64) where
      pub bad-lines : is_none (lowest (badly_formed p) 0 p.count) ≡ false → false ≡ obeys p
      unfolding obeys
      bad-lines h = rw (le-leb 1 p.count one, le-leb p.count 64 few, h)

      pub bad-tree : is_none (lowest (badly_formed p) 0 p.count) ≡ true → (l : ℕ) → tree_fault p ≡ Some l → false ≡ obeys p
      unfolding obeys
      bad-tree h l e = rw (le-leb 1 p.count one, le-leb p.count 64 few, h, e)
