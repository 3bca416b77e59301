-- LAWS of length: how many bits a code without empty rounds can have.
-- 01: "With a the number of `A` and `K` nodes and n letters, a code without empty rounds has at most a bits if n = 0, and at most 2 × a × n
-- + 8 × n bits otherwise." A star counts for a whatever its bit: 02's `Z` too.
use Rattle.std.specs.Prelude.{◌≡◌, refl, Bool, true, ◌⊎◌, ◌∷◌, List, [], ◌*◌, ◌+◌, ◌-◌, ◌<◌, ◌≤◌, suc, zero, ℕ, length}
use Rattle.std.proofs.Common.{ap, inl, inr, mul-le-mul_left, mul-le-mul_right, arith, length-append}
use Rattle.syntax.specs.Letter.{letter_limit}
use Rattle.syntax.specs.Tree.{Tree, nothing, letter, range, seq, alt, star}
use Rattle.bits.specs.Numbers.{length-bits_of}
use Rattle.semantics.specs.Owned.{nodes}
use Rattle.semantics.specs.Value.{Value, flat_rounds, nonproblematic_rounds, flat, nonproblematic}
use Rattle.semantics.specs.Code.{code_rounds, code, code_limit, choices}
use Rattle.semantics.proofs.Basics.{and_fst, and_snd, nonempty_pos}
use Rattle.semantics.proofs.CompleteLaws.{full_round}

-- a choices, n letters, l bits
abbrev pub Within : ℕ → ℕ → ℕ → Type 0
Within a n l = ((n ≡ 0) × (l ≤ a)) ⊎ ((1 ≤ n) × (l ≤ 2 * (a * n) + 8 * n))

within_add : (a e m n l k : ℕ) → Within a m l → Within e n k → Within (a + e) (m + n) (l + k)
within_add a e m n l k (inl p) (inl q) = inl (omega arith, omega arith)
within_add a e m n l k (inl p) (inr q) = inr (omega arith, omega (arith, mul-le-mul_left a q.0))
within_add a e m n l k (inr p) (inl q) = inr (omega arith, omega (arith, mul-le-mul_left e p.0))
within_add a e m n l k (inr p) (inr q) = inr (omega arith, omega arith)

-- one bit more where there is one choice more
within_more : (a e n l : ℕ) → a ≤ e → Within a n l → Within (suc e) n (suc l)
within_more a e n l h (inl p) = inl (p.0, omega arith)
within_more a e n l h (inr p) = inr (p.0, omega (arith, mul-le-mul_right n h))

within-round : (a n l : ℕ) → 1 ≤ n → Within a n l → l ≤ 2 * (a * n) + 8 * n
within-round a n l h (inl p) = absurd (omega arith)
within-round a n l h (inr p) = p.1

within_star : (a n l : ℕ) → l ≤ 1 + n + 2 * (a * n) + 8 * n → Within (suc a) n l
within_star a zero l h = inl (refl, omega arith)
within_star a (suc n) l h = inr (omega arith, omega arith)

module _ {A : Type 0} (again : Bool) (f : A → List ℕ) (s : A → Bool) (c : A → List Bool) (a : ℕ)
    (one : (v : A) → s v ≡ true → Within a (length (f v)) (length (c v))) where
  rounds-within : (vs : List A) → nonproblematic_rounds f s vs ≡ true
      → length (code_rounds again c vs) ≤ 1 + length (flat_rounds f vs) + 2 * (a * length (flat_rounds f vs)) + 8 * length (flat_rounds f vs)
  rounds-within [] ok = omega arith
  rounds-within (v ∷ vs) ok =
      let o = full_round f s v vs ok in
      let m : 1 ≤ length (f v) = nonempty_pos (f v) o.full in
      simp length-append (omega (arith, within-round a (length (f v)) (length (c v)) m (one v o.solid), rounds-within vs o.others))

pub code-within : (t : Tree) (v : Value t) → nonproblematic t v ≡ true → Within (choices t) (length (flat t v)) (length (code t v))
code-within (nothing m) v ok = inl (refl, omega arith)
code-within (letter m c) v ok = inr (omega arith, omega arith)
code-within (range m low high) v ok = inr (omega arith, omega (arith, length-bits_of 8 v.0))
code-within (seq m t u) v ok = simp length-append
    (within_add (choices t) (choices u) (length (flat t v.0)) (length (flat u v.1)) (length (code t v.0)) (length (code u v.1))
    (code-within t v.0 (and_fst (nonproblematic t v.0) (nonproblematic u v.1) ok))
    (code-within u v.1 (and_snd (nonproblematic t v.0) (nonproblematic u v.1) ok)))
code-within (alt m t u) (inl v) ok = within_more (choices t) (choices t + choices u) (length (flat t v)) (length (code t v)) (omega arith) (code-within t v ok)
code-within (alt m t u) (inr v) ok = within_more (choices u) (choices t + choices u) (length (flat u v)) (length (code u v)) (omega arith) (code-within u v ok)
code-within (star m again t) vs ok = within_star (choices t) (length (flat_rounds (flat t) vs)) (length (code_rounds again (code t) vs))
    (rounds-within again (flat t) (nonproblematic t) (code t) (choices t) (code-within t) vs ok)

pub few_bits_none : (t : Tree) (v : Value t) → nonproblematic t v ≡ true → flat t v ≡ [] → length (code t v) ≤ choices t
few_bits_none t v ok e = go (code-within t v ok)
  where
    go : Within (choices t) (length (flat t v)) (length (code t v)) → length (code t v) ≤ choices t
    go (inl p) = p.1
    go (inr p) = absurd (omega (arith, ap length e))

pub few_bits_some : (t : Tree) (v : Value t) → nonproblematic t v ≡ true → 1 ≤ length (flat t v)
    → length (code t v) ≤ 2 * choices t * length (flat t v) + 8 * length (flat t v)
few_bits_some t v ok h = go (code-within t v ok)
  where
    go : Within (choices t) (length (flat t v)) (length (code t v)) → length (code t v) ≤ 2 * choices t * length (flat t v) + 8 * length (flat t v)
    go (inl p) = absurd (omega arith)
    go (inr p) = omega arith

-- 01's limits: a pattern has at most 64 nodes, so at most 64 of them are choices; a tape has at most 3,600 letters. So no code without
-- empty rounds passes the limit of codes.
pub code_fits : (t : Tree) (v : Value t) → choices t ≤ 64 → nonproblematic t v ≡ true → length (flat t v) ≤ letter_limit → length (code t v) ≤ code_limit
code_fits t v few ok h = go (code-within t v ok)
  where
    go : Within (choices t) (length (flat t v)) (length (code t v)) → length (code t v) ≤ code_limit
    go (inl p) = omega arith
    go (inr p) = omega (arith, mul-le-mul_right (length (flat t v)) few)

-- the bound for 64 choices alone
pub bits_bound : (t : Tree) (v : Value t) → choices t ≤ 64 → nonproblematic t v ≡ true → length (code t v) ≤ 136 * length (flat t v) + 64
bits_bound t v few ok = go (code-within t v ok)
  where
    go : Within (choices t) (length (flat t v)) (length (code t v)) → length (code t v) ≤ 136 * length (flat t v) + 64
    go (inl p) = omega arith
    go (inr p) = omega (arith, mul-le-mul_right (length (flat t v)) few)

-- some leaf is no choice: a tree of 64 nodes has at most 63 choices
pub choices-nodes : (t : Tree) → choices t < nodes t
choices-nodes (nothing m) = omega arith
choices-nodes (letter m c) = omega arith
choices-nodes (range m low high) = omega arith
choices-nodes (seq m t u) = omega (arith, choices-nodes t, choices-nodes u)
choices-nodes (alt m t u) = omega (arith, choices-nodes t, choices-nodes u)
choices-nodes (star m again t) = omega (arith, choices-nodes t)
