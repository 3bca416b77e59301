-- What single steps of the two loops come to: where joining words starts, and reading a tape from its end by index. No answer needs these laws, since
-- an iterator gives the bits of a set, and another the letters from the end.
use Rattle.std.specs.Prelude.{◌≡◌, refl, Bool, true, false, ◌&&◌, cond, List, [], ◌∷◌, ℕ, suc, ◌+◌, ◌-◌, ◌^◌, ◌≤◌, ◌<◌, length, drop, get_or}
use Rattle.std.proofs.Common.{sym, ap, ap₂, subst, ◌∙◌, arith, add-one, add-zero, drop-cons, true≢false}
use Rattle.std.proofs.lemmas.Bool.{false≢true}
use Rattle.std.proofs.Math.Seq.{drop-length}
use Rattle.std.specs.Int.Bits.{bit_or, bit_and}
use Rattle.std.specs.Int.Count.{count_trailing_zeros}
use Rattle.bits.specs.Bits.{test_bit}
use Rattle.bits.specs.Joining.{Joining, joining_start, joining_next, joining_end}
use Rattle.bits.specs.Lowest.{lowest_cleared}
use Rattle.bits.specs.Unions.{pick, union}
use Rattle.semantics.specs.Sweeps.{at_end}
use Rattle.masks.specs.Leaves.{entry}
use Rattle.steps.specs.declared.Words.{Words}
use Rattle.steps.specs.Steps.{step_of}
use Rattle.first_sweep.specs.SweepWords.{first_one, sweep_of}
use Rattle.reach.specs.FrontWords.{has_any, resume_words}

-- ---- words joined for each leaf of a set
pub record Joined (set : ℕ) (choice : ℕ → Bool) (words : ℕ → ℕ) (rest joined : ℕ) : Type 0 where
  pub few : rest < 2 ^ 64
  pub so_far : Joining 64 set choice words rest joined

module _ (set : ℕ) (o : ℕ → Bool) (m : ℕ → ℕ) where
  pub joined-start : set < 2 ^ 64 → Joined set o m set 0
  joined-start h = record { few = h; so_far = joining_start 64 set o m }

  pub joined_next : (rest a x v : ℕ) → Joined set o m rest a → 1 ≤ rest → x ≡ count_trailing_zeros 64 rest → v ≡ pick (o x) (m x)
      → Joined set o m (bit_and rest (rest - 1)) (bit_or a v)
  joined_next rest a x v q some i f = rw (lowest_cleared 64 rest x some q.few i, f) (record {
    few = omega (arith, q.few);
    so_far = joining_next 64 set o m rest a x q.so_far some q.few i;
  })

  pub joined_end : (rest a : ℕ) → Joined set o m rest a → rest ≡ 0 → a ≡ union 64 (λ x. test_bit set x && o x) m
  joined_end rest a q e = joining_end 64 set o m a (rw e at q.so_far)

-- ---- from the end, letter after letter
module _ (zs os ts ks : List ℕ) (e : ℕ) (tape : List ℕ) where
  -- on the way, before position i: the flag 1 word there, whether it is the tape's end, and where the letters from i on resume
  pub record Resuming (i next : ℕ) (last : Bool) (found : ℕ) : Type 0 where
    pub within : i ≤ length tape
    pub ahead : next ≡ first_one (sweep_of zs os ts ks e (drop i tape))
    pub ends : last ≡ at_end true (drop i tape)
    pub so_far : found ≡ i + resume_words zs os ts ks e (drop i tape)

  pub resuming_start : Resuming (length tape) e true (length tape)
  unfolding resume_words
  resuming_start =
      let d : drop (length tape) tape ≡ [] = drop-length tape in
      record { within = omega arith; ahead = rw d refl; ends = rw d refl; so_far = rw d (sym (add-zero (length tape))) }

  chosen_so : (a b : Bool) (i n f found : ℕ) → a ≡ b → f ≡ cond a i found → found ≡ i + 1 + n → f ≡ i + cond b 0 (suc n)
  chosen_so true true i n f found q g h = omega (arith, g)
  chosen_so false false i n f found q g h = omega (arith, g, h)
  chosen_so true false i n f found q g h = absurd (true≢false q)
  chosen_so false true i n f found q g h = absurd (false≢true q)

  pub resuming_next : (i next c : ℕ) (last : Bool) (found f : ℕ) (w : Words) → Resuming (i + 1) next last found → c ≡ get_or tape i 0
      → w ≡ step_of zs os ts (entry ks c) next last → f ≡ cond (has_any w.one) i found → Resuming i w.one false f
  unfolding resume_words
  resuming_next i next c last found f w q g h k =
      let b : suc i ≤ length tape = omega (arith, q.within) in
      let d : drop i tape ≡ get_or tape i 0 ∷ drop (i + 1) tape = rw (add-one i) (drop-cons tape i 0 b) in
      let s : w ≡ step_of zs os ts (entry ks (get_or tape i 0)) (first_one (sweep_of zs os ts ks e (drop (i + 1) tape))) (at_end true (drop (i + 1) tape)) =
      h ∙ ap (λ x. step_of zs os ts (entry ks x) next last) g ∙ ap₂ (λ x y. step_of zs os ts (entry ks (get_or tape i 0)) x y) q.ahead q.ends in
      record {
        within = omega (arith, q.within);
        ahead = rw d (ap (λ x. x.one) s);
        ends = rw d refl;
        so_far = rw d (chosen_so (has_any w.one) (has_any (step_of zs os ts (entry ks (get_or tape i 0))
            (first_one (sweep_of zs os ts ks e (drop (i + 1) tape))) (at_end true (drop (i + 1) tape))).one)
            i (resume_words zs os ts ks e (drop (i + 1) tape)) f found (ap (λ x. has_any x.one) s) k q.so_far);
      }

  -- the same, counting down
  pub resuming_down : (i next c : ℕ) (last : Bool) (found f : ℕ) (w : Words) → 0 < i → Resuming i next last found → c ≡ get_or tape (i - 1) 0
      → w ≡ step_of zs os ts (entry ks c) next last → f ≡ cond (has_any w.one) (i - 1) found → Resuming (i - 1) w.one false f
  resuming_down i next c last found f w o q =
      let j : i ≡ i - 1 + 1 = omega arith in
      resuming_next (i - 1) next c last found f w (subst (λ x. Resuming x next last found) j q)

  pub resuming_end : (next : ℕ) (last : Bool) (found : ℕ) → Resuming 0 next last found → found ≡ resume_words zs os ts ks e tape
  resuming_end next last found q = let z : 0 + resume_words zs os ts ks e tape ≡ resume_words zs os ts ks e tape = omega arith in q.so_far ∙ z
