-- Laws of orders of checks. 01: "A number is returned if its cause holds and none before it in the service's order does, and never otherwise."
use Rattle.std.specs.Prelude.{◌≡◌, refl, Bool, true, false, cond, ◌⊎◌, List, [], ◌∷◌, ◌++◌, ℕ, ◌≤◌, eqb}
use Rattle.std.proofs.Common.{sym, ap, subst, ◌∙◌, true≢false, inl, inr, arith, eq-eqb}
use Rattle.std.proofs.lemmas.Bool.{false≢true}
use Rattle.refusals.specs.declared.Refusal.{Refusal}
use Rattle.refusals.specs.Refusals.{number, Answer, refused}
use Rattle.refusals.specs.RefusalLaws.{refused_same, number_positive}
use Rattle.refusals.specs.Checks.{CheckOf, Check, first_of, first_cause, numbers_of, numbers, wrapped, First, here, past, Clear}

cond_true : (b : Bool) (x y : Answer) → b ≡ true → cond b x y ≡ x
cond_true true x y e = refl
cond_true false x y e = absurd (false≢true e)

cond_false : (b : Bool) (x y : Answer) → b ≡ false → cond b x y ≡ y
cond_false true x y e = absurd (true≢false e)
cond_false false x y e = refl

abbrev pub among : ℕ → List ℕ → Bool
among n [] = false
among n (m ∷ ms) = cond (eqb n m) true (among n ms)

-- ── of any causes ──
module _ {Cause : Type 0} where
  -- causes behind it do not matter
  pub first_more : {why : Cause} {cs : List (CheckOf Cause)} (more : List (CheckOf Cause)) → First why cs → First why (cs ++ more)
  first_more more (here e) = here e
  first_more more (past e f) = past e (first_more more f)

  -- nor do causes before it, where none of them holds
  pub first_behind : {why : Cause} (cs : List (CheckOf Cause)) {more : List (CheckOf Cause)} → Clear cs → First why more → First why (cs ++ more)
  first_behind [] c f = f
  first_behind (d ∷ cs) c f = past c.0 (first_behind cs c.1 f)

  pub clear_both : (cs more : List (CheckOf Cause)) → Clear cs → Clear more → Clear (cs ++ more)
  clear_both [] more c d = d
  clear_both (e ∷ cs) more c d = (c.0, clear_both cs more c.1 d)

  pub clear_parts : (cs more : List (CheckOf Cause)) → Clear (cs ++ more) → Clear cs × Clear more
  clear_parts [] more c = (tt, c)
  clear_parts (d ∷ cs) more c = let q = clear_parts cs more c.1 in ((c.0, q.0), q.1)

  -- one of the causes of an order is the first that holds, or none holds
  pub which_first : (cs : List (CheckOf Cause)) → Clear cs ⊎ ((why : Cause) × First why cs)
  which_first [] = inl tt
  which_first ((b, why) ∷ cs) = go b (which_first cs)
    where
      go : (t : Bool) → Clear cs ⊎ ((w : Cause) × First w cs) → Clear ((t, why) ∷ cs) ⊎ ((w : Cause) × First w ((t, why) ∷ cs))
      go true r = inr (why, here refl)
      go false (inl c) = inl (refl, c)
      go false (inr (w, f)) = inr (w, past refl f)

-- ── of an order whose causes are wrapped ──
module _ {Cause Wider : Type 0} (wrap : Cause → Wider) where
  pub first_wrapped : {why : Cause} {cs : List (CheckOf Cause)} → First why cs → First (wrap why) (wrapped wrap cs)
  first_wrapped (here e) = here e
  first_wrapped (past e f) = past e (first_wrapped f)

  pub clear_wrapped : (cs : List (CheckOf Cause)) → Clear cs → Clear (wrapped wrap cs)
  clear_wrapped [] c = tt
  clear_wrapped (d ∷ cs) c = (c.0, clear_wrapped cs c.1)

  pub wrapped_clear : (cs : List (CheckOf Cause)) → Clear (wrapped wrap cs) → Clear cs
  wrapped_clear [] c = tt
  wrapped_clear (d ∷ cs) c = (c.0, wrapped_clear cs c.1)

-- ── of any causes, by the number and value that each says ──
module _ {Cause : Type 0} (says : Cause → Answer) where
  -- THE LAW OF ORDERS: the first cause that holds is answered, whatever later causes hold
  pub first_said : {why : Cause} {cs : List (CheckOf Cause)} → First why cs → (success : Answer) → first_of says cs success ≡ says why
  first_said {why} (here {holds = h} {later = cs} e) s = cond_true h (says why) (first_of says cs s) e
  first_said (past {holds = h} {other = o} {later = cs} e f) s = cond_false h (says o) (first_of says cs s) e ∙ first_said f s

  -- where no cause holds, success is answered
  pub clear_said : (cs : List (CheckOf Cause)) (success : Answer) → Clear cs → first_of says cs success ≡ success
  clear_said [] s c = refl
  clear_said (d ∷ cs) s c = cond_false d.0 (says d.1) (first_of says cs s) c.0 ∙ clear_said cs s c.1

  -- causes in front that do not hold do not matter
  pub more_said : (cs more : List (CheckOf Cause)) (success : Answer) → Clear cs → first_of says (cs ++ more) success ≡ first_of says more success
  more_said [] more s c = refl
  more_said (d ∷ cs) more s c = cond_false d.0 (says d.1) (first_of says (cs ++ more) s) c.0 ∙ more_said cs more s c.1

  -- no number is answered that is not in the service's line
  pub said-among : {why : Cause} {cs : List (CheckOf Cause)} → First why cs → among (says why).number (numbers_of says cs) ≡ true
  said-among {why} (here {later = cs} e) =
      ap (λ b. cond b true (among (says why).number (numbers_of says cs))) (eq-eqb (says why).number (says why).number refl)
  said-among {why} (past {other = o} {later = cs} e f) = go (eqb (says why).number (says o).number) (said-among f)
    where
      go : (b : Bool) → among (says why).number (numbers_of says cs) ≡ true → cond b true (among (says why).number (numbers_of says cs)) ≡ true
      go true q = refl
      go false q = q

  -- where 0 is no cause's number
  module _ (positive : (c : Cause) → 1 ≤ (says c).number) where
    pub said_positive : {why : Cause} {cs : List (CheckOf Cause)} → First why cs → (success : Answer) → 1 ≤ (first_of says cs success).number
    said_positive {why} f s = subst (λ a. 1 ≤ a.number) (sym (first_said f s)) (positive why)

    -- "and never otherwise": number 0 is answered only where no cause holds,
    pub zero-said : (cs : List (CheckOf Cause)) (success : Answer) → (first_of says cs success).number ≡ 0 → Clear cs
    zero-said [] s e = tt
    zero-said (c ∷ cs) s e = go c.0 refl e (λ z. zero-said cs s z)
      where
        go : (b : Bool) → c.0 ≡ b → (cond b (says c.1) (first_of says cs s)).number ≡ 0 → ((first_of says cs s).number ≡ 0 → Clear cs)
            → (c.0 ≡ false) × Clear cs
        go true q z rest = absurd (omega (arith, z, positive c.1))
        go false q z rest = (q, rest z)

    -- and, where number and value tell causes apart, a cause only where it is the first that holds
    pub said_first : ((c d : Cause) → says c ≡ says d → c ≡ d) → (cs : List (CheckOf Cause)) (success : Answer) → success.number ≡ 0 → (why : Cause)
        → first_of says cs success ≡ says why → First why cs
    said_first same [] s z why e = absurd (omega (arith, z, ap (λ a. a.number) e, positive why))
    said_first same (c ∷ cs) s z why e = go c.0 refl e (λ f. said_first same cs s z why f)
      where
        go : (b : Bool) → c.0 ≡ b → cond b (says c.1) (first_of says cs s) ≡ says why → (first_of says cs s ≡ says why → First why cs)
            → First why (c ∷ cs)
        go true q f rest = subst (λ w. First why ((c.0, w) ∷ cs)) (sym (same c.1 why f)) (here q)
        go false q f rest = past q (rest f)

-- ── of 01's causes ──
pub first_answered : {why : Refusal} {cs : List Check} → First why cs → (success : Answer) → first_cause cs success ≡ refused why
first_answered f s = first_said refused f s

pub first_positive : {why : Refusal} {cs : List Check} → First why cs → (success : Answer) → 1 ≤ (first_cause cs success).number
first_positive f s = said_positive refused number_positive f s

pub clear_success : (cs : List Check) (success : Answer) → Clear cs → first_cause cs success ≡ success
clear_success = clear_said refused

pub clear_more : (cs more : List Check) (success : Answer) → Clear cs → first_cause (cs ++ more) success ≡ first_cause more success
clear_more = more_said refused

pub zero_clear : (cs : List Check) (success : Answer) → (first_cause cs success).number ≡ 0 → Clear cs
zero_clear = zero-said refused number_positive

pub refused_first : (cs : List Check) (success : Answer) → success.number ≡ 0 → (why : Refusal) → first_cause cs success ≡ refused why → First why cs
refused_first = said_first refused number_positive refused_same

pub first_among : {why : Refusal} {cs : List Check} → First why cs → among (number why) (numbers cs) ≡ true
first_among f = said-among refused f
