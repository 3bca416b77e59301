-- The promise of running the demand fixes answer and buffers: two outcomes that it allows on one input are the same.
use Rattle.std.specs.Prelude.{◌≡◌, refl, Bool, true, false, List, ℕ, ◌≤◌, length, Err, Ok, Result}
use Rattle.std.proofs.Common.{sym, subst, ◌∙◌, arith}
use Rattle.std.proofs.Math.Decide.{dec_le}
use Rattle.refusals.specs.declared.Refusal.{Refusal}
use Rattle.syntax.specs.declared.Pattern.{Pattern}
use Rattle.refusals.specs.RefusalLaws.{ok≢err}
use Rattle.canonical.specs.Canonicalize.{Canonicalizes}
use Rattle.canonical.specs.Unique.{canonicalizes_one}
use Rattle.canonical.specs.Demand.{Equal}
use Rattle.agree.specs.Agree.{Compares, Worked, worked, SettlesAgain, front, Verdict, Agrees}

compares_one : (one : List ℕ) (n : ℕ) (two : List ℕ) (m : ℕ) (r s : Result Bool Refusal) → Compares one n two m r → Compares one n two m s → r ≡ s
compares_one one n two m (Ok true) s f g = sym (g.same.1 (f.same.0 refl))
compares_one one n two m (Ok false) s f g = sym (g.different.1 (f.different.0 refl))
compares_one one n two m (Err w) s f g =
    let none : Equal one two n m → ⊥ = λ e. ok≢err (sym (f.same.1 e)) in absurd (ok≢err (sym (f.different.1 none)))

again_one : (p : Pattern) (one : List ℕ) (n : ℕ) (two : List ℕ) (m : ℕ) (lent left left_too : Worked) (r s : Result Bool Refusal)
    → SettlesAgain p one n two m lent left r → SettlesAgain p one n two m lent left_too s → (r ≡ s) × (left ≡ left_too)
again_one p one n two m lent left left_too r s f g = go (dec_le (length one) (length lent.again)) (dec_le (length two) (length lent.again))
  where
    go : Dec (length one ≤ length lent.again) → Dec (length two ≤ length lent.again) → (r ≡ s) × (left ≡ left_too)
    go (no a) d =
        let x = f.first_short (omega arith) in
        let y = g.first_short (omega arith) in
        (x.0 ∙ sym y.0, x.1 ∙ sym y.1)
    go (yes a) (no b) =
        let x = f.second_short a (omega arith) in
        let y = g.second_short a (omega arith) in
        (x.0 ∙ sym y.0, x.1 ∙ sym y.1)
    go (yes a) (yes b) =
        let x = f.compares a b in
        let y = g.compares a b in
        (compares_one one n two m r s x.0 y.0, x.1 ∙ sym y.1)

verdict_one : (x y : Result ℕ Refusal) (p : Pattern) (a b : List ℕ) (lent left left_too : Worked) (r s : Result Bool Refusal)
    → Verdict x y p a b lent left r → Verdict x y p a b lent left_too s → (r ≡ s) × (left ≡ left_too)
verdict_one (Err why) y p a b lent left left_too r s f g =
    let x = f.first_refused why refl in
    let z = g.first_refused why refl in
    (x.0 ∙ sym z.0, x.1 ∙ sym z.1)
verdict_one (Ok k) (Err why) p a b lent left left_too r s f g =
    let x = f.second_refused k why refl refl in
    let z = g.second_refused k why refl refl in
    (x.0 ∙ sym z.0, x.1 ∙ sym z.1)
verdict_one (Ok k) (Ok l) p a b lent left left_too r s f g =
    again_one p (front a k) k (front b l) l lent left left_too r s (f.both k l refl refl) (g.both k l refl refl)

module _ (p : Pattern) (one : List ℕ) (n : ℕ) (two : List ℕ) (m : ℕ) (lent left left_too : Worked) (a x x_too b y y_too : List ℕ) (r s : Result Bool Refusal)
    (f : Agrees p one n two m lent left a x b y r) (g : Agrees p one n two m lent left_too a x_too b y_too s) where
  pub agrees_one : (r ≡ s) × (left ≡ left_too) × (x ≡ x_too) × (y ≡ y_too)
  agrees_one =
      let e = canonicalizes_one p one n lent.tape f.first.tape_now g.first.tape_now lent.words f.first.words_now
      g.first.words_now a x x_too f.first.result g.first.result f.first.kept g.first.kept in
      let k : Canonicalizes p two m f.first.tape_now g.second.tape_now f.first.words_now g.second.words_now b y_too g.second.result =
      subst (λ t. Canonicalizes p two m t g.second.tape_now f.first.words_now g.second.words_now b y_too g.second.result) (sym e.1)
      (subst (λ w. Canonicalizes p two m g.first.tape_now g.second.tape_now w g.second.words_now b y_too g.second.result)
      (sym e.2) g.second.kept) in
      let d = canonicalizes_one p two m f.first.tape_now f.second.tape_now g.second.tape_now f.first.words_now f.second.words_now
      g.second.words_now b y y_too f.second.result g.second.result f.second.kept k in
      let v1 : Verdict f.first.result g.second.result p x_too y_too (worked g.second.tape_now g.second.words_now lent.again) left_too s =
      subst (λ q. Verdict q g.second.result p x_too y_too (worked g.second.tape_now g.second.words_now lent.again) left_too s)
      (sym e.0) g.answers in
      let v2 : Verdict f.first.result f.second.result p x_too y_too (worked g.second.tape_now g.second.words_now lent.again) left_too s =
      subst (λ q. Verdict f.first.result q p x_too y_too (worked g.second.tape_now g.second.words_now lent.again) left_too s) (sym d.0) v1 in
      let v3 : Verdict f.first.result f.second.result p x y_too (worked g.second.tape_now g.second.words_now lent.again) left_too s =
      subst (λ q. Verdict f.first.result f.second.result p q y_too
      (worked g.second.tape_now g.second.words_now lent.again) left_too s) (sym e.3) v2 in
      let v4 : Verdict f.first.result f.second.result p x y (worked g.second.tape_now g.second.words_now lent.again) left_too s =
      subst (λ q. Verdict f.first.result f.second.result p x q
      (worked g.second.tape_now g.second.words_now lent.again) left_too s) (sym d.3) v3 in
      let v5 : Verdict f.first.result f.second.result p x y (worked f.second.tape_now g.second.words_now lent.again) left_too s =
      subst (λ q. Verdict f.first.result f.second.result p x y (worked q g.second.words_now lent.again) left_too s) (sym d.1) v4 in
      let v6 : Verdict f.first.result f.second.result p x y (worked f.second.tape_now f.second.words_now lent.again) left_too s =
      subst (λ q. Verdict f.first.result f.second.result p x y (worked f.second.tape_now q lent.again) left_too s) (sym d.2) v5 in
      let w = verdict_one f.first.result f.second.result p x y
      (worked f.second.tape_now f.second.words_now lent.again) left left_too r s f.answers v6 in
      (w.0, w.1, e.3, d.3)
