-- The promise of totalling within a term fixes everything: two outcomes that it allows on one input are the same.
use Rattle.std.specs.Prelude.{◌≡◌, refl, List, [], ◌∷◌, ℕ, ◌≤◌, Err, Ok, Result}
use Rattle.std.proofs.Common.{sym, ap, ◌∙◌, arith}
use Rattle.syntax.specs.declared.Pattern.{Pattern}
use Rattle.refusals.specs.RefusalLaws.{number_positive, said_same, wider_of, wrapped_known}
use Rattle.calendar.specs.declared.Date.{Date}
use Rattle.terms.specs.declared.Term.{Term}
use Rattle.terms.specs.declared.TermRefusal.{TermRefusal}
use Rattle.terms.specs.declared.TermRefusal.TheVariants.{Base, TapeUndated, NotATerm}
use Rattle.terms.specs.Terms.{term_number, term_refused, term_outcome, term_litres, TermTotals}

-- number and value fix the cause
abbrev added : List TermRefusal
added = TapeUndated ∷ NotATerm ∷ []

known_by : (r : TermRefusal) → wider_of term_refused Base added (term_refused r) ≡ r
known_by (Base r) = wrapped_known term_refused Base added (omega arith, (omega arith, tt)) r
known_by TapeUndated = refl
known_by NotATerm = refl

pub term_refused_same : (r s : TermRefusal) → term_refused r ≡ term_refused s → r ≡ s
term_refused_same = said_same term_refused (wider_of term_refused Base added) known_by

-- 0 is no cause's number
pub term_number_positive : (r : TermRefusal) → 1 ≤ term_number r
term_number_positive (Base r) = number_positive r
term_number_positive TapeUndated = omega arith
term_number_positive NotATerm = omega arith

-- so a refusal that is answered is the cause
pub term_outcome_refused : (r : Result (List ℕ) TermRefusal) (why : TermRefusal) → term_outcome r ≡ term_refused why → r ≡ Err why
term_outcome_refused (Ok xs) s e = let z : 0 ≡ term_number s = ap (λ a. a.number) e in absurd (omega (arith, term_number_positive s))
term_outcome_refused (Err r) s e = ap Err (term_refused_same r s e)

-- and with the litres the whole answer
term_totalled_same : (r s : Result (List ℕ) TermRefusal) → term_outcome r ≡ term_outcome s → term_litres r ≡ term_litres s → r ≡ s
term_totalled_same (Ok xs) (Ok ys) e l = ap Ok l
term_totalled_same r (Err s) e l = term_outcome_refused r s e
term_totalled_same (Err r) (Ok ys) e l = sym (term_outcome_refused (Ok ys) r (sym e))

module _ (p : Pattern) (code : List ℕ) (count : ℕ) (start : Date) (term : Term) where
  pub term_totals_one : (r s : Result (List ℕ) TermRefusal) → TermTotals p code count start term r → TermTotals p code count start term s → r ≡ s
  term_totals_one r s f g = term_totalled_same r s (f.answers ∙ sym g.answers) (f.gives ∙ sym g.gives)
