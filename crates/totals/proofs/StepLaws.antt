-- What single steps of totalling come to: where the sums start and how many they are, that a refusal has no litres, and that number and value fix
-- what was answered. No answer needs these laws, since `?` hands refusals on and the check finds the sums' start and number itself.
use Rattle.std.specs.Prelude.{◌≡◌, refl, List, [], ◌∷◌, ℕ, ◌+◌, length, get_or, Result, Ok, Err, ⊤}
use Rattle.std.proofs.Common.{sym, ap, ◌∙◌, arith, length-set}
use Rattle.syntax.specs.declared.Pattern.{Pattern}
use Rattle.syntax.specs.Table.{account_limit}
use Rattle.refusals.specs.declared.Refusal.{Refusal}
use Rattle.refusals.specs.Refusals.{refused}
use Rattle.refusals.specs.RefusalLaws.{refused_same, number_positive}
use Rattle.refusals.specs.Checks.{First}
use Rattle.semantics.specs.Accounts.{litres}
use Rattle.entries.specs.Entries.{Entries}
use Rattle.entries.specs.Gather.{pairs}
use Rattle.entries.specs.CodeOrder.{code_order}
use Rattle.totals.specs.Totals.{no_litres, totals_outcome, Totals}
use Rattle.totals.specs.TotalsLaws.{refused-answer, refused-litres}
use Rattle.totals.specs.Sums.{charge_one, charge, EntriesSummed}

-- ── adding up: no entry is added yet, and the sums stay as many as there are accounts ──
charged_long : (es : Entries) (s : List ℕ) → length (charge s es) ≡ length s
unfolding charge_one
charged_long [] s = refl
charged_long (e ∷ es) s = charged_long es (charge_one s e.1 e.0) ∙ length-set s e.1 (get_or s e.1 0 + litres e.0)

module _ (xs ys : List ℕ) (n : ℕ) where
  pub entries_summed_start : EntriesSummed xs ys no_litres n 0
  entries_summed_start = record { low = omega arith; is = refl }

  module _ (s : List ℕ) (i : ℕ) (k : EntriesSummed xs ys s n i) where
    pub entries_summed_size : length s ≡ account_limit + 1
    entries_summed_size = ap length k.is ∙ charged_long (pairs i xs ys) no_litres

-- ── the service ──
-- a refusal: no litres
abbrev pub refused_totals : Refusal → Result (List ℕ) Refusal
refused_totals why = Err why

-- the first cause that holds is answered, and all totals are 0
pub totals-refused : (p : Pattern) (code : List ℕ) (count : ℕ) (why : Refusal) → First why (code_order p code count)
    → Totals p code count (refused_totals why)
totals-refused p code count why f = record { answers = sym (refused-answer p code count why f); gives = sym (refused-litres p code count why f) }

-- what was answered, without the litres
abbrev pub outcome : Result (List ℕ) Refusal → Result ⊤ Refusal
outcome (Ok sums) = Ok tt
outcome (Err why) = Err why

-- number and value fix it
pub outcome_same : (r s : Result (List ℕ) Refusal) → totals_outcome r ≡ totals_outcome s → outcome r ≡ outcome s
outcome_same (Ok a) (Ok b) e = refl
outcome_same (Ok a) (Err s) e = let z : 0 ≡ (refused s).number = ap (λ x. x.number) e in absurd (omega (arith, number_positive s))
outcome_same (Err r) (Ok b) e = let z : (refused r).number ≡ 0 = ap (λ x. x.number) e in absurd (omega (arith, number_positive r))
outcome_same (Err r) (Err s) e = ap Err (refused_same r s e)
