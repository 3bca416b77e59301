-- Totalling a whole code: what is refused, what is added up, and that the totals add up to the tape's digits.
use Rattle.std.specs.Prelude.{◌≡◌, refl, Bool, true, false, List, [], ◌∷◌, map, ℕ, zero, suc, ◌+◌, length, replicate, Ok, Result}
use Rattle.std.proofs.Math.Path.{sym}
use Rattle.std.proofs.Common.{ap, ◌∙◌, arith}
use Rattle.std.proofs.Math.Bool.{cond}
use Rattle.std.proofs.Math.Dec.{eqb}
use Rattle.std.proofs.lemmas.List.{length-replicate}
use borrow.Author.Tests.{ne_eqb}
use Rattle.syntax.specs.declared.Pattern.{Pattern}
use Rattle.refusals.specs.declared.Refusal.{Refusal}
use Rattle.syntax.specs.Trees.{root}
use Rattle.syntax.specs.Table.{obeys, account_limit}
use Rattle.refusals.specs.Refusals.{answer, refused, number}
use Rattle.refusals.specs.RefusalLaws.{number_positive}
use Rattle.refusals.specs.Checks.{First, Clear}
use Rattle.refusals.specs.CheckLaws.{first_answered, clear_success}
use Rattle.semantics.specs.Accounts.{accounts, total, count_from, totals_to, totals, digits}
use Rattle.semantics.specs.Owned.{sum_below}
use Rattle.semantics.proofs.AccountLaws.{totals_many, totals-digits}
use Rattle.walks.specs.Whole.{whole_code, letters_of}
use Rattle.totals.specs.Totals.{totals_answer, totals_litres, totalled_litres, no_litres, Totals}
use Rattle.walks.specs.WholeLaws.{whole-handed, whole-value, spells}
use Rattle.entries.specs.CodeOrder.{code_order}
use Rattle.entries.specs.Gather.{entries_of}
use Rattle.entries.specs.EntryAccounts.{root-accounts}

module _ (p : Pattern) (code : List ℕ) (count : ℕ) where
  -- the first cause that holds is answered, and all totals are 0
  module _ (why : Refusal) (f : First why (code_order p code count)) where
    pub refused-answer : totals_answer p code count ≡ refused why
    unfolding totals_answer
    refused-answer = first_answered f (answer 0 0)

    pub refused-litres : totals_litres p code count ≡ no_litres
    unfolding totals_litres
    refused-litres =
        let z = ne_eqb (number why) 0 (λ q. omega (arith, q, number_positive why)) in
        ap (λ b. cond b (totals (entries_of (root p) code count)) no_litres) (ap (λ a. eqb a.number 0) refused-answer ∙ z)

  -- where no cause holds, the litres of the entries are added up
  pub totals-added : Clear (code_order p code count) → (s : List ℕ) → s ≡ totals (entries_of (root p) code count)
      → Totals p code count (Ok s)
  unfolding totals_litres totals_answer
  totals-added c s e =
      let a : totals_answer p code count ≡ answer 0 0 = clear_success (code_order p code count) (answer 0 0) c in
      record {
        answers = sym a;
        gives = e ∙ sym (ap (λ x. cond (eqb x.number 0) (totals (entries_of (root p) code count)) no_litres) a);
      }

-- the litres of no letters
none_from : (i n : ℕ) → map (λ a. total a []) (count_from i n) ≡ replicate n 0
unfolding total
none_from i zero = refl
none_from i (suc n) = ap (λ xs. 0 ∷ xs) (none_from (suc i) n)

pub no_entries : totals [] ≡ no_litres
unfolding totals totals_to
no_entries = none_from 0 (account_limit + 1)

-- 02, Job 7: "There are 201 totals", refused or not
pub many_or_none : (b : Bool) (es : List (ℕ × ℕ)) → length (cond b (totals es) no_litres) ≡ account_limit + 1
many_or_none true es = totals_many es
many_or_none false es = length-replicate {A = ℕ} (account_limit + 1) 0

pub litres_many : (p : Pattern) (code : List ℕ) (count : ℕ) → length (totals_litres p code count) ≡ account_limit + 1
unfolding totals_litres
litres_many p code count = many_or_none (eqb (totals_answer p code count).number 0) (entries_of (root p) code count)

pub totalled_many : (p : Pattern) (code : List ℕ) (count : ℕ) (r : Result (List ℕ) Refusal) → Totals p code count r → length (totalled_litres r) ≡ account_limit + 1
totalled_many p code count r t = ap length t.gives ∙ litres_many p code count

-- ── 01: the totals "add up to the tape's digits" ──
abbrev pub sum_list : List ℕ → ℕ
sum_list [] = 0
sum_list (x ∷ xs) = x + sum_list xs

sum_from : (f : ℕ → ℕ) (i n : ℕ) → sum_below i f + sum_list (map f (count_from i n)) ≡ sum_below (i + n) f
sum_from f i zero = let e : i + 0 ≡ i = omega arith in rw e (omega arith)
sum_from f i (suc n) = let e : i + suc n ≡ suc i + n = omega arith in rw e (omega (arith, sum_from f (suc i) n))

-- the totals of the accounts below n, added up
pub sum-totals : (n : ℕ) (es : List (ℕ × ℕ)) → sum_list (totals_to n es) ≡ sum_below n (λ a. total a es)
unfolding totals_to
sum-totals n es = let e : 0 + n ≡ n = omega arith in omega (arith, sum_from (λ a. total a es) 0 n, ap (λ k. sum_below k (λ a. total a es)) e)

pub totals_add_up : (p : Pattern) (code : List ℕ) (count : ℕ) → obeys p ≡ true → whole_code (root p) code count ≡ true
    → sum_list (totals (entries_of (root p) code count)) ≡ digits (letters_of (root p) code count)
unfolding totals entries_of
totals_add_up p code count o w =
    let (v, e) = whole-value (root p) code count w in
    let d = totals-digits (account_limit + 1) (root p) v (root-accounts p o) (omega arith) in
    rw e (sum-totals (account_limit + 1) (accounts (root p) v) ∙ d
    ∙ sym (ap digits (spells (root p) code count (whole-handed (root p) code count w) v e)))
