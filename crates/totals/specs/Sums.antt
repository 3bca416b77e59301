-- Adding up entries: the sums of two arrays of letters and accounts are the totals of the entries in them.
use Rattle.std.specs.Prelude.{◌≡◌, refl, Bool, true, false, cond, List, [], ◌∷◌, ◌++◌, ℕ, suc, ◌+◌, ◌*◌, ◌≤◌, ◌<◌, eqb, length, get_or, set, replicate}
use Rattle.std.proofs.Common.{sym, ap, ◌∙◌, arith, add-zero, zero-add, eqb-true, length-set, get_or-set_same, get_or-set_other, ext_get_or}
use Rattle.std.proofs.lemmas.Bool.{eqb-false}
use Rattle.std.proofs.lemmas.List.{length-replicate, get_or-replicate}
use Rattle.syntax.specs.Letter.{letter_limit}
use Rattle.syntax.specs.Table.{account_limit}
use Rattle.semantics.specs.Accounts.{litres, total, totals_to, totals}
use Rattle.semantics.proofs.AccountLaws.{litres_small, total_small, getD_totals, totals-length}
use Rattle.entries.specs.Entries.{Entries}
use Rattle.entries.specs.Gather.{pairs}
use Rattle.entries.specs.Pairs.{pairs-length, pairs_next}
use Rattle.totals.specs.Totals.{no_litres}

-- ── adding ──
unfoldable pub charge_one : (sums : List ℕ) → (account c : ℕ) → List ℕ
charge_one s a c = set s a (get_or s a 0 + litres c)

-- entry after entry
abbrev pub charge : (sums : List ℕ) → Entries → List ℕ
charge s [] = s
charge s (e ∷ es) = charge (charge_one s e.1 e.0) es

charge-append : (es fs : Entries) (s : List ℕ) → charge s (es ++ fs) ≡ charge (charge s es) fs
charge-append [] fs s = refl
charge-append (e ∷ es) fs s = charge-append es fs (charge_one s e.1 e.0)

one_length : (s : List ℕ) (a c : ℕ) → length (charge_one s a c) ≡ length s
unfolding charge_one
one_length s a c = length-set s a (get_or s a 0 + litres c)

charge-length : (es : Entries) (s : List ℕ) → length (charge s es) ≡ length s
charge-length [] s = refl
charge-length (e ∷ es) s = charge-length es (charge_one s e.1 e.0) ∙ one_length s e.1 e.0

charge-step : (s : List ℕ) (b a c : ℕ) → a < length s → (t : Bool) → eqb b a ≡ t → get_or (charge_one s b c) a 0 ≡ get_or s a 0 + cond t (litres c) 0
unfolding charge_one
charge-step s b a c h true q = ap (λ z. get_or (set s z (get_or s z 0 + litres c)) a 0) (eqb-true b a q) ∙ get_or-set_same s a (get_or s a 0 + litres c) 0 h
charge-step s b a c h false q = get_or-set_other s b a (get_or s b 0 + litres c) 0 (λ e. eqb-false b a q (sym e)) ∙ sym (add-zero (get_or s a 0))

-- each sum grows by its account's total
charge-total : (es : Entries) (s : List ℕ) (a : ℕ) → a < length s → get_or (charge s es) a 0 ≡ get_or s a 0 + total a es
unfolding total
charge-total [] s a h = sym (add-zero (get_or s a 0))
charge-total (e ∷ es) s a h =
    let k = one_length s e.1 e.0 in
    let i = charge-total es (charge_one s e.1 e.0) a (omega arith) in
    let j = charge-step s e.1 a e.0 h (eqb e.1 a) refl in
    omega arith

-- ── the sums of a list of entries are its totals ──
-- over any number of accounts, so that nothing here computes as many sums as there are
module _ (n : ℕ) (es : Entries) where
  abbrev sums : List ℕ
  sums = charge (replicate n 0) es

  sums-length : length sums ≡ n
  sums-length = charge-length es (replicate n 0) ∙ length-replicate n 0

  sum_of : (a : ℕ) → a < n → get_or sums a 0 ≡ total a es
  sum_of a h =
      charge-total es (replicate n 0) a (omega (arith, length-replicate {A = ℕ} n 0)) ∙ ap (λ x. x + total a es) (get_or-replicate n a 0 0 h)
      ∙ zero-add (total a es)

  sums-totals : sums ≡ totals_to n es
  sums-totals =
      ext_get_or 0 sums (totals_to n es) (sums-length ∙ sym (totals-length n es))
      (λ a h. let k : a < n = omega (arith, sums-length) in sum_of a k ∙ sym (getD_totals n a es k))

charge-totals : (es : Entries) → charge no_litres es ≡ totals es
unfolding totals
charge-totals es = sums-totals (account_limit + 1) es

-- no sum passes nine litres a letter
charge-room : (es : Entries) (a c : ℕ) → length es < letter_limit → a ≤ account_limit
    → get_or (charge no_litres es) a 0 + litres c ≤ 9 * letter_limit
charge-room es a c h o = omega (arith, sum_of (account_limit + 1) es a (omega arith), total_small a es, litres_small c)

-- ── the loop: i entries are added up ──
pub record EntriesSummed (letters accounts sums : List ℕ) (n i : ℕ) : Type 0 where
  pub low : i ≤ n
  pub is : sums ≡ charge no_litres (pairs i letters accounts)

module _ (xs ys : List ℕ) (n : ℕ) where
  module _ (s : List ℕ) (i : ℕ) (k : EntriesSummed xs ys s n i) where
    -- no sum passes nine litres a letter
    pub entries_summed_room : i < n → n ≤ letter_limit → (a c : ℕ) → a ≤ account_limit → get_or s a 0 + litres c ≤ 9 * letter_limit
    entries_summed_room h few a c o = rw k.is (charge-room (pairs i xs ys) a c (omega (arith, pairs-length i xs ys)) o)

    pub entries_summed_next : i < n → n ≤ length xs → n ≤ length ys → (s' : List ℕ) → s' ≡ charge_one s (get_or ys i 0) (get_or xs i 0)
        → EntriesSummed xs ys s' n (i + 1)
    entries_summed_next h long wide s' e =
        let z : suc i ≡ i + 1 = omega arith in
        record {
          low = omega arith;
          is = e ∙ ap (λ q. charge_one q (get_or ys i 0) (get_or xs i 0)) k.is
              ∙ sym (charge-append (pairs i xs ys) ((get_or xs i 0, get_or ys i 0) ∷ []) no_litres)
              ∙ ap (charge no_litres) (sym (pairs_next i xs ys (omega arith) (omega arith)) ∙ ap (λ j. pairs j xs ys) z);
        }

    pub entries_summed_end : n ≤ i → s ≡ totals (pairs n xs ys)
    entries_summed_end h =
        let low = k.low in
        let e : i ≡ n = omega arith in
        k.is ∙ ap (λ j. charge no_litres (pairs j xs ys)) e ∙ charge-totals (pairs n xs ys)
