-- Gathering the entries of a code: one law for each way.
use Rattle.std.specs.Prelude.{◌≡◌, true, false, List, ◌++◌, ℕ, ◌+◌, ◌-◌, ◌≤◌, ◌<◌, length, drop, Err, Ok, Option, Some, None}
use Rattle.std.proofs.Common.{sym, subst, ◌∙◌, arith}
use Rattle.std.proofs.Math.Path.{ap, ap₂}
use Rattle.syntax.specs.declared.Pattern.{Pattern}
use Rattle.refusals.specs.declared.Refusal.{Refusal}
use Rattle.refusals.specs.declared.Refusal.TheVariants.{Tree as TreeFault, TapeTooLong, NotACode}
use Rattle.syntax.specs.Letter.{letter_limit}
use Rattle.syntax.specs.Trees.{root}
use Rattle.syntax.specs.Table.{obeys, account_limit}
use Rattle.refusals.specs.Checks.{First}
use Rattle.bits.specs.Bits.{in_front}
use Rattle.semantics.specs.Accounts.{accounts}
use Rattle.semantics.specs.Owned.{letters}
use Rattle.semantics.proofs.AccountLaws.{entries_below}
use Rattle.semantics.specs.Every.{All}
use Rattle.table.specs.Cells.{tree_in, Holds}
use Rattle.table.specs.CellLaws.{holds_tree}
use Rattle.walks.specs.Whole.{whole_code, letters_of}
use Rattle.walks.specs.WholeLaws.{whole-value}
use Rattle.entries.specs.Entries.{accounts_in}
use Rattle.entries.specs.Entering.{Wrote}
use Rattle.entries.specs.Measures.{Reads, measured_no, measured_yes, measured-letters}
use Rattle.entries.specs.WholeLaws.{entered-value, entered-letters, entered_count, letters-front, accounts-front}
use Rattle.entries.specs.CodeOrder.{code_order, first_2, first_8, first_3, sound_clear}
use Rattle.entries.specs.Gather.{entries_by, entries_of, pairs, Owned, HoldsEntries, Gathers}
use Rattle.entries.specs.Pairs.{pairs-entries, entries_owned}
use Rattle.entries.specs.EntryAccounts.{root-accounts}

-- a table that holds the pattern: what was read at its last line is the pattern's
pub reads-root : (p : Pattern) (table : List ℕ) → obeys p ≡ true → Holds p table → {code : List ℕ} {count : ℕ} {xs ys xs' ys' : List ℕ} {m : Option ℕ}
    → Reads code (tree_in table (p.count - 1)) count xs ys xs' ys' m → Reads code (root p) count xs ys xs' ys' m
reads-root p table o h {code} {count} {xs} {ys} {xs'} {ys'} {m} k = subst (λ t. Reads code t count xs ys xs' ys' m) (holds_tree p table o h) k

module _ (p : Pattern) (code : List ℕ) (count : ℕ) where
  not_gathered : (xs ys : List ℕ) (why : Refusal) → First why (code_order p code count) → Gathers p code count xs ys (Err why)
  not_gathered xs ys why f = record {
    refuses = λ w e. let same : why ≡ w = cc in subst (λ v. First v (code_order p code count)) same f;
    holds = λ n e. absurd (let z : ◌≡◌ {A = ℕ} 0 1 = (cc) in omega arith);
  }

  pub gather_bad : (xs ys : List ℕ) → obeys p ≡ false → Gathers p code count xs ys (Err (TreeFault 0))
  gather_bad xs ys o = not_gathered xs ys (TreeFault 0) (first_2 p code count o)

  module _ (o : obeys p ≡ true) {xs ys xs' ys' : List ℕ} {m : Option ℕ} (r : Reads code (root p) count xs ys xs' ys' m) where
    pub gather_not : m ≡ None → Gathers p code count xs' ys' (Err NotACode)
    gather_not f = not_gathered xs' ys' NotACode (first_8 p code count o (measured_no (root p) code count m r.is f))

    module _ {n : ℕ} (f : m ≡ Some n) where
      whole : whole_code (root p) code count ≡ true
      whole = measured_yes (root p) code count m r.is n f

      pub gather_long : letter_limit < n → Gathers p code count xs' ys' (Err TapeTooLong)
      gather_long h =
          let k = measured-letters (root p) code count m r.is n f in
          not_gathered xs' ys' TapeTooLong (first_3 p code count o whole (omega arith))

      module _ (h : n ≤ letter_limit) (long : length xs ≡ letter_limit) (wide : length ys ≡ letter_limit) where
        exactly : length (letters_of (root p) code count) ≡ n
        exactly = let k = measured-letters (root p) code count m r.is n f in omega arith

        abbrev k : Wrote code (root p) 0 0 0 xs ys xs' ys' count n
        k = r.wrote n f

        many : n ≡ length k.entries
        many = sym exactly ∙ sym (entered_count (root p) code count whole k)

        -- what the buffers had behind the entries
        abbrev xs_rest : List ℕ
        xs_rest = drop (length (letters_of (root p) code count)) xs

        abbrev ys_rest : List ℕ
        ys_rest = drop (length (accounts_in k.entries)) ys

        accounts_are : ys' ≡ accounts_in k.entries ++ ys_rest
        unfolding in_front
        accounts_are = accounts-front (root p) code count whole k (omega (arith, exactly))

        letters_are : xs' ≡ letters k.entries ++ xs_rest
        unfolding in_front
        letters_are =
            letters-front (root p) code count whole k (omega (arith, exactly))
            ∙ ap (λ l. l ++ xs_rest) (sym (entered-letters (root p) code count whole k))

        owned : Owned ys' n
        owned =
            let (v, e) = whole-value (root p) code count whole in
            let own = entries_below (account_limit + 1) (root p) 0 v (root-accounts p o) (omega arith) in
            subst (λ l. Owned l n) (sym accounts_are)
            (entries_owned k.entries ys_rest
            (subst (All (λ e. e.1 < account_limit + 1)) (sym (entered-value (root p) code count whole v e k)) own) n many)

        entries_are : pairs n xs' ys' ≡ entries_of (root p) code count
        unfolding entries_of accounts
        entries_are =
            let (v, e) = whole-value (root p) code count whole in
            ap₂ (pairs n) letters_are accounts_are
            ∙ ap (λ i. pairs i (letters k.entries ++ xs_rest) (accounts_in k.entries ++ ys_rest)) many
            ∙ pairs-entries k.entries xs_rest ys_rest
            ∙ entered-value (root p) code count whole v e k ∙ ap (entries_by (root p)) (sym e)

        holds_entries : HoldsEntries p code count xs' ys' n
        holds_entries = record {
          clear = sound_clear p code count (record { good = o; whole = whole; few = omega (arith, exactly) });
          entries = entries_are;
          ready = (omega (arith, r.long, exactly), h, owned);
        }

        pub gather_done : Gathers p code count xs' ys' (Ok n)
        gather_done = record {
          refuses = λ w e. absurd (let z : ◌≡◌ {A = ℕ} 0 1 = (cc) in omega arith);
          holds = λ i e. let same : n ≡ i = cc in subst (HoldsEntries p code count xs' ys') same holds_entries;
        }
