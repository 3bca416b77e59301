-- The entries of a whole code: a walk from its first bit enters every letter that it spells, and stops behind its last bit.
use Rattle.std.specs.Prelude.{◌≡◌, refl, Bool, true, List, [], ◌∷◌, ◌++◌, ℕ, suc, ◌*◌, ◌-◌, ◌≤◌}
use Rattle.std.proofs.Common.{sym, ◌∙◌, arith, zero-add, length-append}
use Rattle.std.proofs.Math.Path.{ap}
use Rattle.std.proofs.Math.Option.{some}
use Rattle.std.proofs.Math.ListN.{length, drop}
use Rattle.std.proofs.lemmas.List.Edits.{sets, sets-eq}
use Rattle.syntax.specs.Tree.{Tree}
use Rattle.bits.specs.Bits.{unpack, held, in_front}
use Rattle.bits.specs.Reading.{held-length, held-every}
use Rattle.bits.specs.Handed.{handed_fit}
use Rattle.semantics.specs.Value.{Value}
use Rattle.semantics.specs.Code.{code as bits_of}
use Rattle.semantics.specs.Accounts.{entries}
use Rattle.semantics.specs.Owned.{letters}
use Rattle.semantics.proofs.AccountLaws.{entries-flat}
use Rattle.semantics.specs.Decode.{value_of}
use Rattle.semantics.proofs.DecodeLaws.{read_code}
use Rattle.semantics.proofs.CodeLaws.{value_of_sound}
use Rattle.semantics.specs.Positions.{see, seen}
use Rattle.walks.specs.Whole.{whole_code, letters_of}
use Rattle.walks.specs.Looks.{same_seen}
use Rattle.walks.specs.WholeLaws.{whole-handed, whole-value, spells}
use Rattle.entries.specs.Entries.{Entries, accounts_in, entries_at}
use Rattle.entries.specs.Entering.{Wrote}

-- bits behind a code are not read
see_front : {X : Type 0} (t : Tree) (f : Value t → X) (v : Value t) (r : List Bool) → see (bits_of t v ++ r) t f 0 ≡ some (f v, length (bits_of t v))
unfolding see
see_front t f v r =
    let e : length (bits_of t v ++ r) - length r ≡ length (bits_of t v) = omega (arith, length-append (bits_of t v) r) in
    ap (seen (length (bits_of t v ++ r)) t f) (read_code t v r) ∙ ap (λ n. some (f v, n)) e

pub length-letters : (es : Entries) → length (letters es) ≡ length es
length-letters [] = refl
length-letters (e ∷ es) = ap suc (length-letters es)

pub length-accounts : (es : Entries) → length (accounts_in es) ≡ length es
length-accounts [] = refl
length-accounts (e ∷ es) = ap suc (length-accounts es)

-- what is stored from the first cell on stands in front
sets-front : (new old : List ℕ) → length new ≤ length old → sets old 0 new ≡ in_front new old
unfolding in_front
sets-front new old h = sets-eq new old 0 (omega arith) ∙ ap (λ n. new ++ drop n old) (zero-add (length new))

module _ (t : Tree) (code : List ℕ) (count : ℕ) (w : whole_code t code count ≡ true) where
  fit : count ≤ length code * 8
  fit = handed_fit code count (whole-handed t code count w)

  module _ (v : Value t) (e : value_of t (held 8 code count) ≡ some v) where
    pub whole-entries : (o : ℕ) → entries_at code t o 0 ≡ some (entries t o v, count)
    unfolding entries_at
    whole-entries o =
        let b = value_of_sound t (held 8 code count) v e in
        ap (λ l. see l t (entries t o) 0) (held-every 8 code count ∙ ap (λ l. l ++ drop count (unpack 8 code)) (sym b))
        ∙ see_front t (entries t o) v (drop count (unpack 8 code))
        ∙ ap (λ n. some (entries t o v, n)) (ap length b ∙ held-length 8 code count fit)

    value-letters : letters (entries t 0 v) ≡ letters_of t code count
    value-letters = entries-flat t 0 v ∙ sym (spells t code count (whole-handed t code count w) v e)

    -- what a walk entered
    pub entered-value : {xs ys xs' ys' : List ℕ} {j n : ℕ} (k : Wrote code t 0 0 0 xs ys xs' ys' j n) → k.entries ≡ entries t 0 v
    entered-value k = (same_seen (sym k.is ∙ whole-entries 0)).0

  module _ {xs ys xs' ys' : List ℕ} {j n : ℕ} (k : Wrote code t 0 0 0 xs ys xs' ys' j n) where
    pub entered-letters : letters k.entries ≡ letters_of t code count
    entered-letters = let (v, e) = whole-value t code count w in ap letters (entered-value v e k) ∙ value-letters v e

    pub entered_count : length k.entries ≡ length (letters_of t code count)
    entered_count = sym (length-letters k.entries) ∙ ap length entered-letters

    pub letters-front : length (letters_of t code count) ≤ length xs → xs' ≡ in_front (letters_of t code count) xs
    letters-front h = k.spelled ∙ ap (sets xs 0) entered-letters ∙ sets-front (letters_of t code count) xs h

    pub accounts-front : length (letters_of t code count) ≤ length ys → ys' ≡ in_front (accounts_in k.entries) ys
    accounts-front h =
        k.owned ∙ sets-front (accounts_in k.entries) ys (omega (arith, length-accounts k.entries, entered_count))
