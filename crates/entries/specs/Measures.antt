-- A walk over all that is handed in: whether it is a whole code, how many letters that spells, and what is then written.
use Rattle.std.specs.Prelude.{◌≡◌, Bool, cond, List, ◌++◌, ℕ, ◌*◌, ◌-◌, ◌≤◌, length, take, drop, Option, Some, None, ok_or, Err}
use Rattle.std.proofs.Math.Path.{refl, ap}
use Rattle.std.proofs.Common.{sym, ◌∙◌, arith, length-append, take_at}
use Rattle.std.proofs.Math.Bool.{true, false}
use Rattle.std.proofs.lemmas.Option.{none-some, same_Some, cond_some}
use Rattle.std.proofs.Math.Option.{none, some, none-ne-some}
use borrow.Author.Tests.{le-leb}
use Rattle.syntax.specs.Tree.{Tree}
use Rattle.bits.specs.Bits.{held, unpack, handed_good}
use Rattle.bits.specs.Reading.{held-length, held-every}
use Rattle.bits.specs.Handed.{handed_fit, handed_count}
use Rattle.semantics.specs.Value.{Value}
use Rattle.semantics.specs.Code.{code as bits_of, code_limit}
use Rattle.semantics.specs.Accounts.{entries}
use Rattle.semantics.proofs.CodeLaws.{value_of-code}
use Rattle.semantics.specs.Decode.{Read, read, value_of, is_code}
use Rattle.semantics.proofs.DecodeLaws.{read_sound}
use Rattle.semantics.specs.Positions.{see, seen}
use Rattle.walks.specs.Whole.{whole_code, letters_of}
use Rattle.walks.specs.Looks.{same_seen}
use Rattle.walks.specs.WholeLaws.{whole-value}
use Rattle.entries.specs.declared.Entered.{Entered}
use Rattle.entries.specs.Entries.{Entries, entries_at}
use Rattle.entries.specs.Entering.{cap, Enters, Wrote, enters_some, enters_none}
use Rattle.entries.specs.WholeLaws.{whole-entries, entered_count}

-- how many letters a whole code spells, None for what is no whole code
unfoldable pub measured : Tree → (code : List ℕ) → (count : ℕ) → Option ℕ
measured t code count = cond (whole_code t code count) (Some (cap (length (letters_of t code count)))) None

-- what is handed in was tested, and the entries of a whole code are written from the first cells on
pub record Reads (code : List ℕ) (t : Tree) (count : ℕ) (tape owners tape_now owners_now : List ℕ) (m : Option ℕ) : Type 0 where
  pub long : length tape_now ≡ length tape
  pub wide : length owners_now ≡ length owners
  pub is : m ≡ measured t code count
  pub wrote : (letters : ℕ) → m ≡ Some letters → Wrote code t 0 0 0 tape owners tape_now owners_now count letters

-- a walk over every bit stops at the last bit held: the bits held are a code
module _ (t : Tree) (code : List ℕ) (count : ℕ) (fit : count ≤ length code * 8) where
  cut : (v : Value t) (r : List Bool) → held 8 code (length code * 8) ≡ bits_of t v ++ r → length (held 8 code (length code * 8)) - length r ≡ count
      → held 8 code count ≡ bits_of t v
  cut v r b n =
      let e : length (bits_of t v) ≡ count = omega (arith, n, length-append (bits_of t v) r, ap length b) in
      sym (take_at (held 8 code count) (drop count (unpack 8 code)) count (held-length 8 code count fit))
      ∙ ap (take count) (sym (held-every 8 code count) ∙ b) ∙ take_at (bits_of t v) r count e

  stops-value : (es : Entries) → entries_at code t 0 0 ≡ some (es, count) → (v : Value t) × (value_of t (held 8 code count) ≡ some v)
  unfolding entries_at see
  stops-value es e = go (read t (held 8 code (length code * 8))) refl
    where
      go : (o : Read t) → read t (held 8 code (length code * 8)) ≡ o → (v : Value t) × (value_of t (held 8 code count) ≡ some v)
      go none r = absurd (none-ne-some (es, count) (sym (ap (seen (length (held 8 code (length code * 8))) t (entries t 0)) r) ∙ e))
      go (some p) r =
          let (f, g) = same_seen (sym (ap (seen (length (held 8 code (length code * 8))) t (entries t 0)) r) ∙ e) in
          (p.0, ap (value_of t) (cut p.0 p.1 (read_sound t (held 8 code (length code * 8)) p r) g) ∙ value_of-code t p.0)

module _ (t : Tree) (code : List ℕ) (count : ℕ) where
  stops-whole : handed_good code count ≡ true → (es : Entries) → entries_at code t 0 0 ≡ some (es, count) → whole_code t code count ≡ true
  unfolding whole_code is_code
  stops-whole g es e =
      let fit = handed_fit code count g in
      let (v, q) = stops-value t code count fit es e in
      let h = handed_count code count g in
      rw (g, q, held-length 8 code count fit, le-leb count code_limit (omega arith))

  -- a whole code is walked to its last bit
  not-whole : ((es : Entries) → entries_at code t 0 0 ≡ some (es, count) → ⊥) → whole_code t code count ≡ false
  not-whole f = go (whole_code t code count) refl
    where
      go : (b : Bool) → whole_code t code count ≡ b → whole_code t code count ≡ false
      go true e = let (v, q) = whole-value t code count e in absurd (f _ (whole-entries t code count e v q 0))
      go false e = e

  not-read : {xs ys xs' ys' : List ℕ} → length xs' ≡ length xs → length ys' ≡ length ys → whole_code t code count ≡ false
      → Reads code t count xs ys xs' ys' None
  unfolding measured
  not-read f g e = record { long = f; wide = g; is = rw e; wrote = λ n h. absurd (none-some n h) }

  -- ── one law for each way ──
  pub read-bad : (xs ys : List ℕ) → handed_good code count ≡ false → Reads code t count xs ys xs ys None
  unfolding whole_code
  read-bad xs ys g = not-read refl refl (rw g)

  module _ {xs ys xs' ys' : List ℕ} {r : Option Entered} (w : Enters code t 0 0 0 xs ys xs' ys' r) where
    pub read-failed : r ≡ None → Reads code t count xs ys xs' ys' None
    read-failed f = not-read w.long w.wide (not-whole (λ es e. none-ne-some (es, count) (sym (enters_none w f) ∙ e)))

    module _ {q : Entered} (f : r ≡ Some q) where
      pub read_elsewhere : (q.at ≡ count → ⊥) → Reads code t count xs ys xs' ys' None
      read_elsewhere n =
          not-read w.long w.wide (not-whole (λ es e. n (same_seen (sym (enters_some w f).is ∙ e)).1))

      pub read_whole : handed_good code count ≡ true → q.at ≡ count → Reads code t count xs ys xs' ys' (Some q.n)
      unfolding measured
      read_whole g h =
          let k = enters_some w f in
          let is = k.is ∙ ap (λ j. some (k.entries, j)) h in
          let whole = stops-whole g k.entries is in
          let n : q.n ≡ cap (length (letters_of t code count)) = omega (arith, k.count, entered_count t code count whole k) in
          record {
            long = w.long;
            wide = w.wide;
            is = ap Some n ∙ rw whole;
            wrote = λ letters e.
                let same = same_Some _ _ e in
                record { entries = k.entries; is = is; count = sym same ∙ k.count; spelled = k.spelled; owned = k.owned };
          }

  -- ── what the measure tells ──
  module _ (m : Option ℕ) (em : m ≡ measured t code count) where
    pub measured_no : m ≡ None → whole_code t code count ≡ false
    unfolding measured
    measured_no f = go (whole_code t code count) refl
      where
        go : (b : Bool) → whole_code t code count ≡ b → whole_code t code count ≡ false
        go true e = absurd (none-some _ (sym f ∙ em ∙ ap (λ b. cond b (Some (cap (length (letters_of t code count)))) None) e))
        go false e = e

    module _ (n : ℕ) (f : m ≡ Some n) where
      pub measured_yes : whole_code t code count ≡ true
      unfolding measured
      measured_yes = (cond_some (whole_code t code count) _ n (sym em ∙ f)).0

      pub measured-letters : n ≡ cap (length (letters_of t code count))
      unfolding measured
      measured-letters = sym (cond_some (whole_code t code count) _ n (sym em ∙ f)).1

-- a walk that gave no measure, refused for a cause
pub unmeasured : {E : Type 0} (m : Option ℕ) (cause why : E) → Err why ≡ ok_or m cause → (m ≡ None) × (why ≡ cause)
unmeasured None cause why e = (refl, cc)
unmeasured (Some n) cause why e = absurd (let z : ◌≡◌ {A = ℕ} 0 1 = (cc) in omega arith)
