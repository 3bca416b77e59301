-- Selecting the entries of a term: those whose dates lie in it are copied to the front of the two arrays, in their order.
use Rattle.std.specs.Prelude.{◌≡◌, refl, Bool, true, false, cond, List, ◌∷◌, ◌++◌, ℕ, suc, ◌+◌, ◌-◌, ◌≤◌, ◌<◌, length, drop, get_or, set}
use Rattle.std.proofs.Common.{sym, ap, ap₂, subst, ◌∙◌, append-nil, arith, length-set, drop-cons, drop-set-lt}
use Rattle.std.proofs.Math.Seq.{append_snoc}
use Rattle.calendar.specs.declared.Date.{Date}
use Rattle.entries.specs.Entries.{Entries}
use Rattle.entries.specs.Gather.{pairs, Owned}
use Rattle.entries.specs.Pairs.{pairs-put, owned_put}
use Rattle.terms.specs.declared.Term.{Term}
use Rattle.terms.specs.declared.days.Day.{Day}
use Rattle.terms.specs.Terms.{after_letter, dated, within}
use Rattle.terms.specs.Days.{day_of}

-- the entries in front are the definition `within` of those that were there, and can be added up
pub record Selects (start : Date) (term : Term) (n : ℕ) (letters accounts letters_now accounts_now : List ℕ) (r : ℕ) : Type 0 where
  pub is : pairs r letters_now accounts_now ≡ within term (dated start (pairs n letters accounts))
  pub few : r ≤ n
  pub long : r ≤ length letters_now
  pub own : Owned accounts_now r

-- ── the loop: what is kept so far, and what the term keeps of the rest, are all entries of the term ──
abbrev rest : (n i : ℕ) → (letters accounts : List ℕ) → Entries
rest n i xs ys = pairs (n - i) (drop i xs) (drop i ys)

pub record Selecting (start : Date) (term : Term) (old_letters old_accounts letters accounts : List ℕ) (day : Day) (n kept i : ℕ) : Type 0 where
  pub low : i ≤ n
  pub few : kept ≤ i
  pub room : n ≤ length letters
  pub long : length letters ≡ length old_letters
  pub wide : length accounts ≡ length old_accounts
  pub own : Owned accounts n
  pub on : day ≡ day_of term day.date
  pub left : within term (dated start (pairs n old_letters old_accounts))
      ≡ pairs kept letters accounts ++ within term (dated day.date (pairs (n - i) (drop i letters) (drop i accounts)))

on_day : (term : Term) (date : Date) (day : Day) → day ≡ day_of term date → day ≡ day_of term day.date
on_day term date day e = e ∙ ap (day_of term) (sym (ap (λ d. d.date) e))

module _ (start : Date) (term : Term) (xs ys : List ℕ) (n : ℕ) where
  pub select_start : (day : Day) → day ≡ day_of term start → n ≤ length xs → Owned ys n → Selecting day.date term xs ys xs ys day n 0 0
  select_start day e h o =
      let z : n ≡ n - 0 = omega arith in
      record {
        low = omega arith;
        few = omega arith;
        room = h;
        long = refl;
        wide = refl;
        own = o;
        on = on_day term start day e;
        left = ap (λ m. within term (dated day.date (pairs m xs ys))) z;
      }

rest_next : (n i : ℕ) (xs ys : List ℕ) → i < n → n ≤ length xs → n ≤ length ys
    → rest n i xs ys ≡ (get_or xs i 0, get_or ys i 0) ∷ rest n (i + 1) xs ys
rest_next n i xs ys h k l =
    let m : n - i ≡ suc (n - (i + 1)) = omega arith in
    let z : suc i ≡ i + 1 = omega arith in
    ap (λ j. pairs j (drop i xs) (drop i ys)) m
    ∙ ap₂ (pairs (suc (n - (i + 1)))) (drop-cons xs i 0 (omega arith)) (drop-cons ys i 0 (omega arith))
    ∙ ap (λ j. (get_or xs i 0, get_or ys i 0) ∷ pairs (n - (i + 1)) (drop j xs) (drop j ys)) z

module _ {start : Date} {term : Term} {us vs xs ys : List ℕ} {day : Day} {n kept i : ℕ} (s : Selecting start term us vs xs ys day n kept i) where
  pub select_end : n ≤ i → (first : Date) → start ≡ first → Selects first term n us vs xs ys kept
  select_end h first e =
      let z : n - i ≡ 0 = omega arith in
      record {
        is = sym (append-nil (pairs kept xs ys))
            ∙ sym (s.left ∙ ap (λ m. pairs kept xs ys ++ within term (dated day.date (pairs m (drop i xs) (drop i ys)))) z)
            ∙ ap (λ d. within term (dated d (pairs n us vs))) e;
        few = omega (arith, s.few, s.low);
        long = omega (arith, s.few, s.low, s.room);
        own = record { wide = omega (arith, s.few, s.low, s.own.wide); own = λ j k. s.own.own j (omega (arith, k, s.few, s.low)) };
      }

  module _ (h : i < n) where
    abbrev x : ℕ
    x = get_or xs i 0

    abbrev y : ℕ
    y = get_or ys i 0

    module _ (next : Day) (e : next ≡ day_of term (after_letter x day.date)) where
      -- the entries of the term among those behind entry i
      abbrev behind : Entries
      behind = within term (dated next.date (rest n (i + 1) xs ys))

      abbrev Left : Bool → Type 0
      Left b = within term (dated start (pairs n us vs)) ≡ pairs kept xs ys ++ cond b ((x, y) ∷ behind) behind

      left_next : Left day.inside
      left_next =
          s.left ∙ ap (λ es. pairs kept xs ys ++ within term (dated day.date es)) (rest_next n i xs ys h s.room s.own.wide)
          ∙ ap₂ (λ b d. pairs kept xs ys ++ cond b ((x, y) ∷ within term (dated d (rest n (i + 1) xs ys))) (within term (dated d (rest n (i + 1) xs ys))))
          (sym (ap (λ d. d.inside) s.on)) (sym (ap (λ d. d.date) e))

      -- the entry is kept
      pub select_kept : day.inside ≡ true → Selecting start term us vs (set xs kept x) (set ys kept y) next n (kept + 1) (i + 1)
      select_kept inside =
          let z : suc kept ≡ kept + 1 = omega arith in
          let under : kept < i + 1 = omega (arith, s.few) in
          record {
            low = omega arith;
            few = omega (arith, s.few);
            room = omega (arith, s.room, length-set xs kept x);
            long = length-set xs kept x ∙ s.long;
            wide = length-set ys kept y ∙ s.wide;
            own = owned_put ys n kept y s.own (s.own.own i h);
            on = on_day term (after_letter x day.date) next e;
            left = subst Left inside left_next ∙ sym (append_snoc (pairs kept xs ys) (x, y) behind)
                ∙ ap₂ (λ es fs. es ++ within term (dated next.date fs))
                (sym (pairs-put kept xs ys x y (omega (arith, s.few, s.room)) (omega (arith, s.few, s.own.wide)))
                ∙ ap (λ m. pairs m (set xs kept x) (set ys kept y)) z)
                (ap₂ (pairs (n - (i + 1))) (sym (drop-set-lt (i + 1) xs kept x under)) (sym (drop-set-lt (i + 1) ys kept y under)));
          }

      -- or passed over
      pub select_passed : day.inside ≡ false → Selecting start term us vs xs ys next n kept (i + 1)
      select_passed outside = record {
        low = omega arith;
        few = omega (arith, s.few);
        room = s.room;
        long = s.long;
        wide = s.wide;
        own = s.own;
        on = on_day term (after_letter x day.date) next e;
        left = subst Left outside left_next;
      }
