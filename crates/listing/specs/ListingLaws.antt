-- Laws of the listing: one for each way of the code.
use Rattle.std.specs.Prelude.{◌≡◌, refl, Bool, true, false, cond, ◌&&◌, eqb, List, [], ◌∷◌, ◌++◌, ℕ, zero, suc, ◌+◌, ◌*◌, ◌-◌, ◌≤◌, ◌<◌, ltb, take, drop, Err, Ok, IsOk, Result, Option, Some, None}
use Rattle.std.proofs.Math.Path.{sym, ap, ap₂}
use Rattle.std.proofs.Common.{subst, ◌∙◌, arith, length-append, length-drop, take_at}
use Rattle.std.proofs.lemmas.Bool.{false≢true}
use Rattle.std.proofs.Math.Decide.{dec_le}
use borrow.Author.Tests.{le-ltb, ltb-false, eq-eqb, ne_eqb, not-false}
use Rattle.std.proofs.Math.ListN.{length, get_or, get_or-append}
use Rattle.std.proofs.lemmas.List.{get_or-drop}
use Rattle.std.specs.Option.{MatchOption, unwrap_or}
use lib.Pointwise.{pointwise}
use denote.Bor.{Bor}
use Rattle.std.proofs.Math.Seq.{take-length}
use Rattle.syntax.specs.Letter.{letter_limit}
use Rattle.syntax.specs.declared.Pattern.{Pattern}
use Rattle.refusals.specs.declared.Refusal.{Refusal}
use Rattle.refusals.specs.declared.Refusal.TheVariants.{Unreadable}
use Rattle.refusals.specs.Refusals.{number, value, answer, refused}
use Rattle.refusals.specs.RefusalLaws.{number_positive}
use Rattle.refusals.specs.CheckLaws.{zero_clear}
use Rattle.syntax.specs.Table.{obeys, account_limit}
use Rattle.syntax.specs.Trees.{root}
use Rattle.loading.specs.Load.{loaded_answer, pattern_or_none, load_answer, Loads}
use Rattle.bits.specs.Bits.{cell_count, pack, in_front, byte_limit}
use Rattle.bits.specs.Packing.{length-pack}
use Rattle.bits.specs.Handed.{held-pack}
use Rattle.semantics.specs.Code.{Canonical}
use Rattle.semantics.specs.Accounts.{totals}
use Rattle.semantics.specs.Decode.{value_of}
use Rattle.semantics.specs.Sweeps.{readable, greedy}
use Rattle.semantics.proofs.GreedyLaws.{greedy_canonical, readable_iff}
use Rattle.steps.specs.StateSets.{words as state_sets}
use Rattle.first_sweep.specs.Meaning.{words-length}
use Rattle.entries.specs.Gather.{entries_by, entries_of}
use Rattle.totals.specs.Totals.{totals_answer, totals_litres, totalled_litres, Totals}
use Rattle.totals.specs.TotalsLaws.{totalled_many}
use Rattle.canonical.specs.RoundTrip.{canonical_whole, canonical_spells}
use Rattle.parser.specs.Parse.{parsed_answer, early_order, early, ReadsGreedily, Parses}
use Rattle.parser.specs.ParseLaws.{greedy_few}
use Rattle.text.specs.Text.{Puts, refused_line}
use Rattle.text.specs.Putting.{puts_then, puts_front}
use Rattle.listing.specs.Listing.{listing, read_listing, early_cause, pattern_listing, closed, tape_of, listing_of, word_limit, room, Lists}
use Rattle.listing_lines.specs.LineBytes.{tape_line, account_lines, open_lines}
use Rattle.listing_lines.specs.Lines.{tape-length, account_line_limit, open_length}

-- ── a listing put in front of a buffer, where there is room for it ──
pub record Shows (old bytes now : List ℕ) (end : ℕ) : Type 0 where
  pub puts : Puts old 0 bytes now end
  pub fits : length bytes ≤ room

pub shows_as : (old xs ys now : List ℕ) (end : ℕ) → xs ≡ ys → Shows old xs now end → Shows old ys now end
shows_as old xs ys now end e s = subst (λ z. Shows old z now end) e s

-- the line of a refusal
pub shows_refused : (old ys now : List ℕ) (end : ℕ) (why : Refusal) → refused_line (refused why) ≡ ys
    → Puts old 0 (refused_line (refused why)) now end → length (refused_line (refused why)) ≤ 30 → Shows old ys now end
shows_refused old ys now end why e p h = shows_as old (refused_line (refused why)) ys now end e (record { puts = p; fits = omega arith })

-- ── a tape that has been read: its words, its code and the bit count ──
pub record Read (p : Pattern) (tape words code : List ℕ) (count : ℕ) : Type 0 where
  pub good : obeys p ≡ true
  pub few : length tape ≤ letter_limit
  pub reads : readable (root p) tape ≡ true
  pub filled : (i : ℕ) → i ≤ length tape → get_or words (2 * i + 1) 0 ≡ get_or (state_sets p tape) (2 * i + 1) 0
  pub long : 2 * (length tape + 1) ≤ length words
  pub coded : code ≡ pack 8 (greedy (root p) tape)
  pub counted : count ≡ length (greedy (root p) tape)

same_open : (us vs : List ℕ) (i n : ℕ) → ((j : ℕ) → j < i + n → get_or us (2 * j + 1) 0 ≡ get_or vs (2 * j + 1) 0) → open_lines us i n ≡ open_lines vs i n
unfolding open_lines
same_open us vs i zero h = refl
same_open us vs i (suc n) h = rw (h i (omega arith), same_open us vs (suc i) n (λ j l. h j (omega arith)))

module _ (p : Pattern) (tape ws code : List ℕ) (count : ℕ) (h : Read p tape ws code count) where
  is_canonical : Canonical (root p) tape (greedy (root p) tape)
  is_canonical = greedy_canonical (root p) tape h.reads

  code_short : (length code ≤ byte_limit) × (count < 4294967296)
  code_short =
      let few = greedy_few p h.good tape h.few h.reads in
      (omega (arith, few, ap length h.coded, length-pack 8 (greedy (root p) tape)), omega (arith, few, h.counted))

  own-litres :
      totals_litres p (pack 8 (greedy (root p) tape)) (length (greedy (root p) tape))
      ≡ totals (entries_by (root p) (value_of (root p) (greedy (root p) tape)))
  unfolding totals_litres totals_answer entries_of
  own-litres =
      let whole = canonical_whole p h.good tape h.few (greedy (root p) tape) is_canonical in
      let spelled = canonical_spells p h.good tape h.few (greedy (root p) tape) is_canonical in
      rw (h.good, whole, spelled, le-ltb letter_limit (length tape) h.few, held-pack 8 (omega arith) (greedy (root p) tape))

  own_answer : totals_answer p (pack 8 (greedy (root p) tape)) (length (greedy (root p) tape)) ≡ answer 0 0
  unfolding totals_answer
  own_answer =
      let whole = canonical_whole p h.good tape h.few (greedy (root p) tape) is_canonical in
      let spelled = canonical_spells p h.good tape h.few (greedy (root p) tape) is_canonical in
      rw (h.good, whole, spelled, le-ltb letter_limit (length tape) h.few)

  -- the code of a tape that has been read is not refused
  pub totals_given : (r : Result (List ℕ) Refusal) → Totals p code count r → IsOk r
  totals_given (Ok ns) t = refl
  totals_given (Err why) t =
      let none : totals_answer p code count ≡ answer 0 0 = ap₂ (totals_answer p) h.coded h.counted ∙ own_answer in
      absurd (omega (arith, number_positive why, ap (λ a. a.number) (t.answers ∙ none)))

  pub litres_are : (r : Result (List ℕ) Refusal) → Totals p code count r → totalled_litres r ≡ totals (entries_by (root p) (value_of (root p) (greedy (root p) tape)))
  litres_are r t = t.gives ∙ ap₂ (totals_litres p) h.coded h.counted ∙ own-litres

  listing_is : (n : ℕ) → n ≡ length tape → (ns : List ℕ) → ns ≡ totals (entries_by (root p) (value_of (root p) (greedy (root p) tape)))
      → tape_line n count code ++ (account_lines 0 ns ++ open_lines ws 0 (suc n)) ≡ listing p tape (greedy (root p) tape)
  unfolding listing
  listing_is n e ns f = rw (e, h.coded, h.counted, f, same_open ws (state_sets p tape) 0 (suc (length tape)) (λ j l. h.filled j (omega arith)))

  fits_room : (n : ℕ) → n ≡ length tape → (ns : List ℕ) → length ns ≡ account_limit + 1
      → length (account_lines 0 ns) ≤ account_line_limit * length ns
      → length (tape_line n count code ++ (account_lines 0 ns ++ open_lines ws 0 (suc n))) ≤ room
  fits_room n e ns many l =
      let few = h.few in
      let (short, count-short) = code_short in
      simp length-append
      (omega (arith, l, tape-length n count code (omega arith) count-short, open_length ws 0 (suc n) (omega arith)))

  pub given_many : (r : Result (List ℕ) Refusal) → Totals p code count r → (ns : List ℕ) → r ≡ Ok ns → length ns ≡ account_limit + 1
  given_many r t ns f = totalled_many p code count (Ok ns) (subst (Totals p code count) f t)

  pub listed : (n : ℕ) → n ≡ length tape → (r : Result (List ℕ) Refusal) → Totals p code count r → (ns : List ℕ) → r ≡ Ok ns
      → (old m₁ m₂ now : List ℕ) (e₁ e₂ end : ℕ)
      → Puts old 0 (tape_line n count code) m₁ e₁
      → Puts m₁ e₁ (account_lines 0 ns) m₂ e₂ × (length (account_lines 0 ns) ≤ account_line_limit * length ns)
      → Puts m₂ e₂ (open_lines ws 0 (suc n)) now end
      → Shows old (listing p tape (greedy (root p) tape)) now end
  listed n e r t ns f old m₁ m₂ now e₁ e₂ end a (b, l) c =
      let given = subst (Totals p code count) f t in
      shows_as old _ _ now end (listing_is n e ns (litres_are (Ok ns) given))
      (record { puts = puts_then _ _ _ _ _ _ _ _ a (puts_then _ _ _ _ _ _ _ _ b c); fits = fits_room n e ns (totalled_many p code count (Ok ns) given) l })

-- ── what reading answers ──
-- nothing before the sweeps refuses
pub record Passed (p : Pattern) (tape : List ℕ) (n : ℕ) : Type 0 where
  pub good : obeys p ≡ true
  pub few : length tape ≤ letter_limit
  pub room : 2 * (length tape + 1) ≤ n

passed : (p : Pattern) (tape : List ℕ) (n : ℕ) → (early p tape n).number ≡ 0 → Passed p tape n
unfolding early
passed p tape n h =
    let c = zero_clear (early_order p tape n) (answer 0 0) h in
    record {
      good = not-false (obeys p) c.0;
      few = ltb-false letter_limit (length tape) c.1.0;
      room = ltb-false n (2 * (length tape + 1)) c.1.1.1.0;
    }

-- words for the longest tape suffice for every tape that is not too long
early_same : (p : Pattern) (tape : List ℕ) → early p tape word_limit ≡ early_cause p tape
unfolding early_cause early
early_same p tape = go (ltb letter_limit (length tape)) refl
  where
    go : (f : Bool) → ltb letter_limit (length tape) ≡ f → early p tape word_limit ≡ early p tape (2 * (length tape + 1))
    go true e = rw e
    go false e =
        let l : length tape ≤ letter_limit = ltb-false letter_limit (length tape) e in
        rw (le-ltb word_limit (2 * (length tape + 1)) (omega arith), le-ltb (2 * (length tape + 1)) (2 * (length tape + 1)) (omega arith))

pub refused_by : (p : Pattern) (tape : List ℕ) → ((early_cause p tape).number ≡ 0 → ⊥) → pattern_listing p tape ≡ refused_line (early_cause p tape)
unfolding pattern_listing
refused_by p tape e = rw (ne_eqb (early_cause p tape).number 0 e)

pub read_by : (p : Pattern) (tape : List ℕ) → (early_cause p tape).number ≡ 0 → pattern_listing p tape ≡ read_listing p tape
unfolding pattern_listing
read_by p tape e = rw (eq-eqb (early_cause p tape).number 0 e)

read_off : (p : Pattern) (tape : List ℕ) → readable (root p) tape ≡ false → read_listing p tape ≡ refused_line (refused Unreadable)
unfolding read_listing
read_off p tape e = rw e

read_on : (p : Pattern) (tape : List ℕ) → readable (root p) tape ≡ true → read_listing p tape ≡ listing p tape (greedy (root p) tape)
unfolding read_listing
read_on p tape e = rw e

front_is : (new old : List ℕ) (n : ℕ) → length new ≡ n → take n (in_front new old) ≡ new
unfolding in_front
front_is new old n e = take_at new (drop (length new) old) n e

front_long : (new old : List ℕ) (n : ℕ) → length new ≡ n → n ≤ length (in_front new old)
unfolding in_front
front_long new old n e = simp length-append (omega arith)

-- what a refusal, and what a bit count, is to be followed by
pub record Got (p : Pattern) (tape words_now code_now : List ℕ) (n bytes : ℕ) : Type 0 where
  pub read : Read p tape words_now (take bytes code_now) n
  pub lists : listing p tape (greedy (root p) tape) ≡ pattern_listing p tape
  pub fits : bytes ≤ length code_now

abbrev Follows : Pattern → (tape us ys : List ℕ) → Result ℕ Refusal → Type 0
Follows p tape us ys (Ok n) = Got p tape us ys n (cell_count 8 n)
Follows p tape us ys (Err why) = refused_line (refused why) ≡ pattern_listing p tape

module _ (p : Pattern) (tape ws us xs ys : List ℕ) (lw : length ws ≡ word_limit) (lx : length xs ≡ byte_limit) where
  refused-early : 1 ≤ (early_cause p tape).number → (r : Result ℕ Refusal) → parsed_answer r ≡ early_cause p tape → Follows p tape us ys r
  refused-early n (Ok k) a = absurd (omega (arith, n, ap (λ x. x.number) a))
  refused-early n (Err why) a = ap refused_line a ∙ sym (refused_by p tape (λ z. omega arith))

  module _ (z : (early_cause p tape).number ≡ 0) (fill : us ≡ in_front (state_sets p tape) ws) where
    clear : Passed p tape word_limit
    clear = passed p tape word_limit (ap (λ x. x.number) (early_same p tape) ∙ z)

    not-readable : readable (root p) tape ≡ false → (r : Result ℕ Refusal) → parsed_answer r ≡ refused Unreadable → Follows p tape us ys r
    not-readable e (Ok k) a = absurd (omega (arith, ap (λ x. x.number) a))
    not-readable e (Err why) a = ap refused_line a ∙ sym (read_by p tape z ∙ read_off p tape e)

    at : (i : ℕ) → i ≤ length tape → get_or us (2 * i + 1) 0 ≡ get_or (state_sets p tape) (2 * i + 1) 0
    unfolding in_front
    at i l =
        ap (λ x. get_or x (2 * i + 1) 0) fill
        ∙ get_or-append (state_sets p tape) (drop (length (state_sets p tape)) ws) 0 (2 * i + 1) (omega (arith, words-length p tape))

    words_long : length us ≡ length ws
    unfolding in_front
    words_long = ap length fill ∙ (let c = clear.room in simp (length-append, length-drop) (omega (arith, words-length p tape)))

    is_readable : readable (root p) tape ≡ true → (r : Result ℕ Refusal)
        → (parsed_answer r ≡ answer 0 (length (greedy (root p) tape))) × (ys ≡ in_front (pack 8 (greedy (root p) tape)) xs) → Follows p tape us ys r
    is_readable e (Err why) g = absurd (omega (arith, number_positive why, ap (λ x. x.number) g.0))
    is_readable e (Ok n) g =
        let k : n ≡ length (greedy (root p) tape) = ap (λ x. x.value) g.0 in
        let s : length (pack 8 (greedy (root p) tape)) ≡ cell_count 8 n = length-pack 8 (greedy (root p) tape) ∙ ap (cell_count 8) (sym k) in
        let f : cell_count 8 n ≤ byte_limit = omega (arith, greedy_few p clear.good tape clear.few e) in
        record {
          read = record {
            good = clear.good;
            few = clear.few;
            reads = e;
            filled = at;
            long = omega (arith, words_long, clear.room);
            coded = ap (take (cell_count 8 n)) g.1 ∙ front_is (pack 8 (greedy (root p) tape)) xs (cell_count 8 n) s;
            counted = k;
          };
          lists = sym (read_by p tape z ∙ read_on p tape e);
          fits = omega (arith, ap length g.1, front_long (pack 8 (greedy (root p) tape)) xs (cell_count 8 n) s);
        }

    swept : (b : Bool) → readable (root p) tape ≡ b → (r : Result ℕ Refusal) → ReadsGreedily (root p) tape xs ys (parsed_answer r) → Follows p tape us ys r
    swept true e r g =
        is_readable e r (g.1.fits (greedy (root p) tape) (greedy_canonical (root p) tape e) (omega (arith, greedy_few p clear.good tape clear.few e)))
    swept false e r g = not-readable e r (g.0.unreadable (λ v q. false≢true (sym e ∙ (readable_iff (root p) tape).1 (v, q)))).0

  follows : (r : Result ℕ Refusal) → Parses p tape ws us xs ys r → Follows p tape us ys r
  follows r w = go (dec_le 1 (early_cause p tape).number)
    where
      same : early p tape (length ws) ≡ early_cause p tape
      same = ap (early p tape) lw ∙ early_same p tape

      go : Dec (1 ≤ (early_cause p tape).number) → Follows p tape us ys r
      go (yes n) = refused-early n r ((w.refuses (subst (λ a. 1 ≤ a.number) (sym same) n)).0 ∙ same)
      go (no n) =
          let z : (early_cause p tape).number ≡ 0 = omega arith in
          let e : (early p tape (length ws)).number ≡ 0 = ap (λ a. a.number) same ∙ z in
          swept z (w.fills e) (readable (root p) tape) refl r (w.reads e)

  pub parse_refused : (r : Result ℕ Refusal) (why : Refusal) → r ≡ Err why → Parses p tape ws us xs ys r → refused_line (refused why) ≡ pattern_listing p tape
  parse_refused r why e w = follows (Err why) (subst (Parses p tape ws us xs ys) e w)

  pub parse_bits : (r : Result ℕ Refusal) (n : ℕ) → r ≡ Ok n → Parses p tape ws us xs ys r → (bytes : ℕ) → bytes ≡ cell_count 8 n → Got p tape us ys n bytes
  parse_bits r n e w bytes f = subst (Got p tape us ys n) (sym f) (follows (Ok n) (subst (Parses p tape ws us xs ys) e w))

-- ── one closing byte 10 is dropped ──
last_told : (end : List ℕ) → length end ≤ 1 → pointwise eqb end (10 ∷ []) ≡ eqb (get_or end 0 0) 10
last_told [] h = refl
last_told (b ∷ []) h = alone (eqb b 10) where
  alone : (same : Bool) → (same && true) ≡ same
  alone true = refl
  alone false = refl
last_told (b ∷ c ∷ end) h = absurd (omega arith)

module _ (file : Bor (List ℕ)) where
  end-told : pointwise eqb (drop (length file.now - 1) file.now) (10 ∷ []) ≡ closed file.now
  unfolding closed
  end-told =
      let at : length file.now - 1 + 0 ≡ length file.now - 1 = omega arith in
      last_told (drop (length file.now - 1) file.now) (omega (arith, length-drop (length file.now - 1) file.now))
      ∙ ap (λ b. eqb b 10) (get_or-drop (length file.now - 1) file.now 0 0 ∙ ap (λ i. get_or file.now i 0) at)

  pub letters_are : (r : Option (Bor (List ℕ)))
      → MatchOption r
      (pointwise eqb (drop (length file.now - 1) file.now) (10 ∷ []) ≡ false)
      (λ front. (pointwise eqb (drop (length file.now - 1) file.now) (10 ∷ []) ≡ true)
      × (front.now ≡ take (length file.now - 1) file.now)
      × (length front.now + 1 ≡ length file.now))
      → (unwrap_or r file).now ≡ tape_of file.now
  unfolding tape_of
  letters_are None h = sym (ap (λ b. cond b (take (length file.now - 1) file.now) file.now) (sym end-told ∙ h))
  letters_are (Some front) h = h.1 ∙ sym (ap (λ b. cond b (take (length file.now - 1) file.now) file.now) (sym end-told ∙ h.0))

-- ── the pattern is judged first ──
module _ (text file : List ℕ) (r : Result Pattern Refusal) (h : Loads text r) where
  pub load_refused : (why : Refusal) → r ≡ Err why → refused_line (refused why) ≡ listing_of text file
  unfolding listing_of
  load_refused why e =
      let a : refused why ≡ load_answer text = sym (ap loaded_answer e) ∙ h.answers in
      let z : (load_answer text).number ≡ 0 → ⊥ = λ q. omega (arith, number_positive why, ap (λ x. x.number) a) in
      ap refused_line a ∙ sym (rw (ne_eqb (load_answer text).number 0 z))

  pub load_listed : (p : Pattern) (tape : List ℕ) → r ≡ Ok p → tape ≡ tape_of file → pattern_listing p tape ≡ listing_of text file
  unfolding listing_of
  load_listed p tape e s =
      let a : answer 0 p.count ≡ load_answer text = sym (ap loaded_answer e) ∙ h.answers in
      let z : (load_answer text).number ≡ 0 = sym (ap (λ x. x.number) a) in
      ap₂ pattern_listing (sym (ap pattern_or_none e) ∙ h.gives) s ∙ sym (rw (eq-eqb (load_answer text).number 0 z))

-- ── the service ──
pub list_short : (text file out : List ℕ) → length out < room → Lists text file out out None
list_short text file out l = record { fits = λ h. absurd (omega arith); short = λ h. (refl, refl) }

pub list_done : (text file out now : List ℕ) (end : ℕ) → room ≤ length out → Shows out (listing_of text file) now end
    → Lists text file out now (Some end)
unfolding in_front
list_done text file out now end l s =
    let (e, w) = puts_front out (listing_of text file) now end (omega (arith, s.fits)) s.puts in
    record { fits = λ h. (ap Some e, w); short = λ h. absurd (omega arith) }

-- a listing lies inside the buffer
pub listed-within : (text file out now : List ℕ) (r : Option ℕ) (n : ℕ) → Lists text file out now r → r ≡ Some n → room ≤ length out
    → length now ≡ length out → n ≤ length now
unfolding in_front
listed-within text file out now r n h e l same =
    let (a, w) = h.fits l in
    let k : n ≡ length (listing_of text file) = cc in
    let s : length now ≡ length (listing_of text file) + length (drop (length (listing_of text file)) out) =
    ap length w ∙ length-append (listing_of text file) (drop (length (listing_of text file)) out) in
    omega arith
