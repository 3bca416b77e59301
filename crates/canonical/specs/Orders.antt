-- Settling a code: the first cause that holds is answered, whatever later causes hold, and leaves what 01's table says.
use Rattle.std.proofs.Math.Path.{◌≡◌, refl, ap}
use Rattle.std.proofs.Common.{sym, subst, ◌∙◌, lt-ltb}
use Rattle.std.specs.Prelude.{Bool, true, false, List, [], ◌∷◌, ℕ, ◌+◌, ◌*◌, ◌≤◌, ◌<◌, Err, Result}
use Rattle.std.proofs.lemmas.Bool.{false≢true}
use native.Mathlib.Omega.{arith}
use Rattle.std.proofs.Math.Decide.{dec_le}
use Rattle.std.proofs.Math.ListN.{length}
use Rattle.syntax.specs.declared.Pattern.{Pattern}
use Rattle.syntax.specs.Letter.{letter_limit}
use Rattle.syntax.specs.Table.{obeys}
use Rattle.syntax.specs.Trees.{root}
use Rattle.refusals.specs.declared.Refusal.{Refusal}
use Rattle.refusals.specs.declared.Refusal.TheVariants.{LineForm, Tree as TreeFault, TapeTooLong, TapeByte, Unreadable, WordsTooShort}
use Rattle.refusals.specs.declared.Refusal.TheVariants.{CodeTooShort, NotACode, TapeTooShort, NoSuchVisit}
use Rattle.refusals.specs.Refusals.{answer, number}
use Rattle.refusals.specs.Checks.{numbers, First, here}
use Rattle.refusals.specs.CheckLaws.{first_answered, first_positive, first_more, first_behind, refused_first, among, first_among}
use Rattle.bits.specs.Bits.{cell_count, in_front}
use Rattle.semantics.specs.Code.{Canonical}
use Rattle.semantics.specs.Sweeps.{greedy}
use Rattle.semantics.proofs.GreedyLaws.{greedy_canonical}
use Rattle.steps.specs.StateSets.{words as state_sets}
use Rattle.walks.specs.Whole.{whole_code}
use Rattle.entries.specs.CodeOrder.{code_order, Sound, first_2, first_8, first_3}
use Rattle.codes.specs.Flatten.{room_check, flatten_order}
use Rattle.codes.specs.FlattenLaws.{first_9, flatten_clear, flatten_refused, flatten_fills}
use Rattle.parser.specs.Orders.{greedily_among}
use Rattle.canonical.specs.Canonicalize.{canonicalized_answer, word_check, settle_order, settle_early, Canonicalizes}
use Rattle.canonical.specs.CanonicalLaws.{settle_passed, settles}
use Rattle.canonical.specs.RoundTrip.{letters-readable}
use Rattle.canonical.specs.Demand.{tape_of}
use Rattle.canonical.specs.Unique.{canonicalized_same}

-- 01: "Settling a code spells it and reads the result: 2, 8, 3, 9, 6, 5, 7."
pub settle_numbers : (p : Pattern) (code : List ℕ) (count size n : ℕ) → numbers (settle_order p code count size n) ≡ 2 ∷ 8 ∷ 3 ∷ 9 ∷ 6 ∷ []
settle_numbers p code count size n = refl

-- none of them is a number that the second sweep answers
settle_apart : (why : Refusal) → among (number why) (2 ∷ 8 ∷ 3 ∷ 9 ∷ 6 ∷ []) ≡ true → among (number why) (0 ∷ 5 ∷ 7 ∷ []) ≡ true → ⊥
settle_apart (LineForm l) e f = false≢true e
settle_apart (TreeFault l) e f = false≢true f
settle_apart TapeTooLong e f = false≢true f
settle_apart (TapeByte i) e f = false≢true e
settle_apart Unreadable e f = false≢true e
settle_apart (WordsTooShort n) e f = false≢true f
settle_apart (CodeTooShort n) e f = false≢true e
settle_apart NotACode e f = false≢true f
settle_apart (TapeTooShort n) e f = false≢true f
settle_apart NoSuchVisit e f = false≢true e

module _ (p : Pattern) (code : List ℕ) (count : ℕ) (tape tape_now words words_now canonical canonical_now : List ℕ) (r : Result ℕ Refusal)
    (h : Canonicalizes p code count tape tape_now words words_now canonical canonical_now r) where
  abbrev letters : ℕ
  letters = length (tape_of p code count)

  pub only : (why : Refusal) → First why (settle_order p code count (length tape) (length words))
      → (r ≡ Err why) × (words_now ≡ words) × (canonical_now ≡ canonical)
  unfolding settle_early
  only why f =
      let q = h.refuses (first_positive f (answer 0 0)) in
      (canonicalized_same r (Err why) (q.0 ∙ first_answered f (answer 0 0)), q.1, q.2)

  -- "and never otherwise"
  pub settle_first : (why : Refusal) → r ≡ Err why → among (number why) (2 ∷ 8 ∷ 3 ∷ 9 ∷ 6 ∷ []) ≡ true
      → First why (settle_order p code count (length tape) (length words))
  unfolding settle_early
  settle_first why e m = go (dec_le 1 (settle_early p code count (length tape) (length words)).number)
    where
      go : Dec (1 ≤ (settle_early p code count (length tape) (length words)).number) → First why (settle_order p code count (length tape) (length words))
      go (yes n) =
          refused_first (settle_order p code count (length tape) (length words)) (answer 0 0) refl why (sym (h.refuses n).0 ∙ ap canonicalized_answer e)
      go (no n) =
          let q = greedily_among (root p) (tape_of p code count) canonical canonical_now (canonicalized_answer r) (h.reads (omega arith)) in
          absurd (settle_apart why m (subst (λ a. among a.number (0 ∷ 5 ∷ 7 ∷ []) ≡ true) (ap canonicalized_answer e) q))

  -- 5 is never answered: what a code spells can be read
  pub never_5 : r ≡ Err Unreadable → ⊥
  unfolding settle_early
  never_5 e = go (dec_le 1 (settle_early p code count (length tape) (length words)).number)
    where
      read : (settle_early p code count (length tape) (length words)).number ≡ 0
          → Dec (cell_count 8 (length (greedy (root p) (tape_of p code count))) ≤ length canonical) → ⊥
      read z d =
          let s = (settle_passed p code count (length tape) (length words) z).0 in
          fit (greedy_canonical (root p) (tape_of p code count) (letters-readable p code count s.whole)) d
        where
          fit : Canonical (root p) (tape_of p code count) (greedy (root p) (tape_of p code count))
              → Dec (cell_count 8 (length (greedy (root p) (tape_of p code count))) ≤ length canonical) → ⊥
          fit k (yes l) =
              let q = (h.reads z).1.fits (greedy (root p) (tape_of p code count)) k l in
              let m : ◌≡◌ {A = ℕ} 0 5 = ap (λ a. a.number) (sym q.0 ∙ ap canonicalized_answer e) in
              omega arith
          fit k (no l) =
              let q = (h.reads z).1.short (greedy (root p) (tape_of p code count)) k (omega arith) in
              let m : ◌≡◌ {A = ℕ} 7 5 = ap (λ a. a.number) (sym q.0 ∙ ap canonicalized_answer e) in
              omega arith

      go : Dec (1 ≤ (settle_early p code count (length tape) (length words)).number) → ⊥
      go (yes n) =
          let k = refused_first (settle_order p code count (length tape) (length words)) (answer 0 0) refl Unreadable
          (sym (h.refuses n).0 ∙ ap canonicalized_answer e) in
          false≢true (first_among k)
      go (no n) = read (omega arith) (dec_le (cell_count 8 (length (greedy (root p) (tape_of p code count)))) (length canonical))

  -- a cause of spelling leaves the tape too
  abbrev AllLeft : Refusal → Type 0
  AllLeft why = (r ≡ Err why) × (tape_now ≡ tape) × (words_now ≡ words) × (canonical_now ≡ canonical)

  pub only_spelling : (why : Refusal) → First why (flatten_order p code count (length tape)) → AllLeft why
  only_spelling why f =
      let q = only why (first_more (word_check p code count (length words)) f) in
      (q.0, h.spells ∙ sym (flatten_refused p code count tape why f).leaves, q.1, q.2)

  -- one of the code's causes
  only_code : (why : Refusal) → First why (code_order p code count) → AllLeft why
  only_code why f = only_spelling why (first_more (room_check p code count (length tape)) f)

  pub only_2 : obeys p ≡ false → AllLeft (TreeFault 0)
  only_2 o = only_code (TreeFault 0) (first_2 p code count o)

  module _ (o : obeys p ≡ true) where
    pub only_8 : whole_code (root p) code count ≡ false → AllLeft NotACode
    only_8 w = only_code NotACode (first_8 p code count o w)

    module _ (w : whole_code (root p) code count ≡ true) where
      pub only_3 : letter_limit < letters → AllLeft TapeTooLong
      only_3 l = only_code TapeTooLong (first_3 p code count o w l)

      module _ (f : letters ≤ letter_limit) where
        sound : Sound p code count
        sound = record { good = o; whole = w; few = f }

        pub only_9 : length tape < letters → AllLeft (TapeTooShort letters)
        only_9 l = only_spelling (TapeTooShort letters) (first_9 p code count sound (length tape) l)

        module _ (g : letters ≤ length tape) where
          -- 6: "marks, code; settling has filled the tape"
          pub only_6 : length words < 2 * (letters + 1)
              → (r ≡ Err (WordsTooShort (2 * (letters + 1)))) × (tape_now ≡ in_front (tape_of p code count) tape)
              × (words_now ≡ words) × (canonical_now ≡ canonical)
          only_6 l =
              let c = flatten_clear p code count sound (length tape) g in
              let q = only (WordsTooShort (2 * (letters + 1)))
              (first_behind (flatten_order p code count (length tape)) c (here (lt-ltb (length words) (2 * (letters + 1)) l))) in
              (q.0, h.spells ∙ flatten_fills p code count tape c, q.1, q.2)

          -- 7: "code; the rest is filled"
          pub only_7 : 2 * (letters + 1) ≤ length words → (bits : List Bool) → Canonical (root p) (tape_of p code count) bits
              → length canonical < cell_count 8 (length bits)
              → (r ≡ Err (CodeTooShort (cell_count 8 (length bits)))) × (tape_now ≡ in_front (tape_of p code count) tape)
              × (words_now ≡ in_front (state_sets p (tape_of p code count)) words) × (canonical_now ≡ canonical)
          only_7 k bits b l =
              let s = settles p code count tape tape_now words words_now canonical canonical_now r h o w f g k in
              let m = s.2.1.short bits b l in
              (canonicalized_same r (Err (CodeTooShort (cell_count 8 (length bits)))) m.0, s.0, s.1, m.1)
