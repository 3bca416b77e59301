-- Reading a tape: the first cause that holds is answered, whatever later causes hold, and leaves what 01's table says.
use Rattle.std.specs.Prelude.{◌≡◌, Bool, true, false, List, [], ◌∷◌, ℕ, ◌+◌, ◌*◌, ◌≤◌, ◌<◌, ltb, length, Err, Result}
use Rattle.std.proofs.Math.Path.{refl, ap}
use Rattle.std.proofs.Common.{sym, subst, ◌∙◌, true≢false, arith, lt-ltb}
use Rattle.std.proofs.lemmas.Bool.{false≢true}
use Rattle.std.proofs.Math.Decide.{dec_le}
use Rattle.syntax.specs.declared.Pattern.{Pattern}
use Rattle.syntax.specs.Tree.{Tree}
use Rattle.syntax.specs.Trees.{root}
use Rattle.refusals.specs.declared.Refusal.{Refusal}
use Rattle.refusals.specs.declared.Refusal.TheVariants.{LineForm, Tree as TreeFault, TapeTooLong, TapeByte, Unreadable, WordsTooShort}
use Rattle.refusals.specs.declared.Refusal.TheVariants.{CodeTooShort, NotACode, TapeTooShort, NoSuchVisit}
use Rattle.refusals.specs.Refusals.{Answer, answer, number, refused}
use Rattle.refusals.specs.Checks.{numbers, First, here}
use Rattle.refusals.specs.CheckLaws.{first_more, first_behind, refused_first, among}
use Rattle.checks.specs.TapeOrder.{tape_order}
use Rattle.checks.specs.TapeLaws.{IsTaken, taken_clear}
use Rattle.bits.specs.Bits.{cell_count, in_front}
use Rattle.semantics.specs.Value.{Value, flat}
use Rattle.semantics.specs.Code.{Canonical}
use Rattle.semantics.specs.Sweeps.{readable, greedy}
use Rattle.semantics.proofs.GreedyLaws.{greedy_canonical, readable_iff}
use Rattle.steps.specs.StateSets.{words as state_sets}
use Rattle.parser.specs.Parse.{parsed_answer, early_order, early, ReadsGreedily, Parses}
use Rattle.parser.specs.ParseLaws.{parse_refused, tested, tested_zero}
use Rattle.parser.specs.Unique.{parsed_same, parses_one}

-- 01: "Reading a tape: 2, 3, 4, 6, 5, 7."
pub early-numbers : (p : Pattern) (tape : List ℕ) (n : ℕ) → numbers (early_order p tape n) ≡ 2 ∷ 3 ∷ 4 ∷ 6 ∷ []
early-numbers p tape n = refl

-- behind the first sweep no other numbers are answered than 0, 5 and 7
pub greedily_among : (t : Tree) (tape code code_now : List ℕ) (a : Answer) → ReadsGreedily t tape code code_now a
    → among a.number (0 ∷ 5 ∷ 7 ∷ []) ≡ true
greedily_among t tape code code_now a g = go (readable t tape) refl
  where
    by : (b : Answer) → a ≡ b → among b.number (0 ∷ 5 ∷ 7 ∷ []) ≡ true → among a.number (0 ∷ 5 ∷ 7 ∷ []) ≡ true
    by b e q = subst (λ c. among c.number (0 ∷ 5 ∷ 7 ∷ []) ≡ true) (sym e) q

    fit : readable t tape ≡ true → Dec (cell_count 8 (length (greedy t tape)) ≤ length code) → among a.number (0 ∷ 5 ∷ 7 ∷ []) ≡ true
    fit e (yes l) = by (answer 0 (length (greedy t tape))) (g.1.fits (greedy t tape) (greedy_canonical t tape e) l).0 refl
    fit e (no l) =
        by (refused (CodeTooShort (cell_count 8 (length (greedy t tape))))) (g.1.short (greedy t tape) (greedy_canonical t tape e) (omega arith)).0 refl

    go : (b : Bool) → readable t tape ≡ b → among a.number (0 ∷ 5 ∷ 7 ∷ []) ≡ true
    go true e = fit e (dec_le (cell_count 8 (length (greedy t tape))) (length code))
    go false e = by (refused Unreadable) (g.0.unreadable (λ v q. true≢false (sym ((readable_iff t tape).1 (v, q)) ∙ e))).0 refl

-- 2, 3, 4 and 6 are none of these
early_apart : (why : Refusal) → among (number why) (2 ∷ 3 ∷ 4 ∷ 6 ∷ []) ≡ true → among (number why) (0 ∷ 5 ∷ 7 ∷ []) ≡ true → ⊥
early_apart (LineForm l) e f = false≢true e
early_apart (TreeFault l) e f = false≢true f
early_apart TapeTooLong e f = false≢true f
early_apart (TapeByte i) e f = false≢true f
early_apart Unreadable e f = false≢true e
early_apart (WordsTooShort n) e f = false≢true f
early_apart (CodeTooShort n) e f = false≢true e
early_apart NotACode e f = false≢true e
early_apart (TapeTooShort n) e f = false≢true e
early_apart NoSuchVisit e f = false≢true e

module _ (p : Pattern) (tape words words_now code code_now : List ℕ) (r : Result ℕ Refusal) (h : Parses p tape words words_now code code_now r) where
  abbrev Only : Refusal → Type 0
  Only why = (r ≡ Err why) × (words_now ≡ words) × (code_now ≡ code)

  pub only : (why : Refusal) → First why (early_order p tape (length words)) → Only why
  only why f = parses_one p tape words words_now words code code_now code r (Err why) h (parse_refused p tape words code why f)

  -- "and never otherwise"
  pub early_first : (why : Refusal) → r ≡ Err why → among (number why) (2 ∷ 3 ∷ 4 ∷ 6 ∷ []) ≡ true → First why (early_order p tape (length words))
  unfolding early
  early_first why e m = go (dec_le 1 (early p tape (length words)).number)
    where
      go : Dec (1 ≤ (early p tape (length words)).number) → First why (early_order p tape (length words))
      go (yes n) = refused_first (early_order p tape (length words)) (answer 0 0) refl why (sym (h.refuses n).0 ∙ ap parsed_answer e)
      go (no n) =
          let q = greedily_among (root p) tape code code_now (parsed_answer r) (h.reads (omega arith)) in
          absurd (early_apart why m (subst (λ a. among a.number (0 ∷ 5 ∷ 7 ∷ []) ≡ true) (ap parsed_answer e) q))

  -- 2, 3 and 4 are `tape_2`, `tape_3` and `tape_4` of crate checks, handed on
  pub only_tape : (why : Refusal) → First why (tape_order p tape) → Only why
  only_tape why f = only why (first_more ((ltb (length words) (2 * (length tape + 1)), WordsTooShort (2 * (length tape + 1))) ∷ []) f)

  module _ (t : IsTaken p tape) where
    pub only_6 : length words < 2 * (length tape + 1) → Only (WordsTooShort (2 * (length tape + 1)))
    only_6 l =
        only (WordsTooShort (2 * (length tape + 1)))
        (first_behind (tape_order p tape) (taken_clear p tape t) (here (lt-ltb (length words) (2 * (length tape + 1)) l)))

    -- behind the first sweep: "code; marks are filled", and "code; the rest is filled"
    module _ (w : 2 * (length tape + 1) ≤ length words) where
      abbrev Filled : Refusal → Type 0
      Filled why = (r ≡ Err why) × (words_now ≡ in_front (state_sets p tape) words) × (code_now ≡ code)

      -- however short the code buffer is: 5 before 7
      pub only_5 : ((v : Value (root p)) → flat (root p) v ≡ tape → ⊥) → Filled Unreadable
      only_5 unspelled =
          let z = tested_zero (tested t w) in
          let e = (h.reads z).0.unreadable unspelled in
          (parsed_same r (Err Unreadable) e.0, h.fills z, e.1)

      pub only_7 : (bits : List Bool) → Canonical (root p) tape bits → length code < cell_count 8 (length bits)
          → Filled (CodeTooShort (cell_count 8 (length bits)))
      only_7 bits k l =
          let z = tested_zero (tested t w) in
          let e = (h.reads z).1.short bits k l in
          (parsed_same r (Err (CodeTooShort (cell_count 8 (length bits)))) e.0, h.fills z, e.1)
