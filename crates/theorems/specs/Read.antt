-- What reading a tape gives where it answers a bit count: every test is passed, the tape is readable, and the buffers hold its state sets and
-- its greedy code. From the public laws of reading alone, not from how its checks are put down.
use Rattle.std.specs.Prelude.{◌≡◌, refl, Bool, true, false, ◌⊎◌, List, ℕ, ◌+◌, ◌*◌, ◌-◌, ◌≤◌, ◌<◌, length, get_or, Err, Ok}
use Rattle.std.proofs.Common.{sym, ap, subst, ◌∙◌, inl, inr, arith}
use Rattle.std.proofs.Math.Decide.{dec_le}
use Rattle.syntax.specs.declared.Pattern.{Pattern}
use Rattle.refusals.specs.declared.Refusal.{Refusal}
use Rattle.refusals.specs.declared.Refusal.TheVariants.{Unreadable, WordsTooShort, CodeTooShort}
use Rattle.refusals.specs.Refusals.{number}
use Rattle.refusals.specs.RefusalLaws.{number_positive}
use Rattle.refusals.specs.Checks.{First, Clear}
use Rattle.refusals.specs.CheckLaws.{which_first}
use Rattle.checks.specs.TapeOrder.{tape_order}
use Rattle.checks.specs.TapeLaws.{IsTaken, clear_taken}
use Rattle.syntax.specs.Letter.{first_bad, letter_limit}
use Rattle.syntax.specs.Table.{obeys}
use Rattle.syntax.specs.Trees.{root}
use Rattle.bits.specs.Bits.{bit, test_bit, cell_count, pack, in_front}
use Rattle.semantics.specs.Sweeps.{readable, greedy}
use Rattle.semantics.proofs.GreedyLaws.{readable_iff}
use Rattle.steps.specs.StateSets.{words}
use Rattle.first_sweep.specs.Meaning.{words_at}
use Rattle.parser.specs.Parse.{parsed_answer, Parses}
use Rattle.parser.specs.Writing.{Writes}
use Rattle.parser.specs.ParseLaws.{filled_at, Tested, first_swept, parse_unreadable, parse_done}
use Rattle.parser.specs.MarkLaws.{marks-value}
use Rattle.parser.specs.Orders.{only_tape, only_6}
use Rattle.parser.specs.Unique.{parses_one}

pub record Read (p : Pattern) (tape ws us xs ys : List ℕ) (n : ℕ) : Type 0 where
  pub good : obeys p ≡ true
  pub few : length tape ≤ letter_limit
  pub letters : length tape ≤ first_bad tape
  pub reads : readable (root p) tape ≡ true
  pub fits : cell_count 8 n ≤ length xs
  pub count_is : n ≡ length (greedy (root p) tape)
  pub words_are : us ≡ in_front (words p tape) ws
  pub code_is : ys ≡ in_front (pack 8 (greedy (root p) tape)) xs

not-refused : (n : ℕ) (why : Refusal) → Ok n ≡ Err why → ⊥
not-refused n why e = let z : 0 ≡ number why = ap (λ r. (parsed_answer r).number) e in omega (arith, number_positive why)

module _ (p : Pattern) (tape ws : List ℕ) where
  abbrev filled : List ℕ
  filled = in_front (words p tape) ws

  -- the root's bit of the flag 1 word of position 0
  abbrev root_bit : Bool
  root_bit = test_bit (get_or filled (2 * 0 + bit true) 0) (p.count - 1)

  abbrev best : List Bool
  best = greedy (root p) tape

  module _ (d : Tested p tape ws) where
    opened : readable (root p) tape ≡ true → root_bit ≡ true
    opened e =
        ap (λ w. test_bit w (p.count - 1)) (filled_at p tape ws 0 (omega arith) true ∙ sym (words_at p tape 0 true (omega arith)))
        ∙ (marks-value p d.good tape).1 ((readable_iff (root p) tape).0 e)

    module _ (o : root_bit ≡ true) (xs : List ℕ) where
      fitting : cell_count 8 (length best) ≤ length xs → Parses p tape ws filled xs (in_front (pack 8 best) xs) (Ok (length best))
      fitting l =
          let w : Writes best xs (in_front (pack 8 best) xs) (Ok (length best)) = record { fits = λ k. (refl, refl); short = λ k. absurd (omega arith) } in
          parse_done d refl refl o w

      lacking : length xs < cell_count 8 (length best) → Parses p tape ws filled xs xs (Err (CodeTooShort (cell_count 8 (length best))))
      lacking l =
          let w : Writes best xs xs (Err (CodeTooShort (cell_count 8 (length best)))) =
          record { fits = λ k. absurd (omega arith); short = λ k. (refl, refl) } in
          parse_done d refl refl o w

    -- a readable tape in buffers that suffice
    pub read_greedily : readable (root p) tape ≡ true → (xs : List ℕ) → cell_count 8 (length (greedy (root p) tape)) ≤ length xs
        → Parses p tape ws (in_front (words p tape) ws) xs (in_front (pack 8 (greedy (root p) tape)) xs) (Ok (length (greedy (root p) tape)))
    read_greedily e xs l = fitting (opened e) xs l

  module _ (us xs ys : List ℕ) (n : ℕ) (h : Parses p tape ws us xs ys (Ok n)) where
    fit : (d : Tested p tape ws) → root_bit ≡ true → readable (root p) tape ≡ true → Dec (cell_count 8 (length best) ≤ length xs)
        → Read p tape ws us xs ys n
    fit d o e (no l) =
        absurd (not-refused n (CodeTooShort (cell_count 8 (length best)))
        (parses_one p tape ws us filled xs ys xs (Ok n) (Err (CodeTooShort (cell_count 8 (length best)))) h (lacking d o xs (omega arith))).0)
    fit d o e (yes l) =
        let q = parses_one p tape ws us filled xs ys (in_front (pack 8 best) xs) (Ok n) (Ok (length best)) h (fitting d o xs l) in
        let m : n ≡ length best = ap (λ r. (parsed_answer r).value) q.0 in
        record {
          good = d.good;
          few = d.few;
          letters = d.letters;
          reads = e;
          fits = subst (λ k. cell_count 8 k ≤ length xs) (sym m) l;
          count_is = m;
          words_are = q.1;
          code_is = q.2;
        }

    swept : (d : Tested p tape ws) (o : Bool) → root_bit ≡ o → Read p tape ws us xs ys n
    swept d true o = fit d o (first_swept d refl refl o).reads (dec_le (cell_count 8 (length best)) (length xs))
    swept d false o =
        absurd (not-refused n Unreadable
        (parses_one p tape ws us filled xs ys xs (Ok n) (Err Unreadable) h (parse_unreadable d refl refl xs o)).0)

    -- the tests, in 01's order: whatever fails is answered
    pub read : Read p tape ws us xs ys n
    read = go (which_first (tape_order p tape))
      where
        roomy : IsTaken p tape → Dec (2 * (length tape + 1) ≤ length ws) → Read p tape ws us xs ys n
        roomy t (yes r) = swept (record { good = t.good; few = t.few; letters = t.letters; room = r }) root_bit refl
        roomy t (no r) =
            absurd (not-refused n (WordsTooShort (2 * (length tape + 1))) (only_6 p tape ws us xs ys (Ok n) h t (omega arith)).0)

        go : Clear (tape_order p tape) ⊎ ((why : Refusal) × First why (tape_order p tape)) → Read p tape ws us xs ys n
        go (inl c) = roomy (clear_taken p tape c) (dec_le (2 * (length tape + 1)) (length ws))
        go (inr (why, f)) = absurd (not-refused n why (only_tape p tape ws us xs ys (Ok n) h why f).0)
