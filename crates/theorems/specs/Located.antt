-- Where reading a tape from C answers 5, the call that locates it says in which way the tape is unreadable.
use Rattle.std.specs.Prelude.{◌≡◌, Bool, true, false, List, ◌++◌, length, take}
use Rattle.std.proofs.Math.Path.{refl, ap}
use Rattle.std.proofs.Common.{sym, subst, ◌∙◌, arith}
use Rattle.std.proofs.lemmas.Bool.{false≢true}
use Prim.Native.Nat.{ℕ, zero, suc, ◌/◌, ◌%◌, ◌≤◌, ◌<◌}
use Rattle.syntax.specs.declared.Pattern.{Pattern}
use Rattle.syntax.specs.Tree.{Tree}
use Rattle.syntax.specs.Trees.{root}
use Rattle.refusals.specs.declared.Refusal.TheVariants.{Unreadable}
use Rattle.refusals.specs.Refusals.{answer, refused}
use Rattle.refusals.specs.Checks.{First}
use Rattle.refusals.specs.CheckLaws.{first_among, refused_first, zero_clear, clear_success}
use Rattle.semantics.specs.Value.{Value, flat, nonempty}
use Rattle.semantics.specs.Sweeps.{readable}
use Rattle.semantics.proofs.GreedyLaws.{readable_iff}
use Rattle.semantics.specs.Begins.{Begins, Reach, Resumes}
use Rattle.semantics.proofs.BeginLaws.{breaks_at, stops-early}
use Rattle.loading.specs.Load.{load_table}
use Rattle.parser.specs.Parse.{parsed_answer, early_order, early}
use Rattle.parser.specs.ParseLaws.{unreadable_iff}
use Rattle.reach.specs.Locate.{locate_order, locate_refusal}
use Rattle.packing.specs.Packing.{unpacked}
use Rattle.wumbyra.specs.Packed.{ParsesText, LocatesText}
use Rattle.wumbyra.specs.LocateParts.{text_located}

-- an unreadable tape breaks at its reach k: no tape of the pattern goes on with the letter there, or, if all letters are read, the tape stops too
-- early, and some letters more, at least one, make it readable
pub record Breaks (t : Tree) (tape : List ℕ) (k : ℕ) : Type 0 where
  pub reaches : Reach t tape k
  pub wrong_letter : k < length tape → Begins t (take (suc k) tape) → ⊥
  pub too_early : k ≡ length tape → (rest : List ℕ) × (v : Value t) × (flat t v ≡ tape ++ rest) × (nonempty rest ≡ true)

module _ (text tape ws us xs ys : List ℕ) (r s : ℕ) (h : ParsesText text tape ws us xs ys r) (five : unpacked r ≡ refused Unreadable) where
  abbrev p : Pattern
  p = load_table text

  answered : parsed_answer h.parsed ≡ refused Unreadable
  answered = sym h.answers ∙ five

  -- 5 is none of the causes before the sweeps
  not-early : First Unreadable (early_order p tape (length ws)) → ⊥
  not-early f = false≢true (first_among f)

  passed : (early p tape (length ws)).number ≡ 0
  unfolding early
  passed = go (early p tape (length ws)).number refl
    where
      go : (n : ℕ) → (early p tape (length ws)).number ≡ n → n ≡ 0
      go zero e = refl
      go (suc n) e =
          let q = h.parses.refuses (omega (arith, e)) in
          absurd (not-early (refused_first (early_order p tape (length ws)) (answer 0 0) refl Unreadable (sym q.0 ∙ answered)))

  -- locating has the same causes but for 6
  located : (locate_refusal p tape).number ≡ 0
  unfolding early locate_refusal
  located =
      let c = zero_clear (early_order p tape (length ws)) (answer 0 0) passed in
      ap (λ a. a.number) (clear_success (locate_order p tape) (answer 0 0) (c.0, (c.1.0, (c.1.1.0, tt))))

  unreadable : readable (root p) tape ≡ false
  unreadable = go (readable (root p) tape) refl
    where
      go : (b : Bool) → readable (root p) tape ≡ b → b ≡ false
      go true e =
          let (v, f) = (readable_iff (root p) tape).0 e in
          absurd ((unreadable_iff p tape ws us xs ys h.parsed h.parses passed).0 answered v f)
      go false e = refl

  -- WHERE A TAPE THAT IS REFUSED WITH 5 BREAKS
  pub five_located : LocatesText text tape s
      → ((unpacked s).number ≡ 0) × Breaks (root p) tape ((unpacked s).value / 65536) × Resumes (root p) tape ((unpacked s).value % 65536)
  five_located l =
      let (n, reach, resume) = text_located text tape s l located in
      let k = (unpacked s).value / 65536 in (
        n,
        record {
          reaches = reach;
          wrong_letter = breaks_at (root p) tape k reach;
          too_early = λ e. stops-early (root p) tape (subst (Reach (root p) tape) e reach) unreadable;
        },
        resume,
      )
