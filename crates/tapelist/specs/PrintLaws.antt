-- What `list` leaves in front of a buffer is what is printed, and so is the line of where a tape breaks.
use Rattle.std.specs.Prelude.{◌≡◌, refl, Option, Some, IsSome, Result, Ok, Err, List, ℕ, ◌≤◌, length, take, drop}
use Rattle.std.proofs.Common.{sym, ap, ap₂, subst, ◌∙◌, arith, take_at}
use Rattle.std.specs.Result.{result_unwrap_or}
use Rattle.bits.specs.Writing.{take-in_front}
use Rattle.syntax.specs.declared.Pattern.{Pattern}
use Rattle.syntax.specs.Table.{no_lines}
use Rattle.loading.specs.Load.{pattern_or_none, load_table, Loads}
use Rattle.reach.specs.declared.Positions.{Positions}
use Rattle.reach.specs.Locate.{Locates}
use Rattle.refusals.specs.declared.Refusal.{Refusal}
use Rattle.refusals.specs.Refusals.{refused}
use Rattle.text.specs.Text.{Puts, line, refused_line}
use Rattle.text.specs.Putting.{puts_as, puts_within, puts_front}
use Rattle.text.specs.Lengths.{Short, line-length}
use Rattle.listing.specs.Listing.{tape_of, listing_of, room, Lists}
use Rattle.listing.specs.Shortened.{listing_short}
use Rattle.tapelist.specs.Printing.{Prints, located_word, located_line, Tells}

pub prints : (text tape out now : List ℕ) (r : Option ℕ) (n : ℕ) → Lists text tape out now r → r ≡ Some n → room ≤ length out → Prints text tape (take n now)
prints text tape out now r n h e l =
    let (a, w) = h.fits l in
    let k : n ≡ length (listing_of text tape) = cc in
    let own : take n now ≡ listing_of text tape = ap₂ take k w ∙ take-in_front (listing_of text tape) out in
    record {
      held = own;
      files = λ pattern_file tape_file m n hm hn f g. own ∙ ap₂ listing_of f g ∙ listing_short pattern_file tape_file m n hm hn;
    }

-- the buffer has room
pub list_given : (text tape out now : List ℕ) (r : Option ℕ) → Lists text tape out now r → room ≤ length out → IsSome r
list_given text tape out now r h l = let e = (h.fits l).0 in rw e refl

-- the two ways of putting the line
module _ (out now : List ℕ) (r : ℕ) (located : Result Positions Refusal) where
  pub puts_positions : (x : Positions) (k i : ℕ) → located ≡ Ok x → k ≡ x.reach → i ≡ x.resume → Short k → Short i → Puts out 0 (line located_word k i) now r
      → Puts out 0 (located_line located) now r × (length (located_line located) ≤ 30)
  puts_positions x k i e ek ei hk hi p =
      let same : line located_word k i ≡ located_line located = ap₂ (line located_word) ek ei ∙ ap located_line (sym e) in
      (puts_as out 0 _ _ now r same p, omega (arith, ap length same, line-length located_word k i hk hi))

  pub puts_refusal : (why : Refusal) → located ≡ Err why → Puts out 0 (refused_line (refused why)) now r
      → length (refused_line (refused why)) ≤ 30 → Puts out 0 (located_line located) now r × (length (located_line located) ≤ 30)
  puts_refusal why e p h =
      let same : refused_line (refused why) ≡ located_line located = ap located_line (sym e) in
      (puts_as out 0 _ _ now r same p, omega (arith, ap length same, h))

-- the table that a load hands on, also where it is refused
pub table_given : (text : List ℕ) (l : Result Pattern Refusal) → Loads text l → result_unwrap_or l no_lines ≡ load_table text
table_given text (Ok p) h = h.gives
table_given text (Err why) h = h.gives

-- the line in front of a buffer of 32 bytes, cut where it ends
pub tells : (text tape : List ℕ) (p : Pattern) (letters : List ℕ) (located : Result Positions Refusal) (out now : List ℕ) (r : ℕ)
    → p ≡ load_table text → letters ≡ tape_of tape → Locates p letters located → Puts out 0 (located_line located) now r
    → length (located_line located) ≤ 30 → 32 ≤ length out → Tells text tape (take r now)
tells text tape p letters located out now r e f locates puts short room =
    let (k, w) = puts_front out (located_line located) now r (omega arith) puts in
    record {
      located = located;
      locates = subst (λ q. Locates q (tape_of tape) located) e (subst (λ w. Locates p w located) f locates);
      told = ap₂ take k w ∙ take_at (located_line located) (drop (length (located_line located)) out) (length (located_line located)) refl;
    }
