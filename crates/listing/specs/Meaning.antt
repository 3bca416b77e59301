-- What a listing says, in the terms of 01 and 001: the definition's computed parts (`readable`, `greedy`, `value_of_lem`) are joined to
-- values here.
use Rattle.std.specs.Prelude.{◌≡◌, refl, Bool, true, false, List, ◌++◌, ℕ, suc, length}
use Rattle.std.proofs.Common.{◌∙◌, eq-eqb, ne_eqb}
use Rattle.syntax.specs.declared.Pattern.{Pattern}
use Rattle.refusals.specs.declared.Refusal.TheVariants.{Unreadable}
use Rattle.refusals.specs.Refusals.{refused}
use Rattle.loading.specs.Load.{load_answer, load_table}
use Rattle.syntax.specs.Trees.{root}
use Rattle.bits.specs.Bits.{pack}
use Rattle.semantics.specs.Value.{Value, flat}
use Rattle.semantics.specs.Order.{Greedy}
use Rattle.semantics.specs.Code.{code}
use Rattle.semantics.specs.Accounts.{accounts, totals}
use Rattle.semantics.specs.Sweeps.{readable, greedy}
use Rattle.semantics.proofs.CodeLaws.{value_of-code}
use Rattle.semantics.proofs.GreedyLaws.{canonical_greedy, readable_iff}
use Rattle.steps.specs.StateSets.{words}
use Rattle.text.specs.Text.{refused_line}
use Rattle.listing.specs.Listing.{listing, read_listing, early_cause, pattern_listing, tape_of, listing_of}
use Rattle.listing_lines.specs.LineBytes.{tape_line, account_lines, open_lines}
use Rattle.listing.specs.ListingLaws.{refused_by, read_by}

-- the lines of a tape whose greedy value is v: letters, bits and bytes of its code; litres by account; open nodes of each position
abbrev pub value_listing : (p : Pattern) → (tape : List ℕ) → Value (root p) → List ℕ
value_listing p tape v =
    tape_line (length tape) (length (code (root p) v)) (pack 8 (code (root p) v))
    ++ (account_lines 0 (totals (accounts (root p) v)) ++ open_lines (words p tape) 0 (suc (length tape)))

-- the bytes that a pattern text and a tape file are listed by
pub record Says (text file bytes : List ℕ) : Type 0 where
  -- loading's causes, then reading's before the sweeps
  pub pattern_refused : ((load_answer text).number ≡ 0 → ⊥) → bytes ≡ refused_line (load_answer text)
  pub tape-refused : (load_answer text).number ≡ 0 → ((early_cause (load_table text) (tape_of file)).number ≡ 0 → ⊥)
      → bytes ≡ refused_line (early_cause (load_table text) (tape_of file))
  -- no value of the pattern spells the tape
  pub unreadable : (load_answer text).number ≡ 0 → (early_cause (load_table text) (tape_of file)).number ≡ 0
      → ((v : Value (root (load_table text))) → flat (root (load_table text)) v ≡ tape_of file → ⊥) → bytes ≡ refused_line (refused Unreadable)
  -- the greedy value of the tape
  pub read : (load_answer text).number ≡ 0 → (early_cause (load_table text) (tape_of file)).number ≡ 0
      → (v : Value (root (load_table text))) → Greedy (root (load_table text)) (tape_of file) v → bytes ≡ value_listing (load_table text) (tape_of file) v

loaded : (text file : List ℕ) → (load_answer text).number ≡ 0 → listing_of text file ≡ pattern_listing (load_table text) (tape_of file)
unfolding listing_of
loaded text file e = rw (eq-eqb (load_answer text).number 0 e)

not-loaded : (text file : List ℕ) → ((load_answer text).number ≡ 0 → ⊥) → listing_of text file ≡ refused_line (load_answer text)
unfolding listing_of
not-loaded text file e = rw (ne_eqb (load_answer text).number 0 e)

module _ (p : Pattern) (tape : List ℕ) where
  off : ((v : Value (root p)) → flat (root p) v ≡ tape → ⊥) → readable (root p) tape ≡ false
  off none = go (readable (root p) tape) refl
    where
      go : (b : Bool) → readable (root p) tape ≡ b → b ≡ false
      go false e = refl
      go true e = let (v, f) = (readable_iff (root p) tape).0 e in absurd (none v f)

  no_value : ((v : Value (root p)) → flat (root p) v ≡ tape → ⊥) → read_listing p tape ≡ refused_line (refused Unreadable)
  unfolding read_listing
  no_value none = rw (off none)

  module _ (v : Value (root p)) (g : Greedy (root p) tape v) where
    own_code : (readable (root p) tape ≡ true) × (greedy (root p) tape ≡ code (root p) v)
    own_code = canonical_greedy (root p) tape (code (root p) v) (record { value = v; greedy = g; written = refl })

    its_value : read_listing p tape ≡ value_listing p tape v
    unfolding read_listing listing
    its_value = rw (own_code.0, own_code.1, value_of-code (root p) v)

pub listing-says : (text file : List ℕ) → Says text file (listing_of text file)
listing-says text file = record {
  pattern_refused = λ e. not-loaded text file e;
  tape-refused = λ e f. loaded text file e ∙ refused_by (load_table text) (tape_of file) f;
  unreadable = λ e f n. loaded text file e ∙ read_by (load_table text) (tape_of file) f ∙ no_value (load_table text) (tape_of file) n;
  read = λ e f v g. loaded text file e ∙ read_by (load_table text) (tape_of file) f ∙ its_value (load_table text) (tape_of file) v g;
}
