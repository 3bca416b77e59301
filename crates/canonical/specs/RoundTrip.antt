-- Spelling the code of a tape's greedy reading gives back the tape.
use Rattle.std.specs.Prelude.{◌≡◌, Bool, true, List, ℕ, ◌≤◌, length}
use Rattle.std.proofs.Math.Path.{ap, sym}
use Rattle.std.proofs.Common.{subst, ◌∙◌, arith}
use Rattle.syntax.specs.declared.Pattern.{Pattern}
use Rattle.syntax.specs.Letter.{letter_limit}
use Rattle.syntax.specs.Bools.{and_snd}
use Rattle.syntax.specs.Table.{obeys}
use Rattle.syntax.specs.Trees.{root}
use Rattle.bits.specs.Bits.{pack, held, handed_good}
use Rattle.bits.specs.Handed.{held-pack, handed-pack}
use Rattle.semantics.specs.Code.{IsCode, Canonical}
use Rattle.semantics.specs.Decode.{is_code, spelled}
use Rattle.semantics.proofs.CodeLaws.{is_code_iff}
use Rattle.semantics.specs.Sweeps.{readable}
use Rattle.semantics.proofs.GreedyLaws.{canonical_greedy, code-readable, spelled-greedy}
use Rattle.walks.specs.Whole.{whole_code, letters_of}
use Rattle.parser.specs.ParseLaws.{greedy_few}

module _ (p : Pattern) (good : obeys p ≡ true) (tape : List ℕ) (few : length tape ≤ letter_limit) (bits : List Bool) (k : Canonical (root p) tape bits) where
  -- it is within the limit of a code
  pub canonical_few : length bits ≤ 524288
  canonical_few = let (r, e) = canonical_greedy (root p) tape bits k in subst (λ b. length b ≤ 524288) e (greedy_few p good tape few r)

  pub canonical_code : IsCode (root p) bits
  canonical_code = record { value = k.value; written = k.written; within = canonical_few }

  -- so the bytes that reading writes are a whole code of the pattern
  pub canonical_whole : whole_code (root p) (pack 8 bits) (length bits) ≡ true
  unfolding whole_code
  canonical_whole = rw (handed-pack bits (omega (arith, canonical_few)), held-pack 8 (omega arith) bits) ((is_code_iff (root p) bits).1 canonical_code)

  -- and spelling gives back the tape
  pub canonical_spells : letters_of (root p) (pack 8 bits) (length bits) ≡ tape
  unfolding letters_of
  canonical_spells =
      let (r, e) = canonical_greedy (root p) tape bits k in
      ap (spelled (root p)) (held-pack 8 (omega arith) bits ∙ sym e) ∙ spelled-greedy (root p) tape r

-- what a whole code spells can be read
pub letters-readable : (p : Pattern) (code : List ℕ) (count : ℕ) → whole_code (root p) code count ≡ true
    → readable (root p) (letters_of (root p) code count) ≡ true
unfolding whole_code letters_of
letters-readable p code count w =
    code-readable (root p) (held 8 code count)
    ((is_code_iff (root p) (held 8 code count)).0 (and_snd (handed_good code count) (is_code (root p) (held 8 code count)) w))
