-- What the root's mark (01's word for a bit of a state set) says: bit count - 1 of word 1, the flag 1 word of position 0. In the words of values
-- and codes; the automaton is behind it.
use Rattle.std.specs.Prelude.{◌≡◌, Bool, true, ◌↔◌, List, ℕ, ◌-◌, ◌≤◌, length, get_or}
use Rattle.std.proofs.Common.{sym, ap, ◌∙◌}
use Rattle.syntax.specs.declared.Pattern.{Pattern}
use Rattle.syntax.specs.Letter.{letter_limit}
use Rattle.syntax.specs.Table.{obeys}
use Rattle.syntax.specs.Trees.{root}
use Rattle.syntax.specs.TreeLaws.{obeys_iff}
use Rattle.bits.specs.Bits.{test_bit}
use Rattle.semantics.specs.Value.{Value, flat}
use Rattle.semantics.specs.Code.{IsCode, Spells, NoEmptyRound}
use Rattle.semantics.specs.Sweeps.{readable, greedy}
use Rattle.semantics.proofs.GreedyLaws.{greedy_canonical, readable_iff}
use Rattle.steps.specs.StateSets.{words}
use Rattle.first_sweep.specs.Meaning.{root-says}
use Rattle.parser.specs.ParseLaws.{root-index, greedy_few}

abbrev pub root_mark : Pattern → (tape : List ℕ) → Bool
root_mark p tape = test_bit (get_or (words p tape) 1 0) (p.count - 1)

module _ (p : Pattern) (good : obeys p ≡ true) (tape : List ℕ) where
  marked : root_mark p tape ≡ readable (root p) tape
  marked = ap (test_bit (get_or (words p tape) 1 0)) (sym (root-index p good)) ∙ root-says p ((obeys_iff p).0 good) tape

  -- set exactly if some value of the pattern, with or without empty rounds, spells the tape; whatever the tape's length and bytes
  pub marks-value : (root_mark p tape ≡ true) ↔ ((v : Value (root p)) × (flat (root p) v ≡ tape))
  marks-value = (λ h. (readable_iff (root p) tape).0 (sym marked ∙ h), λ v. marked ∙ (readable_iff (root p) tape).1 v)

  module _ (few : length tape ≤ letter_limit) where
    -- the code of the greedy value is within the limit of codes
    solid_code : root_mark p tape ≡ true → (bits : List Bool) × Spells (root p) bits tape × NoEmptyRound (root p) bits
    solid_code h =
        let reads : readable (root p) tape ≡ true = sym marked ∙ h in
        let c = greedy_canonical (root p) tape reads in
        let w : IsCode (root p) (greedy (root p) tape) = record { value = c.value; written = c.written; within = greedy_few p good tape few reads } in
        (greedy (root p) tape, record { whole = w; same = c.greedy.spells }, record { whole = w; solid = c.greedy.solid })

    -- 03: "the root's mark says whether some reading spells the tape": set exactly if some code of the pattern, with or without empty
    -- rounds, spells it
    pub marks-right : (root_mark p tape ≡ true) ↔ ((bits : List Bool) × Spells (root p) bits tape)
    marks-right = (λ h. let s = solid_code h in (s.0, s.1), λ s. marks-value.1 (s.1.whole.value, s.1.same))

    -- and exactly if some code without an empty round spells it
    pub marks_solid : (root_mark p tape ≡ true) ↔ ((bits : List Bool) × Spells (root p) bits tape × NoEmptyRound (root p) bits)
    marks_solid = (solid_code, λ s. marks-right.1 (s.0, s.1))
