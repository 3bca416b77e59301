-- HOW IT IS COMPUTED, over the masks as they are stored: reading a tape from its start, and sweeping it from its end.
-- From the start a set is a word: before a letter the nodes that are entered with flag 1, at first the root; then the leaves that take the letter
-- and that one of these nodes reaches by empty steps; after it their followers.
use Rattle.std.specs.Prelude.{Bool, not, cond, ◌&&◌, List, [], ◌∷◌, ℕ, suc, ◌-◌, ◌*◌, ◌^◌, eqb, ltb}
use Rattle.std.specs.Int.Bits.{bit_and}
use Rattle.bits.specs.Bits.{bit, test_bit}
use Rattle.bits.specs.Unions.{union}
use Rattle.semantics.specs.Fronts.{reading}
use Rattle.table.specs.Cells.{follower_in}
use Rattle.masks.specs.Leaves.{entry}
use Rattle.first_sweep.specs.SweepWords.{first_one, sweep_of}

-- a word that is not empty
abbrev pub has_any : ℕ → Bool
has_any x = not (eqb x 0)

-- the leaves that take a letter and that one of the nodes reaches: leaf y's mask meets them
unfoldable pub matched_leaves : (one : List ℕ) → (nodes takers : ℕ) → ℕ
matched_leaves os n k = union 64 (λ y. test_bit k y && has_any (bit_and (entry os y) n)) (λ y. 1 * 2 ^ y)

-- a state by its number as a word: a node's bit, none for the end
abbrev pub state_word : (state : ℕ) → ℕ
state_word f = bit (ltb f 64) * 2 ^ f

-- the nodes that follow leaves
unfoldable pub following : (table : List ℕ) → (leaves : ℕ) → ℕ
following ts m = union 64 (test_bit m) (λ y. state_word (follower_in ts y))

-- the root: 01, "The last line is the root."
abbrev pub root_word : (count : ℕ) → ℕ
root_word n = 1 * 2 ^ (n - 1)

-- THE REACH, over the masks: from a set of nodes on, and from the root
unfoldable pub reach_from : (one table takers : List ℕ) → (nodes : ℕ) → (letters : List ℕ) → ℕ
reach_from os ts ks n w = reading (λ x c. matched_leaves os x (entry ks c)) has_any (following ts) n w

unfoldable pub reach_words : (one table takers : List ℕ) → (count : ℕ) → (tape : List ℕ) → ℕ
reach_words os ts ks n w = reach_from os ts ks (root_word n) w

-- WHERE IT RESUMES, over the masks: the first position whose flag 1 word is not 0, the tape's end if there is none before it
unfoldable pub resume_words : (zero one table takers : List ℕ) → (end : ℕ) → (tape : List ℕ) → ℕ
resume_words zs os ts ks e [] = 0
resume_words zs os ts ks e (c ∷ w) = cond (has_any (first_one (sweep_of zs os ts ks e (c ∷ w)))) 0 (suc (resume_words zs os ts ks e w))
