-- LAWS of the loops: leaf after leaf, the lowest of those left first; letter after letter, from the start and from the end; and that they give the
-- positions of the definition.
use Rattle.std.specs.Prelude.{◌≡◌, refl, Bool, true, false, ◌&&◌, not, cond, List, [], ◌∷◌, ◌++◌, ℕ, suc, ◌+◌, ◌-◌, ◌*◌, ◌%◌, ◌^◌, ◌≤◌, ◌<◌, length, drop, get_or, Ok}
use Rattle.std.proofs.Common.{sym, ap, ap₂, ◌∙◌, arith, add-zero, zero-add, zero-mul, drop_of_length-le, drop-cons, length-append, append-nil, append_assoc, eq-eqb, ne_eqb, lt-ltb, le-ltb}
use Rattle.std.proofs.Math.Bool.{and-true}
use Rattle.std.specs.Int.{from_bool}
use Rattle.std.specs.List.{push}
use Rattle.std.specs.Int.Bits.{bit_or, bit_and}
use Rattle.syntax.specs.declared.Pattern.{Pattern}
use Rattle.syntax.specs.Letter.{is_letter, letter_limit}
use Rattle.syntax.specs.Trees.{root}
use Rattle.syntax.specs.TreeLaws.{Rules}
use Rattle.bits.specs.Bits.{bit, test_bit}
use Rattle.bits.specs.Joining.{Joining, joining_next, joining_end}
use Rattle.bits.specs.Ones.{Lowest, given_left}
use Rattle.bits.specs.Unions.{pick, union, union_same}
use Rattle.semantics.specs.Begins.{Reach, Resumes}
use Rattle.semantics.specs.Sweeps.{at_end}
use Rattle.semantics.specs.Every.{All}
use Rattle.table.specs.Cells.{follower_in, Holds}
use Rattle.masks.specs.Leaves.{entry}
use Rattle.masks.specs.Masks.{MasksOf}
use Rattle.masks.specs.Scatter.{shifted}
use Rattle.steps.specs.declared.Words.{Words}
use Rattle.steps.specs.Steps.{step_of}
use Rattle.first_sweep.specs.SweepWords.{first_one, sweep_of, AllLetters, sweep_words}
use Rattle.first_sweep.specs.Fill.{all_letters}
use Rattle.reach.specs.Locate.{Tells}
use Rattle.reach.specs.FrontWords.{has_any, matched_leaves, state_word, following, root_word, reach_from, reach_words, resume_words}
use Rattle.reach.specs.FrontWordLaws.{reach_words-reach}
use Rattle.reach.specs.StateEnds.{resume_of, resume_of_resumes}

-- ---- words joined for each leaf of a set
module _ (set : ℕ) (o : ℕ → Bool) (m : ℕ → ℕ) where
  pub joined_next : (rest left a x v : ℕ) → Joining 64 set o m rest a → Lowest rest x left → v ≡ pick (o x) (m x) → Joining 64 set o m left (bit_or a v)
  joined_next rest left a x v q g f = rw (given_left g, f) (joining_next 64 set o m rest a x q g.some g.few g.is)

  pub joined_end : (rest a : ℕ) → Joining 64 set o m rest a → rest ≡ 0 → a ≡ union 64 (λ x. test_bit set x && o x) m
  joined_end rest a q e = joining_end 64 set o m a (rw e at q)

-- the leaves that are matched
abbrev pub met : (one : List ℕ) → (nodes : ℕ) → (leaf : ℕ) → Bool
met os n y = has_any (bit_and (entry os y) n)

pub matched_end : (os : List ℕ) (n k rest a : ℕ) → Joining 64 k (met os n) (λ y. 1 * 2 ^ y) rest a → rest ≡ 0 → a ≡ matched_leaves os n k
unfolding matched_leaves
matched_end os n k rest a q e = joined_end k (met os n) (λ y. 1 * 2 ^ y) rest a q e

-- their followers
abbrev pub each : ℕ → Bool
each x = true

pub following_end : (ts : List ℕ) (m rest a : ℕ) → Joining 64 m each (λ y. state_word (follower_in ts y)) rest a → rest ≡ 0 → a ≡ following ts m
unfolding following
following_end ts m rest a q e =
    joined_end m each (λ y. state_word (follower_in ts y)) rest a q e
    ∙ union_same 64 (λ x. test_bit m x && true) (test_bit m) (λ y. state_word (follower_in ts y)) (λ y. state_word (follower_in ts y))
    (λ x h. and-true (test_bit m x)) (λ x h. refl)

-- a leaf's bit where its mask meets the nodes
pub met-bit : (i met : ℕ) → i < 64 → (from_bool (has_any met) * 2 ^ i) % 2 ^ 64 ≡ pick (has_any met) (1 * 2 ^ i)
met-bit i met h = shifted i (has_any met) h ∙ go (has_any met)
  where
    go : (b : Bool) → bit b * 2 ^ i ≡ pick b (1 * 2 ^ i)
    go true = refl
    go false = zero-mul (2 ^ i)

-- a state's bit
pub state-bit : (f : ℕ) → f < 64 → (1 * 2 ^ f) % 2 ^ 64 ≡ state_word f
state-bit f h = rw (lt-ltb f 64 h) (shifted f true h)

pub state_none : (f : ℕ) → 64 ≤ f → 0 ≡ state_word f
state_none f h = rw (le-ltb f 64 h) (sym (zero-mul (2 ^ f)))

-- ---- letter after letter
pub record Reading (os ts ks : List ℕ) (count : ℕ) (tape : List ℕ) (i nodes : ℕ) : Type 0 where
  pub within : i ≤ length tape
  pub left : reach_words os ts ks count tape ≡ i + reach_from os ts ks nodes (drop i tape)

module _ (os ts ks : List ℕ) (count : ℕ) (tape : List ℕ) where
  pub reading-start : (n : ℕ) → n ≡ root_word count → Reading os ts ks count tape 0 n
  unfolding reach_words
  reading-start n e = record { within = omega arith; left = rw e (sym (zero_plus (reach_from os ts ks (root_word count) tape))) }
    where
      zero_plus : (x : ℕ) → 0 + x ≡ x
      zero_plus x = omega arith

  module _ (i n : ℕ) (q : Reading os ts ks count tape i n) where
    pub reading_end : length tape ≤ i → i ≡ reach_words os ts ks count tape
    unfolding reach_from
    reading_end h = sym (q.left ∙ ap (λ w. i + reach_from os ts ks n w) (drop_of_length-le tape h) ∙ add-zero i)

    module _ (l : i < length tape) (c m : ℕ) (ec : c ≡ get_or tape i 0) (em : m ≡ matched_leaves os n (entry ks c)) where
      next : reach_words os ts ks count tape ≡ i + cond (has_any m) (suc (reach_from os ts ks (following ts m) (drop (suc i) tape))) 0
      unfolding reach_from
      next =
          q.left ∙ ap (λ w. i + reach_from os ts ks n w) (drop-cons tape i 0 l)
          ∙ ap (λ x. i + cond (has_any x) (suc (reach_from os ts ks (following ts x) (drop (suc i) tape))) 0)
          (sym (em ∙ ap (λ d. matched_leaves os n (entry ks d)) ec))

      pub reading-stops : m ≡ 0 → i ≡ reach_words os ts ks count tape
      reading-stops e =
          sym (next ∙ ap (λ b. i + cond (not b) (suc (reach_from os ts ks (following ts m) (drop (suc i) tape))) 0) (eq-eqb m 0 e) ∙ add-zero i)

      pub reading_on : (m ≡ 0 → ⊥) → (k : ℕ) → k ≡ following ts m → Reading os ts ks count tape (i + 1) k
      reading_on e k f =
          let g : reach_words os ts ks count tape ≡ i + suc (reach_from os ts ks (following ts m) (drop (suc i) tape)) =
          next ∙ ap (λ b. i + cond (not b) (suc (reach_from os ts ks (following ts m) (drop (suc i) tape))) 0) (ne_eqb m 0 e) in
          let j : suc i ≡ i + 1 = omega arith in
          record {
            within = omega arith;
            left = rw f (g ∙ (let s : i + suc (reach_from os ts ks (following ts m) (drop (suc i) tape)) ≡ i + 1
                + reach_from os ts ks (following ts m) (drop (suc i) tape) = omega arith in s)
                ∙ ap (λ x. i + 1 + reach_from os ts ks (following ts m) (drop x tape)) j);
          }

-- ---- from the end, letter after letter
module _ (zs os ts ks : List ℕ) (e : ℕ) (tape : List ℕ) where
  -- on the way, behind the letters left: the flag 1 word there, whether it is the tape's end, and where the letters read resume
  pub record Resuming (left : List ℕ) (next : ℕ) (last : Bool) (found : ℕ) : Type 0 where
    pub read : List ℕ
    pub whole : tape ≡ left ++ read
    pub ahead : next ≡ first_one (sweep_of zs os ts ks e read)
    pub ends : last ≡ at_end true read
    pub so_far : found ≡ length left + resume_words zs os ts ks e read

  pub resuming_start : Resuming tape e true (length tape)
  unfolding resume_words
  resuming_start = record { read = []; whole = sym (append-nil tape); ahead = refl; ends = refl; so_far = sym (add-zero (length tape)) }

  -- the last letter left is read
  module _ (left rest : List ℕ) (next c : ℕ) (last : Bool) (found : ℕ) (w : Words) (q : Resuming left next last found) (d : left ≡ push rest c)
      (s : w ≡ step_of zs os ts (entry ks c) next last) where
    stepped : w ≡ step_of zs os ts (entry ks c) (first_one (sweep_of zs os ts ks e q.read)) (at_end true q.read)
    stepped = s ∙ ap₂ (step_of zs os ts (entry ks c)) q.ahead q.ends

    resumed-at : (f : ℕ) → f ≡ length rest + cond (has_any w.one) 0 (suc (resume_words zs os ts ks e q.read)) → Resuming rest w.one false f
    unfolding resume_words
    resumed-at f g = record {
      read = c ∷ q.read;
      whole = q.whole ∙ ap (λ l. l ++ q.read) d ∙ append_assoc rest (c ∷ []) q.read;
      ahead = ap (λ v. v.one) stepped;
      ends = refl;
      so_far = g ∙ ap (λ v. length rest + cond (has_any v.one) 0 (suc (resume_words zs os ts ks e q.read))) stepped;
    }

    pub resuming_here : (w.one ≡ 0 → ⊥) → Resuming rest w.one false (length rest)
    resuming_here n = resumed-at (length rest) (rw (ne_eqb w.one 0 n) (sym (add-zero (length rest))))

    pub resuming_later : w.one ≡ 0 → Resuming rest w.one false found
    resuming_later z =
        let more : length left ≡ length rest + 1 = ap length d ∙ length-append rest (c ∷ []) in
        resumed-at found (rw (eq-eqb w.one 0 z) (omega (arith, q.so_far, more)))

  pub resuming_end : (left : List ℕ) (next : ℕ) (last : Bool) (found : ℕ) → Resuming left next last found → length left ≡ 0
      → found ≡ resume_words zs os ts ks e tape
  resuming_end [] next last found q z = q.so_far ∙ zero-add (resume_words zs os ts ks e q.read) ∙ ap (resume_words zs os ts ks e) (sym q.whole)
  resuming_end (c ∷ left) next last found q z = absurd (omega arith)

-- ---- over a pattern
-- a tested table, at most 3,600 letters, and nothing but letters
pub record Locatable (p : Pattern) (tape : List ℕ) : Type 0 where
  pub rules : Rules p
  pub few : length tape ≤ letter_limit
  pub letters : (i : ℕ) → i < length tape → is_letter (get_or tape i 0) ≡ true

every_letter : (w : List ℕ) → ((i : ℕ) → i < length w → is_letter (get_or w i 0) ≡ true) → All (λ c. is_letter c ≡ true) w
every_letter [] h = tt
every_letter (c ∷ w) h = (h 0 (omega arith), every_letter w (λ j k. h (suc j) (omega arith)))

module _ {p : Pattern} {tape zs os ts ks : List ℕ} {e : ℕ} (f : Locatable p tape) (h : Holds p ts) (m : MasksOf (root p) p.count zs os ks e) where
  pub reached : (k : ℕ) → k ≡ reach_words os ts ks p.count tape → Reach (root p) tape k
  reached k q = rw q (reach_words-reach p f.rules zs os ts ks e h m tape (every_letter tape f.letters))

  resume_same : (w : List ℕ) → AllLetters w → resume_words zs os ts ks e w ≡ resume_of p w
  unfolding resume_words resume_of
  resume_same [] a = refl
  resume_same (c ∷ w) a =
      ap₂ (λ x n. cond (has_any x) 0 (suc n)) (ap first_one (sweep_words p f.rules zs os ts ks e h m (c ∷ w) a)) (resume_same w a.1)

  pub resumed : (i : ℕ) → i ≡ resume_words zs os ts ks e tape → Resumes (root p) tape i
  resumed i q = rw (q ∙ resume_same tape (all_letters tape f.letters)) (resume_of_resumes p f.rules tape)

  -- both fit 16 bits
  pub told : (k i : ℕ) → k ≡ reach_words os ts ks p.count tape → i ≡ resume_words zs os ts ks e tape → Tells (root p) tape (Ok (record { reach = k; resume = i }))
  told k i a b = record { reach = k; resume = i; is = refl; reaches = reached k a; resumes = resumed i b }

  pub reach_fits : (k : ℕ) → k ≡ reach_words os ts ks p.count tape → k < 65536
  reach_fits k q = omega (arith, (reached k q).within, f.few)

  pub resume_fits : (i : ℕ) → i ≡ resume_words zs os ts ks e tape → i < 65536
  resume_fits i q = omega (arith, (resumed i q).within, f.few)
