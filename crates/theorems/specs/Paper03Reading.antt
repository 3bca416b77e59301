-- The call from C that reads a tape meets 03's contract of `read_tape`, word for word, over 03's own marks, for every text, tape and buffers.
use Rattle.std.specs.Prelude.{◌≡◌, Bool, true, false, ◌&&◌, not, cond, List, [], ◌∷◌, ◌++◌, ltb, eqb, get_or}
use Rattle.std.proofs.Math.Path.{refl, sym, ap, ap₂}
use Rattle.std.proofs.Common.{subst, ◌∙◌, arith, eqb-true, ltb-true, ltb-false, lt-ltb, le-ltb}
use Rattle.std.proofs.Math.Bool.{true≢false}
use Prim.Native.Nat.{ℕ, zero, suc, ◌+◌, ◌*◌, ◌-◌, ◌≤◌, ◌<◌}
use Rattle.std.proofs.lemmas.Bool.{eqb-false}
use Rattle.std.proofs.Math.ListN.{length, drop}
use Rattle.syntax.specs.declared.Pattern.{Pattern}
use Rattle.refusals.specs.Refusals.{Answer, answer}
use Rattle.syntax.specs.Letter.{is_letter, first_bad as first_bad_of, letter_limit}
use Rattle.syntax.specs.Table.{obeys}
use Rattle.syntax.specs.Trees.{root as root_of}
use Rattle.loading.specs.Load.{load_answer, load_table}
use Rattle.bits.specs.Bits.{cell_count, pack, in_front as put_front}
use Rattle.bits.specs.Packing.{length-pack}
use Rattle.bits.specs.Paper03.{bools, packed, packed-pack, mark_bit, mark_bit_test}
use Rattle.semantics.specs.Code.{Canonical}
use Rattle.semantics.proofs.Promised.{greedy-code_iff}
use Rattle.steps.specs.StateSets.{words as state_sets}
use Rattle.parser.specs.Parse.{early as early_of, ReadsGreedily}
use Rattle.parser.specs.ParseLaws.{root-choices}
use Rattle.parser.specs.MarkLaws.{root_mark, marks-value}
use Rattle.packing.specs.Packing.{unpacked}
use Rattle.wumbyra.specs.Packed.{ParsesText}
use Rattle.wumbyra.proofs.Unloaded.{not-obeyed}
use Rattle.theorems.specs.Numbers.{numbers-bools, length-bools}
use Rattle.theorems.specs.Paper03Pattern.{Node, letter_byte, root, Refusal, load_refusal, loaded}
use Rattle.theorems.specs.Paper03Codes.{Greedy}
use Rattle.theorems.specs.Paper03.{letters_good}
use Rattle.theorems.specs.Paper03Laws.{bits_are, greedy_to}
use Rattle.theorems.specs.Paper03Same.{Lists, greedy_in}
use Rattle.theorems.specs.Paper03Tree.{loads_03, lists_03}
use Rattle.theorems.specs.Paper03Refusals.{same_refusal}
use Rattle.theorems.specs.Paper03Marks.{marks}
use Rattle.theorems.specs.Paper03MarksSame.{marks_same}
use Rattle.theorems.specs.Paper03Entry.{in_front, says, first_bad, early, readable, Greedily, ReadAs, ReadSays}

-- ── what the second sweep gives ──
module _ (p : Pattern) (ns : List Node) (h : Lists p ns) (cs : List ℕ) (few : length cs ≤ letter_limit) (g : letters_good cs ≡ true) where
  pub filled_same : (a : List ℕ) → put_front (state_sets p cs) a ≡ in_front (marks ns cs) a
  unfolding put_front in_front
  filled_same a = ap (λ ws. ws ++ drop (length ws) a) (sym (marks_same p ns h cs g))

  readable_same : readable ns cs ≡ root_mark p cs
  unfolding readable root
  readable_same =
      ap₂ (λ ws n. mark_bit (get_or ws 1 0) (n - 1)) (marks_same p ns h cs g) h.size ∙ mark_bit_test (get_or (state_sets p cs) 1 0) (p.count - 1)

  module _ (a : Answer) (o z : List ℕ) (r : ReadsGreedily (root_of p) cs o z a) where
    greedily_read : (gs : List ℕ) → Greedy ns cs gs
        → (length (packed gs) ≤ length o → says 0 (length gs) a × (z ≡ in_front (packed gs) o))
        × (length o < length (packed gs) → says 7 (length (packed gs)) a × (z ≡ o))
    unfolding says put_front in_front
    greedily_read gs q =
        let i = greedy_in p ns h cs gs q in
        let c : Canonical (root_of p) cs (bools gs) = (greedy-code_iff (root_of p) cs (root-choices p h.good) few (bools gs)).0 (greedy_to p cs gs i) in
        let e : packed gs ≡ pack 8 (bools gs) = ap packed (sym (numbers-bools gs (bits_are p gs i.code))) ∙ packed-pack (bools gs) in
        let n : length (packed gs) ≡ cell_count 8 (length (bools gs)) = ap length e ∙ length-pack 8 (bools gs) in (
          λ l.
              let m = r.1.fits (bools gs) c (subst (λ k. k ≤ length o) n l) in
              ((ap (λ x. x.number) m.0, ap (λ x. x.value) m.0 ∙ length-bools gs), m.1 ∙ ap (λ ws. ws ++ drop (length ws) o) (sym e)),
          λ l.
              let m = r.1.short (bools gs) c (subst (λ k. length o < k) n l) in
              ((ap (λ x. x.number) m.0, ap (λ x. x.value) m.0 ∙ sym n), m.1),
        )

    pub greedily_met : Greedily ns cs a o z
    unfolding says
    greedily_met = record {
      none_reads = λ e.
          let m = r.0.unreadable (λ v f. true≢false (sym ((marks-value p h.good cs).1 (v, f)) ∙ sym readable_same ∙ e)) in
          ((ap (λ x. x.number) m.0, ap (λ x. x.value) m.0), m.1);
      reads = greedily_read;
    }

-- ── the causes before the sweeps ──
bad_same : (i : ℕ) (cs : List ℕ) → first_bad i cs ≡ i + first_bad_of cs
unfolding first_bad first_bad_of letter_byte is_letter
bad_same i [] = omega arith
bad_same i (c ∷ cs) = go (letter_byte c) (bad_same (suc i) cs)
  where
    go : (b : Bool) → first_bad (suc i) cs ≡ suc i + first_bad_of cs → cond b (first_bad (suc i) cs) i ≡ i + cond b (suc (first_bad_of cs)) 0
    go true e = e ∙ omega arith
    go false e = omega arith

-- all are letters exactly if the first that is none is not there
pub good_same : (cs : List ℕ) → not (letters_good cs) ≡ ltb (first_bad_of cs) (length cs)
unfolding letters_good first_bad_of letter_byte is_letter
good_same [] = refl
good_same (c ∷ cs) = go (letter_byte c) (letters_good cs) (good_same cs)
  where
    up : (b : Bool) → not b ≡ ltb (first_bad_of cs) (length cs) → not b ≡ ltb (suc (first_bad_of cs)) (suc (length cs))
    up true e = sym (le-ltb (suc (first_bad_of cs)) (suc (length cs)) (omega (arith, ltb-false (first_bad_of cs) (length cs) (sym e))))
    up false e = sym (lt-ltb (suc (first_bad_of cs)) (suc (length cs)) (omega (arith, ltb-true (first_bad_of cs) (length cs) (sym e))))

    go : (b d : Bool) → not d ≡ ltb (first_bad_of cs) (length cs) → not (b && d) ≡ ltb (cond b (suc (first_bad_of cs)) 0) (suc (length cs))
    go true d e = up d e
    go false d e = sym (lt-ltb 0 (suc (length cs)) (omega arith))

-- a text loads exactly if its table obeys the rules
pub obeys_same : (text : List ℕ) → obeys (load_table text) ≡ eqb (load_refusal text).number 0
obeys_same text = go (eqb (load_refusal text).number 0) refl
  where
    positive : (x : ℕ) → (x ≡ 0 → ⊥) → 1 ≤ x
    positive zero f = absurd (f refl)
    positive (suc x) f = omega arith

    go : (b : Bool) → eqb (load_refusal text).number 0 ≡ b → obeys (load_table text) ≡ b
    go true e = (lists_03 text (loads_03 text (eqb-true (load_refusal text).number 0 e))).good
    go false e = not-obeyed text (positive (load_answer text).number (λ z. eqb-false (load_refusal text).number 0 e ((same_refusal text).numbers ∙ z)))

abbrev as_answer : Refusal → Answer
as_answer f = answer f.number f.line

early_same : (text cs : List ℕ) (w : ℕ) → early_of (load_table text) cs w ≡ as_answer (early text cs w)
unfolding early_of early
early_same text cs w =
    let k : 2 * (length cs + 1) ≡ 2 * suc (length cs) = omega arith in
    rw (obeys_same text, ← good_same cs, k) (go (eqb (load_refusal text).number 0) (ltb 3600 (length cs)) (letters_good cs) (ltb w (2 * suc (length cs))))
  where
    bad : first_bad_of cs ≡ first_bad 0 cs
    bad = sym (bad_same 0 cs ∙ omega arith)

    go : (a b c d : Bool)
        → cond (not a) (answer 2 0) (cond b (answer 3 0) (cond (not c) (answer 4 (first_bad_of cs)) (cond d (answer 6 (2 * suc (length cs))) (answer 0 0))))
        ≡ as_answer (cond (not a) (record { number = 2; line = 0 })
        (cond b (record { number = 3; line = 0 })
        (cond (not c) (record { number = 4; line = first_bad 0 cs })
        (cond d (record { number = 6; line = 2 * suc (length cs) }) (record { number = 0; line = 0 })))))
    go false b c d = refl
    go true true c d = refl
    go true false false d = ap (answer 4) bad
    go true false true true = refl
    go true false true false = refl

-- no cause before the sweeps
pub record Passes (text cs : List ℕ) : Type 0 where
  pub loads : (load_refusal text).number ≡ 0
  pub few : length cs ≤ letter_limit
  pub letters : letters_good cs ≡ true

pub passes : (text cs : List ℕ) (w : ℕ) → (early text cs w).number ≡ 0 → Passes text cs
unfolding early
passes text cs w h =
    go (eqb (load_refusal text).number 0) refl (ltb 3600 (length cs)) refl (letters_good cs) refl (ltb w (2 * suc (length cs))) h
  where
    go : (a : Bool) → eqb (load_refusal text).number 0 ≡ a → (b : Bool) → ltb 3600 (length cs) ≡ b → (c : Bool) → letters_good cs ≡ c → (d : Bool)
        → (cond {A = Refusal} (not a) (record { number = 2; line = 0 })
        (cond b (record { number = 3; line = 0 })
        (cond (not c) (record { number = 4; line = first_bad 0 cs })
        (cond d (record { number = 6; line = 2 * suc (length cs) }) (record { number = 0; line = 0 }))))).number ≡ 0 → Passes text cs
    go false ea b eb c ec d q = absurd (omega arith)
    go true ea true eb c ec d q = absurd (omega arith)
    go true ea false eb false ec d q = absurd (omega arith)
    go true ea false eb true ec d q = record {
      loads = eqb-true (load_refusal text).number 0 ea;
      few = ltb-false 3600 (length cs) eb;
      letters = ec;
    }

-- ── the contract ──
module _ (text cs a b o z : List ℕ) (r : ℕ) (f : ParsesText text cs a b o z r) where
  answered : (n : ℕ) → (early text cs (length a)).number ≡ suc n → ReadAs (suc n) (early text cs (length a)) (loaded text) cs (unpacked r) a b o z
  unfolding ReadAs says
  answered n e =
      let s = early_same text cs (length a) in
      let q = f.parses.refuses (subst (λ k. 1 ≤ k) (sym (ap (λ x. x.number) s ∙ e)) (omega arith)) in
      let w = f.answers ∙ q.0 ∙ s in
      ((ap (λ x. x.number) w, ap (λ x. x.value) w), q.1, q.2)

  read : (early text cs (length a)).number ≡ 0 → ReadAs 0 (early text cs (length a)) (loaded text) cs (unpacked r) a b o z
  unfolding ReadAs
  read e =
      let s = passes text cs (length a) e in
      let n : (early_of (load_table text) cs (length a)).number ≡ 0 = ap (λ x. x.number) (early_same text cs (length a)) ∙ e in
      let h = lists_03 text (loads_03 text s.loads) in (
        f.parses.fills n ∙ filled_same (load_table text) (loaded text) h cs s.few s.letters a,
        greedily_met (load_table text) (loaded text) h cs s.few s.letters (unpacked r) o z
            (subst (ReadsGreedily (root_of (load_table text)) cs o z) (sym f.answers) (f.parses.reads n)),
      )

  -- 03's contract of `read_tape` is met
  pub read-met : ReadSays text cs (unpacked r) a b o z
  unfolding ReadSays
  read-met = go (early text cs (length a)).number refl
    where
      go : (n : ℕ) → (early text cs (length a)).number ≡ n → ReadAs n (early text cs (length a)) (loaded text) cs (unpacked r) a b o z
      go zero e = read e
      go (suc n) e = answered n e
