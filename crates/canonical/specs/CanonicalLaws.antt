-- Laws of settling: one for each way of the code.
use Rattle.std.specs.Prelude.{◌≡◌, true, not, List, [], ◌∷◌, ◌++◌, ℕ, zero, suc, ◌+◌, ◌*◌, ◌-◌, ◌≤◌, ◌<◌, ltb, leb, take, Err, Ok, Result}
use Rattle.std.proofs.Math.Path.{refl, sym, ap}
use Rattle.std.proofs.Common.{subst, ◌∙◌, arith, ltb-false, le-ltb, length-take}
use Rattle.std.proofs.Math.ListN.{length, drop}
use Rattle.std.proofs.Math.Seq.{take_at}
use Rattle.syntax.specs.declared.Leaf.TheVariants.{Nothing, Letter, Range}
use Rattle.syntax.specs.declared.Node.{Node}
use Rattle.syntax.specs.declared.Node.TheVariants.{Leaf as LeafNode, Sequence, Alternative, Star}
use Rattle.syntax.specs.declared.Pattern.{Pattern}
use Rattle.refusals.specs.declared.Refusal.{Refusal}
use Rattle.refusals.specs.declared.Refusal.TheVariants.{Tree as TreeFault, TapeTooLong, TapeByte}
use Rattle.syntax.specs.Bools.{and_snd}
use Rattle.syntax.specs.Letter.{is_letter, first_bad, letter_limit}
use Rattle.refusals.specs.Refusals.{answer, refused}
use Rattle.refusals.specs.Checks.{Check, First, Clear}
use Rattle.refusals.specs.CheckLaws.{first_answered, first_positive, first_more, clear_success, clear_more}
use Rattle.refusals.specs.CheckLaws.{clear_both, clear_parts, zero_clear, refused_first}
use Rattle.syntax.specs.Table.{obeys, line_at, node_at, line_good, node_good, account_limit}
use Rattle.syntax.specs.Tree.{Label, Tree}
use Rattle.syntax.specs.Trees.{made, tree_of, root}
use Rattle.syntax.specs.TreeLaws.{Below, Rules, obeys_iff, tree-line}
use Rattle.bits.specs.Bits.{in_front}
use Rattle.semantics.specs.Value.{flat}
use Rattle.semantics.specs.Every.{Lettered}
use Rattle.semantics.proofs.LetterLaws.{flat-letters}
use Rattle.semantics.specs.Every.{All}
use Rattle.steps.specs.StateSets.{words}
use Rattle.entries.specs.CodeOrder.{code_order, clear_sound}
use Rattle.walks.specs.Whole.{whole_code}
use Rattle.codes.specs.Flatten.{room_check, flatten_order, flatten_answer, flatten_tape, flattened_answer, Flattens}
use Rattle.codes.specs.FlattenLaws.{flatten_clear, flatten_fills}
use Rattle.walks.specs.WholeLaws.{whole-handed, whole-value, spells}
use Rattle.parser.specs.Parse.{parsed_answer, early, ReadsGreedily, Parses}
use Rattle.canonical.specs.Canonicalize.{canonicalized_answer, word_check, settle_order, settle_early, Canonicalizes}
use Rattle.canonical.specs.Demand.{tape_of}

-- ── a spelling that is not refused ──
pub record Spelled (p : Pattern) (code : List ℕ) (count size : ℕ) : Type 0 where
  pub good : obeys p ≡ true
  pub whole : whole_code (root p) code count ≡ true
  pub few : length (tape_of p code count) ≤ letter_limit
  pub room : length (tape_of p code count) ≤ size
  pub value_is : (flatten_answer p code count size).value ≡ length (tape_of p code count)

clear_spelled : (p : Pattern) (code : List ℕ) (count size : ℕ) → Clear (flatten_order p code count size) → Spelled p code count size
unfolding flatten_answer
clear_spelled p code count size c =
    let (d, e) = clear_parts (code_order p code count) (room_check p code count size) c in
    let s = clear_sound p code count d in
    record {
      good = s.good;
      whole = s.whole;
      few = s.few;
      room = ltb-false size (length (tape_of p code count)) e.0;
      value_is = ap (λ a. a.value) (clear_success (flatten_order p code count size) (answer 0 (length (tape_of p code count))) c);
    }

pub spelled : (p : Pattern) (code : List ℕ) (count size : ℕ) → (flatten_answer p code count size).number ≡ 0 → Spelled p code count size
unfolding flatten_answer
spelled p code count size h =
    clear_spelled p code count size (zero_clear (flatten_order p code count size) (answer 0 (length (tape_of p code count))) h)

pub spelled_clear : (p : Pattern) (code : List ℕ) (count size : ℕ) → Spelled p code count size → Clear (flatten_order p code count size)
spelled_clear p code count size s =
    flatten_clear p code count (record { good = s.good; whole = s.whole; few = s.few }) size s.room

-- nothing before the sweeps refuses
pub settle_passed : (p : Pattern) (code : List ℕ) (count size n : ℕ) → (settle_early p code count size n).number ≡ 0
    → Spelled p code count size × (2 * (length (tape_of p code count) + 1) ≤ n)
unfolding settle_early
settle_passed p code count size n z =
    let c = clear_parts (flatten_order p code count size) (word_check p code count n)
    (zero_clear (settle_order p code count size n) (answer 0 0) z) in
    (clear_spelled p code count size c.0, ltb-false n (2 * (length (tape_of p code count) + 1)) c.1.0)

-- ── what a code spells is letters ──
module _ (p : Pattern) (r : Rules p) where
  made_lettered : (m : Label) (f : ℕ → Tree) (l : ℕ) (k : Node) → node_good k ≡ true → Below l k → ((q : ℕ) → q < l → Lettered (f q)) → Lettered (made m f k)
  made_lettered m f l (LeafNode Nothing) g b h = tt
  made_lettered m f l (LeafNode (Letter c)) g b h = g
  made_lettered m f l (LeafNode (Range x y)) g b h = tt
  made_lettered m f l (Sequence x y) g b h = (h x b.0, h y b.1)
  made_lettered m f l (Alternative x y) g b h = (h x b.0, h y b.1)
  made_lettered m f l (Star again x) g b h = h x b

  node_formed : (l : ℕ) → l < p.count → node_good (node_at p l) ≡ true
  unfolding line_good
  node_formed l h = and_snd (leb (line_at p l).account account_limit) (node_good (node_at p l)) (r.formed l h)

  lettered : (n l : ℕ) → l < n → l < p.count → Lettered (tree_of (line_at p) l)
  lettered zero l h k = absurd (omega arith)
  lettered (suc n) l h k =
      rw (tree-line (line_at p) l (r.lower l k))
      (made_lettered (record { index = l; account = (line_at p l).account }) (tree_of (line_at p)) l (node_at p l) (node_formed l k) (r.lower l k)
      (λ q g. lettered n q (omega arith) (omega arith)))

  root_lettered : Lettered (root p)
  unfolding root
  root_lettered = let one = r.one in lettered p.count (p.count - 1) (omega arith) (omega arith)

all_good : (ls : List ℕ) → All (λ c. is_letter c ≡ true) ls → length ls ≤ first_bad ls
unfolding first_bad
all_good [] h = omega arith
all_good (c ∷ ls) h = rw h.0 (omega (arith, all_good ls h.1))

pub letters_good : (p : Pattern) (code : List ℕ) (count size : ℕ) → Spelled p code count size
    → length (tape_of p code count) ≤ first_bad (tape_of p code count)
letters_good p code count size s =
    let (v, e) = whole-value (root p) code count s.whole in
    let f = spells (root p) code count (whole-handed (root p) code count s.whole) v e in
    rw f (all_good (flat (root p) v) (flat-letters (root p) (root_lettered p ((obeys_iff p).0 s.good)) v))

-- ── the tape that is read ──
pub record Laid (p : Pattern) (code : List ℕ) (count : ℕ) (ts us : List ℕ) (n : ℕ) : Type 0 where
  pub it : Spelled p code count (length ts)
  pub tape_is : us ≡ flatten_tape p code count ts
  pub front_is : take n us ≡ tape_of p code count
  pub size_is : n ≡ length (tape_of p code count)

module _ (p : Pattern) (code : List ℕ) (count : ℕ) (ts us : List ℕ) (f : Result ℕ Refusal) (h : Flattens p code count ts us f) where
  pub laid : (n : ℕ) → f ≡ Ok n → Laid p code count ts us n
  unfolding in_front
  laid n e =
      let a : answer 0 n ≡ flatten_answer p code count (length ts) = sym (ap flattened_answer e) ∙ h.answers in
      let s = spelled p code count (length ts) (sym (ap (λ x. x.number) a)) in
      let t : us ≡ tape_of p code count ++ drop (length (tape_of p code count)) ts =
      h.leaves ∙ flatten_fills p code count ts (spelled_clear p code count (length ts) s) in
      let m : n ≡ length (tape_of p code count) = ap (λ x. x.value) a ∙ s.value_is in
      record {
        it = s;
        tape_is = h.leaves;
        size_is = m;
        front_is = ap (take n) t ∙ take_at (tape_of p code count) (drop (length (tape_of p code count)) ts) n (sym m);
      }

  pub settle_refused : (why : Refusal) (ws xs : List ℕ) → f ≡ Err why → Canonicalizes p code count ts us ws ws xs xs (Err why)
  unfolding flatten_answer settle_early
  settle_refused why ws xs e =
      let a : flatten_answer p code count (length ts) ≡ refused why = sym h.answers ∙ ap flattened_answer e in
      let k = refused_first (flatten_order p code count (length ts)) (answer 0 (length (tape_of p code count))) refl why a in
      let l : First why (settle_order p code count (length ts) (length ws)) = first_more (word_check p code count (length ws)) k in
      let n = first_positive l (answer 0 0) in
      record {
        spells = h.leaves;
        refuses = λ _. (sym (first_answered l (answer 0 0)), refl, refl);
        fills = λ z. absurd (omega (arith, z, n));
        reads = λ z. absurd (omega (arith, z, n));
      }

-- the letters lie inside the tape
pub laid-room : (p : Pattern) (code : List ℕ) (count : ℕ) (ts us : List ℕ) (n : ℕ) → Laid p code count ts us n → n ≤ length us
laid-room p code count ts us n l = omega (arith, l.size_is, length-take n us, ap length l.front_is)

-- ── reading it ──
-- reading's checks but the last
abbrev tape_checks : Pattern → (tape : List ℕ) → List Check
tape_checks p tape =
    (not (obeys p), TreeFault 0) ∷ (ltb letter_limit (length tape), TapeTooLong) ∷ (ltb (first_bad tape) (length tape), TapeByte (first_bad tape)) ∷ []

-- what settling refuses before the sweeps is what reading the letters does
settle_early_is : (p : Pattern) (code : List ℕ) (count size : ℕ) → Spelled p code count size → (n : ℕ)
    → settle_early p code count size n ≡ early p (tape_of p code count) n
unfolding settle_early early
settle_early_is p code count size s n =
    let few = le-ltb letter_limit (length (tape_of p code count)) s.few in
    let letters = le-ltb (first_bad (tape_of p code count)) (length (tape_of p code count)) (letters_good p code count size s) in
    clear_more (flatten_order p code count size) (word_check p code count n) (answer 0 0) (spelled_clear p code count size s)
    ∙ sym (clear_more (tape_checks p (tape_of p code count)) (word_check p code count n) (answer 0 0) (ap not s.good, (few, (letters, tt))))

pub settle_read :
    (p : Pattern) (code : List ℕ) (count : ℕ) (ts us : List ℕ) (n : ℕ) → Laid p code count ts us n → (ws vs xs ys : List ℕ) (r : Result ℕ Refusal)
    → Parses p (take n us) ws vs xs ys r → (a : Result ℕ Refusal) → canonicalized_answer a ≡ parsed_answer r → Canonicalizes p code count ts us ws vs xs ys a
settle_read p code count ts us n l ws vs xs ys r w a e =
    let v : Parses p (tape_of p code count) ws vs xs ys r = subst (λ t. Parses p t ws vs xs ys r) l.front_is w in
    let q = settle_early_is p code count (length ts) l.it (length ws) in
    record {
      spells = l.tape_is;
      refuses = λ k. let m = v.refuses (subst (λ x. 1 ≤ x.number) q k) in (e ∙ m.0 ∙ sym q, m.1, m.2);
      fills = λ z. v.fills (sym (ap (λ x. x.number) q) ∙ z);
      reads = λ z. subst (λ b. ReadsGreedily (root p) (tape_of p code count) xs ys b) (sym e) (v.reads (sym (ap (λ x. x.number) q) ∙ z));
    }

-- ── what the promise says of a code that is spelled, and has its words ──
module _ (p : Pattern) (code : List ℕ) (count : ℕ) (ts us ws vs xs ys : List ℕ) (r : Result ℕ Refusal) (h : Canonicalizes p code count ts us ws vs xs ys r) where
  pub settles :
      obeys p ≡ true → whole_code (root p) code count ≡ true → length (tape_of p code count) ≤ letter_limit → length (tape_of p code count) ≤ length ts
      → 2 * (length (tape_of p code count) + 1) ≤ length ws
      → (us ≡ in_front (tape_of p code count) ts) × (vs ≡ in_front (words p (tape_of p code count)) ws)
      × ReadsGreedily (root p) (tape_of p code count) xs ys (canonicalized_answer r)
  unfolding settle_early
  settles good whole few room enough =
      let c = flatten_clear p code count (record { good = good; whole = whole; few = few }) (length ts) room in
      let d = clear_both (flatten_order p code count (length ts)) (word_check p code count (length ws)) c
      (le-ltb (length ws) (2 * (length (tape_of p code count) + 1)) enough, tt) in
      let z = ap (λ a. a.number) (clear_success (settle_order p code count (length ts) (length ws)) (answer 0 0) d) in
      (h.spells ∙ flatten_fills p code count ts c, h.fills z, h.reads z)
