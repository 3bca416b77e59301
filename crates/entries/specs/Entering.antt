-- Entering into two slices: what a call asks and what it leaves, as records; and the steps of the walk, each as one law.
use Rattle.std.specs.Prelude.{◌≡◌, refl, Bool, true, false, cond, List, [], ◌∷◌, ◌++◌, map, ℕ, suc, ◌+◌, ◌*◌, ◌≤◌, ◌<◌, min, length, set, Option, Some, None}
use Rattle.std.proofs.Common.{sym, ap, ap₂, subst, ◌∙◌, arith, length-append, length-set}
use Rattle.std.proofs.lemmas.Option.{none-some, same_Some}
use Rattle.std.proofs.Math.Option.{none, some, none-ne-some}
use Rattle.std.proofs.Math.Decide.{dec_lt}
use Rattle.std.proofs.lemmas.List.Edits.{sets}
use Rattle.std.proofs.Math.Seq.{set_out}
use Rattle.syntax.specs.declared.Leaf.{Leaf}
use Rattle.syntax.specs.declared.Node.{Node}
use Rattle.syntax.specs.declared.Node.TheVariants.{Leaf as LeafNode, Sequence, Alternative, Star}
use Rattle.syntax.specs.Letter.{letter_limit}
use Rattle.syntax.specs.Tree.{Label, Tree}
use Rattle.syntax.specs.Trees.{made}
use Rattle.bits.specs.Bits.{bit_at, byte_limit}
use Rattle.semantics.specs.Accounts.{handed_down}
use Rattle.semantics.specs.Owned.{letters}
use Rattle.semantics.specs.Positions.{Seen, joined}
use Rattle.table.specs.Cells.{node_in, account_in, tree_in, Good}
use Rattle.walks.specs.Looks.{stops, same_seen, then_some}
use Rattle.walks.specs.Lines.{line_as, star_as, first_lower, second_lower, side_lower, star_lower}
use Rattle.entries.specs.declared.Entered.{Entered}
use Rattle.entries.specs.Entries.{Entries, accounts_in, entries_at, entries_then, leaf_tree, leaf_entries, entries_stays}
use Rattle.entries.specs.Entries.{entries_seq, entries_alt_none, entries_side}
use Rattle.entries.specs.Entries.{entries_star_none, entries_stop, entries-round}

-- a position of the code, a cell, and slices of no more cells than a tape has letters
pub record Ready (code tape owners : List ℕ) (at n : ℕ) : Type 0 where
  pub within : at ≤ length code * 8
  pub short : length code ≤ byte_limit
  pub few : n ≤ letter_limit + 1
  pub long : length tape ≤ letter_limit
  pub wide : length owners ≤ letter_limit

pub ready_at : {code tape owners : List ℕ} {at n j : ℕ} → Ready code tape owners at n → j ≤ length code * 8 → Ready code tape owners j n
ready_at s h = record { within = h; short = s.short; few = s.few; long = s.long; wide = s.wide }

-- 3,601 stands for every number of letters above 3,600: a letter is spelled without a bit, so the number itself need not fit a machine word
abbrev pub cap : ℕ → ℕ
cap n = min (letter_limit + 1) n

abbrev pub went : (at n : ℕ) → Entered
went at n = record { at = at; n = n }

-- what a walk from cell n on answers
abbrev pub entered : Seen Entries → (n : ℕ) → Option Entered
entered none n = None
entered (some p) n = Some (went p.1 (cap (n + length p.0)))

-- the bits from `at` on were tested; where they are entries, those were written from cell n on and nothing else. A cell that a slice does not
-- have is not written.
pub record Enters (code : List ℕ) (t : Tree) (above at n : ℕ) (tape owners tape_now owners_now : List ℕ) (r : Option Entered) : Type 0 where
  pub long : length tape_now ≡ length tape
  pub wide : length owners_now ≡ length owners
  pub answer : r ≡ entered (entries_at code t above at) n
  pub wrote : (es : Entries) (j : ℕ) → entries_at code t above at ≡ some (es, j)
      → (tape_now ≡ sets tape n (letters es)) × (owners_now ≡ sets owners n (accounts_in es))

-- what a walk that went entered
pub record Wrote (code : List ℕ) (t : Tree) (above at n : ℕ) (tape owners tape_now owners_now : List ℕ) (stop next : ℕ) : Type 0 where
  pub entries : Entries
  pub is : entries_at code t above at ≡ some (entries, stop)
  pub count : next ≡ cap (n + length entries)
  pub spelled : tape_now ≡ sets tape n (letters entries)
  pub owned : owners_now ≡ sets owners n (accounts_in entries)

-- ── stores one behind the other; those past a slice's end change nothing, wherever they start ──
sets_past : (vs l : List ℕ) (n : ℕ) → length l ≤ n → sets l n vs ≡ l
sets_past [] l n h = refl
sets_past (v ∷ vs) l n h =
    let e = set_out l n v h in
    ap (λ k. sets k (suc n) vs) e ∙ sets_past vs l (suc n) (omega arith)

sets-cap : (vs l : List ℕ) (n : ℕ) → length l ≤ letter_limit → sets l (cap n) vs ≡ sets l n vs
sets-cap vs l n h = go (dec_lt n (letter_limit + 1))
  where
    go : Dec (n < letter_limit + 1) → sets l (cap n) vs ≡ sets l n vs
    go (yes k) = let e : cap n ≡ n = omega arith in ap (λ i. sets l i vs) e
    go (no k) = sets_past vs l (cap n) (omega arith) ∙ sym (sets_past vs l n (omega arith))

sets_run : (f : ℕ × ℕ → ℕ) (es fs : Entries) (l : List ℕ) (n : ℕ) → sets (sets l n (map f es)) (n + length es) (map f fs) ≡ sets l n (map f (es ++ fs))
sets_run f [] fs l n = ap (λ k. sets l k (map f fs)) (omega arith)
sets_run f (e ∷ es) fs l n = ap (λ k. sets (sets (set l n (f e)) (suc n) (map f es)) k (map f fs)) (omega arith) ∙ sets_run f es fs (set l n (f e)) (suc n)

sets-both : (f : ℕ × ℕ → ℕ) (es fs : Entries) (l k h : List ℕ) (n m : ℕ) → length k ≤ letter_limit → k ≡ sets l n (map f es) → m ≡ cap (n + length es)
    → h ≡ sets k m (map f fs) → h ≡ sets l n (map f (es ++ fs))
sets-both f es fs l k h n m s e i g =
    g ∙ ap (λ y. sets k y (map f fs)) i ∙ sets-cap (map f fs) k (n + length es) s
    ∙ ap (λ x. sets x (n + length es) (map f fs)) e ∙ sets_run f es fs l n

-- ── what the answer tells ──
module _ {code : List ℕ} {t : Tree} {o at n : ℕ} {xs ys xs' ys' : List ℕ} {r : Option Entered} (w : Enters code t o at n xs ys xs' ys' r) where
  pub enters_none : r ≡ None → entries_at code t o at ≡ none
  enters_none f = go (entries_at code t o at) refl
    where
      go : (s : Seen Entries) → entries_at code t o at ≡ s → entries_at code t o at ≡ none
      go none e = e
      go (some p) e = absurd (none-some _ (sym f ∙ w.answer ∙ ap (λ s. entered s n) e))

  module _ {q : Entered} (f : r ≡ Some q) where
    pub enters_some : Wrote code t o at n xs ys xs' ys' q.at q.n
    enters_some = go (entries_at code t o at) refl
      where
        go : (s : Seen Entries) → entries_at code t o at ≡ s → Wrote code t o at n xs ys xs' ys' q.at q.n
        go none e = absurd (none-some q (sym (w.answer ∙ ap (λ s. entered s n) e) ∙ f))
        go (some p) e =
            let a = same_Some _ _ (sym f ∙ w.answer ∙ ap (λ s. entered s n) e) in
            let (g, h) = w.wrote p.0 p.1 e in
            record {
              entries = p.0;
              is = e ∙ ap (λ j. some (p.0, j)) (sym (ap (λ x. x.at) a));
              count = ap (λ x. x.n) a;
              spelled = g;
              owned = h;
            }

    pub enters_few : q.n ≤ letter_limit + 1
    enters_few = omega (arith, enters_some.count)

    pub enters_stays : at ≤ length code * 8 → (at ≤ q.at) × (q.at ≤ length code * 8)
    enters_stays le = entries_stays code o at t le enters_some.entries q.at enters_some.is

    -- the slices are as long as they were
    pub enters_ready : Ready code xs ys at n → Ready code xs' ys' q.at q.n
    enters_ready s =
        record {
          within = (enters_stays s.within).1;
          short = s.short;
          few = enters_few;
          long = omega (arith, w.long, s.long);
          wide = omega (arith, w.wide, s.wide);
        }

-- ── the steps ──
-- the entries of v from `at` on are those of t from `from` on and then those of u, whatever the trees and accounts
pub record Parts (code : List ℕ) (v : Tree) (ov at : ℕ) (t : Tree) (ot from : ℕ) (u : Tree) (ou : ℕ) : Type 0 where
  pub within : from ≤ length code * 8
  pub is : entries_at code v ov at ≡ entries_then (entries_at code t ot from) (entries_at code u ou)

-- or those of t alone
pub record Same (code : List ℕ) (v : Tree) (ov at : ℕ) (t : Tree) (ot from : ℕ) : Type 0 where
  pub within : from ≤ length code * 8
  pub is : entries_at code v ov at ≡ entries_at code t ot from

-- where the entries are known: the bits are not all there, or there are none, or one
module _ {code : List ℕ} {t : Tree} {o at n : ℕ} where
  pub not_entered : {xs ys xs' ys' : List ℕ} {r : Option Entered} → length xs' ≡ length xs → length ys' ≡ length ys → r ≡ None → entries_at code t o at ≡ none
      → Enters code t o at n xs ys xs' ys' r
  not_entered f g a e =
      record {
        long = f;
        wide = g;
        answer = a ∙ ap (λ s. entered s n) (sym e);
        wrote = λ es j k. absurd (none-ne-some (es, j) (sym e ∙ k));
      }

  pub none_entered : {j : ℕ} (xs ys : List ℕ) → n ≤ letter_limit + 1 → entries_at code t o at ≡ some ([], j) → Enters code t o at n xs ys xs ys (Some (went j n))
  none_entered {j} xs ys h e =
      let c : n ≡ cap (n + 0) = omega arith in
      record {
        long = refl;
        wide = refl;
        answer = ap (λ k. Some (went j k)) c ∙ ap (λ s. entered s n) (sym e);
        wrote = λ es i k. let (f, g) = same_seen (sym e ∙ k) in (ap (λ l. sets xs n (letters l)) f, ap (λ l. sets ys n (accounts_in l)) f);
      }

  pub one_entered : {c a j : ℕ} → entries_at code t o at ≡ some ((c, a) ∷ [], j) → {xs ys xs' ys' : List ℕ} {q : Entered}
      → xs' ≡ set xs n c → ys' ≡ set ys n a → q ≡ went j (cap (n + 1)) → Enters code t o at n xs ys xs' ys' (Some q)
  one_entered {c} {a} {j} e {xs} {ys} {xs'} {ys'} {q} f g h =
      record {
        long = ap length f ∙ length-set xs n c;
        wide = ap length g ∙ length-set ys n a;
        answer = ap Some h ∙ ap (λ s. entered s n) (sym e);
        wrote = λ es i k. let (p, _) = same_seen (sym e ∙ k) in (f ∙ ap (λ l. sets xs n (letters l)) p, g ∙ ap (λ l. sets ys n (accounts_in l)) p);
      }

entered_join : (es : Entries) (s : Seen Entries) (n m : ℕ) → m ≡ cap (n + length es) → entered s m ≡ entered (joined ◌++◌ es s) n
entered_join es none n m e = refl
entered_join es (some q) n m e =
    let c : cap (m + length q.0) ≡ cap (n + length (es ++ q.0)) = omega (arith, e, length-append es q.0) in ap (λ k. Some (went q.1 k)) c

module _ {code : List ℕ} {v : Tree} {ov at : ℕ} {t : Tree} {ot from : ℕ} {u : Tree} {ou : ℕ} (e : Parts code v ov at t ot from u ou) where
  module _ {n : ℕ} {xs ys xs' ys' : List ℕ} {r : Option Entered} (w : Enters code t ot from n xs ys xs' ys' r) where
    -- the first part fails: so does the whole
    pub first_failed : r ≡ None → Enters code v ov at n xs ys xs' ys' None
    first_failed f =
        not_entered w.long w.wide refl (e.is ∙ ap (λ s. entries_then s (entries_at code u ou)) (enters_none w f))

    module _ {q : Entered} (f : r ≡ Some q) (sx : length xs ≤ letter_limit) (sy : length ys ≤ letter_limit) where
      pub both-entered : {xs'' ys'' : List ℕ} {z : Option Entered}
          → Enters code u ou q.at q.n xs' ys' xs'' ys'' z → Enters code v ov at n xs ys xs'' ys'' z
      both-entered {xs''} {ys''} {z} k =
          let one = enters_some w f in
          let is = e.is ∙ ap (λ s. entries_then s (entries_at code u ou)) one.is in
          record {
            long = k.long ∙ w.long;
            wide = k.wide ∙ w.wide;
            answer = k.answer ∙ entered_join one.entries (entries_at code u ou q.at) n q.n one.count ∙ ap (λ s. entered s n) (sym is);
            wrote = λ fs j g.
                let (x, i, y, p, b, h) = then_some ◌++◌ (some (one.entries, q.at)) (entries_at code u ou) fs j (sym is ∙ g) in
                let (px, pi) = same_seen p in
                let (l, m) = k.wrote y j (ap (entries_at code u ou) pi ∙ b) in
                let all = ap (λ a. a ++ y) px ∙ h in (
                  sets-both (λ e. e.0) one.entries y xs xs' xs'' n q.n (omega (arith, w.long, sx)) one.spelled one.count l
                      ∙ ap (λ a. sets xs n (letters a)) all,
                  sets-both (λ e. e.1) one.entries y ys ys' ys'' n q.n (omega (arith, w.wide, sy)) one.owned one.count m
                      ∙ ap (λ a. sets ys n (accounts_in a)) all,
                );
          }

      -- with the second part's account by an equation, behind the promise that it is in: a wrong one is then named (docs/PROVING.md)
      pub both-charged : {o : ℕ} {xs'' ys'' : List ℕ} {z : Option Entered}
          → Enters code u o q.at q.n xs' ys' xs'' ys'' z → o ≡ ou → Enters code v ov at n xs ys xs'' ys'' z
      both-charged {o} {xs''} {ys''} {z} k e = both-entered (subst (λ a. Enters code u a q.at q.n xs' ys' xs'' ys'' z) e k)

module _ {code : List ℕ} {v : Tree} {ov at : ℕ} {t : Tree} {ot from : ℕ} (e : Same code v ov at t ot from) where
  pub same_entered : {n : ℕ} {xs ys xs' ys' : List ℕ} {r : Option Entered} → Enters code t ot from n xs ys xs' ys' r → Enters code v ov at n xs ys xs' ys' r
  same_entered {n} w =
      record {
        long = w.long;
        wide = w.wide;
        answer = w.answer ∙ ap (λ s. entered s n) (sym e.is);
        wrote = λ es j k. w.wrote es j (sym e.is ∙ k);
      }

-- ── at a line: its node is n, it is handed o and hands down w ──
pub record AtLine (table : List ℕ) (l o w : ℕ) (n : Node) : Type 0 where
  pub good : Good table
  pub below : l < 64
  pub node : n ≡ node_in table l
  pub owner : w ≡ handed_down (account_in table l) o

pub line_known : {table : List ℕ} {l o own w : ℕ} {n : Node} → Good table → l < 64 → n ≡ node_in table l → own ≡ account_in table l → w ≡ handed_down own o
    → AtLine table l o w n
line_known {o = o} g s en eo ew = record { good = g; below = s; node = en; owner = ew ∙ ap (λ a. handed_down a o) eo }

module _ {table : List ℕ} {l o w : ℕ} {n : Node} (k : AtLine table l o w n) where
  abbrev T : ℕ → Tree
  T = tree_in table

  abbrev m : Label
  m = record { index = l; account = account_in table l }

  pub first_below : (p q : ℕ) → n ≡ Sequence p q → p < l
  first_below p q e = first_lower k.good l k.below n k.node p q e

  pub second_below : (p q : ℕ) → n ≡ Sequence p q → q < l
  second_below p q e = second_lower k.good l k.below n k.node p q e

  pub side_below : (p q : ℕ) → n ≡ Alternative p q → (b : Bool) (r : ℕ) → r ≡ cond b q p → r < l
  side_below p q e b r er = side_lower k.good l k.below n k.node p q e b r er

  pub star_below : (again : Bool) (p : ℕ) → n ≡ Star again p → p < l
  star_below again p e = star_lower k.good l k.below n k.node again p e

  module _ (code : List ℕ) (at : ℕ) where
    entries_as : (x : Node) → n ≡ x → entries_at code (T l) o at ≡ entries_at code (made m T x) o at
    entries_as x e = ap (λ t. entries_at code t o at) (line_as k.good l k.below n k.node x e)

    pub leaf_is : (x : Leaf) → n ≡ LeafNode x → at ≤ length code * 8 → Same code (T l) o at (leaf_tree x) w at
    leaf_is x e le =
        record {
          within = le;
          is = entries_as (LeafNode x) e ∙ leaf_entries code m T x o at ∙ ap (λ z. entries_at code (leaf_tree x) z at) (sym k.owner);
        }

    pub seq_is : (p q : ℕ) → n ≡ Sequence p q → at ≤ length code * 8 → {i j : ℕ} → i ≡ p → j ≡ q → Parts code (T l) o at (T i) w at (T j) w
    seq_is p q e le {i} {j} ei ej =
        record {
          within = le;
          is = entries_as (Sequence p q) e ∙ entries_seq code o at m (T p) (T q) le
              ∙ ap (λ z. entries_then (entries_at code (T p) z at) (entries_at code (T q) z)) (sym k.owner)
              ∙ ap₂ (λ x y. entries_then (entries_at code (T x) w at) (entries_at code (T y) w)) (sym ei) (sym ej);
        }

    pub side_is : (p q r : ℕ) → n ≡ Alternative p q → at < length code * 8 → r ≡ cond (bit_at 8 code at) q p
        → Same code (T l) o at (T r) w (at + 1)
    side_is p q r e h er =
        record {
          within = omega arith;
          is = entries_as (Alternative p q) e ∙ entries_side code o at m (T p) (T q) h
              ∙ ap₂ (λ t z. entries_at code t z (at + 1)) (pick (bit_at 8 code at) ∙ ap T (sym er)) (sym k.owner);
        }
      where
        pick : (b : Bool) → cond b (tree_in table q) (tree_in table p) ≡ tree_in table (cond b q p)
        pick true = refl
        pick false = refl

    pub stop_is : (again : Bool) (p : ℕ) → n ≡ Star again p → at < length code * 8 → (s : Bool) → s ≡ stops again (bit_at 8 code at) → s ≡ true
        → entries_at code (T l) o at ≡ some ([], at + 1)
    stop_is again p e h s es z = entries_stop code o at (star_as k.good l k.below n k.node again p e) h s es z

    pub round_is : (again : Bool) (p : ℕ) → n ≡ Star again p → at < length code * 8 → (s : Bool) → s ≡ stops again (bit_at 8 code at) → s ≡ false
        → {i : ℕ} → i ≡ p → Parts code (T l) o at (T i) w (at + 1) (T l) o
    round_is again p e h s es z {i} ei =
        record {
          within = omega arith;
          is = entries-round code o at (star_as k.good l k.below n k.node again p e) h s es z w k.owner
              ∙ ap (λ x. entries_then (entries_at code (T x) w (at + 1)) (entries_at code (T l) o)) (sym ei);
        }

    pub alt_none_is : (p q : ℕ) → n ≡ Alternative p q → length code * 8 ≤ at → entries_at code (T l) o at ≡ none
    alt_none_is p q e h = entries_as (Alternative p q) e ∙ entries_alt_none code o at m (T p) (T q) h

    pub star_none_is : (again : Bool) (p : ℕ) → n ≡ Star again p → length code * 8 ≤ at → entries_at code (T l) o at ≡ none
    star_none_is again p e h = entries_star_none code o at (star_as k.good l k.below n k.node again p e) h

-- rounds: what is left to do from `here` on the slices as they are now does what was to be done from `at` on the slices as they were
pub record Turns (code : List ℕ) (t : Tree) (o at n : ℕ) (xs₀ ys₀ : List ℕ) (here m : ℕ) (xs ys : List ℕ) : Type 0 where
  pub low : at ≤ here
  pub long : length xs ≡ length xs₀
  pub wide : length ys ≡ length ys₀
  pub ready : Ready code xs ys here m
  pub finish : (xs' ys' : List ℕ) (r : Option Entered) → Enters code t o here m xs ys xs' ys' r → Enters code t o at n xs₀ ys₀ xs' ys' r

module _ {code : List ℕ} {t : Tree} {o at n : ℕ} {xs₀ ys₀ : List ℕ} where
  pub turns_start : Ready code xs₀ ys₀ at n → Turns code t o at n xs₀ ys₀ at n xs₀ ys₀
  turns_start s = record { low = omega arith; long = refl; wide = refl; ready = s; finish = λ xs' ys' r w. w }

  module _ {here m : ℕ} {xs ys : List ℕ} (i : Turns code t o at n xs₀ ys₀ here m xs ys) {u : Tree} {w : ℕ}
      (e : Parts code t o here u w (here + 1) t o) where
    pub turn_ready : Ready code xs ys (here + 1) m
    turn_ready = ready_at i.ready e.within

    module _ {xs' ys' : List ℕ} {r : Option Entered} (x : Enters code u w (here + 1) m xs ys xs' ys' r) where
      pub turns_failed : r ≡ None → Enters code t o at n xs₀ ys₀ xs' ys' None
      turns_failed f = i.finish xs' ys' None (first_failed e x f)

      pub turns_more : {q : Entered} → r ≡ Some q → Turns code t o at n xs₀ ys₀ q.at q.n xs' ys'
      turns_more f =
          record {
            low = omega (arith, i.low, enters_stays x f e.within);
            long = x.long ∙ i.long;
            wide = x.wide ∙ i.wide;
            ready = enters_ready x f turn_ready;
            finish = λ xs'' ys'' z y. i.finish xs'' ys'' z (both-entered e x f i.ready.long i.ready.wide y);
          }
