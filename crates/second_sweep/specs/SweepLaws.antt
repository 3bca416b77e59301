-- Laws of the second sweep: what was written, put together, and the parts of a tree that can be swept.
use Rattle.std.specs.Prelude.{◌≡◌, refl, Bool, true, false, ◌&&◌, ◌||◌, cond, List, [], ◌∷◌, ◌++◌, ℕ, ◌+◌, ◌*◌, ◌≤◌, ◌<◌, eqb, get_or, drop}
use Rattle.std.proofs.Common.{sym, subst, ◌∙◌, true≢false, add-zero, arith, length-append, length-drop, drop-drop, get_or-drop}
use Rattle.std.proofs.Math.Path.{ap, ap₂}
use Rattle.std.proofs.Math.Bool.{not}
use Rattle.std.proofs.Math.Decide.{dec_le}
use borrow.Author.Tests.{le-leb, lt-leb, le-ltb, lt-ltb}
use Rattle.std.proofs.Math.ListN.{length}
use Rattle.syntax.specs.declared.Leaf.TheVariants.{Nothing, Letter, Range}
use Rattle.syntax.specs.Tree.{Label, Tree, range, seq, alt, star, index}
use Rattle.bits.specs.Bits.{write, bits_of}
use Rattle.table.specs.Cells.{follower_in, loops_in}
use Rattle.bits.specs.Numbers.{length-bits_of}
use Rattle.bits.specs.Writing.{write-write, length-write}
use Rattle.semantics.specs.Value.{nonempty}
use Rattle.semantics.specs.Sweeps.{After, after_round, can, another}
use Rattle.second_sweep.specs.declared.Swept.{Swept}
use Rattle.second_sweep.specs.Parts.{whole, short, seq_sweeps, side_sweeps, round_sweeps, stop_sweeps, nothing_sweeps, letter_sweeps, range_sweeps}
use Rattle.second_sweep.specs.Sweeping.{put, Puts, is_open, may_stop, goes_on, Chooses, Knows, Wrote, CanSweep, LeafSwept}

-- ── writing ──
module _ (xs : List ℕ) (at : ℕ) (cs : List Bool) where
  pub put_fits : at + length cs ≤ 8 * length xs → write 8 xs at cs ≡ put xs at cs
  unfolding put
  put_fits h = rw (le-leb (at + length cs) (8 * length xs) h)

  pub put-not : 8 * length xs < at + length cs → xs ≡ put xs at cs
  unfolding put
  put-not h = rw (lt-leb (at + length cs) (8 * length xs) h)

  pub put_long : length (put xs at cs) ≡ length xs
  put_long = go (dec_le (at + length cs) (8 * length xs))
    where
      go : Dec (at + length cs ≤ 8 * length xs) → length (put xs at cs) ≡ length xs
      go (yes h) = ap length (sym (put_fits h)) ∙ length-write 8 (omega arith) xs at cs (omega arith)
      go (no h) = ap length (sym (put-not (omega arith)))

write-nothing : (xs : List ℕ) (at : ℕ) → write 8 xs at [] ≡ xs
unfolding write
write-nothing xs at = refl

-- a choice by what was asked of the left side
pub chose : (o left v : Bool) (p q at : ℕ) (xs ys : List ℕ) → left ≡ o → left ≡ v → Puts (not left) at xs ys →
    Chooses o p q at xs ys (cond v p q)
chose o left v p q at xs ys e f w = record {
  side_is = ap (λ b. cond b p q) (sym f ∙ e);
  puts = rw e at w;
}

-- ── whether a star goes on ──
module _ (table ws : List ℕ) (n l i : ℕ) (b : Bool) where
  -- a star above is not stepped to before the round has taken a letter
  pub stop_shut : {g : Bool} → g ≡ (not (loops_in table l) || b) → g ≡ false → false ≡ may_stop table ws n l i b
  unfolding may_stop
  stop_shut e f = rw (sym e ∙ f)

  module _ {g : Bool} (e : g ≡ (not (loops_in table l) || b)) (t : g ≡ true) {f : ℕ} (h : f ≡ follower_in table l) {r : Bool} where
    pub stop_end : 64 ≤ f → r ≡ (b && eqb i n) → r ≡ may_stop table ws n l i b
    unfolding may_stop
    stop_end k er = rw (sym e ∙ t, le-ltb (follower_in table l) 64 (omega arith)) er

    pub stop_open : f < 64 → r ≡ is_open ws i b f → r ≡ may_stop table ws n l i b
    unfolding may_stop
    stop_open k er = rw (sym e ∙ t, lt-ltb (follower_in table l) 64 (omega arith)) (er ∙ ap (is_open ws i b) h)

  module _ (again : Bool) (p : ℕ) {r : Bool} where
    pub on_lazy : again ≡ true → r ≡ may_stop table ws n l i b → not r ≡ goes_on table ws n l i b again p
    unfolding goes_on
    on_lazy h e = rw h (ap not e)

    pub on_greedy : again ≡ false → r ≡ is_open ws i false p → r ≡ goes_on table ws n l i b again p
    unfolding goes_on
    on_greedy h e = rw h e

-- ── what was written, put together ──
pub wrote_none : (i at : ℕ) (xs : List ℕ) → Wrote i at [] [] xs xs (record { position = i; at = at })
wrote_none i at xs = record {
  position_is = sym (add-zero i);
  at_is = sym (add-zero at);
  written = λ h. sym (write-nothing xs at);
  as_long = refl;
}

pub wrote_letter : (i at c : ℕ) (xs : List ℕ) → Wrote i at (c ∷ []) [] xs xs (record { position = i + 1; at = at })
wrote_letter i at c xs = record { position_is = refl; at_is = sym (add-zero at); written = λ h. sym (write-nothing xs at); as_long = refl }

-- a range's letter
pub wrote_range : (i at x : ℕ) (xs : List ℕ) →
    Wrote i at (x ∷ []) (bits_of 8 x) xs (put xs at (bits_of 8 x)) (record { position = i + 1; at = at + 8 })
wrote_range i at x xs =
    let n : length (bits_of 8 x) ≡ 8 = length-bits_of 8 x in
    record {
      position_is = refl;
      at_is = omega arith;
      written = λ h. sym (put_fits xs at (bits_of 8 x) h);
      as_long = put_long xs at (bits_of 8 x);
    }

module _ {i at : ℕ} {xs : List ℕ} where
  -- one part behind the other
  pub wrote_then : {ys zs : List ℕ} {one r : Swept} (ls ms : List ℕ) (cs ds : List Bool) →
      Wrote i at ls cs xs ys one → Wrote one.position one.at ms ds ys zs r → Wrote i at (ls ++ ms) (cs ++ ds) xs zs r
  wrote_then {ys} {zs} {one} {r} ls ms cs ds a b =
      let n = length-append ls ms in
      let k = length-append cs ds in
      let pa = a.position_is in
      let aa = a.at_is in
      let pb = b.position_is in
      let ab = b.at_is in
      let l = a.as_long in
      record {
        position_is = omega arith;
        at_is = omega arith;
        written = λ h.
            let e : ys ≡ write 8 xs at cs = a.written (omega arith) in
            b.written (omega arith) ∙ ap (λ z. write 8 z one.at ds) e
            ∙ write-write 8 (omega arith) xs at one.at cs ds (omega arith) aa;
        as_long = b.as_long ∙ l;
      }

  -- a bit that is put, and then what follows it
  pub wrote_put : {ys zs : List ℕ} {r : Swept} (c : Bool) (ls : List ℕ) (cs : List Bool) →
      Puts c at xs ys → Wrote i (at + 1) ls cs ys zs r → Wrote i at ls (c ∷ cs) xs zs r
  wrote_put {ys} {zs} {r} c ls cs e a =
      let n : length ys ≡ length xs = ap length e.written ∙ put_long xs at (c ∷ []) in
      let aa = a.at_is in
      record {
        position_is = a.position_is;
        at_is = omega arith;
        written = λ h.
            let f : ys ≡ write 8 xs at (c ∷ []) = e.written ∙ sym (put_fits xs at (c ∷ []) (omega arith)) in
            a.written (omega arith) ∙ ap (λ z. write 8 z (at + 1) cs) f
            ∙ write-write 8 (omega arith) xs at (at + 1) (c ∷ []) cs (omega arith) refl;
        as_long = a.as_long ∙ n;
      }

  -- other letters and bits that are the same
  pub wrote_same : {ys : List ℕ} {r : Swept} (ls ms : List ℕ) (cs ds : List Bool) →
      ms ≡ ls → ds ≡ cs → Wrote i at ls cs xs ys r → Wrote i at ms ds xs ys r
  wrote_same {ys} {r} ls ms cs ds e f w =
      subst (λ y. Wrote i at ms y xs ys r) (sym f) (subst (λ x. Wrote i at x cs xs ys r) (sym e) w)

-- ── the parts of a tree ──
module _ (table words tape : List ℕ) (i : ℕ) (taken : Bool) (at : ℕ) where
  -- `S`
  pub record SeqWay (t u v : Tree) (c : CanSweep table words tape t i taken at) : Type 0 where
    pub one : CanSweep table words tape u i taken at
    pub two : CanSweep table words tape v (i + length one.letters) (taken || nonempty one.letters) (at + length one.bits)
    pub letters_are : c.letters ≡ one.letters ++ two.letters
    pub bits_are : c.bits ≡ one.bits ++ two.bits

  pub seq_way : (m : Label) (u v t : Tree) → t ≡ seq m u v → (c : CanSweep table words tape t i taken at) → SeqWay t u v c
  seq_way m u v t e = subst (λ x. (c : CanSweep table words tape x i taken at) → SeqWay x u v c) (sym e) go
    where
      go : (c : CanSweep table words tape (seq m u v) i taken at) → SeqWay (seq m u v) u v c
      go c =
          let b = seq_sweeps m u v c.after taken (drop i tape) c.letters c.bits c.sweeps in
          let w = c.within in
          let f = c.few in
          let n = rw (b.bits_are, length-append) at f in
          let s : i + length b.letters ≤ length tape = omega (arith, simp length-drop at (short b.one)) in
          record {
            one = record {
              after = can v c.after;
              letters = b.letters;
              bits = b.bits;
              knows = c.knows.0;
              sweeps = b.one;
              within = w;
              limited = c.limited;
              few = omega arith;
            };
            two = record {
              after = c.after;
              letters = b.letters2;
              bits = b.bits2;
              knows = c.knows.1;
              sweeps = rw (← drop-drop (length b.letters) i tape) b.two;
              within = s;
              limited = c.limited;
              few = omega arith;
            };
            letters_are = b.letters_are;
            bits_are = b.bits_are;
          }

  -- `A`
  pub record SideWay (t v : Tree) (sign : Bool) (c : CanSweep table words tape t i taken at) : Type 0 where
    pub one : CanSweep table words tape v i taken (at + 1)
    pub letters_are : c.letters ≡ one.letters
    pub bits_are : c.bits ≡ sign ∷ one.bits

  pub side_way : (m : Label) (u v t : Tree) → t ≡ alt m u v → (left : Bool) → is_open words i taken (index u) ≡ left →
      (c : CanSweep table words tape t i taken at) → SideWay t (cond left u v) (not left) c
  side_way m u v t e left o =
      subst (λ x. (c : CanSweep table words tape x i taken at) → SideWay x (cond left u v) (not left) c) (sym e) go
    where
      known : (b : Bool) (k : After) → Knows table words tape u k → Knows table words tape v k → Knows table words tape (cond b u v) k
      known true k x y = x
      known false k x y = y

      go : (c : CanSweep table words tape (alt m u v) i taken at) → SideWay (alt m u v) (cond left u v) (not left) c
      go c =
          let h = sym (c.knows.0 i c.within taken) ∙ o in
          let b = side_sweeps m u v c.after taken (drop i tape) c.letters c.bits left h c.sweeps in
          let f = rw b.bits_are at c.few in
          record {
            one = record {
              after = c.after;
              letters = c.letters;
              bits = b.bits;
              knows = known left c.after c.knows.1.0 c.knows.1.1;
              sweeps = b.one;
              within = c.within;
              limited = c.limited;
              few = omega arith;
            };
            letters_are = refl;
            bits_are = b.bits_are;
          }

  -- a star: another round where `goes_on` says so
  pub record RoundWay (again : Bool) (t u : Tree) (c : CanSweep table words tape t i taken at) : Type 0 where
    pub one : CanSweep table words tape u i false (at + 1)
    pub full : 1 ≤ length one.letters
    pub more : CanSweep table words tape t (i + length one.letters) true (at + 1 + length one.bits)
    pub letters_are : c.letters ≡ one.letters ++ more.letters
    pub bits_are : c.bits ≡ again ∷ (one.bits ++ more.bits)

  module _ (m : Label) (again : Bool) (u t : Tree) (e : t ≡ star m again u) where
    abbrev decided : Bool
    decided = goes_on table words (length tape) m.index i taken again (index u)

    -- the state sets say of a round, and of what may come behind the star, what the first sweep does
    says : (c : CanSweep table words tape (star m again u) i taken at) (o : Bool) → decided ≡ o →
        another again (can u (after_round (can (star m again u) c.after)) false (drop i tape)) (c.after taken (drop i tape)) ≡ o
    unfolding goes_on
    says c o h = ap₂ (another again) (sym (c.knows.0 i c.within false)) (sym (c.knows.1.0 i c.within taken)) ∙ h

    pub round_way : (c : CanSweep table words tape t i taken at) → decided ≡ true → RoundWay again t u c
    round_way = subst (λ x. (c : CanSweep table words tape x i taken at) → decided ≡ true → RoundWay again x u c) (sym e) go
      where
        nonempty_one : (ls : List ℕ) → nonempty ls ≡ true → 1 ≤ length ls
        nonempty_one [] h = absurd (true≢false (sym h))
        nonempty_one (x ∷ ls) h = omega arith

        go : (c : CanSweep table words tape (star m again u) i taken at) → decided ≡ true → RoundWay again (star m again u) u c
        go c h =
            let b = round_sweeps m again u c.after taken (drop i tape) c.letters c.bits c.sweeps (says c true h) in
            let f = rw (b.bits_are, length-append) at c.few in
            let w = c.within in
            let s : i + length b.letters ≤ length tape = omega (arith, simp length-drop at (short b.one)) in
            record {
              one = record {
                after = after_round (can (star m again u) c.after);
                letters = b.letters;
                bits = b.bits;
                knows = c.knows.1.1;
                sweeps = b.one;
                within = w;
                limited = c.limited;
                few = omega arith;
              };
              full = nonempty_one b.letters b.full;
              more = record {
                after = c.after;
                letters = b.letters2;
                bits = b.bits2;
                knows = c.knows;
                sweeps = rw (← drop-drop (length b.letters) i tape) b.more;
                within = s;
                limited = c.limited;
                few = omega arith;
              };
              letters_are = b.letters_are;
              bits_are = b.bits_are;
            }

    pub stop_way : (c : CanSweep table words tape t i taken at) → decided ≡ false → (c.letters ≡ []) × (c.bits ≡ not again ∷ [])
    stop_way =
        subst (λ x. (c : CanSweep table words tape x i taken at) → decided ≡ false → (c.letters ≡ []) × (c.bits ≡ not again ∷ []))
        (sym e) go
      where
        go : (c : CanSweep table words tape (star m again u) i taken at) → decided ≡ false → (c.letters ≡ []) × (c.bits ≡ not again ∷ [])
        go c h = stop_sweeps m again u c.after taken (drop i tape) c.letters c.bits c.sweeps (says c false h)

-- ── leaves ──
module _ (tape : List ℕ) (i at : ℕ) (xs : List ℕ) where
  pub leaf_nothing : LeafSwept Nothing tape i at xs xs (record { position = i; at = at })
  leaf_nothing m table ws b c = let (e, f) = nothing_sweeps c.sweeps in wrote_same [] c.letters [] c.bits e f (wrote_none i at xs)

  pub leaf_letter : (x : ℕ) → LeafSwept (Letter x) tape i at xs xs (record { position = i + 1; at = at })
  leaf_letter x m table ws b c =
      let (e, f) = letter_sweeps c.sweeps in
      wrote_same (x ∷ []) c.letters [] c.bits e f (wrote_letter i at x xs)

  -- the letter that a range takes is the tape's
  pub record Taken {m : Label} {low high : ℕ} {table ws : List ℕ} {b : Bool} (c : CanSweep table ws tape (range m low high) i b at) : Type 0 where
    pub letters_are : c.letters ≡ get_or tape i 0 ∷ []
    pub bits_are : c.bits ≡ bits_of 8 (get_or tape i 0)
    pub inside : i < length tape

  pub taken_letter : {m : Label} {low high : ℕ} {table ws : List ℕ} {b : Bool} (c : CanSweep table ws tape (range m low high) i b at) → Taken c
  taken_letter c =
      let (x, e, f) = range_sweeps c.sweeps in
      let h : drop i tape ≡ x ∷ c.sweeps.best.rest = whole c.sweeps ∙ ap (λ l. l ++ c.sweeps.best.rest) e in
      let g : x ≡ get_or tape i 0 =
      sym (ap (λ l. get_or l 0 0) h) ∙ get_or-drop i tape 0 0 ∙ ap (λ j. get_or tape j 0) (add-zero i) in
      let n = simp length-drop at (ap length h) in
      record {
        letters_are = e ∙ ap (λ y. y ∷ []) g;
        bits_are = f ∙ ap (bits_of 8) g;
        inside = omega arith;
      }

  pub leaf_range : (low high : ℕ) →
      LeafSwept (Range low high) tape i at xs (put xs at (bits_of 8 (get_or tape i 0))) (record { position = i + 1; at = at + 8 })
  leaf_range low high m table ws b c =
      let k = taken_letter c in
      let x = get_or tape i 0 in
      wrote_same (x ∷ []) c.letters (bits_of 8 x) c.bits k.letters_are k.bits_are (wrote_range i at x xs)
