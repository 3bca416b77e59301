-- 02, Job 4: "the second sweep's positions in the tape [..] are to be 16 bits wide, and each is shown to be exactly the number meant, 3,600
-- included." One law for every call of the sweep, over the width: its contract promises the position as a number, and asks for a tape within
-- the limit.
use Rattle.std.specs.Prelude.{◌≡◌, refl, Bool, true, List, ◌++◌, ℕ, ◌-◌, ◌^◌, ◌≤◌, ◌<◌, length, take}
use Rattle.std.proofs.Common.{ap, ◌∙◌, arith, length-append, length-drop, take-add, take_at, length-take-le}
use Rattle.syntax.specs.declared.Pattern.{Pattern}
use Rattle.syntax.specs.Letter.{letter_limit}
use Rattle.table.specs.Cells.{Holds}
use Rattle.second_sweep.specs.declared.Swept.{Swept}
use Rattle.second_sweep.specs.Parts.{whole, short}
use Rattle.second_sweep.specs.Sweeping.{Ready, SweptAll}
use Rattle.parser.specs.ParseLaws.{root_writable}
use Rattle.parser.specs.Writing.{FirstSwept}

-- a position held in so many bits: it is the count of the letters before it, and these are the tape's first
pub record Exact (width : ℕ) (tape before : List ℕ) (position : ℕ) : Type 0 where
  pub counts : position ≡ length before
  pub first : take position tape ≡ before
  pub most : position ≤ letter_limit
  pub fits : position < 2 ^ width

-- of a sweep that is ready, whatever node it reads and wherever it starts: the letters before the position that it returns are those before its
-- start and those that it read
pub position_exact : {table words tape : List ℕ} {l i : ℕ} {taken : Bool} {at : ℕ} {xs ys : List ℕ} {r : Swept}
    (s : Ready table words tape l i taken at) → SweptAll table words tape l i taken at xs ys r →
    (width : ℕ) → letter_limit < 2 ^ width → Exact width tape (take i tape ++ s.it.letters) r.position
position_exact {tape = tape} {i = i} s h width room =
    let ls = s.it.letters in
    let is = (h s).position_is in
    let within = s.it.within in
    let limited = s.it.limited in
    let left = simp length-drop at (short s.it.sweeps) in
    let front = length-take-le i tape within in
    let both = length-append (take i tape) ls in
    record {
      counts = omega arith;
      first = ap (λ k. take k tape) is ∙ take-add i (length ls) tape
          ∙ ap (λ x. take i tape ++ x) (ap (take (length ls)) (whole s.it.sweeps) ∙ take_at ls s.it.sweeps.best.rest (length ls) refl);
      most = omega arith;
      fits = omega arith;
    }

-- of the root, which is swept from the tape's start: the whole tape lies before it, so that it is the tape's length
pub root-exact : (p : Pattern) (tape ws : List ℕ) (f : FirstSwept p tape ws) (table : List ℕ) (held : Holds p table) {xs ys : List ℕ} {r : Swept} →
    SweptAll table ws tape (p.count - 1) 0 true 0 xs ys r → Exact 16 tape tape r.position
root-exact p tape ws f table held h = position_exact (root_writable p tape ws f table held).ready h 16 (omega arith)
