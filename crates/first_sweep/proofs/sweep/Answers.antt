-- `first_sweep::sweep` meets its contract.
use Rattle.std.proofs.Common.{◌≡◌, ◌-◌, get_or, false, refl, arith}
use Rattle.steps.specs.Memo.{Remembers, Stands, known_small, known_step, known_stands}
use Rattle.first_sweep.specs.Sweep.{stored_step, sweeping_start, sweeping_down}
use Rattle.first_sweep.proofs.sweep.Goals as goal
use Rattle.first_sweep.proofs.sweep.Goals.{Joined-known, in-Some, in-None}

pub loop-i-init : goal.loop-i-init
loop-i-init c = (c.requires, sweeping_start _ _ _ _ _ _ _, c.new-memo.ensures _ _ _, tt)

pub offset_bounds-memo-n : goal.offset_bounds-memo-n
offset_bounds-memo-n c = let l = c.loop-i.invariant in
    omega (arith, known_small _ _ _ _ l.2 _ _ _ _ _ l.3 (rw c.in-Some.is at c.known.ensures))

pub bounds-memo-n : goal.bounds-memo-n
bounds-memo-n c = let l = c.loop-i.invariant in known_small _ _ _ _ l.2 _ _ _ _ _ l.3 (rw c.in-Some.is at c.known.ensures)

-- noted or made, it is the step, and what is remembered then is right
stepped :
    (c : Joined-known)
    → (c.match-known.w
    ≡ stored_step c.args.masks.zero.now c.args.masks.one.now c.args.masks.table.now c.args.masks.takers.now (get_or c.args.letters.now (c.loop-i.i - 1) 0) c.loop-i.next
    c.loop-i.last)
    × Remembers c.args.masks.zero.now c.args.masks.one.now c.args.masks.table.now c.match-known.memo
    × Stands c.match-known.memo.pairs c.match-known.memo.count c.match-known.w.one false c.match-known.pair
stepped c = let l = c.loop-i.invariant in
    elim c.match-known.branch [
      | in-Some w ↦ let way = rw w.in-Some.is at c.known.ensures in
          rw (w.w-is, w.memo-is, w.pair-is) (known_step _ _ _ _ l.2 _ _ _ _ _ l.3 way, l.2, known_stands _ _ _ _ l.2 _ _ _ _ _ l.3 way)
      | in-None w ↦ let made = w.learn-pair.ensures in
          rw (w.w-is, w.memo-is, w.pair-is) (w.step-w.ensures, made.learned _ _ _ _ _ l.2 l.3 w.step-w.ensures, made.stands)
    ]

pub loop-i-preserved : goal.loop-i-preserved
loop-i-preserved c = let l = c.loop-i.invariant in
    let s = stepped (goal.at.loop-i-preserved c).Joined-known in (
      l.0,
      sweeping_down _ _ _ _ _ _ _ _ _ _ _ _ _ _ _ _ _ (omega (arith, c.loop-i-test.true)) l.1 refl s.0 c.cell_of.ensures c.put_words.ensures refl refl,
      s.1,
      s.2,
    )
