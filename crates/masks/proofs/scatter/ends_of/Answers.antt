-- `masks::scatter::ends_of` meets its contract.
use Rattle.std.proofs.Common.{◌≡◌, ℕ, ◌*◌, ◌%◌, ◌^◌, Bool, add_comm, ap, ◌∙◌, arith}
use Rattle.bits.specs.Bits.{bit}
use Rattle.bits.specs.Words.{word-start, word_next, word_fits}
use Rattle.masks.specs.Masks.{comes_to_end}
use Rattle.masks.specs.Scatter.{shifted}
use Rattle.masks.proofs.scatter.ends_of.Goals as goal
use Rattle.masks.proofs.scatter.ends_of.Goals.{After-from, then-firsts-i, else-firsts-i}

-- the lines that come to the end, and the bit of this one
abbrev ends-in : After-from → ℕ → Bool
ends-in c = comes_to_end c.args.firsts.now c.args.follows.now

comes : (c : After-from) → c.if-firsts-i.from ≡ ends-in c c.loop-i.i
comes c = elim c.if-firsts-i.branch [
  | then-firsts-i w ↦ rw w.if-firsts-i.true w.from-is
  | else-firsts-i w ↦ rw w.if-firsts-i.false (w.from-is ∙ w.if-firsts-i.false)
]

here : (c : After-from) → (c.from.result * 2 ^ c.loop-i.i) % 2 ^ 64 ≡ bit (ends-in c c.loop-i.i) * 2 ^ c.loop-i.i
here c = ap (λ e. (e * 2 ^ c.loop-i.i) % 2 ^ 64) c.from.ensures ∙ shifted _ _ (omega (arith, c.loop-i-test.true, c.requires))
    ∙ ap (λ v. bit v * 2 ^ c.loop-i.i) (comes c)

pub loop-i-init : goal.loop-i-init
loop-i-init c = word-start _

pub overflow_add-word : goal.overflow_add-word
overflow_add-word c = omega (
  arith,
  word_fits 64 c.loop-i.i (ends-in (goal.at.overflow_add-word c).After-from) c.loop-i.word _
      (omega (arith, c.loop-i-test.true, c.requires)) c.loop-i.invariant (here (goal.at.overflow_add-word c).After-from),
)

pub loop-i-preserved : goal.loop-i-preserved
loop-i-preserved c =
    add_comm c.loop-i.word _ ∙ word_next c.loop-i.i (ends-in (goal.at.loop-i-preserved c).After-from) _ _ c.loop-i.invariant (here (goal.at.loop-i-preserved c).After-from)
