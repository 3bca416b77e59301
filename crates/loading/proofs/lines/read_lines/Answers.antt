-- `loading::lines::read_lines` meets its contract.
use Rattle.std.proofs.Common.{◌≡◌, ℕ, arith, sym, ◌∙◌}
use Rattle.std.proofs.lemmas.Option.{none-some, same_Some}
use Rattle.loading.specs.Lines.{read-start, read_end, read_many, read_fault, read-less, read_on}
use Rattle.loading.proofs.lines.read_lines.Goals.{then-text-at, else-text-at+then-i-eq-MAX_LINES, else-text-at+else-i-eq-MAX_LINES+in_default}
use Rattle.loading.proofs.lines.read_lines.Goals as goal

pub loop-at-init : goal.loop-at-init
loop-at-init c = rw c.new-p.ensures (read-start _)

pub loop-at-smaller : goal.loop-at-smaller
loop-at-smaller c = omega (arith, read-less _ _ _ c.loop-at.invariant c.if-text-at.false (omega arith) _ c.scan_line.ensures _ _ c.in-Some.is)

pub loop-at-preserved : goal.loop-at-preserved
loop-at-preserved c = read_on _ _ _ c.loop-at.invariant c.if-text-at.false (omega (arith, c.loop-at.invariant.few)) _ c.scan_line.ensures _ _ c.in-Some.is

pub returns-in-None : goal.returns-in-None
returns-in-None c = elim c.if-text-at.branch [
  | then-text-at w ↦ read_end _ _ _ c.loop-at.invariant w.if-text-at.true
  | else-text-at+then-i-eq-MAX_LINES w ↦ absurd (none-some {A = ℕ} 64 (sym c.in-None.is ∙ w.fault-is))
  | else-text-at+else-i-eq-MAX_LINES+in_default w ↦ absurd (none-some c.loop-at.p.count (sym c.in-None.is ∙ w.fault-is))
]

pub returns-in-Some-fault : goal.returns-in-Some-fault
returns-in-Some-fault c = elim c.if-text-at.branch [
  | then-text-at w ↦ absurd (none-some _ (sym w.fault-is ∙ c.in-Some-fault.is))
  | else-text-at+then-i-eq-MAX_LINES w ↦
      let e : c.in-Some-fault.line ≡ 64 = same_Some _ _ (sym c.in-Some-fault.is ∙ w.fault-is) in
      rw e (read_many _ _ _ c.loop-at.invariant w.if-text-at.false (omega (arith, w.if-i-eq-MAX_LINES.true)))
  | else-text-at+else-i-eq-MAX_LINES+in_default w ↦
      let e : c.in-Some-fault.line ≡ c.loop-at.p.count = same_Some _ _ (sym c.in-Some-fault.is ∙ w.fault-is) in
      rw e (read_fault _ _ _ c.loop-at.invariant w.if-text-at.false (omega (arith, c.loop-at.invariant.few, w.if-i-eq-MAX_LINES.false)) _ w.scan_line.ensures w.in_default.is)
]
