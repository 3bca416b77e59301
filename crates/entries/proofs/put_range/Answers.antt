-- `entries::put_range` meets its contract.
use mathlib.Core.Path.{refl, sym, ◌∙◌}
use native.Mathlib.Omega.{arith}
use Rattle.entries.specs.Entries.{entries_short, entries_range, entries_outside}
use Rattle.entries.specs.Entering.{not_entered, one_entered}
use Rattle.entries.proofs.put_range.Goals as goal

pub returns-then-bits_in-at : goal.returns-then-bits_in-at
returns-then-bits_in-at c = not_entered refl refl refl (entries_short _ _ _ _ _ (omega (arith, c.if-bits_in-at.true, c.bits_in.ensures)))

pub returns-then-not-in_range : goal.returns-then-not-in_range
returns-then-not-in_range c =
    let out = sym c.in_range.ensures ∙ c.if-not-in_range.true in
    not_entered refl refl refl
    (entries_outside _ _ _ _ _ _ (omega (arith, c.if-bits_in-at.false, c.bits_in.ensures)) c.byte_at-c.ensures out)

pub returns : goal.returns
returns c =
    let inside = sym c.in_range.ensures ∙ c.if-not-in_range.false in
    one_entered (entries_range _ _ _ _ _ _ (omega (arith, c.if-bits_in-at.false, c.bits_in.ensures)) c.byte_at-c.ensures inside)
    c.put_entry.ensures.0 c.put_entry.ensures.1 c.put_entry.ensures.2
