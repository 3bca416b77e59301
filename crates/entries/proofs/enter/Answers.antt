-- `entries::enter` meets its contract.
use mathlib.Core.Path.{sym, ◌∙◌}
use native.Mathlib.Omega.{arith}
use Rattle.bits.specs.Handed.{handed_limit}
use Rattle.entries.specs.Measures.{read-bad, read-failed, read_elsewhere, read_whole}
use Rattle.entries.proofs.enter.Goals as goal

pub returns-then-not-handed_good : goal.returns-then-not-handed_good
returns-then-not-handed_good c = read-bad _ _ _ _ _ (sym c.handed_good.ensures ∙ c.if-not-handed_good.true)

pub put_entries-requires-clause-ready : goal.put_entries-requires-clause-ready
put_entries-requires-clause-ready c =
    let handed = sym c.handed_good.ensures ∙ c.if-not-handed_good.false in
    record {
      within = omega arith;
      short = handed_limit _ _ handed;
      few = omega arith;
      long = c.requires.letters_len_bound.0;
      wide = c.requires.letters_len_bound.1;
    }

pub returns-in_err-entered : goal.returns-in_err-entered
returns-in_err-entered c = rw c.from_residual.ensures (read-failed _ _ _ c.put_entries.ensures c.in_err-entered.was)

pub returns-then-entered-count : goal.returns-then-entered-count
returns-then-entered-count c = read_elsewhere _ _ _ c.put_entries.ensures c.in_ok-entered.was c.if-entered-count.true

pub returns : goal.returns
returns c =
    let handed = sym c.handed_good.ensures ∙ c.if-not-handed_good.false in
    read_whole _ _ _ c.put_entries.ensures c.in_ok-entered.was handed c.if-entered-count.false
