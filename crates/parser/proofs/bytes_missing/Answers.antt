-- `parser::bytes_missing` meets its contract.
use Rattle.parser.specs.ParseLaws.{missing_none, missing_counted}
use Rattle.parser.proofs.bytes_missing.Goals as goal

pub returns-then-tape-size : goal.returns-then-tape-size
returns-then-tape-size c = λ s. missing_none s _ c.if-tape-size.true

pub sweep-counted-requires : goal.sweep-counted-requires
sweep-counted-requires c = let pre = c.requires in
    (pre.0, pre.1, pre.2.ready)

pub returns : goal.returns
returns c = λ s. missing_counted s _ _ (c.sweep-counted.ensures s.ready).at_is _ c.bytes_for-needed.ensures _ c.then_some.ensures
