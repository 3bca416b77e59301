-- `bits::open_nodes` meets its contract: the ones of a word of 64 bits are the l below 64 whose bit is set (crate binary, specs/Words.antt). Assumes nothing.
use Rattle.binary.specs.Words.{ones_count}
use Rattle.bits.proofs.open_nodes.Goals as goal

pub returns : goal.returns
returns c = ones_count 64 c.args.word c.ranges.word.fits
