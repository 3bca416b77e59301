-- `listing::letters_of` meets its contract: the file without its closing byte 10, or all of it.
use Rattle.std.proofs.Common.{ap, ◌∙◌}
use Rattle.listing.specs.ListingLaws.{letters_are}
use Rattle.listing.proofs.letters_of.Goals as goal

pub returns : goal.returns
returns c = ap (λ letters. letters.now) c.unwrap_or.ensures ∙ letters_are c.args.tape c.strip_suffix.result c.strip_suffix.ensures.cases
