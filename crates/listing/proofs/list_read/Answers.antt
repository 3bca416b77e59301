-- `listing::list_read` meets its contract: the three parts of the listing, one behind the other.
use Rattle.std.proofs.Common.{refl, ap, length, arith}
use Rattle.text.specs.Putting.{puts_as}
use Rattle.listing_lines.specs.LineBytes.{tape_line}
use Rattle.listing.specs.ListingLaws.{totals_given, given_many, listed}
use Rattle.listing.proofs.list_read.Goals as goal

pub unwrap-litres-requires : goal.unwrap-litres-requires
unwrap-litres-requires c =
    let given = c.args in
    totals_given given.p given.tape.now given.words.now given.code.now given.count c.requires _ c.totals.ensures

pub put_accounts-second-requires : goal.put_accounts-second-requires
put_accounts-second-requires c =
    let given = c.args in
    omega (arith, given_many given.p given.tape.now given.words.now given.code.now given.count c.requires _ c.totals.ensures _ c.unwrap-litres.ensures)

pub put_open-requires : goal.put_open-requires
put_open-requires c = c.requires.long

pub returns : goal.returns
returns c =
    let given = c.args in
    listed given.p given.tape.now given.words.now given.code.now given.count c.requires _ refl _ c.totals.ensures _ c.unwrap-litres.ensures
    _ _ _ _ _ _ _ (puts_as _ _ _ _ _ _ (ap (λ bits. tape_line (length given.tape.now) bits given.code.now) c.from.ensures) c.put_tape-first.ensures)
    (c.put_accounts-second.ensures.puts, c.put_accounts-second.ensures.litres_len_bound) c.put_open.ensures
