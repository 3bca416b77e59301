-- `listing::list_with` meets its contract: a refusal's line, or the lines of the tape that has been read.
use mathlib.Core.Path.{sym}
use lib.Seq.{length-take-le}
use Rattle.listing.specs.ListingLaws.{parse_bits, parse_refused, shows_as, shows_refused}
use Rattle.listing.proofs.list_with.Goals as goal

pub slice_bounds-list_read-end : goal.slice_bounds-list_read-end
slice_bounds-list_read-end c =
    let given = c.args in
    (parse_bits given.p given.tape.now given.words.now _ given.code.now _ c.requires.0 c.requires.1 _ _
    c.in-Ok.is c.parse.ensures _ c.bytes_for-n.ensures).fits

pub slice_bounds-list_read-end-in-Ok : goal.slice_bounds-list_read-end-in-Ok
slice_bounds-list_read-end-in-Ok c =
    let given = c.args in
    sym (length-take-le _ _
    (parse_bits given.p given.tape.now given.words.now _ given.code.now _ c.requires.0 c.requires.1 _ _
    c.in-Ok.is c.parse.ensures _ c.bytes_for-n.ensures).fits)

pub list_read-requires : goal.list_read-requires
list_read-requires c =
    let given = c.args in
    (parse_bits given.p given.tape.now given.words.now _ given.code.now _ c.requires.0 c.requires.1 _ _
    c.in-Ok.is c.parse.ensures _ c.bytes_for-n.ensures).read

pub returns-in-Err : goal.returns-in-Err
returns-in-Err c =
    let given = c.args in
    shows_refused _ _ _ _ c.in-Err.why
    (parse_refused given.p given.tape.now given.words.now _ given.code.now _ c.requires.0 c.requires.1 _ _
    c.in-Err.is c.parse.ensures)
    c.put_cause.ensures.puts c.put_cause.ensures.value_len_bound

pub returns-in-Ok : goal.returns-in-Ok
returns-in-Ok c =
    let given = c.args in
    shows_as _ _ _ _ _
    (parse_bits given.p given.tape.now given.words.now _ given.code.now _ c.requires.0 c.requires.1 _ _
    c.in-Ok.is c.parse.ensures _ c.bytes_for-n.ensures).lists c.list_read.ensures
