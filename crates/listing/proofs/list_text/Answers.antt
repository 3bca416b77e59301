-- `listing::list_text` meets its contract: the line of a refused text, or the listing of the tape.
use Rattle.listing.specs.ListingLaws.{load_refused, load_listed, shows_as, shows_refused}
use Rattle.listing.proofs.list_text.Goals as goal

pub returns-in-Ok : goal.returns-in-Ok
returns-in-Ok c =
    shows_as _ _ _ _ _ (load_listed _ c.args.tape.now _ c.load.ensures _ _ c.in-Ok.is c.letters_of.ensures) c.list_tape.ensures

pub returns-in-Err : goal.returns-in-Err
returns-in-Err c =
    shows_refused _ _ _ _ c.in-Err.why (load_refused _ c.args.tape.now _ c.load.ensures _ c.in-Err.is)
    c.put_cause.ensures.puts c.put_cause.ensures.value_len_bound
