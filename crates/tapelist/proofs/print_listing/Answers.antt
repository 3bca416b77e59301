-- `tapelist::print_listing` prints the listing of what is held, which lies inside the buffer.
use Rattle.std.proofs.Common.{sym, rules, length-take-le}
use Rattle.listing.specs.ListingLaws.{listed-within}
use Rattle.tapelist.specs.PrintLaws.{prints}
use Rattle.tapelist.proofs.print_listing.Goals as goal

pub slice_bounds-out-end : goal.slice_bounds-out-end
slice_bounds-out-end g c = listed-within _ _ _ _ _ _ c.list.ensures c.unwrap-n.ensures (search rules) (search rules)

pub slice_bounds-print-end : goal.slice_bounds-print-end
slice_bounds-print-end g c =
    sym (length-take-le _ _ (listed-within _ _ _ _ _ _ c.list.ensures c.unwrap-n.ensures (search rules) (search rules)))

pub print-requires : goal.print-requires
print-requires g c = prints _ _ _ _ _ _ c.list.ensures c.unwrap-n.ensures (search rules)
