use Rattle.std.proofs.Common.{sym}
use Rattle.calls.specs.Table.{front_long}
use Rattle.listing.specs.Text.{listing-short, listing-long}
use Rattle.listing.proofs.listing.Goals as goal

pub returns-then-work-needed : goal.returns-then-work-needed
returns-then-work-needed c = listing-short _ _ _ c.if-work-needed.true

pub slice_bounds-listing_in-end-2 : goal.slice_bounds-listing_in-end-2
slice_bounds-listing_in-end-2 c = sym (front_long c.args.work.now c.if-work-needed.false)

pub listing_in-requires : goal.listing_in-requires
listing_in-requires c = front_long c.args.work.now c.if-work-needed.false

pub returns : goal.returns
returns c = listing-long _ _ c.if-work-needed.false _ c.listing_in.ensures.1 c.listing_in.ensures.0
