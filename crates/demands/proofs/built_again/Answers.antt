use Rattle.std.proofs.Common.{sym, length-take-le}
use Rattle.demands.specs.Trips.{listing-room, listed-built, listed-none}
use Rattle.demands.proofs.built_again.Goals as goal

pub slice_bounds-build-end : goal.slice_bounds-build-end
slice_bounds-build-end c = listing-room _ _ _ c.listing.ensures c.in_ok-n.was

pub slice_bounds-build-end-2 : goal.slice_bounds-build-end-2
slice_bounds-build-end-2 c = sym (length-take-le _ _ (listing-room _ _ _ c.listing.ensures c.in_ok-n.was))

pub returns : goal.returns
returns c = λ long. listed-built _ _ _ c.listing.ensures c.in_ok-n.was _ c.build.ensures long

pub returns-in_err-n : goal.returns-in_err-n
returns-in_err-n c = λ long. listed-none _ _ _ c.listing.ensures c.in_err-n.was _ _ _ long
