use Rattle.std.proofs.Common.{sym, arith, length-take-le}
use Rattle.walk.specs.FileLaws.{all-bytes}
use Rattle.demands.specs.Trips.{build-room, built-listed, built-none}
use Rattle.demands.proofs.listed_again.Goals as goal

pub slice_bounds-listing-end : goal.slice_bounds-listing-end
slice_bounds-listing-end c = build-room _ _ _ c.build.ensures c.in_ok-n.was

pub slice_bounds-listing-end-2 : goal.slice_bounds-listing-end-2
slice_bounds-listing-end-2 c = sym (length-take-le _ _ (build-room _ _ _ c.build.ensures c.in_ok-n.was))

pub returns : goal.returns
returns c = λ long. built-listed _ _ _ c.build.ensures c.in_ok-n.was (all-bytes c.args.text.now (λ i. omega (arith, c.type_inv.text i))) _ c.listing.ensures long

pub returns-in_err-n : goal.returns-in_err-n
returns-in_err-n c = λ long. built-none _ _ _ c.build.ensures c.in_err-n.was _ _ _ long
