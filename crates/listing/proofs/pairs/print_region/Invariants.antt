use Rattle.listing.specs.Regions.{RegionPrinting}
use Rattle.listing.proofs.pairs.print_region.Given as goal

abbrev pub invariant-loop-i : goal.invariant-loop-i
invariant-loop-i l = RegionPrinting l.file l.work l.from l.place l.i l.initial.out l.at l.out l.p
