use Rattle.listing.specs.Pairs.{PairsPrinting}
use Rattle.listing.proofs.pairs.print_pairs.Given as goal

abbrev pub invariant-loop-place : goal.invariant-loop-place
invariant-loop-place l = PairsPrinting l.file l.initial.work l.work l.place l.left l.initial.out l.at l.out l.p

abbrev pub decreases-loop-place : goal.decreases-loop-place
decreases-loop-place l = l.left
