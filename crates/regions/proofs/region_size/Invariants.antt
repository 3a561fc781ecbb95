-- `regions::region_size` meets its contract. The invariant: the sum so far and the sizes that are left give the whole. Assumes nothing.
use Rattle.table.specs.View.{dues_of}
use Rattle.regions.specs.Sums.{Summing}
use Rattle.regions.proofs.region_size.Given as goal

abbrev pub invariant-loop-i : goal.invariant-loop-i
invariant-loop-i l = Summing (dues_of l.work) l.i l.sum
