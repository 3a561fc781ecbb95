-- `regions::region_size` meets its contract. The invariant: the sum so far and the sizes that are left give the whole. Assumes nothing.
use Rattle.std.proofs.Common.{arith}
use Rattle.regions.specs.Sums.{summing_start, summing_on, summing-done}
use Rattle.regions.proofs.region_size.Goals as goal

pub loop-i-init : goal.loop-i-init
loop-i-init c = summing_start _

pub loop-i-preserved : goal.loop-i-preserved
loop-i-preserved c = summing_on c.loop-i.invariant (omega (arith, c.requires.dues-count)) c.due_at.result c.due_at.ensures c.add_up-sum.ensures

pub returns : goal.returns
returns c = summing-done c.loop-i.invariant (omega (arith, c.requires.dues-count))
