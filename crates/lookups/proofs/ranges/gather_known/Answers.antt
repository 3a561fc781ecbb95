-- `lookups::ranges::gather_known` meets its contract. Assumes nothing.
use Rattle.lookups.specs.Gather.{gathered-whole}
use Rattle.lookups.proofs.ranges.gather_known.Goals as goal

pub returns-in-Some : goal.returns-in-Some
returns-in-Some c = gathered-whole (c.pool_of-pool.ensures _ c.in-Some.is) c.put_range.ensures
