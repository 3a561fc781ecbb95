-- `table::ranges::pool_of` meets its contract. Assumes nothing.
use Rattle.table.specs.Tells.{pool-told}
use Rattle.table.proofs.ranges.pool_of.Goals as goal

pub returns : goal.returns
returns c = let known = c.told.ensures c.if-not-told.false in pool-told c.requires known.0 c.args.t known.1 c.super_of.ensures c.if-super_of-ne0.false c.tally_at.ensures
