-- `table::counts::begin` meets its contract. Assumes nothing.
use Rattle.table.specs.Counts.{begun-of}
use Rattle.table.proofs.counts.begin.Goals as goal

pub returns : goal.returns
returns c = begun-of c.clear_tallies.ensures.long c.clear_tallies.ensures.zeros c.set_counts.ensures.recounted
