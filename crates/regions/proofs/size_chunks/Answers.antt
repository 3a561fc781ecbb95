-- `regions::size_chunks` meets its contract: the pools that are gathered are what each chunk asks for. Assumes nothing.
use Rattle.lookups.specs.Named.{due-lent, noted-now}
use Rattle.regions.specs.Turns.{ready-same, region-sized-same}
use Rattle.regions.proofs.size_chunks.Goals as goal

pub slice_bounds-size_each-end : goal.slice_bounds-size_each-end
slice_bounds-size_each-end c = due-lent c.pools_due-k.ensures.pools_due

pub size_each-requires : goal.size_each-requires
size_each-requires c = (ready-same _ c.pools_due-k.ensures.now c.requires, noted-now c.pools_due-k.ensures.now c.pools_due-k.ensures.pools_due)

pub returns : goal.returns
returns c = region-sized-same _ c.pools_due-k.ensures.now c.requires.holds c.size_each.ensures
