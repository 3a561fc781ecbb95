-- `regions::lay_sized` meets its contract: the pools that are gathered are what each chunk asks for. Assumes nothing.
use Rattle.lookups.specs.Named.{due-lent, noted-now}
use Rattle.regions.specs.Turns.{ready-same}
use Rattle.regions.specs.Both.{laid-sized-same}
use Rattle.regions.proofs.lay_sized.Goals as goal

pub slice_bounds-lay_each-end : goal.slice_bounds-lay_each-end
slice_bounds-lay_each-end c = due-lent c.pools_due-k.ensures.pools_due

pub lay_each-requires : goal.lay_each-requires
lay_each-requires c = (ready-same _ c.pools_due-k.ensures.now c.requires, noted-now c.pools_due-k.ensures.now c.pools_due-k.ensures.pools_due)

pub returns : goal.returns
returns c = laid-sized-same _ c.pools_due-k.ensures.now c.lay_each.ensures
