-- `lookups::named::pools_due` meets its contract. Assumes nothing.
use Rattle.lookups.specs.Named.{due-some}
use Rattle.lookups.proofs.named.pools_due.Goals as goal

pub returns-clause-pools_due : goal.returns-clause-pools_due
returns-clause-pools_due c = due-some c.requires.0 c.requires.1 c.pools.ensures.pooling.0 c.pools.ensures.pooling.1
