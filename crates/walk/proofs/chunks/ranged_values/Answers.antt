-- `walk::chunks::ranged_values` meets its contract. Assumes nothing.
use Rattle.walk.specs.Steps.{ranged}
use Rattle.walk.proofs.chunks.ranged_values.Goals as goal

pub returns : goal.returns
returns c = ranged c.chunk_values.ensures
