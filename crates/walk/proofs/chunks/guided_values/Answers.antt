-- `walk::chunks::guided_values` meets its contract: a guide changes no answer. Assumes nothing.
use Rattle.walk.specs.Steps.{ranged}
use Rattle.walk.proofs.chunks.guided_values.Goals as goal

pub returns : goal.returns
returns c = ranged c.chunk_values.ensures
