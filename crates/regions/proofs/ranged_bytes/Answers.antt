-- `regions::ranged_bytes` meets its contract. Assumes nothing.
use Rattle.regions.specs.Chunk.{ranged-taken}
use Rattle.regions.proofs.ranged_bytes.Goals as goal

pub returns : goal.returns
returns c = ranged-taken _ c.chunk_text.ensures
