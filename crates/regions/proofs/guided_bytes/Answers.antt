-- `regions::guided_bytes` meets its contract: a guide changes no answer. Assumes nothing.
use Rattle.regions.specs.Chunk.{ranged-taken}
use Rattle.regions.proofs.guided_bytes.Goals as goal

pub returns : goal.returns
returns c = ranged-taken _ c.chunk_text.ensures
