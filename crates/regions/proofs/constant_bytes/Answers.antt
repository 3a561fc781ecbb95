-- `regions::constant_bytes` meets its contract: what a row says of an element's kind is nothing to a constant. Assumes nothing.
use Rattle.regions.specs.Chunk.{constant-taken}
use Rattle.regions.proofs.constant_bytes.Goals as goal

pub returns : goal.returns
returns c = constant-taken c.args.kind c.args.work.now c.requires.0 c.strings.ensures c.requires.1 c.chunk_text.ensures
