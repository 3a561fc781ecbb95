-- `regions::kind_bytes` meets its contract. Assumes nothing.
use Rattle.std.proofs.Common.{arith}
use Rattle.regions.specs.Chunk.{plain-taken}
use Rattle.regions.proofs.kind_bytes.Goals as goal

pub returns : goal.returns
returns c = plain-taken c.args.kind c.args.work.now c.requires.holds.0 c.strings.ensures c.requires.holds.2 (omega arith) c.if-kind-eq20.false (omega arith) c.chunk_text.ensures
