use Rattle.numbers.specs.Cursors.{handed}
-- `walk::region::chunks` meets its contract. The invariant: the chunks that are left, from here, give the whole. Assumes nothing.
use Rattle.std.proofs.Common.{arith}
use Rattle.walk.specs.RegionTurns.{going_next, going_on, going-out, going_done}
use Rattle.walk.proofs.region.chunks.Goals as goal

pub next_chunk-requires : goal.next_chunk-requires
next_chunk-requires c = going_next c.requires.0 c.loop-i.invariant (omega arith) c.requires.1

pub returns-in_err-c : goal.returns-in_err-c
returns-in_err-c c = rw (handed c.from_residual.ensures.1) (going-out c.requires.0 c.loop-i.invariant (omega arith) c.next_chunk.ensures c.in_err-c.was)

pub loop-i-preserved : goal.loop-i-preserved
loop-i-preserved c = going_on c.requires.0 c.loop-i.invariant (omega arith) c.next_chunk.ensures c.in_ok-c.was

pub returns : goal.returns
returns c = going_done c.requires.0 c.loop-i.invariant (omega arith)
