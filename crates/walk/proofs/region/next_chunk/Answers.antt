-- `walk::region::next_chunk` meets its contract: a law for each of its two ways out. Assumes nothing.
use Rattle.std.proofs.Common.{arith}
use Rattle.walk.specs.RegionTurns.{end-within, turned-got}
use Rattle.walk.proofs.region.next_chunk.Goals as goal

pub overflow_cast-c : goal.overflow_cast-c
overflow_cast-c c = let pre = c.requires in omega (arith, end-within pre c.due_at-d.ensures _ c.chunk.ensures c.in_ok-c.was, pre.small)

pub returns : goal.returns
returns c = let pre = c.requires in turned-got pre c.due_at-d.ensures _ c.chunk.ensures c.in_ok-c.was c.push_chunk.ensures
