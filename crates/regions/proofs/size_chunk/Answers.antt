-- `regions::size_chunk` meets its contract: a law for each of its two ways out. Assumes nothing.
use Rattle.std.proofs.Common.{arith}
use Rattle.regions.specs.Turns.{sized-bad, sized-got}
use Rattle.regions.proofs.size_chunk.Goals as goal

pub returns-in_err-k : goal.returns-in_err-k
returns-in_err-k c = rw c.from_residual.ensures (sized-bad c.requires c.due_bytes.ensures c.in_err-k.was)

pub returns : goal.returns
returns c = sized-got c.requires c.due_bytes.ensures (omega arith) c.in_ok-k.was c.size_due.ensures
