-- `regions::lay_due` meets its contract: a law for each of its ways out. Assumes nothing.
use Rattle.std.proofs.Common.{arith}
use Rattle.regions.specs.Both.{due-not-read, due-behind, due-too-long, due-laid}
use Rattle.lay.specs.Laid.{most}
use Rattle.regions.proofs.lay_due.Goals as goal

pub returns-in_err-k : goal.returns-in_err-k
returns-in_err-k c = rw c.from_residual.ensures (due-not-read c.requires c.due_bytes.ensures c.in_err-k.was)

pub returns-then-k-ge-MOST : goal.returns-then-k-ge-MOST
unfolding most
returns-then-k-ge-MOST c = due-too-long c.requires c.due_bytes.ensures c.in_ok-k.was (omega (arith, c.if-k-ge-MOST.true))

pub overflow_sub-size : goal.overflow_sub-size
unfolding most
overflow_sub-size c = omega (arith, due-behind c.requires c.due_bytes.ensures c.in_ok-k.was (omega arith))

pub returns : goal.returns
unfolding most
returns c = due-laid c.requires c.due_bytes.ensures c.in_ok-k.was (omega arith) c.size_due.ensures
