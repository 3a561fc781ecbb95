-- The invariant: the first i strings. Assumes nothing.
use Rattle.recall.specs.Names.{PoolsGoing}
use Rattle.recall.proofs.ranges.pools.Given as goal

abbrev pub invariant-loop-i : goal.invariant-loop-i
invariant-loop-i l = PoolsGoing l.file l.steps l.t l.sums l.n l.list l.i
