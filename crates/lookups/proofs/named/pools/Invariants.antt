-- `lookups::named::pools` meets its contract. Assumes nothing.
use Rattle.lookups.specs.Named.{PoolsGoing}
use Rattle.lookups.proofs.named.pools.Given as goal

abbrev pub invariant-loop-i : goal.invariant-loop-i
invariant-loop-i l = PoolsGoing l.file l.initial.work l.n l.work l.list l.i
