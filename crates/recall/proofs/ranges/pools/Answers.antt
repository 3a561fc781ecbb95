-- The invariant: the first i strings. Assumes nothing.
use Rattle.std.proofs.Common.{refl}
use Rattle.recall.specs.Names.{pools-begin, pools-full, pools-done}
use Rattle.recall.proofs.ranges.pools.Goals as goal

pub loop-i-init : goal.loop-i-init
loop-i-init c = pools-begin c.meet-m.ensures refl c.requires

pub returns-then-list-i : goal.returns-then-list-i
returns-then-list-i c = pools-full c.loop-i.invariant c.loop-i-test.true c.if-list-i.true

pub returns : goal.returns
returns c = pools-done c.loop-i.invariant c.loop-i-test.false
