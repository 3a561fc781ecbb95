use Rattle.std.proofs.Common.{arith}
use Rattle.trail.specs.Types.{find-end, find-found, find-on, find-there}
use Rattle.trail.proofs.trail.find.Goals as goal

pub returns-then-there-n : goal.returns-then-there-n
returns-then-there-n c = find-there c.stands_at-there.ensures c.if-there-n.true

pub returns-then-is_at : goal.returns-then-is_at
returns-then-is_at c = find-found c.loop-i.invariant.0 c.loop-i-test.true c.is_at.ensures c.if-is_at.true

pub loop-i-preserved : goal.loop-i-preserved
loop-i-preserved c = (find-on c.loop-i.invariant.0 c.loop-i-test.true c.is_at.ensures c.if-is_at.false, c.loop-i.invariant.1, c.loop-i.invariant.2, c.loop-i.invariant.3)

pub returns : goal.returns
returns c = find-end c.loop-i.invariant.0 (omega arith)
