use Rattle.std.proofs.Common.{arith}
use Rattle.recall.specs.Groups.{group-done}
use Rattle.recall.proofs.ranges.group.Goals as goal

pub returns : goal.returns
returns c = group-done c.plan.ensures (omega (arith, c.requires.2)) (omega (arith, c.requires.3)) c.empty.ensures c.meet.ensures (omega (arith, c.requires.2)) (omega (arith, c.requires.3))
