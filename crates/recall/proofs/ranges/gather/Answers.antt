use Rattle.std.proofs.Common.{arith}
use Rattle.recall.specs.Gathers.{gather-far, gather-done}
use Rattle.recall.proofs.ranges.gather.Goals as goal

pub returns-then-j-ge32 : goal.returns-then-j-ge32
returns-then-j-ge32 c = gather-far c.if-j-ge32.true

pub returns : goal.returns
returns c = gather-done c.nowhere-places.ensures (omega (arith, c.if-j-ge32.false)) _ _ c.requires.0 c.requires.1 c.meet.ensures
