use Rattle.std.proofs.Common.{arith}
use Rattle.values.specs.Ups.{upward-start, upward-next}
use Rattle.values.proofs.runs.numbers_there.Goals as goal

pub loop-init : goal.loop-init
loop-init c = upward-start _ _

pub loop-preserved : goal.loop-preserved
loop-preserved c = rw c.max-largest.ensures (upward-next c.loop.invariant c.take_v64-a.ensures (omega (arith, c.loop.invariant.near)))
