use Rattle.std.proofs.Common.{arith}
use Rattle.values.specs.Overs.{running-over}
use Rattle.values.proofs.runs.v64s.Goals as goal

pub loop-n-preserved : goal.loop-n-preserved
loop-n-preserved c = (running-over c.loop-n.invariant.0 c.v64s_there-a.ensures.over (omega (arith, c.v64s_there-a.ensures.few, c.loop-n.invariant.1.few)), c.looks-n-in-loop-n.ensures)
