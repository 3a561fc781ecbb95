use Rattle.values.specs.Overs.{each_start, each_next}
use Rattle.values.proofs.runs.each_v64.Goals as goal

pub loop-init : goal.loop-init
loop-init c = each_start _ _

pub loop-preserved : goal.loop-preserved
loop-preserved c = each_next c.loop.invariant c.pass_v64-here.ensures.0 c.pass_v64-here.ensures.1
