use Rattle.values.specs.Overs.{looking-start, looking-next}
use Rattle.values.proofs.runs.v64s_there.Goals as goal

pub loop-init : goal.loop-init
loop-init c = looking-start _ _

pub loop-preserved : goal.loop-preserved
loop-preserved c = looking-next c.loop.invariant c.past_v64s-a.ensures
