use Rattle.values.specs.Overs.{over-passed}
use Rattle.values.proofs.runs.few_v64s.Goals as goal

pub returns-then-m-room : goal.returns-then-m-room
returns-then-m-room c = over-passed 0 c.each_v64.ensures
