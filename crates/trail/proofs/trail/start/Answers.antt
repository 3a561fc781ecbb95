use Rattle.std.proofs.Common.{refl}
use Rattle.trail.specs.Stages.{begins}
use Rattle.trail.proofs.trail.start.Goals as goal

pub returns : goal.returns
returns c = begins refl refl
