use Rattle.trail.specs.Types.{at_place}
use Rattle.trail.proofs.trail.is_at.Goals as goal

pub returns-then-b-to : goal.returns-then-b-to
returns-then-b-to c = at_place c.if-a-from.true c.if-b-to.true
