use Rattle.trail.specs.Told.{past-none, past_one}
use Rattle.trail.proofs.past.past.Goals as goal

pub returns-in_default : goal.returns-in_default
returns-in_default c = past-none c.v64-a.ensures c.in_default.is

pub returns : goal.returns
returns c = past_one c.v64-a.ensures c.in-Ok.is
