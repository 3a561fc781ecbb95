use Rattle.std.proofs.Common.{◌∙◌}
use Rattle.lookups.specs.Group.{found-asked}
use Rattle.lookups.proofs.ranges.asked.Goals as goal

pub returns : goal.returns
returns c = c.contains.ensures.value ∙ found-asked _ _
