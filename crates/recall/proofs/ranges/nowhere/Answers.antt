use Rattle.recall.specs.Meets.{nowhere}
use Rattle.recall.proofs.ranges.nowhere.Goals as goal

pub returns : goal.returns
returns c = nowhere
