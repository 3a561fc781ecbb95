use Rattle.recall.specs.Meets.{no-tally}
use Rattle.recall.proofs.ranges.no_tally.Goals as goal

pub returns : goal.returns
returns c = no-tally
