-- `regions::add_up` meets its contract. Assumes nothing.
use Rattle.std.proofs.Common.{rules}
use Rattle.lay.specs.Laid.{most}
use Rattle.regions.proofs.add_up.Goals as goal

pub returns : goal.returns
unfolding most
returns c = search rules
