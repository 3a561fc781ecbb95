use Rattle.lay.specs.Laid.{most}
use Rattle.lay.proofs.behind.Goals as goal

pub returns : goal.returns
unfolding most
returns c = c.saturating_add.ensures
