use Rattle.std.proofs.Common.{arith}
use Rattle.lay.specs.Laid.{most}
use Rattle.show.specs.Lines.{fixed-steps}
use Rattle.show.proofs.put_wide.Goals as goal

pub returns : goal.returns
unfolding most
returns c = fixed-steps c.requires.0 c.requires.1 (omega arith) c.behind.ensures c.put_other-end.ensures
